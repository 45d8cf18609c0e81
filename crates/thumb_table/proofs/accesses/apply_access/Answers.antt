use Rattle.std.proofs.Common.{◌≡◌, ◌∙◌, true, false, refl, sym, ap}
use Rattle.std.proofs.lemmas.Result.{IfErr-weaker, on_ok_weaker}
use Rattle.thumb_instr.specs.Fields.{AccessFields}
use Rattle.thumb_table.specs.CoreStates.{site_of}
use Rattle.thumb_table.specs.Views.{is_load, stored_cells}
use Rattle.thumb_table.specs.Effects.{lies_in, size_of}
use Rattle.thumb_table.specs.States.{read}
use Rattle.thumb_table.specs.CoreStates.{alone}
use Rattle.thumb_table.proofs.AccessLemmas.{Found, access_beyond, access_load, access_store}
use Rattle.thumb_table.proofs.accesses.apply_access.Goals as goal

pub returns-then-not-holds-clause-fault : goal.returns-then-not-holds-clause-fault
returns-then-not-holds-clause-fault c = (
  λ code width e.
      let out : lies_in c.args.m.now c.access_address-address.result (size_of c.i.inside.op) ≡ false = rw (← c.size_of.ensures, ← c.holds.ensures) c.if-not-holds.true in
      rw (access_beyond c.args.i.now (site_of code c.args.s.now width) c.args.s.now c.args.m.now c.i.inside.op c.access_address-address.result (ap (λ (x : AccessFields). x.op) c.i.view_is) c.access_address-address.ensures out) refl,
  refl,
  refl,
)

pub returns-then-is_load-clause-done : goal.returns-then-is_load-clause-done
returns-then-is_load-clause-done c =
    let i = c.args.i.now in
    let s = c.args.s.now in
    let m = c.args.m.now in
    let op = c.i.inside.op in
    let a = c.access_address-address.result in
    let lies : lies_in m a (size_of op) ≡ true = rw (← c.size_of.ensures, ← c.holds.ensures) c.if-not-holds.false in
    let found : Found i s m op c.i.inside.n a c.base_of-base.result = record { op_is = ap (λ (x : AccessFields). x.op) c.i.view_is; n_is = ap (λ (x : AccessFields). x.n) c.i.view_is; address_is = c.access_address-address.ensures; base_is = c.base_of-base.ensures; lies = lies } in
    let load : is_load op ≡ true = sym c.is_load.ensures ∙ c.if-is_load.true in
    on_ok_weaker c.put_load.result (λ leads code width e.
    rw (access_load i (site_of code s width) s m op c.i.inside.n c.i.inside.t a c.base_of-base.result c.load.result found (ap (λ (x : AccessFields). x.t) c.i.view_is) load c.load.ensures) (leads m)) c.put_load.ensures.done

pub returns-then-is_load-clause-fault : goal.returns-then-is_load-clause-fault
returns-then-is_load-clause-fault c =
    let i = c.args.i.now in
    let s = c.args.s.now in
    let m = c.args.m.now in
    let op = c.i.inside.op in
    let a = c.access_address-address.result in
    let lies : lies_in m a (size_of op) ≡ true = rw (← c.size_of.ensures, ← c.holds.ensures) c.if-not-holds.false in
    let found : Found i s m op c.i.inside.n a c.base_of-base.result = record { op_is = ap (λ (x : AccessFields). x.op) c.i.view_is; n_is = ap (λ (x : AccessFields). x.n) c.i.view_is; address_is = c.access_address-address.ensures; base_is = c.base_of-base.ensures; lies = lies } in
    let load : is_load op ≡ true = sym c.is_load.ensures ∙ c.if-is_load.true in
    IfErr-weaker c.put_load.result _ _ (λ kind fails. (
      λ code width e.
          rw (access_load i (site_of code s width) s m op c.i.inside.n c.i.inside.t a c.base_of-base.result c.load.result found (ap (λ (x : AccessFields). x.t) c.i.view_is) load c.load.ensures, fails.0) refl,
      fails.1,
      refl,
    )) c.put_load.ensures.fault

pub returns-in-Ok-clause-done : goal.returns-in-Ok-clause-done
returns-in-Ok-clause-done c =
    let i = c.args.i.now in
    let s = c.args.s.now in
    let m = c.args.m.now in
    let op = c.i.inside.op in
    let a = c.access_address-address.result in
    let w = c.word-w.result in
    let lies : lies_in m a (size_of op) ≡ true = rw (← c.size_of.ensures, ← c.holds.ensures) c.if-not-holds.false in
    let found : Found i s m op c.i.inside.n a c.base_of-base.result = record { op_is = ap (λ (x : AccessFields). x.op) c.i.view_is; n_is = ap (λ (x : AccessFields). x.n) c.i.view_is; address_is = c.access_address-address.ensures; base_is = c.base_of-base.ensures; lies = lies } in
    let store : is_load op ≡ false = sym c.is_load.ensures ∙ c.if-is_load.false in
    let word : w ≡ read (alone s) i.t = rw (← c.i.view_is) c.word-w.ensures in
    λ code width e. rw (access_store i (site_of code s width) s m op c.i.inside.n a c.base_of-base.result w found store word, c.store.ensures) (c.in-Ok.ensures.done (stored_cells op w a) m)

pub returns-in-Err-clause-fault : goal.returns-in-Err-clause-fault
returns-in-Err-clause-fault c =
    let i = c.args.i.now in
    let s = c.args.s.now in
    let m = c.args.m.now in
    let op = c.i.inside.op in
    let a = c.access_address-address.result in
    let w = c.word-w.result in
    let lies : lies_in m a (size_of op) ≡ true = rw (← c.size_of.ensures, ← c.holds.ensures) c.if-not-holds.false in
    let found : Found i s m op c.i.inside.n a c.base_of-base.result = record { op_is = ap (λ (x : AccessFields). x.op) c.i.view_is; n_is = ap (λ (x : AccessFields). x.n) c.i.view_is; address_is = c.access_address-address.ensures; base_is = c.base_of-base.ensures; lies = lies } in
    let store : is_load op ≡ false = sym c.is_load.ensures ∙ c.if-is_load.false in
    let word : w ≡ read (alone s) i.t = rw (← c.i.view_is) c.word-w.ensures in
    (λ code width e. rw (access_store i (site_of code s width) s m op c.i.inside.n a c.base_of-base.result w found store word, c.in-Err.ensures.fault.0 (stored_cells op w a)) refl, c.in-Err.ensures.fault.1, refl)
