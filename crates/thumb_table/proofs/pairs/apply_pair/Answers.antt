use Rattle.std.proofs.Common.{refl}
use Rattle.std.proofs.lemmas.Result.{IfErr-weaker, on_ok_weaker}
use Rattle.thumb_table.specs.CoreStates.{site_of, core_of}
use Rattle.thumb_table.specs.Views.{pair_outcome}
use Rattle.thumb_table.proofs.PairLemmas.{pair_change}
use Rattle.thumb_table.proofs.pairs.apply_pair.Goals as goal

pub returns-in-Ok-clause-done : goal.returns-in-Ok-clause-done
returns-in-Ok-clause-done c =
    let i = c.args.i.now in
    let s = c.args.s.now in
    let m = c.args.m.now in
    let a = c.access_address-address.result in
    on_ok_weaker c.transfer.result (λ ends code width e. rw (pair_change i (site_of code s width) s m a c.access_address-address.ensures, c.in-Ok.ensures.done (pair_outcome i a (core_of s m))) ends) c.transfer.ensures.done

pub returns-in-Ok-clause-fault : goal.returns-in-Ok-clause-fault
returns-in-Ok-clause-fault c =
    let i = c.args.i.now in
    let s = c.args.s.now in
    let m = c.args.m.now in
    let a = c.access_address-address.result in
    IfErr-weaker c.transfer.result _ _ (λ kind fails. (λ code width e. rw (pair_change i (site_of code s width) s m a c.access_address-address.ensures, c.in-Ok.ensures.done (pair_outcome i a (core_of s m)), fails.0) refl, fails.1, fails.2)) c.transfer.ensures.fault

pub returns-in-Err-clause-fault : goal.returns-in-Err-clause-fault
returns-in-Err-clause-fault c =
    let i = c.args.i.now in
    let s = c.args.s.now in
    let m = c.args.m.now in
    let a = c.access_address-address.result in
    (λ code width e. rw (pair_change i (site_of code s width) s m a c.access_address-address.ensures, c.in-Err.ensures.fault (pair_outcome i a (core_of s m))) refl, refl, refl)
