-- How calls end: a call that returns ends in no other way, and once.
use Rattle.std.proofs.Common.{◌≡◌, ◌≢◌, ◌<◌, inl, inr, ℕ, zero, suc, ◌+◌, ◌-◌, Bool, Result, Ok, Err, refl, sym, ap, ◌∙◌, subst, arith}
use Rattle.std.proofs.lemmas.Bool.{cases_order}
use Rattle.thumb_table.specs.declared.faults.FaultKind.{FaultKind}
use Rattle.thumb_table.specs.Parts.{CodeBytes}
use Rattle.thumb_table.specs.States.{State}
use Rattle.thumb_table.specs.Steps.{move}
use Rattle.thumb_table.specs.Schedules.{run, go_on, Returns, ReturnsWithin, Lasts}
use Rattle.skip_machine.specs.declared.machines.Outcome.{Outcome}
use Rattle.skip_machine.specs.declared.machines.Outcome.TheVariants.{Returned, Fault, Unfinished}
use Rattle.skip_machine.specs.Machines.{Machine, state}
use Rattle.skip_machine.specs.Runs.{RunEnds, Ran}
use Rattle.skip_machine.proofs.Walks.{run_more}

-- A fault ends every longer run.
broken_on : (code : CodeBytes) (skips : ℕ → Bool) (n k i : ℕ) (s : State) (kind : FaultKind) → run code skips n i s ≡ Err kind → run code skips (n + k) i s ≡ Err kind
broken_on code skips zero k i s kind e = absurd (cc)
broken_on code skips (suc n) k i s kind e =
    let same : suc n + k ≡ suc (n + k) = omega arith in
    subst (λ (m : ℕ). run code skips m i s ≡ Err kind) (sym same) (go (λ t h. broken_on code skips n k (suc i) t kind h) (move code (skips i) s) e)
  where
    go : ((t : State) → run code skips n (suc i) t ≡ Err kind → run code skips (n + k) (suc i) t ≡ Err kind) → (r : Result State FaultKind) → go_on r (run code skips n (suc i)) ≡ Err kind → go_on r (run code skips (n + k) (suc i)) ≡ Err kind
    go later (Ok t) h = later t h
    go later (Err other) h = h

ok_same : (x y : State) → (let r : Result State FaultKind = Ok x in r ≡ Ok y) → x ≡ y
ok_same x y e = cc

ok_no_err : (x : State) (k : FaultKind) → Ok x ≡ Err k → ⊥
ok_no_err x k e = cc

-- A call that returns has more steps than any run from its start that has not returned.
before_return : (code : CodeBytes) (skips : ℕ → Bool) (n m : ℕ) (s t u : State) → Returns code skips n 0 s t → Lasts code skips m 0 s u → m < n
before_return code skips n m s t u returns lasts =
    let some = returns.some in
    elim (cases_order n m) [
      | inl same ↦
          absurd (lasts.still (omega arith) (ap (λ (x : State). x.pc) (ok_same u t (sym lasts.goes.runs ∙ ap (λ (k : ℕ). run code skips k 0 s) (sym same) ∙ returns.goes.runs)) ∙ returns.over))
      | inr order ↦
          elim order [
            | inl less ↦ absurd (lasts.goes.on n t some less returns.goes.runs returns.over)
            | inr more ↦ more
          ]
    ]

-- A call that returns ends no other way.
pub returns_only : (code : CodeBytes) (skips : ℕ → Bool) (most : ℕ) (s t : State) → ReturnsWithin code skips most 0 s t
    → (outcome : Outcome) (m : ℕ) (u : State) → outcome ≢ Returned → RunEnds code skips most 0 s outcome m u → ⊥
returns_only code skips most s t r Returned m u other ends = other refl
returns_only code skips most s t r (Fault kind pc) m u other (before, breaks, at) =
    let less = before_return code skips r.steps m s t u r.returns breaks.lasts in
    let next : run code skips (suc m) 0 s ≡ Err kind = run_more code skips m 0 s u (Err kind) breaks.lasts.goes.runs breaks.faults in
    let k : suc m + (r.steps - suc m) ≡ r.steps = omega arith in
    let broken = broken_on code skips (suc m) (r.steps - suc m) 0 s kind next in
    let here : run code skips r.steps 0 s ≡ Err kind = subst (λ (j : ℕ). run code skips j 0 s ≡ Err kind) k broken in
    ok_no_err t kind (sym r.returns.goes.runs ∙ here)
returns_only code skips most s t r Unfinished m u other (all, lasts) =
    let less = before_return code skips r.steps m s t u r.returns lasts in
    let within = r.within in
    absurd (omega arith)

-- It returns once.
pub one_count : (code : CodeBytes) (skips : ℕ → Bool) (n m : ℕ) (s t u : State) → Returns code skips n 0 s t → Returns code skips m 0 s u → n ≡ m
one_count code skips n m s t u a b =
    let some = a.some in
    let also = b.some in
    elim (cases_order n m) [
      | inl same ↦ same
      | inr order ↦
          elim order [
            | inl less ↦ absurd (b.goes.on n t some less a.goes.runs a.over)
            | inr more ↦ absurd (a.goes.on m u also more b.goes.runs b.over)
          ]
    ]

pub one_end : (code : CodeBytes) (skips : ℕ → Bool) (n m : ℕ) (s t u : State) → Returns code skips n 0 s t → Returns code skips m 0 s u → t ≡ u
one_end code skips n m s t u a b =
    ok_same t u (sym a.goes.runs ∙ ap (λ (k : ℕ). run code skips k 0 s) (one_count code skips n m s t u a b) ∙ b.goes.runs)

-- a machine at the start of a call
pub record IsFresh (m : Machine) (code : CodeBytes) (s : State) : Type 0 where
  pub code_is : m.code ≡ code
  pub steps : m.steps ≡ 0
  pub state_is : state m ≡ s

-- What a machine's run says of the call that was started.
pub ends_of : (skips : ℕ → Bool) (most : ℕ) (old new : Machine) (code : CodeBytes) (s : State) (outcome : Outcome) → IsFresh old code s → Ran skips most old new outcome
    → RunEnds code skips most 0 s outcome new.steps (state new)
ends_of skips most old new code s outcome fresh ran =
    let counted : ran.made ≡ new.steps = let c = ran.counted in let e = fresh.steps in omega arith in
    subst (λ (n : ℕ). RunEnds code skips most 0 s outcome n (state new)) counted
    (subst (λ (t : State). RunEnds code skips most 0 t outcome ran.made (state new)) fresh.state_is
    (subst (λ (i : ℕ). RunEnds code skips most i (state old) outcome ran.made (state new)) fresh.steps
    (subst (λ (k : CodeBytes). RunEnds k skips most old.steps (state old) outcome ran.made (state new)) fresh.code_is ran.ends)))
