-- What a machine's run says of the call that was started.
use Rattle.std.proofs.Common.{◌≡◌, ℕ, Bool, true, subst, arith}
use Rattle.std.specs.Prelude.{◌↔◌}
use Rattle.thumb_table.specs.Parts.{CodeBytes}
use Rattle.thumb_table.specs.States.{State}
use Rattle.thumb_table.specs.Schedules.{OrdinaryRun}
use Rattle.skip_machine.specs.declared.machines.Outcome.{Outcome}
use Rattle.skip_machine.specs.Machines.{Machine, state}
use Rattle.skip_machine.specs.Runs.{RunEnds, Ran}

-- a machine at the start of a call
pub record IsFresh (m : Machine) (code : CodeBytes) (s : State) : Type 0 where
  pub code_is : m.code ≡ code
  pub steps : m.steps ≡ 0
  pub ordinary : m.ordinary ≡ true
  pub state_is : state m ≡ s

module _ (skips : ℕ → Bool) (most : ℕ) (old new : Machine) (code : CodeBytes) (s : State) (outcome : Outcome) (fresh : IsFresh old code s) (ran : Ran skips most old new outcome) where
  -- the steps made are as many as the machine counts
  counted : ran.made ≡ new.steps
  counted = let c = ran.counted in let e = fresh.steps in omega arith

  -- what is known of the machine's code, count and state is known of the call's
  carried : (P : CodeBytes → ℕ → State → ℕ → Type 0) → P old.code old.steps (state old) ran.made → P code 0 s new.steps
  carried P known =
      subst (P code 0 s) counted
      (subst (λ (t : State). P code 0 t ran.made) fresh.state_is
      (subst (λ (i : ℕ). P code i (state old) ran.made) fresh.steps
      (subst (λ (k : CodeBytes). P k old.steps (state old) ran.made) fresh.code_is known)))

  pub ends_of : RunEnds code skips most 0 s outcome new.steps (state new)
  ends_of = carried (λ k i t n. RunEnds k skips most i t outcome n (state new)) ran.ends

  pub ordinary_of : (new.ordinary ≡ true) ↔ OrdinaryRun code skips new.steps 0 s
  ordinary_of =
      carried (λ k i t n. (new.ordinary ≡ true) ↔ OrdinaryRun k skips n i t)
      ((λ e. (ran.ordinary.0 e).1), (λ o. ran.ordinary.1 (fresh.ordinary, o)))
