-- What a machine's steps and runs make of it.
use Rattle.std.specs.Prelude.{◌≡◌, ◌≢◌, ◌↔◌, ℕ, ◌+◌, ◌<◌, ◌≤◌, Bool, true, false, Ok, Err}
use Rattle.thumb_table.specs.declared.faults.FaultKind.{FaultKind}
use Rattle.thumb_table.specs.Parts.{CodeBytes}
use Rattle.thumb_table.specs.States.{State}
use Rattle.thumb_table.specs.Steps.{move}
use Rattle.thumb_table.specs.Schedules.{exit, Returns, Lasts, Breaks, OrdinaryStep, OrdinaryRun}
use Rattle.skip_machine.specs.declared.machines.Moved.{Moved}
use Rattle.skip_machine.specs.declared.machines.Moved.TheVariants.{On, Returned as HasReturned}
use Rattle.skip_machine.specs.declared.machines.Outcome.{Outcome}
use Rattle.skip_machine.specs.declared.machines.Outcome.TheVariants.{Returned, Fault, Unfinished}
use Rattle.skip_machine.specs.Machines.{Machine, state}

-- A step has returned exactly where pc is the exit.
abbrev pub Leaves : Moved → Machine → Type 0
Leaves On new = (new.core.pc ≢ exit) × (new.running ≡ true)
Leaves HasReturned new = (new.core.pc ≡ exit) × (new.running ≡ false)

-- a step that doesn't fault
pub record Steps (skipped : Bool) (old new : Machine) (moved : Moved) : Type 0 where
  pub moves : move old.code skipped (state old) ≡ Ok (state new)
  pub same_code : new.code ≡ old.code
  pub counted : new.steps ≡ old.steps + 1
  pub ordinary : (new.ordinary ≡ true) ↔ ((old.ordinary ≡ true) × OrdinaryStep old.code skipped (state old))
  pub leaves : Leaves moved new

-- A step that faults leaves all but that the machine runs no more.
pub record Faulted (skipped : Bool) (old new : Machine) (kind : FaultKind) : Type 0 where
  pub faults : move old.code skipped (state old) ≡ Err kind
  pub same : new ≡ record old { running = false }

-- How a run of at most so many steps ends, of which the first has number i: after n of them, in the state t.
abbrev pub RunEnds : CodeBytes → (ℕ → Bool) → ℕ → ℕ → State → Outcome → ℕ → State → Type 0
RunEnds code skips most i s Returned n t = (n ≤ most) × Returns code skips n i s t
RunEnds code skips most i s (Fault kind pc) n t = (n < most) × Breaks code skips n i s t kind × (pc ≡ t.pc)
RunEnds code skips most i s Unfinished n t = (n ≡ most) × Lasts code skips n i s t

abbrev pub runs_on : Outcome → Bool
runs_on Returned = false
runs_on (Fault kind pc) = false
runs_on Unfinished = true

-- how a machine's run ended: after so many steps more, whether all were ordinary, and whether it runs on
pub record Ran (skips : ℕ → Bool) (most : ℕ) (old new : Machine) (outcome : Outcome) : Type 0 where
  pub made : ℕ
  pub counted : new.steps ≡ old.steps + made
  pub same_code : new.code ≡ old.code
  pub ends : RunEnds old.code skips most old.steps (state old) outcome made (state new)
  pub ordinary : (new.ordinary ≡ true) ↔ ((old.ordinary ≡ true) × OrdinaryRun old.code skips made old.steps (state old))
  pub running : new.running ≡ runs_on outcome
