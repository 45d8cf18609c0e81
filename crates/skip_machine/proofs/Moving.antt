-- What is ordinary of a step, by what is fetched for it.
use Rattle.std.proofs.Common.{◌≡◌, ◌↔◌, Bool, false, Some, Result, Ok, Err, IsTrue, IfOk, sym, subst}
use Rattle.thumb_table.specs.declared.faults.FaultKind.{FaultKind}
use Rattle.thumb_table.specs.Parts.{CodeBytes}
use Rattle.thumb_table.specs.States.{State}
use Rattle.thumb_table.specs.Steps.{Fetched, fetch, IsOrdinary}
use Rattle.thumb_table.specs.Schedules.{OrdinaryStep}

pub executed_ordinary : (code : CodeBytes) (skipped : Bool) (f : Fetched) (s : State) (r : Result Bool FaultKind) → fetch code s.pc ≡ Some f → skipped ≡ false →
    IfOk r (λ b. IsTrue b ↔ IsOrdinary code (Some f) s) → IfOk r (λ b. IsTrue b ↔ OrdinaryStep code skipped s)
executed_ordinary code skipped f s (Ok b) there plain h =
    (λ t e. subst (λ o. IsOrdinary code o s) (sym there) (h.0 t), λ ordinary. h.1 (subst (λ o. IsOrdinary code o s) there (ordinary plain)))
executed_ordinary code skipped f s (Err kind) there plain h = h
