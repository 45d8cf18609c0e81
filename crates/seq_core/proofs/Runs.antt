-- Runs, one after the other.
use Rattle.std.proofs.Common.{◌≡◌, ◌≢◌, ℕ, zero, suc, ◌+◌, ◌<◌, ◌⊎◌, inl, inr, ⊎_elim, Bool, true, false, List, Result, Ok, Err, refl, ◌∙◌, arith}
use Rattle.std.proofs.lemmas.Bool.{cases_eq}
use Rattle.thumb_table.specs.Parts.{CodeBytes}
use Rattle.thumb_table.specs.States.{State}
use Rattle.thumb_table.specs.declared.faults.FaultKind.{FaultKind}
use Rattle.thumb_table.specs.Steps.{move}
use Rattle.thumb_table.specs.Schedules.{IsLegal, is_in, go_on, run}
use Rattle.seq_core.specs.Does.{Legal, Comes}

-- a number below c with a false test, or all tests are true
search_below : (p : ℕ → Bool) (c : ℕ) → ((j : ℕ) × (j < c) × (p j ≡ false)) ⊎ ((j : ℕ) → j < c → p j ≡ true)
search_below p zero = inr (λ j lt. absurd (omega arith))
search_below p (suc c) = ⊎_elim
    (λ f. inl (f.0, omega (arith, f.1), f.2))
    (λ all. elim (p c) as (λ b. p c ≡ b → ((j : ℕ) × (j < suc c) × (p j ≡ false)) ⊎ ((j : ℕ) → j < suc c → p j ≡ true)) [
      | true ↦ λ e. inr (λ j lt. ⊎_elim (λ (same : j ≡ c). rw same e) (λ (ne : j ≢ c). all j (omega arith)) (cases_eq j c))
      | false ↦ λ e. inl (c, omega arith, e)
    ] refl)
    (search_below p c)

pub legal_of : (c : ℕ) (schedule : List ℕ) → IsLegal c schedule → Legal c (is_in schedule)
legal_of c schedule h i = ⊎_elim (λ f. f) (λ all. absurd (h.spares i all)) (search_below (λ j. is_in schedule (i + j)) c)

on_step : (r : Result State FaultKind) (f g : State → Result State FaultKind) (t : State) (u : Result State FaultKind) → ((m : State) → f m ≡ Ok t → g m ≡ u) → go_on r f ≡ Ok t → go_on r g ≡ u
on_step (Ok m) f g t u h e = h m e
on_step (Err k) f g t u h e = cc

-- what a first step came to
pub go_on_ok : (r : Result State FaultKind) (f : State → Result State FaultKind) (t : State) → go_on r f ≡ Ok t → (m : State) × (r ≡ Ok m) × (f m ≡ Ok t)
go_on_ok (Ok m) f t e = (m, refl, e)
go_on_ok (Err k) f t e = cc

-- a run, and what follows it
pub run_on : (code : CodeBytes) (skips : ℕ → Bool) (j k n i i' : ℕ) (s t : State) → j + k ≡ n → i + j ≡ i' → run code skips j i s ≡ Ok t → run code skips n i s ≡ run code skips k i' t
run_on code skips zero k n i i' s t en ei e =
    let en' : n ≡ k = omega arith in
    let ei' : i ≡ i' = omega arith in
    let es : s ≡ t = cc in
    rw (en', ei', es)
run_on code skips (suc j) k zero i i' s t en ei e = absurd (omega arith)
run_on code skips (suc j) k (suc n) i i' s t en ei e =
    let en' : j + k ≡ n = omega arith in
    let ei' : suc i + j ≡ i' = omega arith in
    on_step (move code (skips i) s) (run code skips j (suc i)) (run code skips n (suc i)) t (run code skips k i' t) (λ m. run_on code skips j k n (suc i) i' m t en' ei') e

-- one after the other
pub run_through : (code : CodeBytes) (skips : ℕ → Bool) (j k i : ℕ) (s m t : State) → run code skips j i s ≡ Ok m → run code skips k (i + j) m ≡ Ok t → run code skips (j + k) i s ≡ Ok t
run_through code skips j k i s m t e f = run_on code skips j k (j + k) i (i + j) s m refl refl e ∙ f

pub comes_on : (code : CodeBytes) (skips : ℕ → Bool) (a b n i : ℕ) (s m t : State) → a + b ≡ n → (c : Comes code skips a i s m) → Comes code skips b (i + c.steps) m t → Comes code skips n i s t
comes_on code skips a b n i s m t en c d = record {
  steps = c.steps + d.steps;
  within = omega (arith, c.within, d.within);
  runs = run_through code skips c.steps d.steps i s m t c.runs d.runs;
}
