-- Runs by one step more.
use Rattle.std.proofs.Common.{◌≡◌, ℕ, zero, suc, ◌+◌, Bool, Result, Ok, Err, arith, refl, sym, subst, add-zero}
use Rattle.thumb_table.specs.declared.faults.FaultKind.{FaultKind}
use Rattle.thumb_table.specs.Parts.{CodeBytes}
use Rattle.thumb_table.specs.States.{State}
use Rattle.thumb_table.specs.Steps.{move}
use Rattle.thumb_table.specs.Schedules.{run, go_on, OrdinaryStep, OrdinaryRun}

-- a run that is made has a first step, and goes on from there
pub first_step : (r : Result State FaultKind) (go : State → Result State FaultKind) (t : State) → go_on r go ≡ Ok t → (u : State) × (r ≡ Ok u) × (go u ≡ Ok t)
first_step (Ok u) go t e = (u, refl, e)
first_step (Err kind) go t e = absurd (cc)

pub run_more : (code : CodeBytes) (skips : ℕ → Bool) (n i : ℕ) (s t : State) (r : Result State FaultKind)
    → run code skips n i s ≡ Ok t → move code (skips (i + n)) t ≡ r → run code skips (suc n) i s ≡ r
run_more code skips zero i s t r e m =
    let same : s ≡ t = cc in
    let m' : move code (skips i) t ≡ r = rw add-zero at m in
    rw (same, m') (done r)
  where
    done : (r : Result State FaultKind) → go_on r (λ u. Ok u) ≡ r
    done (Ok u) = refl
    done (Err kind) = refl
run_more code skips (suc n) i s t r e m =
    let first = first_step (move code (skips i) s) (run code skips n (suc i)) t e in
    let k : i + suc n ≡ suc i + n = omega arith in
    let m' : move code (skips (suc i + n)) t ≡ r = rw k at m in
    rw first.1 (run_more code skips n (suc i) first.0 t r first.2 m')

-- each step of a run by one more is ordinary where those before are and the last is
pub ordinary_more : (code : CodeBytes) (skips : ℕ → Bool) (n i : ℕ) (s t : State) → run code skips n i s ≡ Ok t
    → OrdinaryRun code skips n i s → OrdinaryStep code (skips (i + n)) t → OrdinaryRun code skips (suc n) i s
ordinary_more code skips zero i s t e before last =
    let same : s ≡ t = cc in
    let k : i + 0 ≡ i = omega arith in
    (rw same (rw k at last), λ next m. tt)
ordinary_more code skips (suc n) i s t e before last =
    let first = first_step (move code (skips i) s) (run code skips n (suc i)) t e in
    let k : i + suc n ≡ suc i + n = omega arith in
    let last' : OrdinaryStep code (skips (suc i + n)) t = rw k at last in (
      before.0,
      λ next m.
          let same : next ≡ first.0 = cc (first.1) in
          subst (λ u. OrdinaryRun code skips (suc n) (suc i) u) (sym same)
          (ordinary_more code skips n (suc i) first.0 t first.2 (before.1 first.0 first.1) last'),
    )

pub ordinary_less : (code : CodeBytes) (skips : ℕ → Bool) (n i : ℕ) (s t : State) → run code skips n i s ≡ Ok t
    → OrdinaryRun code skips (suc n) i s → OrdinaryRun code skips n i s × OrdinaryStep code (skips (i + n)) t
ordinary_less code skips zero i s t e all =
    let same : t ≡ s = cc in
    let k : i + 0 ≡ i = omega arith in
    (tt, rw (k, same) all.0)
ordinary_less code skips (suc n) i s t e all =
    let first = first_step (move code (skips i) s) (run code skips n (suc i)) t e in
    let k : i + suc n ≡ suc i + n = omega arith in
    let later = ordinary_less code skips n (suc i) first.0 t first.2 (all.1 first.0 first.1) in (
      (
        all.0,
        λ next m.
            let same : next ≡ first.0 = cc (first.1) in
            subst (λ u. OrdinaryRun code skips n (suc i) u) (sym same) later.0,
      ),
      rw k later.1,
    )
