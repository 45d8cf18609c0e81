-- A unit under a schedule that fits the run, from where the run has come to.
use Rattle.std.proofs.Common.{◌≡◌, ℕ, zero, suc, ◌+◌, ◌<◌, ⊎_elim, Bool, true, false, Result, Ok, Err, refl, ap, ◌∙◌, subst, arith}
use Rattle.thumb_table.specs.declared.faults.FaultKind.{FaultKind}
use Rattle.thumb_table.specs.declared.faults.FaultKind.TheVariants.{Trap}
use Rattle.thumb_table.specs.Parts.{CodeBytes}
use Rattle.thumb_table.specs.States.{Core, State, at, Change, applied}
use Rattle.thumb_table.specs.Steps.{move, goes_on}
use Rattle.thumb_table.specs.Schedules.{run, go_on}
use Rattle.seq_core.specs.Does.{Task, Comes, SameBut, Begins, Tolerates, DoesOnce, Passes, StopsAt, Works, never}
use Rattle.sim_charts.specs.Simulates.{Fits}
use Rattle.seq_core.proofs.Runs.{go_on_ok, run_on}
use Rattle.seq_core.proofs.Copies.{first_step}

onward : (r : Result State FaultKind) (f g : State → Result State FaultKind) → ((m : State) → f m ≡ g m) → go_on r f ≡ go_on r g
onward (Ok m) f g h = h m
onward (Err k) f g h = refl

-- the clock doesn't matter where nothing is skipped
pub any_clock : (code : CodeBytes) (n i j : ℕ) (s : State) → run code never n i s ≡ run code never n j s
any_clock code zero i j s = refl
any_clock code (suc n) i j s = onward (move code false s) (run code never n (suc i)) (run code never n (suc j)) (λ m. any_clock code n (suc i) (suc j) m)

-- from the start on
pub run_after : (code : CodeBytes) (skips : ℕ → Bool) (i k : ℕ) (b s t : State) → run code skips i 0 b ≡ Ok s → run code skips k i s ≡ Ok t → run code skips (i + k) 0 b ≡ Ok t
run_after code skips i k b s t e f = run_on code skips i k (i + k) 0 i b s refl (omega arith) e ∙ f

pub one_more : (code : CodeBytes) (skips : ℕ → Bool) (i : ℕ) (b s m : State) → run code skips i 0 b ≡ Ok s → move code (skips i) s ≡ Ok m → run code skips (suc i) 0 b ≡ Ok m
one_more code skips i b s m e h =
    let en : i + 1 ≡ suc i = omega arith in
    subst (λ n. run code skips n 0 b ≡ Ok m) en (run_after code skips i 1 b s m e (first_step code skips 0 i s m (skips i) refl h))

module _ (hard : CodeBytes) (c : ℕ) (may_skip : ℕ → Bool) (skips : ℕ → Bool) (begun : State) (fits : Fits hard c may_skip skips begun) where
  not_skipped : (i : ℕ) (s : State) → run hard skips i 0 begun ≡ Ok s → may_skip s.pc ≡ false → skips i ≡ false
  not_skipped i s e f = elim (skips i) as (λ b. skips i ≡ b → b ≡ false) [ true ↦ λ t. let may = fits.inside i s e t in absurd cc | false ↦ λ t. refl ] refl

  -- where no step may be skipped, the run is the one without skips
  unskipped : (k i : ℕ) (s t : State) → run hard skips i 0 begun ≡ Ok s → run hard never k 0 s ≡ Ok t → ((j : ℕ) (u : State) → j < k → run hard never j 0 s ≡ Ok u → may_skip u.pc ≡ false) → run hard skips k i s ≡ Ok t
  unskipped zero i s t e r inside = r
  unskipped (suc k) i s t e r inside =
      let now : skips i ≡ false = not_skipped i s e (inside 0 s (omega arith) refl) in
      let g = go_on_ok (move hard false s) (run hard never k 1) t r in
      let m = g.0 in
      let moved : move hard (skips i) s ≡ Ok m = ap (λ b. move hard b s) now ∙ g.1 in
      let rest : run hard skips k (suc i) m ≡ Ok t = unskipped k (suc i) m t (one_more hard skips i begun s m e moved) (any_clock hard k 0 1 m ∙ g.2)
      (λ j u lt h. inside (suc j) u (omega arith) (first_step hard never j 0 s m false refl g.1 ∙ (any_clock hard j 1 0 m ∙ h))) in
      first_step hard skips k i s m false now g.1 ∙ rest

  passed : (n i : ℕ) (s t : State) → run hard skips i 0 begun ≡ Ok s → Passes hard may_skip n s t → Comes hard skips n i s t
  passed n i s t e p = record { steps = p.steps; within = p.within; runs = unskipped p.steps i s t e p.runs p.inside }

  module _ (t : Task) (works : Works hard c may_skip t) (i : ℕ) (y : Core) (begins : Begins y) (reached : run hard skips i 0 begun ≡ Ok (at t.place y)) where
    pub unit_acts : (h : Change) → t.taken y ≡ true → t.effect y ≡ Ok h → (z : Core) × Comes hard skips t.length i (at t.place y) (at (goes_on t.end h.exit) z) × SameBut t.loses (applied h y) z
    unit_acts h k e = ⊎_elim
        (λ (w : Tolerates hard c t). (w skips fits.legal i).acts y h begins k e)
        (λ (w : DoesOnce hard may_skip t). let r = w.acts y h begins k e in (r.0, passed t.length i (at t.place y) (at (goes_on t.end h.exit) r.0) reached r.1, r.2))
        works

    pub unit_rests : t.taken y ≡ false → Comes hard skips t.length i (at t.place y) (at t.end y)
    unit_rests k = ⊎_elim
        (λ (w : Tolerates hard c t). (w skips fits.legal i).rests y begins k)
        (λ (w : DoesOnce hard may_skip t). passed t.length i (at t.place y) (at t.end y) reached (w.rests y begins k))
        works

    pub unit_halts : t.taken y ≡ true → t.effect y ≡ Err Trap → StopsAt hard skips t.length i (at t.place y)
    unit_halts k e = ⊎_elim
        (λ (w : Tolerates hard c t). (w skips fits.legal i).halts y begins k e)
        (λ (w : DoesOnce hard may_skip t).
        let r = w.halts y begins k e in
        let q = passed r.steps i (at t.place y) r.last reached r.passes in
        record {
          last = r.last;
          steps = q.steps;
          before = omega (arith, q.within, r.before);
          runs = q.runs;
          core = r.core;
          executed = not_skipped (i + q.steps) r.last (run_after hard skips i q.steps begun (at t.place y) r.last reached q.runs) r.inside;
          traps = r.traps;
        })
        works
