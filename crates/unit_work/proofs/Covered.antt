-- A task that another one covers is done where that is.
use Rattle.std.proofs.Common.{◌≡◌, ◌≤◌, ℕ, Bool, true, false, sym, ◌∙◌, subst, arith, Ok, Err}
use Rattle.thumb_table.specs.declared.faults.FaultKind.TheVariants.{Trap}
use Rattle.thumb_table.specs.Parts.{CodeBytes}
use Rattle.thumb_table.specs.States.{Core, State, Change, at, applied}
use Rattle.thumb_table.specs.Steps.{goes_on}
use Rattle.seq_core.specs.Does.{Task, Does, Comes, StopsAt, SameBut, Tolerates}

-- One task is at the other's place, within its steps, under its test; where it acts, it leads to the same place, and what
-- it makes of a core does for the other one.
pub record Covers (t u : Task) : Type 0 where
  pub place : t.place ≡ u.place
  pub length : t.length ≤ u.length
  pub taken : (y : Core) → u.taken y ≡ t.taken y
  pub acts : (y : Core) (h : Change) → t.taken y ≡ true → u.effect y ≡ Ok h
      → (g : Change) × (t.effect y ≡ Ok g) × (goes_on t.end g.exit ≡ goes_on u.end h.exit) × ((z : Core) → SameBut t.loses (applied g y) z → SameBut u.loses (applied h y) z)
  pub rests : (y : Core) → t.taken y ≡ false → t.end ≡ u.end
  pub halts : (y : Core) → u.effect y ≡ Err Trap → t.effect y ≡ Err Trap

come_within : (code : CodeBytes) (skips : ℕ → Bool) (n m clock : ℕ) (s t : State) → n ≤ m → Comes code skips n clock s t → Comes code skips m clock s t
come_within code skips n m clock s t le c = let within = c.within in record { steps = c.steps; within = omega arith; runs = c.runs }

stop_within : (code : CodeBytes) (skips : ℕ → Bool) (n m clock : ℕ) (s : State) → n ≤ m → StopsAt code skips n clock s → StopsAt code skips m clock s
stop_within code skips n m clock s le c = let before = c.before in record { last = c.last; steps = c.steps; before = omega arith; runs = c.runs; core = c.core; executed = c.executed; traps = c.traps }

module _ (code : CodeBytes) (t u : Task) (covers : Covers t u) (skips : ℕ → Bool) (clock : ℕ) (does : Does code t skips clock) where
  come : (y z : Core) (from to : ℕ) → from ≡ to → Comes code skips t.length clock (at t.place y) (at from z) → Comes code skips u.length clock (at u.place y) (at to z)
  come y z from to e c =
      subst (λ (p : ℕ). Comes code skips u.length clock (at p y) (at to z)) covers.place
      (subst (λ (p : ℕ). Comes code skips u.length clock (at t.place y) (at p z)) e (come_within code skips t.length u.length clock (at t.place y) (at from z) covers.length c))

  pub covered : Does code u skips clock
  covered = record {
    acts = λ y h begins taken effect.
        let t_taken = sym (covers.taken y) ∙ taken in
        let a = covers.acts y h t_taken effect in
        let d = does.acts y a.0 begins t_taken a.1 in
        (d.0, come y d.0 (goes_on t.end a.0.exit) (goes_on u.end h.exit) a.2 d.1, a.3 d.0 d.2);
    rests = λ y begins taken.
        let t_taken = sym (covers.taken y) ∙ taken in
        come y y t.end u.end (covers.rests y t_taken) (does.rests y begins t_taken);
    halts = λ y begins taken effect.
        let t_taken = sym (covers.taken y) ∙ taken in
        subst (λ (p : ℕ). StopsAt code skips u.length clock (at p y)) covers.place
        (stop_within code skips t.length u.length clock (at t.place y) covers.length (does.halts y begins t_taken (covers.halts y effect)));
  }

pub tolerated : (code : CodeBytes) (c : ℕ) (t u : Task) → Covers t u → Tolerates code c t → Tolerates code c u
tolerated code c t u covers tolerates skips legal clock = covered code t u covers skips clock (tolerates skips legal clock)
