-- A task that changes nothing needs no steps.
use Rattle.std.proofs.Common.{◌≡◌, ℕ, Bool, refl, sym, ◌∙◌, subst, arith, Ok, Err}
use Rattle.thumb_table.specs.declared.faults.FaultKind.TheVariants.{Trap}
use Rattle.thumb_table.specs.Parts.{CodeBytes}
use Rattle.thumb_table.specs.States.{Core, State, Change, Outcome, at, applied, unchanged}
use Rattle.thumb_table.specs.Steps.{goes_on}
use Rattle.seq_core.specs.Does.{Task, Comes, SameBut, Begins, Tolerates}

stay : (code : CodeBytes) (skips : ℕ → Bool) (n clock : ℕ) (s : State) → Comes code skips n clock s s
stay code skips n clock s = record { steps = 0; within = omega arith; runs = refl }

same_core : (loses : ℕ → Bool) (y : Core) → Begins y → SameBut loses (applied unchanged y) y
same_core loses y begins = record {
  count = refl;
  members = λ k h. record { word = λ l. refl; n = λ e. refl; z = λ e. refl; c = λ e. refl; v = λ e. refl };
  memory = refl;
  clear = begins.clear;
}

abbrev done : Change → Outcome
done h = Ok h

same_change : (g h : Change) → done g ≡ done h → g ≡ h
same_change g h e = cc

not_both : (g : Change) → done g ≡ Err Trap → ⊥
not_both g e = absurd cc

pub nothing_tolerated : (code : CodeBytes) (c : ℕ) (t : Task) → t.place ≡ t.end → ((y : Core) → t.effect y ≡ Ok unchanged) → Tolerates code c t
nothing_tolerated code c t end none skips legal clock = record {
  acts = λ y h begins taken effect.
      let same : unchanged ≡ h = same_change unchanged h (sym (none y) ∙ effect) in
      (y, subst (λ (g : Change). Comes code skips t.length clock (at t.place y) (at (goes_on t.end g.exit) y)) same (come y), subst (λ (g : Change). SameBut t.loses (applied g y) y) same (same_core t.loses y begins));
  rests = λ y begins taken. come y;
  halts = λ y begins taken effect. absurd (not_both unchanged (sym (none y) ∙ effect));
}
  where
    come : (y : Core) → Comes code skips t.length clock (at t.place y) (at t.end y)
    come y = subst (λ (p : ℕ). Comes code skips t.length clock (at t.place y) (at p y)) end (stay code skips t.length clock (at t.place y))
