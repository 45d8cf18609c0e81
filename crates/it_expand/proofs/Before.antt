-- Steps under a guard.
use Rattle.std.proofs.Common.{◌≡◌, ℕ, ◌+◌, Bool, true, List, ◌∷◌, take, sym, ap, subst, add-one}
use Rattle.std.specs.Prelude.{◌&&◌}
use Rattle.thumb_instr.specs.declared.conditions.Cond.{Cond}
use Rattle.thumb_instr.specs.declared.instructions.Instr.{Instr}
use Rattle.reloc_places.specs.Relocations.{may_fail}
use Rattle.thumb_table.specs.States.{Core}
use Rattle.thumb_table.specs.Conditions.{holds}
use Rattle.seq_core.specs.declared.steps.Step.{Step}
use Rattle.seq_core.specs.declared.steps.Goal.TheVariants.{End}
use Rattle.seq_core.specs.Sequences.{Carries, Settles}
use Rattle.seq_core.specs.Series.{Series}
use Rattle.seq_core.specs.Groups.{branch_to, branching}
use Rattle.seq_core.specs.Guards.{inverse, GuardCarries}
use Rattle.seq_core.specs.Denoted.{groups_of}
use Rattle.seq_core.specs.Replaced.{leading}
use Rattle.seq_core.specs.Builders.{AreCoded, Do, StepsDo, meaning}
use Rattle.it_expand.specs.Expanded.{GuardDoes}
use Rattle.it_expand.proofs.Coded.{branch_row}

-- a guard, and what stands before the landing
taken : (n : ℕ) (s : Step) (steps : List Step) → s ∷ take n steps ≡ take (n + 1) (s ∷ steps)
taken n s steps = ap (λ k. take k (s ∷ steps)) (sym (add-one n))

module _ (law : GuardCarries Settles) (does : StepsDo) (c cond : Cond) (copies : ℕ) (may : may_fail cond ≡ true) (turned : c ≡ inverse cond) where
  pub before : (test : Core → Bool) (i : Instr) (lost : ℕ → Bool) (steps : List Step) → Do test i lost copies steps → Do (λ y. holds cond y && test y) i lost copies (leading copies End (branching c) ∷ steps)
  before test i lost steps d = does (λ y. holds cond y && test y) i lost copies (leading copies End (branching c) ∷ steps)
      (λ p. subst (λ (k : Cond). Carries Settles p.end (λ y. holds cond y && test y) (meaning p i) lost (branch_to k p.end ∷ groups_of p steps)) (sym turned)
      (law p.end cond test (meaning p i) lost (groups_of p steps) may (d.carries p)))

pub guard_does : GuardCarries Settles → StepsDo → (c : Cond) (copies : ℕ) (plain guarded : Series) → guarded ≡ record { steps = leading copies End (branching c) ∷ plain.steps; landing = plain.landing + 1 } → GuardDoes c copies plain guarded
guard_does law does c copies plain guarded made cond test i lost may turned d =
    subst (λ (s : Series). Do (λ y. holds cond y && test y) i lost copies (take s.landing s.steps)) (sym made)
    (subst (λ (steps : List Step). Do (λ y. holds cond y && test y) i lost copies steps) (taken plain.landing (leading copies End (branching c)) plain.steps)
    (before law does c cond copies may turned test i lost (take plain.landing plain.steps) d))

pub guard_coded : (c : Cond) (copies : ℕ) (plain guarded : Series) → guarded ≡ record { steps = leading copies End (branching c) ∷ plain.steps; landing = plain.landing + 1 } → AreCoded plain.steps → AreCoded guarded.steps
guard_coded c copies plain guarded made coded = subst (λ (s : Series). AreCoded s.steps) (sym made) (branch_row c, coded)
