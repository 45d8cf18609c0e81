-- Sequences under a condition.
use Rattle.std.specs.Prelude.{◌≡◌, ℕ, ◌&&◌, Bool, true, List, ◌∷◌}
use Rattle.thumb_instr.specs.declared.conditions.Cond.{Cond}
use Rattle.thumb_instr.specs.declared.conditions.Cond.TheVariants.{Eq, Ne, Cs, Cc, Mi, Pl, Vs, Vc, Hi, Ls, Ge, Lt, Gt, Le, Al}
use Rattle.thumb_table.specs.States.{Core}
use Rattle.thumb_table.specs.Conditions.{holds}
use Rattle.reloc_places.specs.Relocations.{may_fail}
use Rattle.seq_core.specs.Does.{Effect}
use Rattle.seq_core.specs.Sequences.{Carries}
use Rattle.seq_core.specs.Groups.{branch_to}

-- The inverse of a condition.
abbrev pub inverse : Cond → Cond
inverse Eq = Ne
inverse Ne = Eq
inverse Cs = Cc
inverse Cc = Cs
inverse Mi = Pl
inverse Pl = Mi
inverse Vs = Vc
inverse Vc = Vs
inverse Hi = Ls
inverse Ls = Hi
inverse Ge = Lt
inverse Lt = Ge
inverse Gt = Le
inverse Le = Gt
inverse Al = Al

-- THE GUARD: a branch on the inverse condition to the sequence's end, before what does the instruction under a test of
-- its own.
abbrev pub GuardCarries : (Effect → Core → Core → Type 0) → Type 0
GuardCarries Goes = (end : ℕ) (c : Cond) (test : Core → Bool) (effect : Effect) (loses : ℕ → Bool) (groups : List Effect) → may_fail c ≡ true →
    Carries Goes end test effect loses groups → Carries Goes end (λ y. holds c y && test y) effect loses (branch_to (inverse c) end ∷ groups)

-- A SEQUENCE AT A POINT: the body alone, or under a guard where the point has a condition.
abbrev pub guarded : Cond → ℕ → List Effect → List Effect
guarded Al end groups = groups
guarded c end groups = branch_to (inverse c) end ∷ groups

-- A sequence under an IT condition, beside a test of its own.
abbrev pub ConditionCarries : (Effect → Core → Core → Type 0) → Type 0
ConditionCarries Goes = (end : ℕ) (c : Cond) (test : Core → Bool) (effect : Effect) (loses : ℕ → Bool) (groups : List Effect) →
    Carries Goes end test effect loses groups → Carries Goes end (λ y. holds c y && test y) effect loses (guarded c end groups)
