-- What a point of a flow becomes: an instruction with a condition of its own, and no IT block.
use Rattle.std.specs.Prelude.{◌≡◌, ℕ, ◌&&◌, Bool, true, Option, Some, None, take}
use Rattle.thumb_instr.specs.declared.conditions.Cond.{Cond}
use Rattle.thumb_instr.specs.declared.conditions.Cond.TheVariants.{Al}
use Rattle.thumb_instr.specs.declared.instructions.Instr.{Instr}
use Rattle.thumb_instr.specs.declared.instructions.Instr.TheVariants.{It}
use Rattle.reloc_places.specs.Relocations.{may_fail}
use Rattle.flow_recover.specs.declared.flows.Point.{Point}
use Rattle.thumb_table.specs.Conditions.{holds}
use Rattle.thumb_table.specs.States.{Core}
use Rattle.seq_core.specs.Builders.{Do}
use Rattle.seq_core.specs.Guards.{inverse}
use Rattle.seq_core.specs.Series.{Series}
use Rattle.it_expand.specs.declared.expansion.CondInstr.{CondInstr}

-- The guard branches past the body where the point's condition fails; what is under no condition has none.
abbrev pub guard_of : Cond → Option Cond
guard_of Al = None
guard_of c = Some (inverse c)

-- IT does nothing by itself, since every instruction has its own guard.
abbrev pub body_of : Instr → Option Instr
body_of (It i) = None
body_of i = Some i

unfoldable pub expanded : Point → CondInstr
expanded p = record { guard = guard_of p.cond; body = body_of p.instr }

-- Under a guard, what the steps before the landing do is done where the point's condition holds; where it fails,
-- nothing is done.
abbrev pub GuardDoes : Cond → ℕ → Series → Series → Type 0
GuardDoes c copies plain guarded = (cond : Cond) (test : Core → Bool) (i : Instr) (lost : ℕ → Bool) → may_fail cond ≡ true → c ≡ inverse cond →
    Do test i lost copies (take plain.landing plain.steps) → Do (λ y. holds cond y && test y) i lost copies (take guarded.landing guarded.steps)
