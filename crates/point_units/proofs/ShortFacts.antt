-- Sequences of classes have five steps at most.
use Rattle.std.specs.Prelude.{◌<◌, ◌≤◌, ℕ, Bool, true, false, List, [], ◌∷◌, Option, Some, None, length}
use Rattle.std.proofs.Common.{arith, length-append, subst, sym}
use Rattle.elf_model.specs.Objects.{ObjectParts}
use Rattle.thumb_instr.specs.declared.conditions.Cond.{Cond}
use Rattle.flow_recover.specs.declared.flows.Point.{Point}
use Rattle.it_expand.specs.Expanded.{guard_of}
use Rattle.seq_core.specs.Series.{Series}
use Rattle.thumb_instr.specs.declared.instructions.Instr.{Instr}
use Rattle.seq_core.specs.declared.classes.Class.{Class}
use Rattle.seq_core.specs.declared.steps.Step.{Step}
use Rattle.seq_core.specs.Replaced.{replaced}
use Rattle.point_units.specs.Units.{IsSequenceOf, landed, left_instr, never_returns, trapping, under}
use Rattle.point_units.specs.Units.IsSequenceOf.{of_it, of_instr}

pub short : (c : Class) (copies : ℕ) (i : Instr) (qs : List ℕ) → length (replaced c copies i qs) ≤ 5
short c copies i qs = grind arith

-- and one more with a landing
pub landed_short : (never : Bool) (copies : ℕ) (steps : List Step) → length steps ≤ 5 → length (landed never copies steps).steps < 8
landed_short true copies steps low = omega (arith, length-append steps (trapping copies ∷ []))
landed_short false copies steps low = omega (arith)

under_short : (guard : Option Cond) (copies : ℕ) (s : Series) → length s.steps < 8 → length (under guard copies s).steps ≤ 8
under_short None copies s low = omega arith
under_short (Some c) copies s low = omega arith

pub sequence_short : (o : ObjectParts) (live : ℕ → Bool) (copies : ℕ) (x : Point) (scratch : List ℕ) (s : Series) → IsSequenceOf o live copies x scratch s → length s.steps ≤ 8
sequence_short o live copies x scratch s (of_it body none made) = subst (λ (t : Series). length t.steps ≤ 8) (sym made) (omega arith)
sequence_short o live copies x scratch s (of_instr body is works coded) =
    subst (λ (t : Series). length t.steps ≤ 8) (sym is.sequence)
    (under_short (guard_of x.cond) copies (landed (never_returns x) copies (replaced is.class copies (left_instr o x) scratch)) (landed_short (never_returns x) copies (replaced is.class copies (left_instr o x) scratch) (short is.class copies (left_instr o x) scratch)))
