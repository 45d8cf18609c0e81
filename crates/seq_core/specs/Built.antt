-- The instructions by which one of class Through is replaced.
use Rattle.std.specs.Prelude.{◌≡◌, ◌≢◌, ℕ, ◌==◌, ◌||◌, false, List, [], ◌∷◌, Option, Some, None, Ok, map, if◌then◌else◌}
use Rattle.thumb_instr.specs.declared.operations.AluOp.TheVariants as alu
use Rattle.thumb_instr.specs.declared.refusals.ItPlace.{ItPlace}
use Rattle.thumb_instr.specs.declared.instructions.Instr.{Instr}
use Rattle.thumb_instr.specs.declared.instructions.Instr.TheVariants.{Alu, Field, LongMul}
use Rattle.thumb_instr.specs.Sets.{keeps_bits, reads_of}
use Rattle.thumb_instr.specs.Rows.{decode}
use Rattle.seq_core.specs.declared.classes.Class.TheVariants.{Through}
use Rattle.seq_core.specs.declared.steps.Step.{Step}
use Rattle.seq_core.specs.declared.steps.Goal.TheVariants.{Nowhere}
use Rattle.seq_core.specs.Classes.{IsOf}
use Rattle.seq_core.specs.Needs.{read_destinations}
use Rattle.seq_core.specs.Accepted.{operand_names_stack}
use Rattle.seq_core.specs.Sent.{destination, sent}
use Rattle.seq_core.specs.Sequences.{Carries, Settles}
use Rattle.seq_core.specs.Groups.{always, done, only, moving, IsFree}
use Rattle.seq_core.specs.Twice.{inserting}
use Rattle.seq_core.specs.Through.{register_sum}

-- from a scratch register to its place
abbrev pub placed : Option ℕ → ℕ → List Instr
placed None q = []
placed (Some d) q = moving false d q ∷ []

-- By one scratch register. BFI of a register into itself takes its bits from a copy, ADD of sp to a register is
-- written with sp first, and of a long product the word whose place is read goes there.
abbrev pub through_one : Instr → ℕ → List Instr
through_one (Alu i) q = if operand_names_stack i.x then register_sum alu.Add false q 13 i.d ∷ moving false i.d q ∷ [] else sent (Alu i) q ∷ moving false i.d q ∷ []
through_one (Field i) q = if keeps_bits i.op then moving false q i.d ∷ inserting i.d q i.lsb i.width ∷ [] else sent (Field i) q ∷ moving false i.d q ∷ []
through_one (LongMul i) q = if reads_of (LongMul i) i.lo then LongMul (record i { lo = q }) ∷ moving false i.lo q ∷ [] else LongMul (record i { hi = q }) ∷ moving false i.hi q ∷ []
through_one i q = sent i q ∷ placed (destination i) q

-- By two, for a long product.
abbrev pub through_two : Instr → ℕ → ℕ → List Instr
through_two (LongMul i) a b = LongMul (record i { lo = a; hi = b }) ∷ moving false i.lo a ∷ moving false i.hi b ∷ []
through_two i a b = []

-- They do the instruction's work.
abbrev pub ThroughOneWorks : Type 0
ThroughOneWorks = (place : ItPlace) (first second : ℕ) (i : Instr) (q end : ℕ) → decode place first second ≡ Ok i → IsOf Through i → read_destinations i ≡ 1 → IsFree i q →
    Carries Settles end always (done i) (only q) (map done (through_one i q))

abbrev pub ThroughTwoWorks : Type 0
ThroughTwoWorks = (place : ItPlace) (first second : ℕ) (i : Instr) (a b end : ℕ) → decode place first second ≡ Ok i → IsOf Through i → read_destinations i ≡ 2 → IsFree i a → IsFree i b → a ≢ b →
    Carries Settles end always (done i) (λ k. (k == a) || (k == b)) (map done (through_two i a b))

-- steps with numbers that lead nowhere
abbrev pub as_steps : ℕ → List Instr → List Step
as_steps copies = map (λ i. record { instr = i; goal = Nowhere; copies = copies })
