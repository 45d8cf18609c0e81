-- The groups of sequences, as what they make of a core, and how copies of them stand at their places.
use Rattle.std.specs.Prelude.{◌≡◌, ◌<◌, ℕ, ◌+◌, ◌-◌, ◌==◌, Bool, true, false, [], ◌∷◌, ℤ, pos}
use Rattle.mark_word.specs.declared.numbers.Shift.TheVariants.{Lsl}
use Rattle.mark_word.specs.Words.{Word, plain}
use Rattle.mark_word.specs.declared.marks.Mark.{Mark}
use Rattle.thumb_instr.specs.declared.conditions.Cond.{Cond}
use Rattle.thumb_instr.specs.declared.operations.MoveOp.TheVariants.{Mov}
use Rattle.thumb_instr.specs.declared.operands.Operand.TheVariants.{Reg}
use Rattle.thumb_instr.specs.declared.instructions.Instr.{Instr}
use Rattle.thumb_instr.specs.declared.instructions.Instr.TheVariants as instr
use Rattle.thumb_instr.specs.Sets.{reads_of, writes_of}
use Rattle.thumb_table.specs.States.{Core, Site, read, upright}
use Rattle.thumb_table.specs.Effects.{change, lies, marked, low_half, completed, mark_at, writing, literal_base, plain_write}
use Rattle.thumb_table.specs.Values.{away, moved}
use Rattle.elf_model.specs.Fields.{word_at}
use Rattle.seq_core.specs.Meanings.{Ends, meant}
use Rattle.seq_core.specs.Does.{Effect}

-- where an instruction is taken without a condition
abbrev pub always : Core → Bool
always y = true

abbrev pub no_ends : Ends
no_ends = record { target = 0; back = 0; word = plain 0 }

-- what an instruction makes of a core, if it names no place
abbrev pub done : Instr → Effect
done i = meant i no_ends

abbrev pub nothing : ℕ → Bool
nothing k = false

-- one register is lost
abbrev pub only : ℕ → ℕ → Bool
only q k = k == q

abbrev pub moving : Bool → ℕ → ℕ → Instr
moving s d m = instr.Move (record { op = Mov; s = s; d = d; x = Reg m Lsl 0 })

-- an instruction whose effect doesn't depend on where it stands
abbrev pub names_no_place : Instr → Bool
names_no_place (instr.Half i) = false
names_no_place (instr.Literal i) = false
names_no_place (instr.Adr i) = false
names_no_place (instr.Branch i) = false
names_no_place (instr.ZeroBranch i) = false
names_no_place (instr.Call i) = false
names_no_place (instr.CallReg i) = false
names_no_place (instr.It i) = false
names_no_place i = true

-- A scratch register, for an instruction that neither reads it nor writes it.
pub record IsFree (i : Instr) (q : ℕ) : Type 0 where
  pub low : q < 13
  pub unread : reads_of i q ≡ false
  pub unwritten : writes_of i q ≡ false

abbrev pub branching : Cond → Instr
branching c = instr.Branch (record { cond = c; offset = pos 0 })

-- a branch to a place
abbrev pub branch_to : Cond → ℕ → Effect
branch_to c t = meant (branching c) (record no_ends { target = t })

-- a branch on a register that is zero or not
abbrev pub zero_to : Bool → ℕ → ℕ → Effect
zero_to nonzero n t = meant (instr.ZeroBranch (record { nonzero = nonzero; n = n; offset = pos 0 })) (record no_ends { target = t })

-- ADR of the address to return to, with bit 0 set
abbrev pub link_to : ℕ → Effect
link_to back y = upright (plain_write 14 (back + 1))

abbrev pub jump_by : ℕ → Effect
jump_by m = done (instr.Jump (record { m = m }))

-- what a call of a register means, if it returns to `back`
abbrev pub call_by : ℕ → ℕ → Effect
call_by m back = meant (instr.CallReg (record { m = m })) (record no_ends { back = back })

abbrev pub call_to : ℕ → ℕ → Effect
call_to target back = meant (instr.Call (record { offset = pos 0 })) (record no_ends { target = target; back = back })

abbrev pub trap : Effect
trap = done (instr.Trap (record { imm = 0 }))

-- MOVW and MOVT at a place with a mark
abbrev pub half_value : Bool → ℕ → ℕ → Mark → Core → Word
half_value false d imm mark y = low_half imm mark
half_value true d imm mark y = completed imm (read y d) mark

abbrev pub half_by : Bool → ℕ → ℕ → Mark → Effect
half_by top d imm mark y = upright (writing ((d, half_value top d imm mark y) ∷ []))

-- COPIES: what stands at an address has the group's effect, where its number leads there.
pub record ArePlaced (site : Site) : Type 0 where
  pub branch : (c : Cond) (o : ℤ) (t : ℕ) (x : Core) → away (site.address + 4) o ≡ t → change (instr.Branch (record { cond = c; offset = o })) site x ≡ branch_to c t x
  pub zero : (nonzero : Bool) (n : ℕ) (o : ℤ) (t : ℕ) (x : Core) → away (site.address + 4) o ≡ t → change (instr.ZeroBranch (record { nonzero = nonzero; n = n; offset = o })) site x ≡ zero_to nonzero n t x
  pub link : (imm back : ℕ) (x : Core) → moved true (literal_base site) imm ≡ back + 1 → change (instr.Adr (record { d = 14; up = true; imm = imm })) site x ≡ link_to back x
  pub others : (i : Instr) (x : Core) → names_no_place i ≡ true → change i site x ≡ done i x

abbrev pub Placed : Type 0
Placed = (site : Site) → ArePlaced site

abbrev pub HalfPlaced : Type 0
HalfPlaced = (site : Site) (top : Bool) (d imm : ℕ) (x : Core) → change (instr.Half (record { top = top; d = d; imm = imm })) site x ≡ half_by top d imm (mark_at site.code.marks site.address) x

-- A literal's copy loads the pool word, from wherever it counts.
abbrev pub LiteralPlaced : Type 0
LiteralPlaced = (site : Site) (t imm : ℕ) (up : Bool) (word : Word) (x : Core) → let a : ℕ = moved up (literal_base site) imm in
    lies site.code a 4 ≡ true → marked (word_at site.code.bytes (a - site.code.base)) (mark_at site.code.marks a) ≡ word → change (instr.Literal (record { t = t; up = up; imm = imm })) site x ≡ meant (instr.Literal (record { t = t; up = up; imm = imm })) (record no_ends { word = word }) x
