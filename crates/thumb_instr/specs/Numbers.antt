-- Instructions whose number a linker sets: branches, calls, MOVW and MOVT.
use Rattle.std.specs.Prelude.{ℕ, ◌≡◌, Bool, true, false, not, Ok, Err, if◌then◌else◌}
use Rattle.thumb_instr.specs.declared.conditions.Cond.{Cond}
use Rattle.thumb_instr.specs.declared.conditions.Cond.TheVariants.{Al}
use Rattle.thumb_instr.specs.declared.instructions.Instr.{Instr}
use Rattle.thumb_instr.specs.declared.instructions.Instr.TheVariants.{Half, Branch, Call}
use Rattle.thumb_instr.specs.declared.refusals.ItPlace.{ItPlace}
use Rattle.thumb_instr.specs.declared.refusals.ItPlace.TheVariants.{Outside}
use Rattle.thumb_instr.specs.declared.refusals.BadInstr.TheVariants.{Unpredictable}
use Rattle.thumb_instr.specs.Meanings.{is_outside, is_inside, signed}
use Rattle.thumb_instr.specs.Rows.{decode}

abbrev pub has_number : Instr → Bool
has_number (Half i) = true
has_number (Branch i) = true
has_number (Call i) = true
has_number i = false

-- an instruction with another number in place of its own; an offset is given modulo 2^32
abbrev pub renumbered : ℕ → Instr → Instr
renumbered n (Half i) = Half (record i { imm = n })
renumbered n (Branch i) = Branch (record i { offset = signed 32 n })
renumbered n (Call i) = Call (record i { offset = signed 32 n })
renumbered n i = i

-- A branch with a condition stands in no IT block; one without, and a call, stand last in one at most.
abbrev pub is_branch_taken : ItPlace → Cond → Bool
is_branch_taken place Al = not (is_inside place)
is_branch_taken place c = is_outside place

abbrev pub is_taken : ItPlace → Instr → Bool
is_taken place (Branch i) = is_branch_taken place i.cond
is_taken place (Call i) = not (is_inside place)
is_taken place i = true

-- Whether a place takes an instruction with a number does not depend on the number.
abbrev pub DecodesNumbers : Type 0
DecodesNumbers = (place : ItPlace) (first second : ℕ) (i : Instr) → decode Outside first second ≡ Ok i → has_number i ≡ true
    → decode place first second ≡ (if is_taken place i then Ok i else Err Unpredictable)

-- So a number that is right outside of IT blocks is right at each place that takes the instruction.
abbrev pub RenumbersAlike : Type 0
RenumbersAlike = (place : ItPlace) (first second other another n : ℕ) (i j : Instr) → decode Outside first second ≡ Ok i → has_number i ≡ true
    → decode place first second ≡ Ok j → decode Outside other another ≡ Ok (renumbered n i) → decode place other another ≡ Ok (renumbered n j)
