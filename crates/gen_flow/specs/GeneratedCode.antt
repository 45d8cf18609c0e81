-- The instructions of the generated object, and where they stand.
use Rattle.std.specs.Prelude.{◌≡◌, ◌<◌, ◌≤◌, ℕ, negsuc, ◌+◌, ◌*◌, ◌/◌, ◌^◌, true, false, List, [], ◌∷◌, get_or}
use Rattle.mark_word.specs.declared.numbers.Shift.TheVariants.{Lsl}
use Rattle.thumb_instr.specs.declared.operations.AluOp.TheVariants.{Add, Eor, Rsb}
use Rattle.thumb_instr.specs.declared.operations.MoveOp.TheVariants.{Mov, Mvn}
use Rattle.thumb_instr.specs.declared.operands.Operand.TheVariants.{Imm, Reg}
use Rattle.thumb_instr.specs.declared.instructions.Instr.{Instr}
use Rattle.thumb_instr.specs.declared.instructions.Instr.TheVariants.{Alu, Move, Mul, Multi, Call}
use Rattle.skip_machine.specs.Draws.{draws}

-- push {r4, lr}; pop {r4, pc}; bl, whose own number leads to itself
abbrev pub pushes : Instr
pushes = Multi (record { load = false; down = true; back = true; n = 13; list = record { 0 = 0x4010 }; pc = false })

abbrev pub returns : Instr
returns = Multi (record { load = true; down = false; back = true; n = 13; list = record { 0 = 0x10 }; pc = true })

abbrev pub calls : Instr
calls = Call (record { offset = negsuc 3 })

-- adds r0, #1; movs r1, #7; muls r0, r1, r0; eors r0, r1; lsls r2, r0, #3; adds r0, r0, r2; rsbs r0, r0, #0; mvns r2, r1
abbrev pub worked : List Instr
worked =
    Alu (record { op = Add; s = true; d = 0; n = 0; x = Imm 1 })
    ∷ Move (record { op = Mov; s = true; d = 1; x = Imm 7 })
    ∷ Mul (record { s = true; d = 0; n = 1; m = 0 })
    ∷ Alu (record { op = Eor; s = true; d = 0; n = 0; x = Reg 1 Lsl 0 })
    ∷ Move (record { op = Mov; s = true; d = 2; x = Reg 0 Lsl 3 })
    ∷ Alu (record { op = Add; s = true; d = 0; n = 0; x = Reg 2 Lsl 0 })
    ∷ Alu (record { op = Rsb; s = true; d = 0; n = 0; x = Imm 0 })
    ∷ Move (record { op = Mvn; s = true; d = 2; x = Reg 1 Lsl 0 })
    ∷ []

-- the one that a drawn number chooses, by its top three bits
abbrev pub drawn_instr : ℕ → Instr
drawn_instr x = get_or worked (x / 2 ^ 29) pushes

-- how many functions there may be
pub record IsCount (count : ℕ) : Type 0 where
  pub low : 1 ≤ count
  pub high : count ≤ 4000

-- Which instruction stands at an offset of the code: function k begins at 14 k.
pub data StandsAt (seed count x : ℕ) (i : Instr) : Type 0 where
  first : (k : ℕ) → k < count → x ≡ 14 * k → i ≡ pushes → StandsAt seed count x i
  work : (k j : ℕ) → k < count → j < 3 → x ≡ 14 * k + 2 * j + 2 → i ≡ drawn_instr (draws (draws seed (3 * k)) (j + 1)) → StandsAt seed count x i
  next : (k : ℕ) → k + 1 < count → x ≡ 14 * k + 8 → i ≡ calls → StandsAt seed count x i
  back : (k : ℕ) → k + 1 < count → x ≡ 14 * k + 12 → i ≡ returns → StandsAt seed count x i
  last : (k : ℕ) → k + 1 ≡ count → x ≡ 14 * k + 8 → i ≡ returns → StandsAt seed count x i
