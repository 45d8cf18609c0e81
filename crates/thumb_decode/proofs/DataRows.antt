-- Rows of data processing: a second operand that is pc, and the order of the refusals.
use Rattle.std.proofs.Common.{◌≡◌, ℕ, Bool, true, false, [], ◌∷◌, refl, ◌==◌, ◌&&◌, ◌||◌, not, if◌then◌else◌, Ok, Err, Some, None}
use Rattle.std.specs.Prelude.{Result}
use Rattle.std.proofs.lemmas.Bool.{or_right}
use Rattle.mark_word.specs.declared.numbers.Shift.{Shift}
use Rattle.mark_word.specs.declared.numbers.Shift.TheVariants.{Lsl, Lsr, Asr, Ror, Rrx}
use Rattle.thumb_instr.specs.declared.operations.AluOp.{AluOp}
use Rattle.thumb_instr.specs.declared.operations.MoveOp.{MoveOp}
use Rattle.thumb_instr.specs.declared.operations.TestOp.{TestOp}
use Rattle.thumb_instr.specs.declared.operands.Operand.{Operand}
use Rattle.thumb_instr.specs.declared.operands.Operand.TheVariants.{Reg}
use Rattle.thumb_instr.specs.declared.instructions.Instr.{Instr}
use Rattle.thumb_instr.specs.declared.instructions.Instr.TheVariants as instr
use Rattle.thumb_instr.specs.declared.refusals.BadInstr.{BadInstr}
use Rattle.thumb_instr.specs.declared.refusals.BadInstr.TheVariants.{Unpredictable, ReadsAndSetsFlags, PcOperand}
use Rattle.thumb_instr.specs.Fields.{TestFields}
use Rattle.thumb_instr.specs.Operands.{is_operand}
use Rattle.thumb_instr.specs.Patterns.{Answer, refused}
use Rattle.thumb_instr.specs.Meanings.{when, zero_as_32}
use Rattle.thumb_instr.specs.DataRows.{names, takes_sp, is_rrx, alu_row, move_row, test_row, or_test, or_move, shifted}

abbrev ok_of : ℕ → Result ℕ BadInstr
ok_of n = Ok n

first_refusal : (b : Bool) (e : BadInstr) (rest : Answer) → b ≡ true → (if b then Err e else rest) ≡ Err e
first_refusal true e rest h = refl
first_refusal false e rest h = cc

pub pc_alu : (op : AluOp) (s : Bool) (n d : ℕ) (x : Operand) → names 15 x ≡ true → alu_row op s n d x ≡ Err PcOperand
unfolding alu_row
pc_alu op s n d x h = first_refusal ((d == 15) || (n == 15) || names 15 x) PcOperand _ (or_right ((d == 15) || (n == 15)) (names 15 x) h)

pub pc_move : (op : MoveOp) (s : Bool) (d : ℕ) (x : Operand) → names 15 x ≡ true → move_row op s d x ≡ Err PcOperand
unfolding move_row
pc_move op s d x h = first_refusal ((d == 15) || names 15 x) PcOperand _ (or_right (d == 15) (names 15 x) h)

pub pc_test : (op : TestOp) (n : ℕ) (x : Operand) → names 15 x ≡ true → test_row op n x ≡ Err PcOperand
unfolding test_row
pc_test op n x h = first_refusal ((n == 15) || names 15 x) PcOperand _ (or_right (n == 15) (names 15 x) h)

pub pc_or_test : (op : AluOp) (t : TestOp) (s : Bool) (n d : ℕ) (x : Operand) → names 15 x ≡ true → or_test op t s n d x ≡ Err PcOperand
unfolding or_test
pc_or_test op t s n d x h = elim (s && (d == 15)) as (λ b. (if b then test_row t n x else alu_row op s n d x) ≡ Err PcOperand) [ true ↦ pc_test t n x h | false ↦ pc_alu op s n d x h ]

pub pc_or_move : (op : AluOp) (m : MoveOp) (s : Bool) (n d : ℕ) (x : Operand) → names 15 x ≡ true → or_move op m s n d x ≡ Err PcOperand
unfolding or_move
pc_or_move op m s n d x h = elim (n == 15) as (λ b. (if b then move_row m s d x else alu_row op s n d x) ≡ Err PcOperand) [ true ↦ pc_move m s d x h | false ↦ pc_alu op s n d x h ]

-- what is left of a test's row, once pc is none of its registers
after_pc : (odd valid flags : Bool) (i : Instr) → refused ((odd || not valid, Unpredictable) ∷ (flags, ReadsAndSetsFlags) ∷ []) (when valid i)
    ≡ (if odd then Err Unpredictable else if valid then (if flags then Err ReadsAndSetsFlags else Ok i) else Err Unpredictable)
after_pc true valid flags i = refl
after_pc false true true i = refl
after_pc false true false i = refl
after_pc false false flags i = refl

pub test_row_is : (op : TestOp) (n : ℕ) (x : Operand) (odd valid flags : Bool) → (((n == 13) && not (takes_sp op)) || names 13 x) ≡ odd → is_operand x ≡ valid → is_rrx x ≡ flags → ((n == 15) || names 15 x) ≡ false
    → test_row op n x ≡ (if odd then Err Unpredictable else if valid then (if flags then Err ReadsAndSetsFlags else Ok (instr.Test (record { op = op; n = n; x = x }))) else Err Unpredictable)
unfolding test_row
test_row_is op n x odd valid flags o v f p = rw (p, o, v, f) (after_pc odd valid flags (instr.Test (record { op = op; n = n; x = x })))

-- a register that was made of a number
pub ok_register : (a n : ℕ) → ok_of a ≡ (if n == 15 then Err PcOperand else ok_of n) → ((n == 15) ≡ false) × (a ≡ n)
ok_register a n = elim (n == 15) as (λ b. ok_of a ≡ (if b then Err PcOperand else ok_of n) → (b ≡ false) × (a ≡ n)) [ true ↦ λ h. cc | false ↦ λ h. (refl, cc) ]

-- a test that was made of fields
pub some_test : (v : Bool) (a t : TestFields) → Some a ≡ (if v then Some t else None) → (v ≡ true) × (a ≡ t)
some_test true a t h = (refl, cc)
some_test false a t h = cc

either_names : (b : Bool) (x y : Operand) → names 15 x ≡ true → names 15 y ≡ true → names 15 (if b then x else y) ≡ true
either_names true x y p q = p
either_names false x y p q = q

by_pc : (kind : Shift) (amount : ℕ) → names 15 (Reg 15 kind amount) ≡ true
unfolding names
by_pc kind amount = refl

-- pc stays pc, however it is shifted
pub shifted_pc : (m k i : ℕ) → m ≡ 15 → names 15 (shifted m k i) ≡ true
unfolding shifted
shifted_pc m k i is = rw is (
    either_names (k == 0) _ _ (by_pc Lsl i)
    (either_names (k == 1) _ _ (by_pc Lsr (zero_as_32 i))
    (either_names (k == 2) _ _ (by_pc Asr (zero_as_32 i))
    (either_names (i == 0) _ _ (by_pc Rrx 0) (by_pc Ror i)))))
