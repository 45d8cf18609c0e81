-- What is told of the answers of rows: they are formed, do not both read and set C, and need not be of two halfwords.
use Rattle.std.proofs.Common.{◌≡◌, ◌<◌, ℕ, ◌+◌, ◌-◌, ◌*◌, ◌/◌, ◌^◌, Bool, true, false, List, [], ◌∷◌, Option, Some, None, Ok, Err, refl, subst, arith, lit≤, ℤ}
use Rattle.std.specs.Prelude.{◌==◌, ◌&&◌, ◌||◌, ⊤, if◌then◌else◌}
use Rattle.std.proofs.Math.Nat.{mod-lt}
use Rattle.std.proofs.lemmas.Nat.{pow_pos}
use Rattle.std.proofs.lemmas.Bool.{true≢false, eqb-false}
use Rattle.mark_word.specs.declared.numbers.Shift.{Shift}
use Rattle.thumb_instr.specs.declared.operations.AluOp.{AluOp}
use Rattle.thumb_instr.specs.declared.operations.MoveOp.{MoveOp}
use Rattle.thumb_instr.specs.declared.operations.TestOp.{TestOp}
use Rattle.thumb_instr.specs.declared.operations.WideOp.{WideOp}
use Rattle.thumb_instr.specs.declared.operations.FieldOp.{FieldOp}
use Rattle.thumb_instr.specs.declared.operations.UnaryOp.{UnaryOp}
use Rattle.thumb_instr.specs.declared.operations.LongMulOp.{LongMulOp}
use Rattle.thumb_instr.specs.declared.operations.AccessOp.{AccessOp}
use Rattle.thumb_instr.specs.declared.operations.NothingOp.{NothingOp}
use Rattle.thumb_instr.specs.declared.operands.Operand.{Operand}
use Rattle.thumb_instr.specs.declared.operands.Operand.TheVariants.{Imm, Reg}
use Rattle.thumb_instr.specs.declared.places.Place.{Place}
use Rattle.thumb_instr.specs.declared.places.PairIndex.{PairIndex}
use Rattle.thumb_instr.specs.declared.conditions.Cond.{Cond}
use Rattle.thumb_instr.specs.declared.refusals.BadInstr.{BadInstr}
use Rattle.thumb_instr.specs.declared.instructions.Instr.{Instr}
use Rattle.thumb_instr.specs.declared.instructions.Instr.TheVariants as instr
use Rattle.thumb_instr.specs.Operands.{is_operand, is_list}
use Rattle.thumb_instr.specs.Patterns.{Bits, Fixed, Field, Made, Row, Answer, cut, fits, filled_in, decoded}
use Rattle.thumb_instr.specs.Meanings.{on_condition, when, alu, move, test, shift_by, wide, half, field, unary, mul, mul_acc, long_mul, div, access, pair, multi, literal, adr, branch, zero_branch, call, jump, call_reg, it, nothing, trap}
use Rattle.thumb_instr.specs.Sets.{sums_with_carry}
use Rattle.thumb_instr.specs.DataRows.{names, is_rrx, shifted}
use Rattle.thumb_instr.specs.Formed.{IsRegister, IsSource, OperandNamesRegisters, PlaceNamesRegisters, IsFormed, is_always_wide}

-- The instruction uses the carry, and sets flags where it may set C.
abbrev pub carries : Instr → Bool
carries (instr.Alu i) = i.s && (sums_with_carry i.op || is_rrx i.x)
carries (instr.Move i) = i.s && is_rrx i.x
carries (instr.Test i) = is_rrx i.x
carries i = false

pub record Told (wide : Bool) (i : Instr) : Type 0 where
  pub formed : IsFormed i
  pub carry : carries i ≡ false
  pub short : wide ≡ false → is_always_wide i ≡ false

-- an answer that is told of, if it is an instruction
pub record Good (wide : Bool) (a : Answer) : Type 0 where
  pub told : (i : Instr) → a ≡ Ok i → Told wide i

ok_good : (w : Bool) (i : Instr) → Told w i → Good w (Ok i)
ok_good w i f = record { told = λ j e. let k : i ≡ j = cc in subst (Told w) k f }

pub err_good : (w : Bool) (k : BadInstr) → Good w (Err k)
err_good w k = record { told = λ j e. cc }

pub if_good : (w b : Bool) (x y : Answer) → (b ≡ true → Good w x) → (b ≡ false → Good w y) → Good w (if b then x else y)
if_good w true x y g h = g refl
if_good w false x y g h = h refl

-- Where one of some tests holds, a row refuses.
pub if_two_good : (w a b : Bool) (k : BadInstr) (y : Answer) → (a ≡ false → b ≡ false → Good w y) → Good w (if a || b then Err k else y)
if_two_good w true b k y g = err_good w k
if_two_good w false true k y g = err_good w k
if_two_good w false false k y g = g refl refl

pub if_three_good : (w a b c : Bool) (k : BadInstr) (y : Answer) → (a ≡ false → b ≡ false → c ≡ false → Good w y) → Good w (if a || b || c then Err k else y)
if_three_good w true b c k y g = err_good w k
if_three_good w false true c k y g = err_good w k
if_three_good w false false true k y g = err_good w k
if_three_good w false false false k y g = g refl refl refl

when_good : (w b : Bool) (i : Instr) → (b ≡ true → Told w i) → Good w (when b i)
when_good w true i f = ok_good w i (f refl)
when_good w false i f = err_good w _

pub on_condition_good : (w : Bool) (c : Option Cond) (f : Cond → Answer) → ((c : Cond) → Good w (f c)) → Good w (on_condition c f)
on_condition_good w None f g = err_good w _
on_condition_good w (Some c) f g = g c

pub first_none : (a b : Bool) → (a || b) ≡ false → a ≡ false
first_none true b e = e
first_none false b e = refl

pub second_none : (a b : Bool) → (a || b) ≡ false → b ≡ false
second_none true b e = (cc)
second_none false b e = e

-- registers

pub low_register : (k : ℕ) → k < 2 ^ 3 → IsRegister k
low_register k low = omega arith

pub register_but_pc : (k : ℕ) → k < 2 ^ 4 → (k == 15) ≡ false → IsRegister k
register_but_pc k low other = let apart = eqb-false k 15 other in grind arith

pub stack_register : IsRegister 13
stack_register = lit≤ tt

pub in_two_parts : (high low : ℕ) → high < 2 ^ 1 → low < 2 ^ 3 → 8 * high + low < 2 ^ 4
in_two_parts high low a b = omega arith

pub no_register : ⊤
no_register = tt

-- an operand whose register has four bits
abbrev pub IsNear : Operand → Type 0
IsNear (Imm i) = ⊤
IsNear (Reg m kind amount) = m < 2 ^ 4

pub near_named : (x : Operand) → IsNear x → names 15 x ≡ false → OperandNamesRegisters x
unfolding names
near_named (Imm i) near other = tt
near_named (Reg m kind amount) near other = register_but_pc m near other

if_near : (b : Bool) (x y : Operand) → IsNear x → IsNear y → IsNear (if b then x else y)
if_near true x y n o = n
if_near false x y n o = o

pub shifted_near : (m k i : ℕ) → m < 2 ^ 4 → IsNear (shifted m k i)
unfolding shifted
shifted_near m k i h = if_near (k == 0) _ _ h (if_near (k == 1) _ _ h (if_near (k == 2) _ _ h (if_near (i == 0) _ _ h h)))

-- no flags are set, or the operation has no carry to read
pub no_flags : (t : Bool) → (false && t) ≡ false
no_flags t = refl

pub no_carry : (s : Bool) → (s && false) ≡ false
no_carry true = refl
no_carry false = refl

pub not_set : (s t : Bool) → s ≡ false → (s && t) ≡ false
not_set true t e = (cc)
not_set false t e = refl

-- instructions

pub alu_good : (w : Bool) (op : AluOp) (s : Bool) (d n : ℕ) (x : Operand) → IsRegister d → IsRegister n → OperandNamesRegisters x → (s && (sums_with_carry op || is_rrx x)) ≡ false → Good w (alu op s d n x)
alu_good w op s d n x hd hn hx c = when_good w (is_operand x) _ (λ e. record { formed = record { registers = (hd, hn, hx); fields = e; pc = tt }; carry = c; short = λ _. refl })

pub move_good : (w : Bool) (op : MoveOp) (s : Bool) (d : ℕ) (x : Operand) → IsRegister d → OperandNamesRegisters x → (s && is_rrx x) ≡ false → Good w (move op s d x)
move_good w op s d x hd hx c = when_good w (is_operand x) _ (λ e. record { formed = record { registers = (hd, hx); fields = e; pc = tt }; carry = c; short = λ _. refl })

pub test_good : (w : Bool) (op : TestOp) (n : ℕ) (x : Operand) → IsRegister n → OperandNamesRegisters x → is_rrx x ≡ false → Good w (test op n x)
test_good w op n x hn hx c = when_good w (is_operand x) _ (λ e. record { formed = record { registers = (hn, hx); fields = e; pc = tt }; carry = c; short = λ _. refl })

pub multi_good : (w load down back : Bool) (n list : ℕ) (pc : Bool) → IsRegister n → (pc ≡ true → load ≡ true) → Good w (multi load down back n list pc)
multi_good w load down back n list pc hn f = when_good w (is_list list pc) _ (λ e. record { formed = record { registers = hn; fields = e; pc = f }; carry = refl; short = λ _. refl })

pub shift_by_good : (w : Bool) (kind : Shift) (s : Bool) (d n m : ℕ) → IsRegister d → IsRegister n → IsRegister m → Good w (shift_by kind s d n m)
shift_by_good w kind s d n m hd hn hm = when_good w _ _ (λ e. record { formed = record { registers = (hd, hn, hm); fields = e; pc = tt }; carry = refl; short = λ _. refl })

pub wide_good : (w : Bool) (op : WideOp) (d n imm : ℕ) → IsRegister d → IsRegister n → Good w (wide op d n imm)
wide_good w op d n imm hd hn = when_good w _ _ (λ e. record { formed = record { registers = (hd, hn); fields = e; pc = tt }; carry = refl; short = λ _. refl })

pub half_word_good : (top : Bool) (d imm : ℕ) → IsRegister d → Good true (half top d imm)
half_word_good top d imm hd = ok_good true _ (record { formed = record { registers = hd; fields = tt; pc = tt }; carry = refl; short = λ e. absurd (true≢false e) })

pub field_good : (w : Bool) (op : FieldOp) (d : ℕ) (n : Option ℕ) (lsb width : ℕ) → IsRegister d → IsSource n → Good w (field op d n lsb width)
field_good w op d n lsb width hd hn = when_good w _ _ (λ e. record { formed = record { registers = (hd, hn); fields = e; pc = tt }; carry = refl; short = λ _. refl })

pub unary_good : (w : Bool) (op : UnaryOp) (d m turn : ℕ) → IsRegister d → IsRegister m → Good w (unary op d m turn)
unary_good w op d m turn hd hm = when_good w _ _ (λ e. record { formed = record { registers = (hd, hm); fields = e; pc = tt }; carry = refl; short = λ _. refl })

pub mul_good : (w : Bool) (s : Bool) (d n m : ℕ) → IsRegister d → IsRegister n → IsRegister m → Good w (mul s d n m)
mul_good w s d n m hd hn hm = ok_good w _ (record { formed = record { registers = (hd, hn, hm); fields = tt; pc = tt }; carry = refl; short = λ _. refl })

pub mul_acc_good : (w : Bool) (minus : Bool) (d n m a : ℕ) → IsRegister d → IsRegister n → IsRegister m → IsRegister a → Good w (mul_acc minus d n m a)
mul_acc_good w minus d n m a hd hn hm ha = ok_good w _ (record { formed = record { registers = (hd, hn, hm, ha); fields = tt; pc = tt }; carry = refl; short = λ _. refl })

pub long_mul_good : (w : Bool) (op : LongMulOp) (lo hi n m : ℕ) → IsRegister lo → IsRegister hi → IsRegister n → IsRegister m → Good w (long_mul op lo hi n m)
long_mul_good w op lo hi n m hlo hhi hn hm = when_good w _ _ (λ e. record { formed = record { registers = (hlo, hhi, hn, hm); fields = e; pc = tt }; carry = refl; short = λ _. refl })

pub div_good : (w : Bool) (signed : Bool) (d n m : ℕ) → IsRegister d → IsRegister n → IsRegister m → Good w (div signed d n m)
div_good w signed d n m hd hn hm = ok_good w _ (record { formed = record { registers = (hd, hn, hm); fields = tt; pc = tt }; carry = refl; short = λ _. refl })

pub access_good : (w : Bool) (op : AccessOp) (t n : ℕ) (place : Place) → IsRegister t → IsRegister n → PlaceNamesRegisters place → Good w (access op t n place)
access_good w op t n place ht hn hp = when_good w _ _ (λ e. record { formed = record { registers = (ht, hn, hp); fields = e; pc = tt }; carry = refl; short = λ _. refl })

pub pair_good : (w : Bool) (load : Bool) (t u n : ℕ) (up : Bool) (imm : ℕ) (index : PairIndex) → IsRegister t → IsRegister u → IsRegister n → Good w (pair load t u n up imm index)
pair_good w load t u n up imm index ht hu hn = when_good w _ _ (λ e. record { formed = record { registers = (ht, hu, hn); fields = e; pc = tt }; carry = refl; short = λ _. refl })

pub literal_good : (w : Bool) (t : ℕ) (up : Bool) (imm : ℕ) → IsRegister t → Good w (literal t up imm)
literal_good w t up imm ht = when_good w _ _ (λ e. record { formed = record { registers = ht; fields = e; pc = tt }; carry = refl; short = λ _. refl })

pub adr_good : (w : Bool) (d : ℕ) (up : Bool) (imm : ℕ) → IsRegister d → Good w (adr d up imm)
adr_good w d up imm hd = when_good w _ _ (λ e. record { formed = record { registers = hd; fields = e; pc = tt }; carry = refl; short = λ _. refl })

pub branch_good : (w : Bool) (cond : Cond) (offset : ℤ) → Good w (branch cond offset)
branch_good w cond offset = when_good w _ _ (λ e. record { formed = record { registers = tt; fields = e; pc = tt }; carry = refl; short = λ _. refl })

pub zero_branch_good : (w : Bool) (nonzero : Bool) (n offset : ℕ) → IsRegister n → Good w (zero_branch nonzero n offset)
zero_branch_good w nonzero n offset hn = when_good w _ _ (λ e. record { formed = record { registers = hn; fields = e; pc = tt }; carry = refl; short = λ _. refl })

pub call_good : (offset : ℤ) → Good true (call offset)
call_good offset = when_good true _ _ (λ e. record { formed = record { registers = tt; fields = e; pc = tt }; carry = refl; short = λ e. absurd (true≢false e) })

pub jump_good : (w : Bool) (m : ℕ) → IsRegister m → Good w (jump m)
jump_good w m hm = ok_good w _ (record { formed = record { registers = hm; fields = tt; pc = tt }; carry = refl; short = λ _. refl })

pub call_reg_good : (w : Bool) (m : ℕ) → IsRegister m → Good w (call_reg m)
call_reg_good w m hm = ok_good w _ (record { formed = record { registers = hm; fields = tt; pc = tt }; carry = refl; short = λ _. refl })

pub it_good : (w : Bool) (first : Cond) (mask : ℕ) → Good w (it first mask)
it_good w first mask = when_good w _ _ (λ e. record { formed = record { registers = tt; fields = e; pc = tt }; carry = refl; short = λ _. refl })

pub nothing_good : (w : Bool) (op : NothingOp) (option : ℕ) → Good w (nothing op option)
nothing_good w op option = when_good w _ _ (λ e. record { formed = record { registers = tt; fields = e; pc = tt }; carry = refl; short = λ _. refl })

pub trap_good : (w : Bool) (imm : ℕ) → Good w (trap imm)
trap_good w imm = when_good w _ _ (λ e. record { formed = record { registers = tt; fields = e; pc = tt }; carry = refl; short = λ _. refl })

-- rows

abbrev pub Fill : Bool → (ps : List Bits) → Made ps → Type 0
Fill wide [] a = Good wide a
Fill wide (Fixed w v ∷ ps) f = Fill wide ps f
Fill wide (Field w ∷ ps) f = (k : ℕ) → k < 2 ^ w → Fill wide ps (f k)

cut_fits : (h top w : ℕ) → cut h top w < 2 ^ w
cut_fits h top w = mod-lt (h / 2 ^ (top - w)) {m = 2 ^ w} (pow_pos w)

filled_good : (wide : Bool) (ps : List Bits) (f : Made ps) (top h : ℕ) → Fill wide ps f → Good wide (filled_in ps f top h)
filled_good wide [] a top h g = g
filled_good wide (Fixed w v ∷ ps) f top h g = filled_good wide ps f (top - w) h g
filled_good wide (Field w ∷ ps) f top h g = filled_good wide ps (f (cut h top w)) (top - w) h (g (cut h top w) (cut_fits h top w))

abbrev pub AllGood : Bool → List Row → Type 0
AllGood wide [] = ⊤
AllGood wide (r ∷ rows) = Fill wide r.pattern r.means × AllGood wide rows

infixr 4 ◌&◌
-- one row, and the rows behind it
pub ◌&◌ : {A B : Type 0} → A → B → A × B
a & b = (a, b)

pub decoded_good : (wide : Bool) (size : ℕ) (rows : List Row) (h : ℕ) → AllGood wide rows → Good wide (decoded size rows h)
decoded_good wide size [] h g = err_good wide _
decoded_good wide size (r ∷ rows) h g = if_good wide (fits r.pattern size h) _ _ (λ _. filled_good wide r.pattern r.means size h g.0) (λ _. decoded_good wide size rows h g.1)

pub ruleset registers = (low_register, register_but_pc, stack_register, in_two_parts, no_register, no_flags, no_carry, not_set)

pub ruleset goods = (registers, alu_good, move_good, test_good, multi_good, shift_by_good, wide_good, half_word_good, field_good, unary_good, mul_good, mul_acc_good, long_mul_good, div_good, access_good, pair_good, literal_good, adr_good, branch_good, zero_branch_good, call_good, jump_good, call_reg_good, it_good, nothing_good, trap_good, err_good, on_condition_good, if_three_good, if_two_good, if_good)
