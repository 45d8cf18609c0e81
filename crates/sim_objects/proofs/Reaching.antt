-- How far the branches and calls that halfwords stand for lead backwards, a row at a time.
use Rattle.std.proofs.Common.{◌≡◌, ◌<◌, ℕ, zero, suc, ◌+◌, ◌-◌, ◌*◌, ◌^◌, Bool, true, false, cond, List, [], ◌∷◌, Option, Some, None, Ok, Err, refl, subst, arith, ℤ, pos, negsuc}
use Rattle.std.proofs.lemmas.Bool.{lt-ltb}
use Rattle.std.specs.Prelude.{nat_lt, if◌then◌else◌}
use Rattle.thumb_instr.specs.declared.instructions.Instr.TheVariants as instr
use Rattle.mark_word.specs.declared.numbers.Shift.{Shift}
use Rattle.thumb_instr.specs.declared.operations.AluOp.{AluOp}
use Rattle.thumb_instr.specs.declared.operations.MoveOp.{MoveOp}
use Rattle.thumb_instr.specs.declared.operations.TestOp.{TestOp}
use Rattle.thumb_instr.specs.declared.operations.WideOp.{WideOp}
use Rattle.thumb_instr.specs.declared.operations.FieldOp.{FieldOp}
use Rattle.thumb_instr.specs.declared.operations.UnaryOp.{UnaryOp}
use Rattle.thumb_instr.specs.declared.operations.LongMulOp.{LongMulOp}
use Rattle.thumb_instr.specs.declared.operations.AccessOp.{AccessOp}
use Rattle.thumb_instr.specs.declared.operations.NothingOp.{NothingOp}
use Rattle.thumb_instr.specs.declared.operands.Operand.{Operand}
use Rattle.thumb_instr.specs.declared.places.Place.{Place}
use Rattle.thumb_instr.specs.declared.places.PairIndex.{PairIndex}
use Rattle.thumb_instr.specs.declared.conditions.Cond.{Cond}
use Rattle.thumb_instr.specs.declared.refusals.BadInstr.{BadInstr}
use Rattle.thumb_instr.specs.declared.refusals.ItPlace.{ItPlace}
use Rattle.thumb_instr.specs.declared.instructions.Instr.{Instr}
use Rattle.thumb_instr.specs.Patterns.{Bits, Fixed, Field, Made, Row, Answer, cut, fits, filled_in, decoded}
use Rattle.thumb_instr.specs.Meanings.{signed, on_condition, when, alu, move, test, shift_by, wide, half, field, unary, mul, mul_acc, long_mul, div, access, pair, multi, literal, adr, branch, zero_branch, call, jump, call_reg, it, nothing, trap}
use Rattle.thumb_instr.specs.DataRows.{alu_row, move_row, test_row, or_test, or_move, data_processing}
use Rattle.thumb_instr.specs.HalfRows.{half_rows}
use Rattle.thumb_instr.specs.FullRows.{many, two_words, exclusive, dual, wide_row, extract, insert, on_condition_branch, on_access, access_row, by_byte, by_register, product, full_rows}
use Rattle.thumb_instr.specs.Rows.{is_wide, decode}

-- an offset of 32 bits at most
abbrev pub is_narrow : ℤ → Bool
is_narrow (pos n) = true
is_narrow (negsuc n) = nat_lt n (2 ^ 32)

abbrev pub leads_near : Instr → Bool
leads_near (instr.Branch i) = is_narrow i.offset
leads_near (instr.ZeroBranch i) = is_narrow i.offset
leads_near (instr.Call i) = is_narrow i.offset
leads_near i = true

-- an answer that leads no further, if it is an instruction that leads somewhere
pub record Near (a : Answer) : Type 0 where
  pub near : (i : Instr) → a ≡ Ok i → leads_near i ≡ true

ok_near : (i : Instr) → leads_near i ≡ true → Near (Ok i)
ok_near i f = record { near = λ j e. let k : i ≡ j = cc in subst (λ (x : Instr). leads_near x ≡ true) k f }

err_near : (k : BadInstr) → Near (Err k)
err_near k = record { near = λ j e. cc }

if_near : (b : Bool) (x y : Answer) → Near x → Near y → Near (if b then x else y)
if_near true x y g h = g
if_near false x y g h = h

when_near : (b : Bool) (i : Instr) → leads_near i ≡ true → Near (when b i)
when_near true i f = ok_near i f
when_near false i f = err_near _

on_condition_near : (c : Option Cond) (f : Cond → Answer) → ((c : Cond) → Near (f c)) → Near (on_condition c f)
on_condition_near None f g = err_near _
on_condition_near (Some c) f g = g c

alu_near : (op : AluOp) (s : Bool) (d n : ℕ) (x : Operand) → Near (alu op s d n x)
alu_near op s d n x = when_near _ _ refl

move_near : (op : MoveOp) (s : Bool) (d : ℕ) (x : Operand) → Near (move op s d x)
move_near op s d x = when_near _ _ refl

test_near : (op : TestOp) (n : ℕ) (x : Operand) → Near (test op n x)
test_near op n x = when_near _ _ refl

multi_near : (load down back : Bool) (n list : ℕ) (pc : Bool) → Near (multi load down back n list pc)
multi_near load down back n list pc = when_near _ _ refl

shift_by_near : (kind : Shift) (s : Bool) (d n m : ℕ) → Near (shift_by kind s d n m)
shift_by_near kind s d n m = when_near _ _ refl

wide_near : (op : WideOp) (d n imm : ℕ) → Near (wide op d n imm)
wide_near op d n imm = when_near _ _ refl

field_near : (op : FieldOp) (d : ℕ) (n : Option ℕ) (lsb width : ℕ) → Near (field op d n lsb width)
field_near op d n lsb width = when_near _ _ refl

unary_near : (op : UnaryOp) (d m turn : ℕ) → Near (unary op d m turn)
unary_near op d m turn = when_near _ _ refl

mul_near : (s : Bool) (d n m : ℕ) → Near (mul s d n m)
mul_near s d n m = ok_near _ refl

mul_acc_near : (minus : Bool) (d n m a : ℕ) → Near (mul_acc minus d n m a)
mul_acc_near minus d n m a = ok_near _ refl

long_mul_near : (op : LongMulOp) (lo hi n m : ℕ) → Near (long_mul op lo hi n m)
long_mul_near op lo hi n m = when_near _ _ refl

div_near : (signed : Bool) (d n m : ℕ) → Near (div signed d n m)
div_near signed d n m = ok_near _ refl

access_near : (op : AccessOp) (t n : ℕ) (place : Place) → Near (access op t n place)
access_near op t n place = when_near _ _ refl

pair_near : (load : Bool) (t u n : ℕ) (up : Bool) (imm : ℕ) (index : PairIndex) → Near (pair load t u n up imm index)
pair_near load t u n up imm index = when_near _ _ refl

literal_near : (t : ℕ) (up : Bool) (imm : ℕ) → Near (literal t up imm)
literal_near t up imm = when_near _ _ refl

adr_near : (d : ℕ) (up : Bool) (imm : ℕ) → Near (adr d up imm)
adr_near d up imm = when_near _ _ refl

zero_branch_near : (nonzero : Bool) (n offset : ℕ) → Near (zero_branch nonzero n offset)
zero_branch_near nonzero n offset = when_near _ _ refl

jump_near : (m : ℕ) → Near (jump m)
jump_near m = ok_near _ refl

call_reg_near : (m : ℕ) → Near (call_reg m)
call_reg_near m = ok_near _ refl

it_near : (first : Cond) (mask : ℕ) → Near (it first mask)
it_near first mask = when_near _ _ refl

nothing_near : (op : NothingOp) (option : ℕ) → Near (nothing op option)
nothing_near op option = when_near _ _ refl

trap_near : (imm : ℕ) → Near (trap imm)
trap_near imm = when_near _ _ refl

ruleset nears = (alu_near, move_near, test_near, multi_near, shift_by_near, wide_near, field_near, unary_near, mul_near, mul_acc_near, long_mul_near, div_near, access_near, pair_near, literal_near, adr_near, zero_branch_near, jump_near, call_reg_near, it_near, nothing_near, trap_near, err_near, on_condition_near, if_near)

alu_row_near : (op : AluOp) (s : Bool) (n d : ℕ) (x : Operand) → Near (alu_row op s n d x)
unfolding alu_row
alu_row_near op s n d x = search nears

move_row_near : (op : MoveOp) (s : Bool) (d : ℕ) (x : Operand) → Near (move_row op s d x)
unfolding move_row
move_row_near op s d x = search nears

test_row_near : (op : TestOp) (n : ℕ) (x : Operand) → Near (test_row op n x)
unfolding test_row
test_row_near op n x = search nears

ruleset row_nears = (alu_row_near, move_row_near, test_row_near, err_near, if_near)

data_near : (o : ℕ) (s : Bool) (n d : ℕ) (x : Operand) → Near (data_processing o s n d x)
unfolding data_processing or_test or_move
data_near zero s n d x = search row_nears
data_near (suc zero) s n d x = search row_nears
data_near (suc (suc zero)) s n d x = search row_nears
data_near (suc (suc (suc zero))) s n d x = search row_nears
data_near (suc (suc (suc (suc zero)))) s n d x = search row_nears
data_near (suc (suc (suc (suc (suc zero))))) s n d x = search row_nears
data_near (suc (suc (suc (suc (suc (suc zero)))))) s n d x = search row_nears
data_near (suc (suc (suc (suc (suc (suc (suc zero))))))) s n d x = search row_nears
data_near (suc (suc (suc (suc (suc (suc (suc (suc zero)))))))) s n d x = search row_nears
data_near (suc (suc (suc (suc (suc (suc (suc (suc (suc zero))))))))) s n d x = search row_nears
data_near (suc (suc (suc (suc (suc (suc (suc (suc (suc (suc zero)))))))))) s n d x = search row_nears
data_near (suc (suc (suc (suc (suc (suc (suc (suc (suc (suc (suc zero))))))))))) s n d x = search row_nears
data_near (suc (suc (suc (suc (suc (suc (suc (suc (suc (suc (suc (suc zero)))))))))))) s n d x = search row_nears
data_near (suc (suc (suc (suc (suc (suc (suc (suc (suc (suc (suc (suc (suc zero))))))))))))) s n d x = search row_nears
data_near (suc (suc (suc (suc (suc (suc (suc (suc (suc (suc (suc (suc (suc (suc zero)))))))))))))) s n d x = search row_nears
data_near (suc (suc (suc (suc (suc (suc (suc (suc (suc (suc (suc (suc (suc (suc (suc zero))))))))))))))) s n d x = search row_nears
data_near (suc (suc (suc (suc (suc (suc (suc (suc (suc (suc (suc (suc (suc (suc (suc (suc k)))))))))))))))) s n d x = search row_nears

many_near : (place : ItPlace) (load down back : Bool) (n list : ℕ) (pc : Bool) → Near (many place load down back n list pc)
unfolding many
many_near place load down back n list pc = search nears

two_words_near : (load : Bool) (t u n : ℕ) (up : Bool) (imm : ℕ) (index : PairIndex) (back : Bool) → Near (two_words load t u n up imm index back)
unfolding two_words
two_words_near load t u n up imm index back = search nears

exclusive_near : (u l t s i : ℕ) → Near (exclusive u l t s i)
unfolding exclusive
exclusive_near u l t s i = search nears

dual_near : (p u w l n t s i : ℕ) → Near (dual p u w l n t s i)
unfolding dual
dual_near p u w l n t s i = search (two_words_near, exclusive_near, if_near)

wide_row_near : (op : WideOp) (up : Bool) (n d imm : ℕ) → Near (wide_row op up n d imm)
unfolding wide_row
wide_row_near op up n d imm = search nears

extract_near : (op : FieldOp) (n d lsb w : ℕ) → Near (extract op n d lsb w)
unfolding extract
extract_near op n d lsb w = search nears

insert_near : (n d lsb w : ℕ) → Near (insert n d lsb w)
unfolding insert
insert_near n d lsb w = search nears depth 7

access_row_near : (op : AccessOp) (t n : ℕ) (place : Place) (back : Bool) → Near (access_row op t n place back)
unfolding access_row
access_row_near op t n place back = search nears

by_byte_near : (p u w : ℕ) (op : AccessOp) (n t i : ℕ) → Near (by_byte p u w op n t i)
unfolding by_byte
by_byte_near p u w op n t i = search (access_row_near, err_near, if_near)

by_register_near : (op : AccessOp) (n t shift m : ℕ) → Near (by_register op n t shift m)
unfolding by_register
by_register_near op n t shift m = search nears

product_near : (n a d m : ℕ) → Near (product n a d m)
unfolding product
product_near n a d m = search nears depth 7

on_access_near : (o : Option (Option AccessOp)) (f : AccessOp → Answer) → ((op : AccessOp) → Near (f op)) → Near (on_access o f)
on_access_near None f g = err_near _
on_access_near (Some None) f g = err_near _
on_access_near (Some (Some op)) f g = g op

half_near : (top : Bool) (d imm : ℕ) → Near (half top d imm)
half_near top d imm = ok_near _ refl

-- branches and calls
either_narrow : (b : Bool) (m n : ℕ) → m < 2 ^ 32 → is_narrow (cond b (pos n) (negsuc (m - n))) ≡ true
either_narrow true m n low = refl
either_narrow false m n low = lt-ltb (m - n) (2 ^ 32) (omega (arith, low))

branch_9_near : (c : Cond) (n : ℕ) → Near (branch c (signed 9 n))
branch_9_near c n = when_near _ (instr.Branch (record { cond = c; offset = signed 9 n })) (either_narrow (nat_lt n (2 ^ 8)) (2 ^ 9 - 1) n (omega arith))

branch_12_near : (c : Cond) (n : ℕ) → Near (branch c (signed 12 n))
branch_12_near c n = when_near _ (instr.Branch (record { cond = c; offset = signed 12 n })) (either_narrow (nat_lt n (2 ^ 11)) (2 ^ 12 - 1) n (omega arith))

branch_21_near : (c : Cond) (n : ℕ) → Near (branch c (signed 21 n))
branch_21_near c n = when_near _ (instr.Branch (record { cond = c; offset = signed 21 n })) (either_narrow (nat_lt n (2 ^ 20)) (2 ^ 21 - 1) n (omega arith))

branch_25_near : (c : Cond) (n : ℕ) → Near (branch c (signed 25 n))
branch_25_near c n = when_near _ (instr.Branch (record { cond = c; offset = signed 25 n })) (either_narrow (nat_lt n (2 ^ 24)) (2 ^ 25 - 1) n (omega arith))

call_25_near : (n : ℕ) → Near (call (signed 25 n))
call_25_near n = when_near _ (instr.Call (record { offset = signed 25 n })) (either_narrow (nat_lt n (2 ^ 24)) (2 ^ 25 - 1) n (omega arith))

on_condition_branch_near : (place : ItPlace) (c offset : ℕ) → Near (on_condition_branch place c offset)
unfolding on_condition_branch
on_condition_branch_near place c offset = search (branch_21_near, err_near, on_condition_near, if_near)

-- rows

abbrev FillNear : (ps : List Bits) → Made ps → Type 0
FillNear [] a = Near a
FillNear (Fixed w v ∷ ps) f = FillNear ps f
FillNear (Field w ∷ ps) f = (k : ℕ) → FillNear ps (f k)

filled_near : (ps : List Bits) (f : Made ps) (top h : ℕ) → FillNear ps f → Near (filled_in ps f top h)
filled_near [] a top h t = t
filled_near (Fixed w v ∷ ps) f top h t = filled_near ps f (top - w) h t
filled_near (Field w ∷ ps) f top h t = filled_near ps (f (cut h top w)) (top - w) h (t (cut h top w))

data AllNear : List Row → Type 0 where
  none : AllNear []
  row : (ps : List Bits) (f : Made ps) (rows : List Row) → FillNear ps f → AllNear rows → AllNear (record { pattern = ps; means = f } ∷ rows)

infixr 4 ◌&◌
-- one row, and the rows behind it
◌&◌ : {ps : List Bits} {f : Made ps} {rows : List Row} → FillNear ps f → AllNear rows → AllNear (record { pattern = ps; means = f } ∷ rows)
t & more = row _ _ _ t more

decoded_near : (size h : ℕ) (rows : List Row) → AllNear rows → Near (decoded size rows h)
decoded_near size h _ none = err_near _
decoded_near size h _ (row ps f rows t more) = if_near (fits ps size h) _ _ (filled_near ps f size h t) (decoded_near size h rows more)

ruleset halves = (branch_9_near, branch_12_near)

half_near_rows : (place : ItPlace) → AllNear (half_rows place)
unfolding half_rows
half_near_rows place =
    (λ i m d. search (halves, nears))
    & (λ i m d. search (halves, nears))
    & (λ i m d. search (halves, nears))
    & (λ m n d. search (halves, nears))
    & (λ m n d. search (halves, nears))
    & (λ i n d. search (halves, nears))
    & (λ i n d. search (halves, nears))
    & (λ d i. search (halves, nears))
    & (λ n i. search (halves, nears))
    & (λ d i. search (halves, nears))
    & (λ d i. search (halves, nears))
    & (λ m d. search (halves, nears))
    & (λ m d. search (halves, nears))
    & (λ m d. search (halves, nears))
    & (λ m d. search (halves, nears))
    & (λ m d. search (halves, nears))
    & (λ m d. search (halves, nears))
    & (λ m d. search (halves, nears))
    & (λ m d. search (halves, nears))
    & (λ m d. search (halves, nears))
    & (λ m d. search (halves, nears))
    & (λ m d. search (halves, nears))
    & (λ m d. search (halves, nears))
    & (λ m d. search (halves, nears))
    & (λ m d. search (halves, nears))
    & (λ m d. search (halves, nears))
    & (λ m d. search (halves, nears))
    & (λ high m low. search (halves, nears))
    & (λ high m low. search (halves, nears))
    & (λ high m low. search (halves, nears))
    & (λ m. search (halves, nears))
    & (λ m. search (halves, nears))
    & (λ t i. search (halves, nears))
    & (λ m n t. search (halves, nears))
    & (λ m n t. search (halves, nears))
    & (λ m n t. search (halves, nears))
    & (λ m n t. search (halves, nears))
    & (λ m n t. search (halves, nears))
    & (λ m n t. search (halves, nears))
    & (λ m n t. search (halves, nears))
    & (λ m n t. search (halves, nears))
    & (λ i n t. search (halves, nears))
    & (λ i n t. search (halves, nears))
    & (λ i n t. search (halves, nears))
    & (λ i n t. search (halves, nears))
    & (λ i n t. search (halves, nears))
    & (λ i n t. search (halves, nears))
    & (λ t i. search (halves, nears))
    & (λ t i. search (halves, nears))
    & (λ d i. search (halves, nears))
    & (λ d i. search (halves, nears))
    & (λ i. search (halves, nears))
    & (λ i. search (halves, nears))
    & (λ o i6 i n. search (halves, nears))
    & (λ m d. search (halves, nears))
    & (λ m d. search (halves, nears))
    & (λ m d. search (halves, nears))
    & (λ m d. search (halves, nears))
    & (λ lr list. search (halves, nears))
    & (λ pc list. search (halves, nears))
    & (λ m d. search (halves, nears))
    & (λ m d. search (halves, nears))
    & (λ m d. search (halves, nears))
    & (λ c mask. search (halves, nears))
    & (λ i. search (halves, nears))
    & (λ i. search (halves, nears))
    & (λ n list. search (halves, nears))
    & (λ n list. search (halves, nears))
    & (λ c i. search (halves, nears))
    & (λ i. search (halves, nears))
    & none

ruleset fulls = (half_near, branch_25_near, call_25_near, on_condition_branch_near, many_near, dual_near, data_near, wide_row_near, extract_near, insert_near, access_row_near, by_byte_near, by_register_near, product_near, on_access_near)

full_near_rows : (place : ItPlace) → AllNear (full_rows place)
unfolding full_rows
full_near_rows place =
    (λ w l n pc lr list. search (fulls, nears))
    & (λ w l n pc lr list. search (fulls, nears))
    & (λ p u w l n t s i. search (fulls, nears))
    & (λ o s n i3 d i2 k m. search (fulls, nears))
    & (λ i o s n i3 d i8. search (fulls, nears))
    & (λ i n i3 d i8. search (fulls, nears))
    & (λ i n i3 d i8. search (fulls, nears))
    & (λ i i4 i3 d i8. search (fulls, nears))
    & (λ i i4 i3 d i8. search (fulls, nears))
    & (λ n i3 d i2 w. search (fulls, nears))
    & (λ n i3 d i2 w. search (fulls, nears))
    & (λ n i3 d i2 w. search (fulls, nears))
    & (λ s i10 j k i11. search (fulls, nears))
    & (λ s i10 j k i11. search (fulls, nears))
    & (search (fulls, nears))
    & (λ i. search (fulls, nears))
    & (λ option. search (fulls, nears))
    & (λ option. search (fulls, nears))
    & (λ option. search (fulls, nears))
    & (λ i. search (fulls, nears))
    & (λ n i. search (fulls, nears))
    & (λ i. search (fulls, nears))
    & (λ s c i6 j k i11. search (fulls, nears))
    & (λ u t i. search (fulls, nears))
    & (search (fulls, nears))
    & (λ g z l n t i. search (fulls, nears))
    & (λ g z l n t p u w i. search (fulls, nears))
    & (λ g z l n t shift m. search (fulls, nears))
    & (λ k s n d m. search (fulls, nears))
    & (λ d r m. search (fulls, nears))
    & (λ d r m. search (fulls, nears))
    & (λ d r m. search (fulls, nears))
    & (λ d r m. search (fulls, nears))
    & (λ n d m. search (fulls, nears))
    & (λ n d m. search (fulls, nears))
    & (λ n d m. search (fulls, nears))
    & (λ n d m. search (fulls, nears))
    & (λ n d m. search (fulls, nears))
    & (λ n a d m. search (fulls, nears))
    & (λ n a d m. search (fulls, nears))
    & (λ n lo hi m. search (fulls, nears))
    & (λ n lo hi m. search (fulls, nears))
    & (λ n lo hi m. search (fulls, nears))
    & (λ n lo hi m. search (fulls, nears))
    & (λ n d m. search (fulls, nears))
    & (λ n d m. search (fulls, nears))
    & none

-- whatever halfwords stand for leads no further
pub decode_near : (place : ItPlace) (first second : ℕ) (i : Instr) → decode place first second ≡ Ok i → leads_near i ≡ true
decode_near place first second i e = (answers (is_wide first)).near i e
  where
    answers : (wide : Bool) → Near (if wide then decoded 32 (full_rows place) (first * 2 ^ 16 + second) else decoded 16 (half_rows place) first)
    answers true = decoded_near 32 (first * 2 ^ 16 + second) (full_rows place) (full_near_rows place)
    answers false = decoded_near 16 first (half_rows place) (half_near_rows place)
