-- Whether a place takes an instruction with a number does not depend on the number, a row at a time.
use Rattle.std.proofs.Common.{◌≡◌, ℕ, zero, suc, ◌+◌, ◌-◌, ◌*◌, ◌^◌, Bool, true, false, List, [], ◌∷◌, Option, Some, None, Ok, Err, refl, sym, ◌∙◌, ap, subst, arith, ℤ}
use Rattle.std.specs.Prelude.{◌==◌, not, nat_lt, slice_get, if◌then◌else◌}
use Rattle.std.proofs.lemmas.Bool.{true≢false}
use Rattle.std.proofs.lemmas.Bool.Decides.{nat_tests}
use Rattle.thumb_instr.specs.declared.refusals.ItPlace.TheVariants.{Outside}
use Rattle.thumb_instr.specs.declared.conditions.Cond.TheVariants.{Al}
use Rattle.thumb_instr.specs.declared.instructions.Instr.TheVariants as instr
use Rattle.mark_word.specs.declared.numbers.Shift.{Shift}
use Rattle.thumb_instr.specs.declared.operations.AluOp.{AluOp}
use Rattle.thumb_instr.specs.declared.operations.MoveOp.{MoveOp}
use Rattle.thumb_instr.specs.declared.operations.TestOp.{TestOp}
use Rattle.thumb_instr.specs.declared.operations.WideOp.{WideOp}
use Rattle.thumb_instr.specs.declared.operations.FieldOp.{FieldOp}
use Rattle.thumb_instr.specs.declared.operations.UnaryOp.{UnaryOp}
use Rattle.thumb_instr.specs.declared.operations.LongMulOp.{LongMulOp}
use Rattle.thumb_instr.specs.declared.operations.AccessOp.{AccessOp}
use Rattle.thumb_instr.specs.declared.operations.NothingOp.{NothingOp}
use Rattle.thumb_instr.specs.declared.operands.Operand.{Operand}
use Rattle.thumb_instr.specs.declared.places.Place.{Place}
use Rattle.thumb_instr.specs.declared.places.PairIndex.{PairIndex}
use Rattle.thumb_instr.specs.declared.conditions.Cond.{Cond}
use Rattle.thumb_instr.specs.declared.refusals.BadInstr.{BadInstr}
use Rattle.thumb_instr.specs.declared.refusals.BadInstr.TheVariants.{Unpredictable, Unknown, SupervisorCall}
use Rattle.thumb_instr.specs.declared.refusals.ItPlace.{ItPlace}
use Rattle.thumb_instr.specs.declared.instructions.Instr.{Instr}
use Rattle.thumb_instr.specs.Patterns.{Bits, Fixed, Field, Made, Row, Answer, cut, fits, filled_in, decoded}
use Rattle.thumb_instr.specs.Meanings.{is_outside, is_inside, conditions, signed, on_condition, when, alu, move, test, shift_by, wide, half, field, unary, mul, mul_acc, long_mul, div, access, pair, multi, literal, adr, branch, zero_branch, call, jump, call_reg, it, nothing, trap}
use Rattle.thumb_instr.specs.DataRows.{alu_row, move_row, test_row, or_test, or_move, data_processing}
use Rattle.thumb_instr.specs.HalfRows.{short_branch, half_rows}
use Rattle.thumb_instr.specs.FullRows.{many, two_words, exclusive, dual, wide_row, extract, insert, on_condition_branch, on_access, access_row, by_byte, by_register, product, full_rows}
use Rattle.thumb_instr.specs.Rows.{is_wide, decode}
use Rattle.thumb_instr.specs.Numbers.{has_number, is_taken, renumbered}

-- an answer without a number, if it is an instruction
pub record Apart (a : Answer) : Type 0 where
  pub unnumbered : (i : Instr) → a ≡ Ok i → has_number i ≡ false

ok_apart : (i : Instr) → has_number i ≡ false → Apart (Ok i)
ok_apart i f = record { unnumbered = λ j e. let k : i ≡ j = cc in subst (λ (x : Instr). has_number x ≡ false) k f }

err_apart : (k : BadInstr) → Apart (Err k)
err_apart k = record { unnumbered = λ j e. cc }

if_apart : (b : Bool) (x y : Answer) → Apart x → Apart y → Apart (if b then x else y)
if_apart true x y g h = g
if_apart false x y g h = h

when_apart : (b : Bool) (i : Instr) → has_number i ≡ false → Apart (when b i)
when_apart true i f = ok_apart i f
when_apart false i f = err_apart _

on_condition_apart : (c : Option Cond) (f : Cond → Answer) → ((c : Cond) → Apart (f c)) → Apart (on_condition c f)
on_condition_apart None f g = err_apart _
on_condition_apart (Some c) f g = g c

alu_apart : (op : AluOp) (s : Bool) (d n : ℕ) (x : Operand) → Apart (alu op s d n x)
alu_apart op s d n x = when_apart _ _ refl

move_apart : (op : MoveOp) (s : Bool) (d : ℕ) (x : Operand) → Apart (move op s d x)
move_apart op s d x = when_apart _ _ refl

test_apart : (op : TestOp) (n : ℕ) (x : Operand) → Apart (test op n x)
test_apart op n x = when_apart _ _ refl

multi_apart : (load down back : Bool) (n list : ℕ) (pc : Bool) → Apart (multi load down back n list pc)
multi_apart load down back n list pc = when_apart _ _ refl

shift_by_apart : (kind : Shift) (s : Bool) (d n m : ℕ) → Apart (shift_by kind s d n m)
shift_by_apart kind s d n m = when_apart _ _ refl

wide_apart : (op : WideOp) (d n imm : ℕ) → Apart (wide op d n imm)
wide_apart op d n imm = when_apart _ _ refl

field_apart : (op : FieldOp) (d : ℕ) (n : Option ℕ) (lsb width : ℕ) → Apart (field op d n lsb width)
field_apart op d n lsb width = when_apart _ _ refl

unary_apart : (op : UnaryOp) (d m turn : ℕ) → Apart (unary op d m turn)
unary_apart op d m turn = when_apart _ _ refl

mul_apart : (s : Bool) (d n m : ℕ) → Apart (mul s d n m)
mul_apart s d n m = ok_apart _ refl

mul_acc_apart : (minus : Bool) (d n m a : ℕ) → Apart (mul_acc minus d n m a)
mul_acc_apart minus d n m a = ok_apart _ refl

long_mul_apart : (op : LongMulOp) (lo hi n m : ℕ) → Apart (long_mul op lo hi n m)
long_mul_apart op lo hi n m = when_apart _ _ refl

div_apart : (signed : Bool) (d n m : ℕ) → Apart (div signed d n m)
div_apart signed d n m = ok_apart _ refl

access_apart : (op : AccessOp) (t n : ℕ) (place : Place) → Apart (access op t n place)
access_apart op t n place = when_apart _ _ refl

pair_apart : (load : Bool) (t u n : ℕ) (up : Bool) (imm : ℕ) (index : PairIndex) → Apart (pair load t u n up imm index)
pair_apart load t u n up imm index = when_apart _ _ refl

literal_apart : (t : ℕ) (up : Bool) (imm : ℕ) → Apart (literal t up imm)
literal_apart t up imm = when_apart _ _ refl

adr_apart : (d : ℕ) (up : Bool) (imm : ℕ) → Apart (adr d up imm)
adr_apart d up imm = when_apart _ _ refl

zero_branch_apart : (nonzero : Bool) (n offset : ℕ) → Apart (zero_branch nonzero n offset)
zero_branch_apart nonzero n offset = when_apart _ _ refl

jump_apart : (m : ℕ) → Apart (jump m)
jump_apart m = ok_apart _ refl

call_reg_apart : (m : ℕ) → Apart (call_reg m)
call_reg_apart m = ok_apart _ refl

it_apart : (first : Cond) (mask : ℕ) → Apart (it first mask)
it_apart first mask = when_apart _ _ refl

nothing_apart : (op : NothingOp) (option : ℕ) → Apart (nothing op option)
nothing_apart op option = when_apart _ _ refl

trap_apart : (imm : ℕ) → Apart (trap imm)
trap_apart imm = when_apart _ _ refl

ruleset aparts = (alu_apart, move_apart, test_apart, multi_apart, shift_by_apart, wide_apart, field_apart, unary_apart, mul_apart, mul_acc_apart, long_mul_apart, div_apart, access_apart, pair_apart, literal_apart, adr_apart, zero_branch_apart, jump_apart, call_reg_apart, it_apart, nothing_apart, trap_apart, err_apart, on_condition_apart, if_apart)

alu_row_apart : (op : AluOp) (s : Bool) (n d : ℕ) (x : Operand) → Apart (alu_row op s n d x)
unfolding alu_row
alu_row_apart op s n d x = search aparts

move_row_apart : (op : MoveOp) (s : Bool) (d : ℕ) (x : Operand) → Apart (move_row op s d x)
unfolding move_row
move_row_apart op s d x = search aparts

test_row_apart : (op : TestOp) (n : ℕ) (x : Operand) → Apart (test_row op n x)
unfolding test_row
test_row_apart op n x = search aparts

ruleset row_aparts = (alu_row_apart, move_row_apart, test_row_apart, err_apart, if_apart)

data_apart : (o : ℕ) (s : Bool) (n d : ℕ) (x : Operand) → Apart (data_processing o s n d x)
unfolding data_processing or_test or_move
data_apart zero s n d x = search row_aparts
data_apart (suc zero) s n d x = search row_aparts
data_apart (suc (suc zero)) s n d x = search row_aparts
data_apart (suc (suc (suc zero))) s n d x = search row_aparts
data_apart (suc (suc (suc (suc zero)))) s n d x = search row_aparts
data_apart (suc (suc (suc (suc (suc zero))))) s n d x = search row_aparts
data_apart (suc (suc (suc (suc (suc (suc zero)))))) s n d x = search row_aparts
data_apart (suc (suc (suc (suc (suc (suc (suc zero))))))) s n d x = search row_aparts
data_apart (suc (suc (suc (suc (suc (suc (suc (suc zero)))))))) s n d x = search row_aparts
data_apart (suc (suc (suc (suc (suc (suc (suc (suc (suc zero))))))))) s n d x = search row_aparts
data_apart (suc (suc (suc (suc (suc (suc (suc (suc (suc (suc zero)))))))))) s n d x = search row_aparts
data_apart (suc (suc (suc (suc (suc (suc (suc (suc (suc (suc (suc zero))))))))))) s n d x = search row_aparts
data_apart (suc (suc (suc (suc (suc (suc (suc (suc (suc (suc (suc (suc zero)))))))))))) s n d x = search row_aparts
data_apart (suc (suc (suc (suc (suc (suc (suc (suc (suc (suc (suc (suc (suc zero))))))))))))) s n d x = search row_aparts
data_apart (suc (suc (suc (suc (suc (suc (suc (suc (suc (suc (suc (suc (suc (suc zero)))))))))))))) s n d x = search row_aparts
data_apart (suc (suc (suc (suc (suc (suc (suc (suc (suc (suc (suc (suc (suc (suc (suc zero))))))))))))))) s n d x = search row_aparts
data_apart (suc (suc (suc (suc (suc (suc (suc (suc (suc (suc (suc (suc (suc (suc (suc (suc k)))))))))))))))) s n d x = search row_aparts

many_apart : (place : ItPlace) (load down back : Bool) (n list : ℕ) (pc : Bool) → Apart (many place load down back n list pc)
unfolding many
many_apart place load down back n list pc = search aparts

two_words_apart : (load : Bool) (t u n : ℕ) (up : Bool) (imm : ℕ) (index : PairIndex) (back : Bool) → Apart (two_words load t u n up imm index back)
unfolding two_words
two_words_apart load t u n up imm index back = search aparts

exclusive_apart : (u l t s i : ℕ) → Apart (exclusive u l t s i)
unfolding exclusive
exclusive_apart u l t s i = search aparts

dual_apart : (p u w l n t s i : ℕ) → Apart (dual p u w l n t s i)
unfolding dual
dual_apart p u w l n t s i = search (two_words_apart, exclusive_apart, if_apart)

wide_row_apart : (op : WideOp) (up : Bool) (n d imm : ℕ) → Apart (wide_row op up n d imm)
unfolding wide_row
wide_row_apart op up n d imm = search aparts

extract_apart : (op : FieldOp) (n d lsb w : ℕ) → Apart (extract op n d lsb w)
unfolding extract
extract_apart op n d lsb w = search aparts

insert_apart : (n d lsb w : ℕ) → Apart (insert n d lsb w)
unfolding insert
insert_apart n d lsb w = search aparts depth 7

access_row_apart : (op : AccessOp) (t n : ℕ) (place : Place) (back : Bool) → Apart (access_row op t n place back)
unfolding access_row
access_row_apart op t n place back = search aparts

by_byte_apart : (p u w : ℕ) (op : AccessOp) (n t i : ℕ) → Apart (by_byte p u w op n t i)
unfolding by_byte
by_byte_apart p u w op n t i = search (access_row_apart, err_apart, if_apart)

by_register_apart : (op : AccessOp) (n t shift m : ℕ) → Apart (by_register op n t shift m)
unfolding by_register
by_register_apart op n t shift m = search aparts

product_apart : (n a d m : ℕ) → Apart (product n a d m)
unfolding product
product_apart n a d m = search aparts depth 7

on_access_apart : (o : Option (Option AccessOp)) (f : AccessOp → Answer) → ((op : AccessOp) → Apart (f op)) → Apart (on_access o f)
on_access_apart None f g = err_apart _
on_access_apart (Some None) f g = err_apart _
on_access_apart (Some (Some op)) f g = g op

-- what a place answers where the answer outside of IT blocks is an instruction with a number
pub record Taken (place : ItPlace) (a b : Answer) : Type 0 where
  pub taken : (i : Instr) → a ≡ Ok i → has_number i ≡ true → b ≡ (if is_taken place i then Ok i else Err Unpredictable)

apart_taken : (place : ItPlace) (a b : Answer) → Apart a → Taken place a b
apart_taken place a b f = record { taken = λ i e n. absurd (true≢false (sym n ∙ f.unnumbered i e)) }

if_taken : (place : ItPlace) (c : Bool) (x y u v : Answer) → Taken place x u → Taken place y v → Taken place (if c then x else y) (if c then u else v)
if_taken place true x y u v f g = f
if_taken place false x y u v f g = g

ok_taken : (place : ItPlace) (i : Instr) (b : Answer) → b ≡ (if is_taken place i then Ok i else Err Unpredictable) → Taken place (Ok i) b
ok_taken place i b f = record { taken = λ j e n. let k : i ≡ j = cc in subst (λ (x : Instr). b ≡ (if is_taken place x then Ok x else Err Unpredictable)) k f }

-- a row that refuses where the place does not take the instruction
when_taken : (place : ItPlace) (takes refuses : Bool) (i : Instr) → is_taken place i ≡ not refuses → Taken place (when takes i) (if refuses then Err Unpredictable else when takes i)
when_taken place false refuses i e = apart_taken place (Err Unpredictable) _ (err_apart Unpredictable)
when_taken place true true i e = ok_taken place i (Err Unpredictable) (ap (λ (b : Bool). if b then Ok i else Err Unpredictable) (sym e))
when_taken place true false i e = ok_taken place i (Ok i) (ap (λ (b : Bool). if b then Ok i else Err Unpredictable) (sym e))

refused_taken : (place : ItPlace) (c : Bool) (k : BadInstr) (x y : Answer) → Taken place x y → Taken place (if c then Err k else x) (if c then Err k else y)
refused_taken place c k x y t = if_taken place c (Err k) x (Err k) y (apart_taken place _ _ (err_apart k)) t

half_taken : (place : ItPlace) (top : Bool) (d imm : ℕ) → Taken place (half top d imm) (half top d imm)
half_taken place top d imm = ok_taken place _ _ refl

not_not : (b : Bool) → b ≡ not (not b)
not_not true = refl
not_not false = refl

-- B without a condition, and BL
branch_taken : (place : ItPlace) (offset : ℤ) → Taken place (branch Al offset) (if is_inside place then Err Unpredictable else branch Al offset)
branch_taken place offset = when_taken place _ (is_inside place) (instr.Branch (record { cond = Al; offset = offset })) refl

call_taken : (place : ItPlace) (offset : ℤ) → Taken place (call offset) (if is_inside place then Err Unpredictable else call offset)
call_taken place offset = when_taken place _ (is_inside place) (instr.Call (record { offset = offset })) refl

-- B with a condition
conditional : (place : ItPlace) (c : Cond) (offset : ℤ) → is_taken place (instr.Branch (record { cond = c; offset = offset })) ≡ is_outside place
    → Taken place (branch c offset) (if not (is_outside place) then Err Unpredictable else branch c offset)
conditional place c offset e = when_taken place _ (not (is_outside place)) (instr.Branch (record { cond = c; offset = offset })) (e ∙ not_not (is_outside place))

by_condition : (place : ItPlace) (c : ℕ) (offset : ℤ) → (c == 14) ≡ false
    → Taken place (on_condition (slice_get conditions c) (λ cond. branch cond offset)) (if not (is_outside place) then Err Unpredictable else on_condition (slice_get conditions c) (λ cond. branch cond offset))
by_condition place zero offset other = conditional place _ offset refl
by_condition place (suc zero) offset other = conditional place _ offset refl
by_condition place (suc (suc zero)) offset other = conditional place _ offset refl
by_condition place (suc (suc (suc zero))) offset other = conditional place _ offset refl
by_condition place (suc (suc (suc (suc zero)))) offset other = conditional place _ offset refl
by_condition place (suc (suc (suc (suc (suc zero))))) offset other = conditional place _ offset refl
by_condition place (suc (suc (suc (suc (suc (suc zero)))))) offset other = conditional place _ offset refl
by_condition place (suc (suc (suc (suc (suc (suc (suc zero))))))) offset other = conditional place _ offset refl
by_condition place (suc (suc (suc (suc (suc (suc (suc (suc zero)))))))) offset other = conditional place _ offset refl
by_condition place (suc (suc (suc (suc (suc (suc (suc (suc (suc zero))))))))) offset other = conditional place _ offset refl
by_condition place (suc (suc (suc (suc (suc (suc (suc (suc (suc (suc zero)))))))))) offset other = conditional place _ offset refl
by_condition place (suc (suc (suc (suc (suc (suc (suc (suc (suc (suc (suc zero))))))))))) offset other = conditional place _ offset refl
by_condition place (suc (suc (suc (suc (suc (suc (suc (suc (suc (suc (suc (suc zero)))))))))))) offset other = conditional place _ offset refl
by_condition place (suc (suc (suc (suc (suc (suc (suc (suc (suc (suc (suc (suc (suc zero))))))))))))) offset other = conditional place _ offset refl
by_condition place (suc (suc (suc (suc (suc (suc (suc (suc (suc (suc (suc (suc (suc (suc zero)))))))))))))) offset other = (cc)
by_condition place (suc (suc (suc (suc (suc (suc (suc (suc (suc (suc (suc (suc (suc (suc (suc k))))))))))))))) offset other = apart_taken place _ _ (err_apart Unpredictable)

below_14 : (c : ℕ) → nat_lt c 14 ≡ true → (c == 14) ≡ false
below_14 c low = grind (arith, nat_tests)

short_branch_taken : (place : ItPlace) (c i : ℕ) → Taken place (short_branch Outside c i) (short_branch place c i)
short_branch_taken place c i = go (c == 14) refl
  where
    go : (b : Bool) → (c == 14) ≡ b → Taken place (if b then trap i else (if c == 15 then Err SupervisorCall else on_condition (slice_get conditions c) (λ cond. branch cond (signed 9 (2 * i)))))
        (if b then trap i else (if c == 15 then Err SupervisorCall else (if not (is_outside place) then Err Unpredictable else on_condition (slice_get conditions c) (λ cond. branch cond (signed 9 (2 * i))))))
    go true e = apart_taken place (trap i) (trap i) (trap_apart i)
    go false e = refused_taken place (c == 15) SupervisorCall _ _ (by_condition place c (signed 9 (2 * i)) e)

on_condition_branch_taken : (place : ItPlace) (c offset : ℕ) → Taken place (on_condition_branch Outside c offset) (on_condition_branch place c offset)
unfolding on_condition_branch
on_condition_branch_taken place c offset = go (nat_lt c 14) refl
  where
    go : (b : Bool) → nat_lt c 14 ≡ b → Taken place (if b then on_condition (slice_get conditions c) (λ cond. branch cond (signed 21 offset)) else Err Unknown)
        (if b then (if not (is_outside place) then Err Unpredictable else on_condition (slice_get conditions c) (λ cond. branch cond (signed 21 offset))) else Err Unknown)
    go true e = by_condition place c (signed 21 offset) (below_14 c e)
    go false e = apart_taken place (Err Unknown) (Err Unknown) (err_apart Unknown)

-- rows

abbrev FillTaken : ItPlace → (ps : List Bits) → Made ps → Made ps → Type 0
FillTaken place [] a b = Taken place a b
FillTaken place (Fixed w v ∷ ps) f g = FillTaken place ps f g
FillTaken place (Field w ∷ ps) f g = (k : ℕ) → FillTaken place ps (f k) (g k)

filled_taken : (place : ItPlace) (ps : List Bits) (f g : Made ps) (top h : ℕ) → FillTaken place ps f g → Taken place (filled_in ps f top h) (filled_in ps g top h)
filled_taken place [] a b top h t = t
filled_taken place (Fixed w v ∷ ps) f g top h t = filled_taken place ps f g (top - w) h t
filled_taken place (Field w ∷ ps) f g top h t = filled_taken place ps (f (cut h top w)) (g (cut h top w)) (top - w) h (t (cut h top w))

data AllTaken (place : ItPlace) : List Row → List Row → Type 0 where
  none : AllTaken place [] []
  row : (ps : List Bits) (f g : Made ps) (rows others : List Row) → FillTaken place ps f g → AllTaken place rows others → AllTaken place (record { pattern = ps; means = f } ∷ rows) (record { pattern = ps; means = g } ∷ others)

infixr 4 ◌&◌
-- one row, and the rows behind it
◌&◌ : {place : ItPlace} {ps : List Bits} {f g : Made ps} {rows others : List Row} → FillTaken place ps f g → AllTaken place rows others → AllTaken place (record { pattern = ps; means = f } ∷ rows) (record { pattern = ps; means = g } ∷ others)
t & more = row _ _ _ _ _ t more

decoded_taken : (place : ItPlace) (size h : ℕ) (rows others : List Row) → AllTaken place rows others → Taken place (decoded size rows h) (decoded size others h)
decoded_taken place size h _ _ none = apart_taken place _ _ (err_apart _)
decoded_taken place size h _ _ (row ps f g rows others t more) = if_taken place (fits ps size h) _ _ _ _ (filled_taken place ps f g size h t) (decoded_taken place size h rows others more)

half_taken_rows : (place : ItPlace) → AllTaken place (half_rows Outside) (half_rows place)
unfolding half_rows
half_taken_rows place =
    (λ i m d. search (branch_taken, short_branch_taken, apart_taken, aparts))
    & (λ i m d. search (branch_taken, short_branch_taken, apart_taken, aparts))
    & (λ i m d. search (branch_taken, short_branch_taken, apart_taken, aparts))
    & (λ m n d. search (branch_taken, short_branch_taken, apart_taken, aparts))
    & (λ m n d. search (branch_taken, short_branch_taken, apart_taken, aparts))
    & (λ i n d. search (branch_taken, short_branch_taken, apart_taken, aparts))
    & (λ i n d. search (branch_taken, short_branch_taken, apart_taken, aparts))
    & (λ d i. search (branch_taken, short_branch_taken, apart_taken, aparts))
    & (λ n i. search (branch_taken, short_branch_taken, apart_taken, aparts))
    & (λ d i. search (branch_taken, short_branch_taken, apart_taken, aparts))
    & (λ d i. search (branch_taken, short_branch_taken, apart_taken, aparts))
    & (λ m d. search (branch_taken, short_branch_taken, apart_taken, aparts))
    & (λ m d. search (branch_taken, short_branch_taken, apart_taken, aparts))
    & (λ m d. search (branch_taken, short_branch_taken, apart_taken, aparts))
    & (λ m d. search (branch_taken, short_branch_taken, apart_taken, aparts))
    & (λ m d. search (branch_taken, short_branch_taken, apart_taken, aparts))
    & (λ m d. search (branch_taken, short_branch_taken, apart_taken, aparts))
    & (λ m d. search (branch_taken, short_branch_taken, apart_taken, aparts))
    & (λ m d. search (branch_taken, short_branch_taken, apart_taken, aparts))
    & (λ m d. search (branch_taken, short_branch_taken, apart_taken, aparts))
    & (λ m d. search (branch_taken, short_branch_taken, apart_taken, aparts))
    & (λ m d. search (branch_taken, short_branch_taken, apart_taken, aparts))
    & (λ m d. search (branch_taken, short_branch_taken, apart_taken, aparts))
    & (λ m d. search (branch_taken, short_branch_taken, apart_taken, aparts))
    & (λ m d. search (branch_taken, short_branch_taken, apart_taken, aparts))
    & (λ m d. search (branch_taken, short_branch_taken, apart_taken, aparts))
    & (λ m d. search (branch_taken, short_branch_taken, apart_taken, aparts))
    & (λ high m low. search (branch_taken, short_branch_taken, apart_taken, aparts))
    & (λ high m low. search (branch_taken, short_branch_taken, apart_taken, aparts))
    & (λ high m low. search (branch_taken, short_branch_taken, apart_taken, aparts))
    & (λ m. search (branch_taken, short_branch_taken, apart_taken, aparts))
    & (λ m. search (branch_taken, short_branch_taken, apart_taken, aparts))
    & (λ t i. search (branch_taken, short_branch_taken, apart_taken, aparts))
    & (λ m n t. search (branch_taken, short_branch_taken, apart_taken, aparts))
    & (λ m n t. search (branch_taken, short_branch_taken, apart_taken, aparts))
    & (λ m n t. search (branch_taken, short_branch_taken, apart_taken, aparts))
    & (λ m n t. search (branch_taken, short_branch_taken, apart_taken, aparts))
    & (λ m n t. search (branch_taken, short_branch_taken, apart_taken, aparts))
    & (λ m n t. search (branch_taken, short_branch_taken, apart_taken, aparts))
    & (λ m n t. search (branch_taken, short_branch_taken, apart_taken, aparts))
    & (λ m n t. search (branch_taken, short_branch_taken, apart_taken, aparts))
    & (λ i n t. search (branch_taken, short_branch_taken, apart_taken, aparts))
    & (λ i n t. search (branch_taken, short_branch_taken, apart_taken, aparts))
    & (λ i n t. search (branch_taken, short_branch_taken, apart_taken, aparts))
    & (λ i n t. search (branch_taken, short_branch_taken, apart_taken, aparts))
    & (λ i n t. search (branch_taken, short_branch_taken, apart_taken, aparts))
    & (λ i n t. search (branch_taken, short_branch_taken, apart_taken, aparts))
    & (λ t i. search (branch_taken, short_branch_taken, apart_taken, aparts))
    & (λ t i. search (branch_taken, short_branch_taken, apart_taken, aparts))
    & (λ d i. search (branch_taken, short_branch_taken, apart_taken, aparts))
    & (λ d i. search (branch_taken, short_branch_taken, apart_taken, aparts))
    & (λ i. search (branch_taken, short_branch_taken, apart_taken, aparts))
    & (λ i. search (branch_taken, short_branch_taken, apart_taken, aparts))
    & (λ o i6 i n. search (branch_taken, short_branch_taken, apart_taken, aparts))
    & (λ m d. search (branch_taken, short_branch_taken, apart_taken, aparts))
    & (λ m d. search (branch_taken, short_branch_taken, apart_taken, aparts))
    & (λ m d. search (branch_taken, short_branch_taken, apart_taken, aparts))
    & (λ m d. search (branch_taken, short_branch_taken, apart_taken, aparts))
    & (λ lr list. search (branch_taken, short_branch_taken, apart_taken, aparts))
    & (λ pc list. search (branch_taken, short_branch_taken, apart_taken, aparts))
    & (λ m d. search (branch_taken, short_branch_taken, apart_taken, aparts))
    & (λ m d. search (branch_taken, short_branch_taken, apart_taken, aparts))
    & (λ m d. search (branch_taken, short_branch_taken, apart_taken, aparts))
    & (λ c mask. search (branch_taken, short_branch_taken, apart_taken, aparts))
    & (λ i. search (branch_taken, short_branch_taken, apart_taken, aparts))
    & (λ i. search (branch_taken, short_branch_taken, apart_taken, aparts))
    & (λ n list. search (branch_taken, short_branch_taken, apart_taken, aparts))
    & (λ n list. search (branch_taken, short_branch_taken, apart_taken, aparts))
    & (λ c i. search (branch_taken, short_branch_taken, apart_taken, aparts))
    & (λ i. search (branch_taken, short_branch_taken, apart_taken, aparts))
    & none

ruleset fulls = (many_apart, dual_apart, data_apart, wide_row_apart, extract_apart, insert_apart, access_row_apart, by_byte_apart, by_register_apart, product_apart, on_access_apart)

full_taken_rows : (place : ItPlace) → AllTaken place (full_rows Outside) (full_rows place)
unfolding full_rows
full_taken_rows place =
    (λ w l n pc lr list. search (half_taken, refused_taken, branch_taken, call_taken, on_condition_branch_taken, apart_taken, fulls, aparts))
    & (λ w l n pc lr list. search (half_taken, refused_taken, branch_taken, call_taken, on_condition_branch_taken, apart_taken, fulls, aparts))
    & (λ p u w l n t s i. search (half_taken, refused_taken, branch_taken, call_taken, on_condition_branch_taken, apart_taken, fulls, aparts))
    & (λ o s n i3 d i2 k m. search (half_taken, refused_taken, branch_taken, call_taken, on_condition_branch_taken, apart_taken, fulls, aparts))
    & (λ i o s n i3 d i8. search (half_taken, refused_taken, branch_taken, call_taken, on_condition_branch_taken, apart_taken, fulls, aparts))
    & (λ i n i3 d i8. search (half_taken, refused_taken, branch_taken, call_taken, on_condition_branch_taken, apart_taken, fulls, aparts))
    & (λ i n i3 d i8. search (half_taken, refused_taken, branch_taken, call_taken, on_condition_branch_taken, apart_taken, fulls, aparts))
    & (λ i i4 i3 d i8. search (half_taken, refused_taken, branch_taken, call_taken, on_condition_branch_taken, apart_taken, fulls, aparts))
    & (λ i i4 i3 d i8. search (half_taken, refused_taken, branch_taken, call_taken, on_condition_branch_taken, apart_taken, fulls, aparts))
    & (λ n i3 d i2 w. search (half_taken, refused_taken, branch_taken, call_taken, on_condition_branch_taken, apart_taken, fulls, aparts))
    & (λ n i3 d i2 w. search (half_taken, refused_taken, branch_taken, call_taken, on_condition_branch_taken, apart_taken, fulls, aparts))
    & (λ n i3 d i2 w. search (half_taken, refused_taken, branch_taken, call_taken, on_condition_branch_taken, apart_taken, fulls, aparts))
    & (λ s i10 j k i11. search (half_taken, refused_taken, branch_taken, call_taken, on_condition_branch_taken, apart_taken, fulls, aparts))
    & (λ s i10 j k i11. search (half_taken, refused_taken, branch_taken, call_taken, on_condition_branch_taken, apart_taken, fulls, aparts))
    & (search (half_taken, refused_taken, branch_taken, call_taken, on_condition_branch_taken, apart_taken, fulls, aparts))
    & (λ i. search (half_taken, refused_taken, branch_taken, call_taken, on_condition_branch_taken, apart_taken, fulls, aparts))
    & (λ option. search (half_taken, refused_taken, branch_taken, call_taken, on_condition_branch_taken, apart_taken, fulls, aparts))
    & (λ option. search (half_taken, refused_taken, branch_taken, call_taken, on_condition_branch_taken, apart_taken, fulls, aparts))
    & (λ option. search (half_taken, refused_taken, branch_taken, call_taken, on_condition_branch_taken, apart_taken, fulls, aparts))
    & (λ i. search (half_taken, refused_taken, branch_taken, call_taken, on_condition_branch_taken, apart_taken, fulls, aparts))
    & (λ n i. search (half_taken, refused_taken, branch_taken, call_taken, on_condition_branch_taken, apart_taken, fulls, aparts))
    & (λ i. search (half_taken, refused_taken, branch_taken, call_taken, on_condition_branch_taken, apart_taken, fulls, aparts))
    & (λ s c i6 j k i11. search (half_taken, refused_taken, branch_taken, call_taken, on_condition_branch_taken, apart_taken, fulls, aparts))
    & (λ u t i. search (half_taken, refused_taken, branch_taken, call_taken, on_condition_branch_taken, apart_taken, fulls, aparts))
    & (search (half_taken, refused_taken, branch_taken, call_taken, on_condition_branch_taken, apart_taken, fulls, aparts))
    & (λ g z l n t i. search (half_taken, refused_taken, branch_taken, call_taken, on_condition_branch_taken, apart_taken, fulls, aparts))
    & (λ g z l n t p u w i. search (half_taken, refused_taken, branch_taken, call_taken, on_condition_branch_taken, apart_taken, fulls, aparts))
    & (λ g z l n t shift m. search (half_taken, refused_taken, branch_taken, call_taken, on_condition_branch_taken, apart_taken, fulls, aparts))
    & (λ k s n d m. search (half_taken, refused_taken, branch_taken, call_taken, on_condition_branch_taken, apart_taken, fulls, aparts))
    & (λ d r m. search (half_taken, refused_taken, branch_taken, call_taken, on_condition_branch_taken, apart_taken, fulls, aparts))
    & (λ d r m. search (half_taken, refused_taken, branch_taken, call_taken, on_condition_branch_taken, apart_taken, fulls, aparts))
    & (λ d r m. search (half_taken, refused_taken, branch_taken, call_taken, on_condition_branch_taken, apart_taken, fulls, aparts))
    & (λ d r m. search (half_taken, refused_taken, branch_taken, call_taken, on_condition_branch_taken, apart_taken, fulls, aparts))
    & (λ n d m. search (half_taken, refused_taken, branch_taken, call_taken, on_condition_branch_taken, apart_taken, fulls, aparts))
    & (λ n d m. search (half_taken, refused_taken, branch_taken, call_taken, on_condition_branch_taken, apart_taken, fulls, aparts))
    & (λ n d m. search (half_taken, refused_taken, branch_taken, call_taken, on_condition_branch_taken, apart_taken, fulls, aparts))
    & (λ n d m. search (half_taken, refused_taken, branch_taken, call_taken, on_condition_branch_taken, apart_taken, fulls, aparts))
    & (λ n d m. search (half_taken, refused_taken, branch_taken, call_taken, on_condition_branch_taken, apart_taken, fulls, aparts))
    & (λ n a d m. search (half_taken, refused_taken, branch_taken, call_taken, on_condition_branch_taken, apart_taken, fulls, aparts))
    & (λ n a d m. search (half_taken, refused_taken, branch_taken, call_taken, on_condition_branch_taken, apart_taken, fulls, aparts))
    & (λ n lo hi m. search (half_taken, refused_taken, branch_taken, call_taken, on_condition_branch_taken, apart_taken, fulls, aparts))
    & (λ n lo hi m. search (half_taken, refused_taken, branch_taken, call_taken, on_condition_branch_taken, apart_taken, fulls, aparts))
    & (λ n lo hi m. search (half_taken, refused_taken, branch_taken, call_taken, on_condition_branch_taken, apart_taken, fulls, aparts))
    & (λ n lo hi m. search (half_taken, refused_taken, branch_taken, call_taken, on_condition_branch_taken, apart_taken, fulls, aparts))
    & (λ n d m. search (half_taken, refused_taken, branch_taken, call_taken, on_condition_branch_taken, apart_taken, fulls, aparts))
    & (λ n d m. search (half_taken, refused_taken, branch_taken, call_taken, on_condition_branch_taken, apart_taken, fulls, aparts))
    & none

pub answers_taken : (place : ItPlace) (wide : Bool) (first second : ℕ)
    → Taken place (if wide then decoded 32 (full_rows Outside) (first * 2 ^ 16 + second) else decoded 16 (half_rows Outside) first) (if wide then decoded 32 (full_rows place) (first * 2 ^ 16 + second) else decoded 16 (half_rows place) first)
answers_taken place true first second = decoded_taken place 32 (first * 2 ^ 16 + second) (full_rows Outside) (full_rows place) (full_taken_rows place)
answers_taken place false first second = decoded_taken place 16 first (half_rows Outside) (half_rows place) (half_taken_rows place)

-- another number

renumbered_has : (n : ℕ) (i : Instr) → has_number (renumbered n i) ≡ has_number i
renumbered_has n (instr.Half i) = refl
renumbered_has n (instr.Branch i) = refl
renumbered_has n (instr.Call i) = refl
renumbered_has n i = refl

renumbered_taken : (place : ItPlace) (n : ℕ) (i : Instr) → is_taken place (renumbered n i) ≡ is_taken place i
renumbered_taken place n (instr.Half i) = refl
renumbered_taken place n (instr.Branch i) = refl
renumbered_taken place n (instr.Call i) = refl
renumbered_taken place n i = refl

carried : (takes : Bool) (i j : Instr) (n : ℕ) (x y : Answer) → x ≡ (if takes then Ok i else Err Unpredictable) → y ≡ (if takes then Ok (renumbered n i) else Err Unpredictable) → x ≡ Ok j → y ≡ Ok (renumbered n j)
carried true i j n x y a b e = let same : i ≡ j = cc in subst (λ (v : Instr). y ≡ Ok (renumbered n v)) same b
carried false i j n x y a b e = (cc)

pub renumbers : (place : ItPlace) (first second other another n : ℕ) (i j : Instr) → decode Outside first second ≡ Ok i → has_number i ≡ true
    → decode place first second ≡ Ok j → decode Outside other another ≡ Ok (renumbered n i) → decode place other another ≡ Ok (renumbered n j)
renumbers place first second other another n i j e has here there =
    let old = (answers_taken place (is_wide first) first second).taken i e has in
    let new : decode place other another ≡ (if is_taken place (renumbered n i) then Ok (renumbered n i) else Err Unpredictable) = (answers_taken place (is_wide other) other another).taken (renumbered n i) there (renumbered_has n i ∙ has) in
    carried (is_taken place i) i j n (decode place first second) (decode place other another) old
    (new ∙ ap (λ (b : Bool). if b then Ok (renumbered n i) else Err Unpredictable) (renumbered_taken place n i)) here
