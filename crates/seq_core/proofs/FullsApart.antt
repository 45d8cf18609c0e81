-- What the rows of two halfwords give of bases and of sp.
use Rattle.std.proofs.Common.{◌≡◌, ◌<◌, ◌^◌, ℕ, zero, suc, Bool, true, false, Option, Some, None, refl, arith}
use Rattle.std.proofs.lemmas.Bool.Decides.{nat_tests}
use Rattle.thumb_instr.specs.declared.operations.AluOp.{AluOp}
use Rattle.thumb_instr.specs.declared.operations.MoveOp.{MoveOp}
use Rattle.thumb_instr.specs.declared.operations.TestOp.{TestOp}
use Rattle.thumb_instr.specs.declared.operations.WideOp.{WideOp}
use Rattle.thumb_instr.specs.declared.operations.FieldOp.{FieldOp}
use Rattle.thumb_instr.specs.declared.operations.AccessOp.{AccessOp}
use Rattle.thumb_instr.specs.declared.operands.Operand.{Operand}
use Rattle.thumb_instr.specs.declared.operands.Operand.TheVariants.{Imm, Reg}
use Rattle.thumb_instr.specs.declared.places.Place.{Place}
use Rattle.thumb_instr.specs.declared.places.PairIndex.{PairIndex}
use Rattle.thumb_instr.specs.declared.refusals.ItPlace.{ItPlace}
use Rattle.thumb_instr.specs.Operands.{has}
use Rattle.thumb_instr.specs.Sets.{moves_base, moves_pair_base}
use Rattle.thumb_instr.specs.Patterns.{Answer}
use Rattle.thumb_instr.specs.DataRows.{names, has_odd_sp, alu_row, move_row, test_row, or_test, or_move, data_processing}
use Rattle.thumb_instr.specs.FullRows.{many, two_words, exclusive, dual, wide_row, extract, insert, on_condition_branch, on_access, access_row, by_byte, by_register, product, full_rows}
use Rattle.seq_core.specs.Accepted.{place_names_stack, place_moves_by_byte, place_reaches}
use Rattle.std.specs.Prelude.{nat_lt}
use Rattle.seq_core.proofs.RowsApart.{AllApart, ◌&◌, tells, if_tells}

-- data processing

alu_row_tells : (op : AluOp) (s : Bool) (n d : ℕ) (x : Operand) → tells (alu_row op s n d x) ≡ true
unfolding alu_row has_odd_sp names
alu_row_tells op s n d (Imm i) = grind (arith, nat_tests)
alu_row_tells op s n d (Reg m kind amount) = grind (arith, nat_tests)

move_row_tells : (op : MoveOp) (s : Bool) (d : ℕ) (x : Operand) → tells (move_row op s d x) ≡ true
unfolding move_row names
move_row_tells op s d (Imm i) = grind (arith, nat_tests)
move_row_tells op s d (Reg m kind amount) = grind (arith, nat_tests)

test_row_tells : (op : TestOp) (n : ℕ) (x : Operand) → tells (test_row op n x) ≡ true
unfolding test_row names
test_row_tells op n (Imm i) = grind (arith, nat_tests)
test_row_tells op n (Reg m kind amount) = grind (arith, nat_tests)

data_tells : (o : ℕ) (s : Bool) (n d : ℕ) (x : Operand) → tells (data_processing o s n d x) ≡ true
unfolding data_processing or_test or_move
data_tells zero s n d x = grind (arith, alu_row_tells, move_row_tells, test_row_tells)
data_tells (suc zero) s n d x = grind (arith, alu_row_tells, move_row_tells, test_row_tells)
data_tells (suc (suc zero)) s n d x = grind (arith, alu_row_tells, move_row_tells, test_row_tells)
data_tells (suc (suc (suc zero))) s n d x = grind (arith, alu_row_tells, move_row_tells, test_row_tells)
data_tells (suc (suc (suc (suc zero)))) s n d x = grind (arith, alu_row_tells, move_row_tells, test_row_tells)
data_tells (suc (suc (suc (suc (suc zero))))) s n d x = grind (arith, alu_row_tells, move_row_tells, test_row_tells)
data_tells (suc (suc (suc (suc (suc (suc zero)))))) s n d x = grind (arith, alu_row_tells, move_row_tells, test_row_tells)
data_tells (suc (suc (suc (suc (suc (suc (suc zero))))))) s n d x = grind (arith, alu_row_tells, move_row_tells, test_row_tells)
data_tells (suc (suc (suc (suc (suc (suc (suc (suc zero)))))))) s n d x = grind (arith, alu_row_tells, move_row_tells, test_row_tells)
data_tells (suc (suc (suc (suc (suc (suc (suc (suc (suc zero))))))))) s n d x = grind (arith, alu_row_tells, move_row_tells, test_row_tells)
data_tells (suc (suc (suc (suc (suc (suc (suc (suc (suc (suc zero)))))))))) s n d x = grind (arith, alu_row_tells, move_row_tells, test_row_tells)
data_tells (suc (suc (suc (suc (suc (suc (suc (suc (suc (suc (suc zero))))))))))) s n d x = grind (arith, alu_row_tells, move_row_tells, test_row_tells)
data_tells (suc (suc (suc (suc (suc (suc (suc (suc (suc (suc (suc (suc zero)))))))))))) s n d x = grind (arith, alu_row_tells, move_row_tells, test_row_tells)
data_tells (suc (suc (suc (suc (suc (suc (suc (suc (suc (suc (suc (suc (suc zero))))))))))))) s n d x = grind (arith, alu_row_tells, move_row_tells, test_row_tells)
data_tells (suc (suc (suc (suc (suc (suc (suc (suc (suc (suc (suc (suc (suc (suc zero)))))))))))))) s n d x = grind (arith, alu_row_tells, move_row_tells, test_row_tells)
data_tells (suc (suc (suc (suc (suc (suc (suc (suc (suc (suc (suc (suc (suc (suc (suc zero))))))))))))))) s n d x = grind (arith, alu_row_tells, move_row_tells, test_row_tells)
data_tells (suc (suc (suc (suc (suc (suc (suc (suc (suc (suc (suc (suc (suc (suc (suc (suc k)))))))))))))))) s n d x = refl

-- loads and stores

many_tells : (place : ItPlace) (load down back : Bool) (n list : ℕ) (pc : Bool) → tells (many place load down back n list pc) ≡ true
unfolding many
many_tells place load down back n list pc = grind (arith, nat_tests)

two_words_tells : (load : Bool) (t u n : ℕ) (up : Bool) (imm : ℕ) (index : PairIndex) (back : Bool) → moves_pair_base index ≡ back → tells (two_words load t u n up imm index back) ≡ true
unfolding two_words
two_words_tells load t u n up imm index back e = grind (arith, nat_tests)

exclusive_tells : (u l t s i : ℕ) → tells (exclusive u l t s i) ≡ true
unfolding exclusive
exclusive_tells u l t s i = grind arith

dual_tells : (p u w l n t s i : ℕ) → tells (dual p u w l n t s i) ≡ true
unfolding dual
dual_tells p u w l n t s i = search (two_words_tells, exclusive_tells, if_tells)

access_row_tells : (op : AccessOp) (t n : ℕ) (place : Place) (back : Bool) → moves_base place ≡ back → place_names_stack place ≡ false → place_moves_by_byte place ≡ true → place_reaches place ≡ true → tells (access_row op t n place back) ≡ true
unfolding access_row
access_row_tells op t n place back e f g r = grind (arith, nat_tests)

by_byte_tells : (p u w : ℕ) (op : AccessOp) (n t i : ℕ) → i < 2 ^ 8 → tells (by_byte p u w op n t i) ≡ true
unfolding by_byte
by_byte_tells p u w op n t i low = let byte : nat_lt i 256 ≡ true = grind (arith, nat_tests) in search (byte, access_row_tells, if_tells)

by_register_tells : (op : AccessOp) (n t shift m : ℕ) → tells (by_register op n t shift m) ≡ true
unfolding by_register
by_register_tells op n t shift m = grind (arith, nat_tests)

on_access_tells : (o : Option (Option AccessOp)) (f : AccessOp → Answer) → ((op : AccessOp) → tells (f op) ≡ true) → tells (on_access o f) ≡ true
on_access_tells None f g = refl
on_access_tells (Some None) f g = refl
on_access_tells (Some (Some op)) f g = g op

-- the others

wide_row_tells : (op : WideOp) (up : Bool) (n d imm : ℕ) → tells (wide_row op up n d imm) ≡ true
unfolding wide_row
wide_row_tells op up n d imm = grind (arith, nat_tests)

extract_tells : (op : FieldOp) (n d lsb w : ℕ) → tells (extract op n d lsb w) ≡ true
unfolding extract
extract_tells op n d lsb w = grind (arith, nat_tests)

insert_tells : (n d lsb w : ℕ) → tells (insert n d lsb w) ≡ true
unfolding insert
insert_tells n d lsb w = grind (arith, nat_tests)

branch_tells : (place : ItPlace) (c offset : ℕ) → tells (on_condition_branch place c offset) ≡ true
unfolding on_condition_branch
branch_tells place c offset = grind (arith, nat_tests)

product_tells : (n a d m : ℕ) → tells (product n a d m) ≡ true
unfolding product
product_tells n a d m = grind (arith, nat_tests)

-- pc alone
lacks_link : has 0 14 ≡ false
unfolding has
lacks_link = refl

pub full_apart : (place : ItPlace) → AllApart (full_rows place)
unfolding full_rows
full_apart place =
    (λ w w-fits l l-fits n n-fits pc pc-fits lr lr-fits list list-fits. grind (arith, nat_tests, many_tells, dual_tells, data_tells, wide_row_tells, extract_tells, insert_tells, branch_tells, on_access_tells, by_byte_tells, by_register_tells, access_row_tells, product_tells))
    & (λ w w-fits l l-fits n n-fits pc pc-fits lr lr-fits list list-fits. grind (arith, nat_tests, many_tells, dual_tells, data_tells, wide_row_tells, extract_tells, insert_tells, branch_tells, on_access_tells, by_byte_tells, by_register_tells, access_row_tells, product_tells))
    & (λ p p-fits u u-fits w w-fits l l-fits n n-fits t t-fits s s-fits i i-fits. grind (arith, nat_tests, many_tells, dual_tells, data_tells, wide_row_tells, extract_tells, insert_tells, branch_tells, on_access_tells, by_byte_tells, by_register_tells, access_row_tells, product_tells))
    & (λ o o-fits s s-fits n n-fits i3 i3-fits d d-fits i2 i2-fits k k-fits m m-fits. grind (arith, nat_tests, many_tells, dual_tells, data_tells, wide_row_tells, extract_tells, insert_tells, branch_tells, on_access_tells, by_byte_tells, by_register_tells, access_row_tells, product_tells))
    & (λ i i-fits o o-fits s s-fits n n-fits i3 i3-fits d d-fits i8 i8-fits. grind (arith, nat_tests, many_tells, dual_tells, data_tells, wide_row_tells, extract_tells, insert_tells, branch_tells, on_access_tells, by_byte_tells, by_register_tells, access_row_tells, product_tells))
    & (λ i i-fits n n-fits i3 i3-fits d d-fits i8 i8-fits. grind (arith, nat_tests, many_tells, dual_tells, data_tells, wide_row_tells, extract_tells, insert_tells, branch_tells, on_access_tells, by_byte_tells, by_register_tells, access_row_tells, product_tells))
    & (λ i i-fits n n-fits i3 i3-fits d d-fits i8 i8-fits. grind (arith, nat_tests, many_tells, dual_tells, data_tells, wide_row_tells, extract_tells, insert_tells, branch_tells, on_access_tells, by_byte_tells, by_register_tells, access_row_tells, product_tells))
    & (λ i i-fits i4 i4-fits i3 i3-fits d d-fits i8 i8-fits. grind (arith, nat_tests, many_tells, dual_tells, data_tells, wide_row_tells, extract_tells, insert_tells, branch_tells, on_access_tells, by_byte_tells, by_register_tells, access_row_tells, product_tells))
    & (λ i i-fits i4 i4-fits i3 i3-fits d d-fits i8 i8-fits. grind (arith, nat_tests, many_tells, dual_tells, data_tells, wide_row_tells, extract_tells, insert_tells, branch_tells, on_access_tells, by_byte_tells, by_register_tells, access_row_tells, product_tells))
    & (λ n n-fits i3 i3-fits d d-fits i2 i2-fits w w-fits. grind (arith, nat_tests, many_tells, dual_tells, data_tells, wide_row_tells, extract_tells, insert_tells, branch_tells, on_access_tells, by_byte_tells, by_register_tells, access_row_tells, product_tells))
    & (λ n n-fits i3 i3-fits d d-fits i2 i2-fits w w-fits. grind (arith, nat_tests, many_tells, dual_tells, data_tells, wide_row_tells, extract_tells, insert_tells, branch_tells, on_access_tells, by_byte_tells, by_register_tells, access_row_tells, product_tells))
    & (λ n n-fits i3 i3-fits d d-fits i2 i2-fits w w-fits. grind (arith, nat_tests, many_tells, dual_tells, data_tells, wide_row_tells, extract_tells, insert_tells, branch_tells, on_access_tells, by_byte_tells, by_register_tells, access_row_tells, product_tells))
    & (λ s s-fits i10 i10-fits j j-fits k k-fits i11 i11-fits. grind (arith, nat_tests, many_tells, dual_tells, data_tells, wide_row_tells, extract_tells, insert_tells, branch_tells, on_access_tells, by_byte_tells, by_register_tells, access_row_tells, product_tells))
    & (λ s s-fits i10 i10-fits j j-fits k k-fits i11 i11-fits. grind (arith, nat_tests, many_tells, dual_tells, data_tells, wide_row_tells, extract_tells, insert_tells, branch_tells, on_access_tells, by_byte_tells, by_register_tells, access_row_tells, product_tells))
    & (grind (arith, nat_tests, many_tells, dual_tells, data_tells, wide_row_tells, extract_tells, insert_tells, branch_tells, on_access_tells, by_byte_tells, by_register_tells, access_row_tells, product_tells))
    & (λ i i-fits. grind (arith, nat_tests, many_tells, dual_tells, data_tells, wide_row_tells, extract_tells, insert_tells, branch_tells, on_access_tells, by_byte_tells, by_register_tells, access_row_tells, product_tells))
    & (λ option option-fits. grind (arith, nat_tests, many_tells, dual_tells, data_tells, wide_row_tells, extract_tells, insert_tells, branch_tells, on_access_tells, by_byte_tells, by_register_tells, access_row_tells, product_tells))
    & (λ option option-fits. grind (arith, nat_tests, many_tells, dual_tells, data_tells, wide_row_tells, extract_tells, insert_tells, branch_tells, on_access_tells, by_byte_tells, by_register_tells, access_row_tells, product_tells))
    & (λ option option-fits. grind (arith, nat_tests, many_tells, dual_tells, data_tells, wide_row_tells, extract_tells, insert_tells, branch_tells, on_access_tells, by_byte_tells, by_register_tells, access_row_tells, product_tells))
    & (λ i i-fits. grind (arith, nat_tests, many_tells, dual_tells, data_tells, wide_row_tells, extract_tells, insert_tells, branch_tells, on_access_tells, by_byte_tells, by_register_tells, access_row_tells, product_tells))
    & (λ n n-fits i i-fits. grind (arith, nat_tests, many_tells, dual_tells, data_tells, wide_row_tells, extract_tells, insert_tells, branch_tells, on_access_tells, by_byte_tells, by_register_tells, access_row_tells, product_tells))
    & (λ i i-fits. grind (arith, nat_tests, many_tells, dual_tells, data_tells, wide_row_tells, extract_tells, insert_tells, branch_tells, on_access_tells, by_byte_tells, by_register_tells, access_row_tells, product_tells))
    & (λ s s-fits c c-fits i6 i6-fits j j-fits k k-fits i11 i11-fits. grind (arith, nat_tests, many_tells, dual_tells, data_tells, wide_row_tells, extract_tells, insert_tells, branch_tells, on_access_tells, by_byte_tells, by_register_tells, access_row_tells, product_tells))
    & (λ u u-fits t t-fits i i-fits. grind (arith, nat_tests, many_tells, dual_tells, data_tells, wide_row_tells, extract_tells, insert_tells, branch_tells, on_access_tells, by_byte_tells, by_register_tells, access_row_tells, product_tells))
    & (let alone = lacks_link in grind (arith, nat_tests, many_tells, dual_tells, data_tells, wide_row_tells, extract_tells, insert_tells, branch_tells, on_access_tells, by_byte_tells, by_register_tells, access_row_tells, product_tells))
    & (λ g g-fits z z-fits l l-fits n n-fits t t-fits i i-fits. let far : nat_lt i 4096 ≡ true = grind (arith, nat_tests) in grind (arith, nat_tests, many_tells, dual_tells, data_tells, wide_row_tells, extract_tells, insert_tells, branch_tells, on_access_tells, by_byte_tells, by_register_tells, access_row_tells, product_tells))
    & (λ g g-fits z z-fits l l-fits n n-fits t t-fits p p-fits u u-fits w w-fits i i-fits. grind (arith, nat_tests, many_tells, dual_tells, data_tells, wide_row_tells, extract_tells, insert_tells, branch_tells, on_access_tells, by_byte_tells, by_register_tells, access_row_tells, product_tells))
    & (λ g g-fits z z-fits l l-fits n n-fits t t-fits shift shift-fits m m-fits. grind (arith, nat_tests, many_tells, dual_tells, data_tells, wide_row_tells, extract_tells, insert_tells, branch_tells, on_access_tells, by_byte_tells, by_register_tells, access_row_tells, product_tells))
    & (λ k k-fits s s-fits n n-fits d d-fits m m-fits. grind (arith, nat_tests, many_tells, dual_tells, data_tells, wide_row_tells, extract_tells, insert_tells, branch_tells, on_access_tells, by_byte_tells, by_register_tells, access_row_tells, product_tells))
    & (λ d d-fits r r-fits m m-fits. grind (arith, nat_tests, many_tells, dual_tells, data_tells, wide_row_tells, extract_tells, insert_tells, branch_tells, on_access_tells, by_byte_tells, by_register_tells, access_row_tells, product_tells))
    & (λ d d-fits r r-fits m m-fits. grind (arith, nat_tests, many_tells, dual_tells, data_tells, wide_row_tells, extract_tells, insert_tells, branch_tells, on_access_tells, by_byte_tells, by_register_tells, access_row_tells, product_tells))
    & (λ d d-fits r r-fits m m-fits. grind (arith, nat_tests, many_tells, dual_tells, data_tells, wide_row_tells, extract_tells, insert_tells, branch_tells, on_access_tells, by_byte_tells, by_register_tells, access_row_tells, product_tells))
    & (λ d d-fits r r-fits m m-fits. grind (arith, nat_tests, many_tells, dual_tells, data_tells, wide_row_tells, extract_tells, insert_tells, branch_tells, on_access_tells, by_byte_tells, by_register_tells, access_row_tells, product_tells))
    & (λ n n-fits d d-fits m m-fits. grind (arith, nat_tests, many_tells, dual_tells, data_tells, wide_row_tells, extract_tells, insert_tells, branch_tells, on_access_tells, by_byte_tells, by_register_tells, access_row_tells, product_tells))
    & (λ n n-fits d d-fits m m-fits. grind (arith, nat_tests, many_tells, dual_tells, data_tells, wide_row_tells, extract_tells, insert_tells, branch_tells, on_access_tells, by_byte_tells, by_register_tells, access_row_tells, product_tells))
    & (λ n n-fits d d-fits m m-fits. grind (arith, nat_tests, many_tells, dual_tells, data_tells, wide_row_tells, extract_tells, insert_tells, branch_tells, on_access_tells, by_byte_tells, by_register_tells, access_row_tells, product_tells))
    & (λ n n-fits d d-fits m m-fits. grind (arith, nat_tests, many_tells, dual_tells, data_tells, wide_row_tells, extract_tells, insert_tells, branch_tells, on_access_tells, by_byte_tells, by_register_tells, access_row_tells, product_tells))
    & (λ n n-fits d d-fits m m-fits. grind (arith, nat_tests, many_tells, dual_tells, data_tells, wide_row_tells, extract_tells, insert_tells, branch_tells, on_access_tells, by_byte_tells, by_register_tells, access_row_tells, product_tells))
    & (λ n n-fits a a-fits d d-fits m m-fits. grind (arith, nat_tests, many_tells, dual_tells, data_tells, wide_row_tells, extract_tells, insert_tells, branch_tells, on_access_tells, by_byte_tells, by_register_tells, access_row_tells, product_tells))
    & (λ n n-fits a a-fits d d-fits m m-fits. grind (arith, nat_tests, many_tells, dual_tells, data_tells, wide_row_tells, extract_tells, insert_tells, branch_tells, on_access_tells, by_byte_tells, by_register_tells, access_row_tells, product_tells))
    & (λ n n-fits lo lo-fits hi hi-fits m m-fits. grind (arith, nat_tests, many_tells, dual_tells, data_tells, wide_row_tells, extract_tells, insert_tells, branch_tells, on_access_tells, by_byte_tells, by_register_tells, access_row_tells, product_tells))
    & (λ n n-fits lo lo-fits hi hi-fits m m-fits. grind (arith, nat_tests, many_tells, dual_tells, data_tells, wide_row_tells, extract_tells, insert_tells, branch_tells, on_access_tells, by_byte_tells, by_register_tells, access_row_tells, product_tells))
    & (λ n n-fits lo lo-fits hi hi-fits m m-fits. grind (arith, nat_tests, many_tells, dual_tells, data_tells, wide_row_tells, extract_tells, insert_tells, branch_tells, on_access_tells, by_byte_tells, by_register_tells, access_row_tells, product_tells))
    & (λ n n-fits lo lo-fits hi hi-fits m m-fits. grind (arith, nat_tests, many_tells, dual_tells, data_tells, wide_row_tells, extract_tells, insert_tells, branch_tells, on_access_tells, by_byte_tells, by_register_tells, access_row_tells, product_tells))
    & (λ n n-fits d d-fits m m-fits. grind (arith, nat_tests, many_tells, dual_tells, data_tells, wide_row_tells, extract_tells, insert_tells, branch_tells, on_access_tells, by_byte_tells, by_register_tells, access_row_tells, product_tells))
    & (λ n n-fits d d-fits m m-fits. grind (arith, nat_tests, many_tells, dual_tells, data_tells, wide_row_tells, extract_tells, insert_tells, branch_tells, on_access_tells, by_byte_tells, by_register_tells, access_row_tells, product_tells))
    & tt
