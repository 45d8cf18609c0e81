-- Where the instructions of two halfwords stand.
use Rattle.std.proofs.Common.{◌≡◌, ℕ, zero, suc, Bool, true, Option, Some, None, refl, arith}
use Rattle.std.proofs.lemmas.Bool.Decides.{nat_tests}
use Rattle.thumb_instr.specs.declared.operations.AluOp.{AluOp}
use Rattle.thumb_instr.specs.declared.operations.MoveOp.{MoveOp}
use Rattle.thumb_instr.specs.declared.operations.TestOp.{TestOp}
use Rattle.thumb_instr.specs.declared.operations.WideOp.{WideOp}
use Rattle.thumb_instr.specs.declared.operations.FieldOp.{FieldOp}
use Rattle.thumb_instr.specs.declared.operations.AccessOp.{AccessOp}
use Rattle.thumb_instr.specs.declared.operands.Operand.{Operand}
use Rattle.thumb_instr.specs.declared.operands.Operand.TheVariants.{Imm, Reg}
use Rattle.thumb_instr.specs.declared.places.Place.{Place}
use Rattle.thumb_instr.specs.declared.places.PairIndex.{PairIndex}
use Rattle.thumb_instr.specs.declared.refusals.ItPlace.{ItPlace}
use Rattle.thumb_instr.specs.Patterns.{Answer}
use Rattle.thumb_instr.specs.DataRows.{alu_row, move_row, test_row, or_test, or_move, data_processing}
use Rattle.thumb_instr.specs.FullRows.{many, two_words, exclusive, dual, wide_row, extract, insert, on_condition_branch, on_access, access_row, by_byte, by_register, product, full_rows}
use Rattle.sim_steps.proofs.RowsPlaced.{AllPlaced, ◌&◌, tells, if_tells, not_both}

-- data processing

alu_row_tells : (at : ItPlace) (op : AluOp) (s : Bool) (n d : ℕ) (x : Operand) → tells at (alu_row op s n d x) ≡ true
unfolding alu_row
alu_row_tells at op s n d (Imm i) = grind (arith, nat_tests)
alu_row_tells at op s n d (Reg m kind amount) = grind (arith, nat_tests)

move_row_tells : (at : ItPlace) (op : MoveOp) (s : Bool) (d : ℕ) (x : Operand) → tells at (move_row op s d x) ≡ true
unfolding move_row
move_row_tells at op s d (Imm i) = grind (arith, nat_tests)
move_row_tells at op s d (Reg m kind amount) = grind (arith, nat_tests)

test_row_tells : (at : ItPlace) (op : TestOp) (n : ℕ) (x : Operand) → tells at (test_row op n x) ≡ true
unfolding test_row
test_row_tells at op n (Imm i) = grind (arith, nat_tests)
test_row_tells at op n (Reg m kind amount) = grind (arith, nat_tests)

data_tells : (at : ItPlace) (o : ℕ) (s : Bool) (n d : ℕ) (x : Operand) → tells at (data_processing o s n d x) ≡ true
unfolding data_processing or_test or_move
data_tells at zero s n d x = grind (arith, alu_row_tells, move_row_tells, test_row_tells)
data_tells at (suc zero) s n d x = grind (arith, alu_row_tells, move_row_tells, test_row_tells)
data_tells at (suc (suc zero)) s n d x = grind (arith, alu_row_tells, move_row_tells, test_row_tells)
data_tells at (suc (suc (suc zero))) s n d x = grind (arith, alu_row_tells, move_row_tells, test_row_tells)
data_tells at (suc (suc (suc (suc zero)))) s n d x = grind (arith, alu_row_tells, move_row_tells, test_row_tells)
data_tells at (suc (suc (suc (suc (suc zero))))) s n d x = grind (arith, alu_row_tells, move_row_tells, test_row_tells)
data_tells at (suc (suc (suc (suc (suc (suc zero)))))) s n d x = grind (arith, alu_row_tells, move_row_tells, test_row_tells)
data_tells at (suc (suc (suc (suc (suc (suc (suc zero))))))) s n d x = grind (arith, alu_row_tells, move_row_tells, test_row_tells)
data_tells at (suc (suc (suc (suc (suc (suc (suc (suc zero)))))))) s n d x = grind (arith, alu_row_tells, move_row_tells, test_row_tells)
data_tells at (suc (suc (suc (suc (suc (suc (suc (suc (suc zero))))))))) s n d x = grind (arith, alu_row_tells, move_row_tells, test_row_tells)
data_tells at (suc (suc (suc (suc (suc (suc (suc (suc (suc (suc zero)))))))))) s n d x = grind (arith, alu_row_tells, move_row_tells, test_row_tells)
data_tells at (suc (suc (suc (suc (suc (suc (suc (suc (suc (suc (suc zero))))))))))) s n d x = grind (arith, alu_row_tells, move_row_tells, test_row_tells)
data_tells at (suc (suc (suc (suc (suc (suc (suc (suc (suc (suc (suc (suc zero)))))))))))) s n d x = grind (arith, alu_row_tells, move_row_tells, test_row_tells)
data_tells at (suc (suc (suc (suc (suc (suc (suc (suc (suc (suc (suc (suc (suc zero))))))))))))) s n d x = grind (arith, alu_row_tells, move_row_tells, test_row_tells)
data_tells at (suc (suc (suc (suc (suc (suc (suc (suc (suc (suc (suc (suc (suc (suc zero)))))))))))))) s n d x = grind (arith, alu_row_tells, move_row_tells, test_row_tells)
data_tells at (suc (suc (suc (suc (suc (suc (suc (suc (suc (suc (suc (suc (suc (suc (suc zero))))))))))))))) s n d x = grind (arith, alu_row_tells, move_row_tells, test_row_tells)
data_tells at (suc (suc (suc (suc (suc (suc (suc (suc (suc (suc (suc (suc (suc (suc (suc (suc k)))))))))))))))) s n d x = refl

-- loads and stores

many_tells : (place : ItPlace) (load down back : Bool) (n list : ℕ) (pc : Bool) → tells place (many place load down back n list pc) ≡ true
unfolding many
many_tells place load down back n list pc = let both = not_both place in grind (arith, nat_tests)

two_words_tells : (at : ItPlace) (load : Bool) (t u n : ℕ) (up : Bool) (imm : ℕ) (index : PairIndex) (back : Bool) → tells at (two_words load t u n up imm index back) ≡ true
unfolding two_words
two_words_tells at load t u n up imm index back = grind (arith, nat_tests)

exclusive_tells : (at : ItPlace) (u l t s i : ℕ) → tells at (exclusive u l t s i) ≡ true
unfolding exclusive
exclusive_tells at u l t s i = grind arith

dual_tells : (at : ItPlace) (p u w l n t s i : ℕ) → tells at (dual p u w l n t s i) ≡ true
unfolding dual
dual_tells at p u w l n t s i = search (two_words_tells, exclusive_tells, if_tells)

access_row_tells : (at : ItPlace) (op : AccessOp) (t n : ℕ) (place : Place) (back : Bool) → tells at (access_row op t n place back) ≡ true
unfolding access_row
access_row_tells at op t n place back = grind (arith, nat_tests)

by_byte_tells : (at : ItPlace) (p u w : ℕ) (op : AccessOp) (n t i : ℕ) → tells at (by_byte p u w op n t i) ≡ true
unfolding by_byte
by_byte_tells at p u w op n t i = search (access_row_tells, if_tells)

by_register_tells : (at : ItPlace) (op : AccessOp) (n t shift m : ℕ) → tells at (by_register op n t shift m) ≡ true
unfolding by_register
by_register_tells at op n t shift m = grind (arith, nat_tests)

on_access_tells : (at : ItPlace) (o : Option (Option AccessOp)) (f : AccessOp → Answer) → ((op : AccessOp) → tells at (f op) ≡ true) → tells at (on_access o f) ≡ true
on_access_tells at None f g = refl
on_access_tells at (Some None) f g = refl
on_access_tells at (Some (Some op)) f g = g op

-- the others

wide_row_tells : (at : ItPlace) (op : WideOp) (up : Bool) (n d imm : ℕ) → tells at (wide_row op up n d imm) ≡ true
unfolding wide_row
wide_row_tells at op up n d imm = grind (arith, nat_tests)

extract_tells : (at : ItPlace) (op : FieldOp) (n d lsb w : ℕ) → tells at (extract op n d lsb w) ≡ true
unfolding extract
extract_tells at op n d lsb w = grind (arith, nat_tests)

insert_tells : (at : ItPlace) (n d lsb w : ℕ) → tells at (insert n d lsb w) ≡ true
unfolding insert
insert_tells at n d lsb w = grind (arith, nat_tests)

branch_tells : (place : ItPlace) (c offset : ℕ) → tells place (on_condition_branch place c offset) ≡ true
unfolding on_condition_branch
branch_tells place c offset = let both = not_both place in grind (arith, nat_tests)

product_tells : (at : ItPlace) (n a d m : ℕ) → tells at (product n a d m) ≡ true
unfolding product
product_tells at n a d m = grind (arith, nat_tests)

pub full_placed : (place : ItPlace) → AllPlaced place (full_rows place)
unfolding full_rows
full_placed place =
    (λ w w-fits l l-fits n n-fits pc pc-fits lr lr-fits list list-fits. grind (arith, nat_tests, many_tells, dual_tells, data_tells, wide_row_tells, extract_tells, insert_tells, branch_tells, on_access_tells, by_byte_tells, by_register_tells, access_row_tells, product_tells))
    & (λ w w-fits l l-fits n n-fits pc pc-fits lr lr-fits list list-fits. grind (arith, nat_tests, many_tells, dual_tells, data_tells, wide_row_tells, extract_tells, insert_tells, branch_tells, on_access_tells, by_byte_tells, by_register_tells, access_row_tells, product_tells))
    & (λ p p-fits u u-fits w w-fits l l-fits n n-fits t t-fits s s-fits i i-fits. grind (arith, nat_tests, many_tells, dual_tells, data_tells, wide_row_tells, extract_tells, insert_tells, branch_tells, on_access_tells, by_byte_tells, by_register_tells, access_row_tells, product_tells))
    & (λ o o-fits s s-fits n n-fits i3 i3-fits d d-fits i2 i2-fits k k-fits m m-fits. grind (arith, nat_tests, many_tells, dual_tells, data_tells, wide_row_tells, extract_tells, insert_tells, branch_tells, on_access_tells, by_byte_tells, by_register_tells, access_row_tells, product_tells))
    & (λ i i-fits o o-fits s s-fits n n-fits i3 i3-fits d d-fits i8 i8-fits. grind (arith, nat_tests, many_tells, dual_tells, data_tells, wide_row_tells, extract_tells, insert_tells, branch_tells, on_access_tells, by_byte_tells, by_register_tells, access_row_tells, product_tells))
    & (λ i i-fits n n-fits i3 i3-fits d d-fits i8 i8-fits. grind (arith, nat_tests, many_tells, dual_tells, data_tells, wide_row_tells, extract_tells, insert_tells, branch_tells, on_access_tells, by_byte_tells, by_register_tells, access_row_tells, product_tells))
    & (λ i i-fits n n-fits i3 i3-fits d d-fits i8 i8-fits. grind (arith, nat_tests, many_tells, dual_tells, data_tells, wide_row_tells, extract_tells, insert_tells, branch_tells, on_access_tells, by_byte_tells, by_register_tells, access_row_tells, product_tells))
    & (λ i i-fits i4 i4-fits i3 i3-fits d d-fits i8 i8-fits. grind (arith, nat_tests, many_tells, dual_tells, data_tells, wide_row_tells, extract_tells, insert_tells, branch_tells, on_access_tells, by_byte_tells, by_register_tells, access_row_tells, product_tells))
    & (λ i i-fits i4 i4-fits i3 i3-fits d d-fits i8 i8-fits. grind (arith, nat_tests, many_tells, dual_tells, data_tells, wide_row_tells, extract_tells, insert_tells, branch_tells, on_access_tells, by_byte_tells, by_register_tells, access_row_tells, product_tells))
    & (λ n n-fits i3 i3-fits d d-fits i2 i2-fits w w-fits. grind (arith, nat_tests, many_tells, dual_tells, data_tells, wide_row_tells, extract_tells, insert_tells, branch_tells, on_access_tells, by_byte_tells, by_register_tells, access_row_tells, product_tells))
    & (λ n n-fits i3 i3-fits d d-fits i2 i2-fits w w-fits. grind (arith, nat_tests, many_tells, dual_tells, data_tells, wide_row_tells, extract_tells, insert_tells, branch_tells, on_access_tells, by_byte_tells, by_register_tells, access_row_tells, product_tells))
    & (λ n n-fits i3 i3-fits d d-fits i2 i2-fits w w-fits. grind (arith, nat_tests, many_tells, dual_tells, data_tells, wide_row_tells, extract_tells, insert_tells, branch_tells, on_access_tells, by_byte_tells, by_register_tells, access_row_tells, product_tells))
    & (λ s s-fits i10 i10-fits j j-fits k k-fits i11 i11-fits. grind (arith, nat_tests, many_tells, dual_tells, data_tells, wide_row_tells, extract_tells, insert_tells, branch_tells, on_access_tells, by_byte_tells, by_register_tells, access_row_tells, product_tells))
    & (λ s s-fits i10 i10-fits j j-fits k k-fits i11 i11-fits. grind (arith, nat_tests, many_tells, dual_tells, data_tells, wide_row_tells, extract_tells, insert_tells, branch_tells, on_access_tells, by_byte_tells, by_register_tells, access_row_tells, product_tells))
    & (grind (arith, nat_tests, many_tells, dual_tells, data_tells, wide_row_tells, extract_tells, insert_tells, branch_tells, on_access_tells, by_byte_tells, by_register_tells, access_row_tells, product_tells))
    & (λ i i-fits. grind (arith, nat_tests, many_tells, dual_tells, data_tells, wide_row_tells, extract_tells, insert_tells, branch_tells, on_access_tells, by_byte_tells, by_register_tells, access_row_tells, product_tells))
    & (λ option option-fits. grind (arith, nat_tests, many_tells, dual_tells, data_tells, wide_row_tells, extract_tells, insert_tells, branch_tells, on_access_tells, by_byte_tells, by_register_tells, access_row_tells, product_tells))
    & (λ option option-fits. grind (arith, nat_tests, many_tells, dual_tells, data_tells, wide_row_tells, extract_tells, insert_tells, branch_tells, on_access_tells, by_byte_tells, by_register_tells, access_row_tells, product_tells))
    & (λ option option-fits. grind (arith, nat_tests, many_tells, dual_tells, data_tells, wide_row_tells, extract_tells, insert_tells, branch_tells, on_access_tells, by_byte_tells, by_register_tells, access_row_tells, product_tells))
    & (λ i i-fits. grind (arith, nat_tests, many_tells, dual_tells, data_tells, wide_row_tells, extract_tells, insert_tells, branch_tells, on_access_tells, by_byte_tells, by_register_tells, access_row_tells, product_tells))
    & (λ n n-fits i i-fits. grind (arith, nat_tests, many_tells, dual_tells, data_tells, wide_row_tells, extract_tells, insert_tells, branch_tells, on_access_tells, by_byte_tells, by_register_tells, access_row_tells, product_tells))
    & (λ i i-fits. grind (arith, nat_tests, many_tells, dual_tells, data_tells, wide_row_tells, extract_tells, insert_tells, branch_tells, on_access_tells, by_byte_tells, by_register_tells, access_row_tells, product_tells))
    & (λ s s-fits c c-fits i6 i6-fits j j-fits k k-fits i11 i11-fits. grind (arith, nat_tests, many_tells, dual_tells, data_tells, wide_row_tells, extract_tells, insert_tells, branch_tells, on_access_tells, by_byte_tells, by_register_tells, access_row_tells, product_tells))
    & (λ u u-fits t t-fits i i-fits. grind (arith, nat_tests, many_tells, dual_tells, data_tells, wide_row_tells, extract_tells, insert_tells, branch_tells, on_access_tells, by_byte_tells, by_register_tells, access_row_tells, product_tells))
    & (grind (arith, nat_tests, many_tells, dual_tells, data_tells, wide_row_tells, extract_tells, insert_tells, branch_tells, on_access_tells, by_byte_tells, by_register_tells, access_row_tells, product_tells))
    & (λ g g-fits z z-fits l l-fits n n-fits t t-fits i i-fits. grind (arith, nat_tests, many_tells, dual_tells, data_tells, wide_row_tells, extract_tells, insert_tells, branch_tells, on_access_tells, by_byte_tells, by_register_tells, access_row_tells, product_tells))
    & (λ g g-fits z z-fits l l-fits n n-fits t t-fits p p-fits u u-fits w w-fits i i-fits. grind (arith, nat_tests, many_tells, dual_tells, data_tells, wide_row_tells, extract_tells, insert_tells, branch_tells, on_access_tells, by_byte_tells, by_register_tells, access_row_tells, product_tells))
    & (λ g g-fits z z-fits l l-fits n n-fits t t-fits shift shift-fits m m-fits. grind (arith, nat_tests, many_tells, dual_tells, data_tells, wide_row_tells, extract_tells, insert_tells, branch_tells, on_access_tells, by_byte_tells, by_register_tells, access_row_tells, product_tells))
    & (λ k k-fits s s-fits n n-fits d d-fits m m-fits. grind (arith, nat_tests, many_tells, dual_tells, data_tells, wide_row_tells, extract_tells, insert_tells, branch_tells, on_access_tells, by_byte_tells, by_register_tells, access_row_tells, product_tells))
    & (λ d d-fits r r-fits m m-fits. grind (arith, nat_tests, many_tells, dual_tells, data_tells, wide_row_tells, extract_tells, insert_tells, branch_tells, on_access_tells, by_byte_tells, by_register_tells, access_row_tells, product_tells))
    & (λ d d-fits r r-fits m m-fits. grind (arith, nat_tests, many_tells, dual_tells, data_tells, wide_row_tells, extract_tells, insert_tells, branch_tells, on_access_tells, by_byte_tells, by_register_tells, access_row_tells, product_tells))
    & (λ d d-fits r r-fits m m-fits. grind (arith, nat_tests, many_tells, dual_tells, data_tells, wide_row_tells, extract_tells, insert_tells, branch_tells, on_access_tells, by_byte_tells, by_register_tells, access_row_tells, product_tells))
    & (λ d d-fits r r-fits m m-fits. grind (arith, nat_tests, many_tells, dual_tells, data_tells, wide_row_tells, extract_tells, insert_tells, branch_tells, on_access_tells, by_byte_tells, by_register_tells, access_row_tells, product_tells))
    & (λ n n-fits d d-fits m m-fits. grind (arith, nat_tests, many_tells, dual_tells, data_tells, wide_row_tells, extract_tells, insert_tells, branch_tells, on_access_tells, by_byte_tells, by_register_tells, access_row_tells, product_tells))
    & (λ n n-fits d d-fits m m-fits. grind (arith, nat_tests, many_tells, dual_tells, data_tells, wide_row_tells, extract_tells, insert_tells, branch_tells, on_access_tells, by_byte_tells, by_register_tells, access_row_tells, product_tells))
    & (λ n n-fits d d-fits m m-fits. grind (arith, nat_tests, many_tells, dual_tells, data_tells, wide_row_tells, extract_tells, insert_tells, branch_tells, on_access_tells, by_byte_tells, by_register_tells, access_row_tells, product_tells))
    & (λ n n-fits d d-fits m m-fits. grind (arith, nat_tests, many_tells, dual_tells, data_tells, wide_row_tells, extract_tells, insert_tells, branch_tells, on_access_tells, by_byte_tells, by_register_tells, access_row_tells, product_tells))
    & (λ n n-fits d d-fits m m-fits. grind (arith, nat_tests, many_tells, dual_tells, data_tells, wide_row_tells, extract_tells, insert_tells, branch_tells, on_access_tells, by_byte_tells, by_register_tells, access_row_tells, product_tells))
    & (λ n n-fits a a-fits d d-fits m m-fits. grind (arith, nat_tests, many_tells, dual_tells, data_tells, wide_row_tells, extract_tells, insert_tells, branch_tells, on_access_tells, by_byte_tells, by_register_tells, access_row_tells, product_tells))
    & (λ n n-fits a a-fits d d-fits m m-fits. grind (arith, nat_tests, many_tells, dual_tells, data_tells, wide_row_tells, extract_tells, insert_tells, branch_tells, on_access_tells, by_byte_tells, by_register_tells, access_row_tells, product_tells))
    & (λ n n-fits lo lo-fits hi hi-fits m m-fits. grind (arith, nat_tests, many_tells, dual_tells, data_tells, wide_row_tells, extract_tells, insert_tells, branch_tells, on_access_tells, by_byte_tells, by_register_tells, access_row_tells, product_tells))
    & (λ n n-fits lo lo-fits hi hi-fits m m-fits. grind (arith, nat_tests, many_tells, dual_tells, data_tells, wide_row_tells, extract_tells, insert_tells, branch_tells, on_access_tells, by_byte_tells, by_register_tells, access_row_tells, product_tells))
    & (λ n n-fits lo lo-fits hi hi-fits m m-fits. grind (arith, nat_tests, many_tells, dual_tells, data_tells, wide_row_tells, extract_tells, insert_tells, branch_tells, on_access_tells, by_byte_tells, by_register_tells, access_row_tells, product_tells))
    & (λ n n-fits lo lo-fits hi hi-fits m m-fits. grind (arith, nat_tests, many_tells, dual_tells, data_tells, wide_row_tells, extract_tells, insert_tells, branch_tells, on_access_tells, by_byte_tells, by_register_tells, access_row_tells, product_tells))
    & (λ n n-fits d d-fits m m-fits. grind (arith, nat_tests, many_tells, dual_tells, data_tells, wide_row_tells, extract_tells, insert_tells, branch_tells, on_access_tells, by_byte_tells, by_register_tells, access_row_tells, product_tells))
    & (λ n n-fits d d-fits m m-fits. grind (arith, nat_tests, many_tells, dual_tells, data_tells, wide_row_tells, extract_tells, insert_tells, branch_tells, on_access_tells, by_byte_tells, by_register_tells, access_row_tells, product_tells))
    & tt
