-- What is told of the instructions of two halfwords.
use Rattle.std.proofs.Common.{◌≡◌, ◌<◌, ◌+◌, ◌-◌, ◌^◌, ℕ, zero, suc, Bool, true, false, [], ◌∷◌, Option, Some, None, refl}
use Rattle.std.specs.Prelude.{◌==◌, ◌&&◌, ◌||◌, not, nat_lt}
use Rattle.thumb_instr.specs.declared.operations.FieldOp.TheVariants.{Bfi, Bfc}
use Rattle.thumb_instr.specs.Formed.{IsRegister, PlaceNamesRegisters}
use Rattle.thumb_instr.proofs.Formed.{Good, AllGood, ◌&◌, IsNear, err_good, if_good, if_two_good, first_none, second_none, register_but_pc, no_register, near_named, shifted_near, field_good, multi_good, mul_good, mul_acc_good, goods}
use Rattle.thumb_instr.specs.declared.operations.AluOp.{AluOp}
use Rattle.thumb_instr.specs.declared.operations.MoveOp.{MoveOp}
use Rattle.thumb_instr.specs.declared.operations.TestOp.{TestOp}
use Rattle.thumb_instr.specs.declared.operations.WideOp.{WideOp}
use Rattle.thumb_instr.specs.declared.operations.FieldOp.{FieldOp}
use Rattle.thumb_instr.specs.declared.operations.AccessOp.{AccessOp}
use Rattle.thumb_instr.specs.declared.operands.Operand.{Operand}
use Rattle.thumb_instr.specs.declared.places.Place.{Place}
use Rattle.thumb_instr.specs.declared.places.PairIndex.{PairIndex}
use Rattle.thumb_instr.specs.declared.refusals.BadInstr.TheVariants.{PcOperand}
use Rattle.thumb_instr.specs.declared.refusals.ItPlace.{ItPlace}
use Rattle.thumb_instr.specs.Patterns.{Answer}
use Rattle.thumb_instr.specs.DataRows.{alu_row, move_row, test_row, or_test, or_move, data_processing}
use Rattle.thumb_instr.specs.FullRows.{on_plain, many, two_words, exclusive, dual, wide_row, extract, insert, on_condition_branch, on_access, access_row, by_byte, by_register, product, full_rows}

-- data processing

alu_row_good : (op : AluOp) (s : Bool) (n d : ℕ) (x : Operand) → n < 2 ^ 4 → d < 2 ^ 4 → IsNear x → Good true (alu_row op s n d x)
unfolding alu_row
alu_row_good op s n d x ln ld near = search (near_named, goods)

move_row_good : (op : MoveOp) (s : Bool) (d : ℕ) (x : Operand) → d < 2 ^ 4 → IsNear x → Good true (move_row op s d x)
unfolding move_row
move_row_good op s d x ld near = search (near_named, goods)

test_row_good : (op : TestOp) (n : ℕ) (x : Operand) → n < 2 ^ 4 → IsNear x → Good true (test_row op n x)
unfolding test_row
test_row_good op n x ln near = search (near_named, goods)

ruleset row_goods = (alu_row_good, move_row_good, test_row_good, err_good, if_good)

data_good : (o : ℕ) (s : Bool) (n d : ℕ) (x : Operand) → n < 2 ^ 4 → d < 2 ^ 4 → IsNear x → Good true (data_processing o s n d x)
unfolding data_processing or_test or_move
data_good zero s n d x ln ld near = search row_goods
data_good (suc zero) s n d x ln ld near = search row_goods
data_good (suc (suc zero)) s n d x ln ld near = search row_goods
data_good (suc (suc (suc zero))) s n d x ln ld near = search row_goods
data_good (suc (suc (suc (suc zero)))) s n d x ln ld near = search row_goods
data_good (suc (suc (suc (suc (suc zero))))) s n d x ln ld near = search row_goods
data_good (suc (suc (suc (suc (suc (suc zero)))))) s n d x ln ld near = search row_goods
data_good (suc (suc (suc (suc (suc (suc (suc zero))))))) s n d x ln ld near = search row_goods
data_good (suc (suc (suc (suc (suc (suc (suc (suc zero)))))))) s n d x ln ld near = search row_goods
data_good (suc (suc (suc (suc (suc (suc (suc (suc (suc zero))))))))) s n d x ln ld near = search row_goods
data_good (suc (suc (suc (suc (suc (suc (suc (suc (suc (suc zero)))))))))) s n d x ln ld near = search row_goods
data_good (suc (suc (suc (suc (suc (suc (suc (suc (suc (suc (suc zero))))))))))) s n d x ln ld near = search row_goods
data_good (suc (suc (suc (suc (suc (suc (suc (suc (suc (suc (suc (suc zero)))))))))))) s n d x ln ld near = search row_goods
data_good (suc (suc (suc (suc (suc (suc (suc (suc (suc (suc (suc (suc (suc zero))))))))))))) s n d x ln ld near = search row_goods
data_good (suc (suc (suc (suc (suc (suc (suc (suc (suc (suc (suc (suc (suc (suc zero)))))))))))))) s n d x ln ld near = search row_goods
data_good (suc (suc (suc (suc (suc (suc (suc (suc (suc (suc (suc (suc (suc (suc (suc zero))))))))))))))) s n d x ln ld near = search row_goods
data_good (suc (suc (suc (suc (suc (suc (suc (suc (suc (suc (suc (suc (suc (suc (suc (suc k)))))))))))))))) s n d x ln ld near = search row_goods

-- registers that are neither pc nor sp

one_plain : (r : ℕ) (a : Answer) → r < 2 ^ 4 → (IsRegister r → Good true a) → Good true (on_plain (r ∷ []) a)
one_plain r a lr g = if_two_good true (r == 15) false PcOperand _ (λ e _. if_good true _ _ _ (λ _. err_good true _) (λ _. g (register_but_pc r lr e)))

two_plain : (r s : ℕ) (a : Answer) → r < 2 ^ 4 → s < 2 ^ 4 → (IsRegister r → IsRegister s → Good true a) → Good true (on_plain (r ∷ s ∷ []) a)
two_plain r s a lr ls g = if_two_good true (r == 15) ((s == 15) || false) PcOperand _ (λ e f. if_good true _ _ _ (λ _. err_good true _) (λ _. g (register_but_pc r lr e) (register_but_pc s ls (first_none (s == 15) false f))))

three_plain : (r s t : ℕ) (a : Answer) → r < 2 ^ 4 → s < 2 ^ 4 → t < 2 ^ 4 → (IsRegister r → IsRegister s → IsRegister t → Good true a) → Good true (on_plain (r ∷ s ∷ t ∷ []) a)
three_plain r s t a lr ls lt g = if_two_good true (r == 15) ((s == 15) || ((t == 15) || false)) PcOperand _ (λ e f. if_good true _ _ _ (λ _. err_good true _) (λ _. g (register_but_pc r lr e) (register_but_pc s ls (first_none (s == 15) _ f)) (register_but_pc t lt (first_none (t == 15) false (second_none (s == 15) _ f)))))

four_plain : (r s t u : ℕ) (a : Answer) → r < 2 ^ 4 → s < 2 ^ 4 → t < 2 ^ 4 → u < 2 ^ 4 → (IsRegister r → IsRegister s → IsRegister t → IsRegister u → Good true a) → Good true (on_plain (r ∷ s ∷ t ∷ u ∷ []) a)
four_plain r s t u a lr ls lt lu g = if_two_good true (r == 15) ((s == 15) || ((t == 15) || ((u == 15) || false))) PcOperand _ (λ e f. if_good true _ _ _ (λ _. err_good true _) (λ _. g (register_but_pc r lr e) (register_but_pc s ls (first_none (s == 15) _ f)) (register_but_pc t lt (first_none (t == 15) _ (second_none (s == 15) _ f)))
    (register_but_pc u lu (first_none (u == 15) false (second_none (t == 15) _ (second_none (s == 15) _ f))))))

ruleset plain_goods = (one_plain, two_plain, three_plain, four_plain)

-- the other rows

-- A store with pc is refused.
pc_loads : (n15 pc load a b c : Bool) → (n15 || (pc && not (load && a && b && c))) ≡ false → pc ≡ true → load ≡ true
pc_loads n15 pc true a b c h e = refl
pc_loads true true false a b c h e = (cc)
pc_loads false true false a b c h e = (cc)
pc_loads n15 false false a b c h e = (cc)

many_good : (place : ItPlace) (load down back : Bool) (n list : ℕ) (pc : Bool) → n < 2 ^ 4 → Good true (many place load down back n list pc)
unfolding many
many_good place load down back n list pc ln = if_good true ((n == 15) || (pc && not (load && not down && back && (n == 13)))) _ _ (λ _. err_good true PcOperand)
    (λ e.
    let base : IsRegister n = register_but_pc n ln (first_none (n == 15) _ e) in
    let loads : pc ≡ true → load ≡ true = pc_loads (n == 15) pc load (not down) back (n == 13) e in
    search (multi_good, err_good, if_good))

two_words_good : (load : Bool) (t u n : ℕ) (up : Bool) (imm : ℕ) (index : PairIndex) (back : Bool) → t < 2 ^ 4 → u < 2 ^ 4 → n < 2 ^ 4 → Good true (two_words load t u n up imm index back)
unfolding two_words
two_words_good load t u n up imm index back lt lu ln = search goods

exclusive_good : (u l t s i : ℕ) → Good true (exclusive u l t s i)
unfolding exclusive
exclusive_good u l t s i = search goods

dual_good : (p u w l n t s i : ℕ) → n < 2 ^ 4 → t < 2 ^ 4 → s < 2 ^ 4 → Good true (dual p u w l n t s i)
unfolding dual
dual_good p u w l n t s i ln lt ls = search (two_words_good, exclusive_good, if_good)

wide_row_good : (op : WideOp) (up : Bool) (n d imm : ℕ) → n < 2 ^ 4 → d < 2 ^ 4 → Good true (wide_row op up n d imm)
unfolding wide_row
wide_row_good op up n d imm ln ld = search (plain_goods, goods)

extract_good : (op : FieldOp) (n d lsb w : ℕ) → n < 2 ^ 4 → d < 2 ^ 4 → Good true (extract op n d lsb w)
unfolding extract
extract_good op n d lsb w ln ld = two_plain d n _ ld ln (λ hd hn. field_good true op d (Some n) lsb (w + 1) hd hn)

insert_good : (n d lsb w : ℕ) → n < 2 ^ 4 → d < 2 ^ 4 → Good true (insert n d lsb w)
unfolding insert
insert_good n d lsb w ln ld = if_good true (n == 15) _ _
    (λ _. one_plain d _ ld (λ hd. if_good true (nat_lt w lsb) _ _ (λ _. err_good true _) (λ _. field_good true Bfc d None lsb (w - lsb + 1) hd tt)))
    (λ _. two_plain d n _ ld ln (λ hd hn. if_good true (nat_lt w lsb) _ _ (λ _. err_good true _) (λ _. field_good true Bfi d (Some n) lsb (w - lsb + 1) hd hn)))

on_condition_branch_good : (place : ItPlace) (c offset : ℕ) → Good true (on_condition_branch place c offset)
unfolding on_condition_branch
on_condition_branch_good place c offset = search goods

access_row_good : (op : AccessOp) (t n : ℕ) (place : Place) (back : Bool) → t < 2 ^ 4 → n < 2 ^ 4 → PlaceNamesRegisters place → Good true (access_row op t n place back)
unfolding access_row
access_row_good op t n place back lt ln hp = search goods

by_byte_good : (p u w : ℕ) (op : AccessOp) (n t i : ℕ) → n < 2 ^ 4 → t < 2 ^ 4 → Good true (by_byte p u w op n t i)
unfolding by_byte
by_byte_good p u w op n t i ln lt = search (no_register, access_row_good, err_good, if_good)

by_register_good : (op : AccessOp) (n t shift m : ℕ) → n < 2 ^ 4 → t < 2 ^ 4 → m < 2 ^ 4 → Good true (by_register op n t shift m)
unfolding by_register
by_register_good op n t shift m ln lt lm = search goods

product_good : (n a d m : ℕ) → n < 2 ^ 4 → a < 2 ^ 4 → d < 2 ^ 4 → m < 2 ^ 4 → Good true (product n a d m)
unfolding product
product_good n a d m ln la ld lm = if_good true (a == 15) _ _ (λ _. three_plain d n m _ ld ln lm (λ hd hn hm. mul_good true false d n m hd hn hm))
    (λ _. four_plain d n m a _ ld ln lm la (λ hd hn hm ha. mul_acc_good true false d n m a hd hn hm ha))

on_access_good : (o : Option (Option AccessOp)) (f : AccessOp → Answer) → ((op : AccessOp) → Good true (f op)) → Good true (on_access o f)
on_access_good None f g = err_good true _
on_access_good (Some None) f g = err_good true _
on_access_good (Some (Some op)) f g = g op

pop_good : (pc : Bool) → pc ≡ true → true ≡ true
pop_good pc e = refl

ruleset full_goods = (plain_goods, shifted_near, many_good, dual_good, data_good, wide_row_good, extract_good, insert_good, on_condition_branch_good, access_row_good, by_byte_good, by_register_good, product_good, on_access_good, pop_good)

pub full_good : (place : ItPlace) → AllGood true (full_rows place)
unfolding full_rows
full_good place =
    (λ w w-fits l l-fits n n-fits pc pc-fits lr lr-fits list list-fits. search (full_goods, goods))
    & (λ w w-fits l l-fits n n-fits pc pc-fits lr lr-fits list list-fits. search (full_goods, goods))
    & (λ p p-fits u u-fits w w-fits l l-fits n n-fits t t-fits s s-fits i i-fits. search (full_goods, goods))
    & (λ o o-fits s s-fits n n-fits i3 i3-fits d d-fits i2 i2-fits k k-fits m m-fits. search (full_goods, goods))
    & (λ i i-fits o o-fits s s-fits n n-fits i3 i3-fits d d-fits i8 i8-fits. search (full_goods, goods))
    & (λ i i-fits n n-fits i3 i3-fits d d-fits i8 i8-fits. search (full_goods, goods))
    & (λ i i-fits n n-fits i3 i3-fits d d-fits i8 i8-fits. search (full_goods, goods))
    & (λ i i-fits i4 i4-fits i3 i3-fits d d-fits i8 i8-fits. search (full_goods, goods))
    & (λ i i-fits i4 i4-fits i3 i3-fits d d-fits i8 i8-fits. search (full_goods, goods))
    & (λ n n-fits i3 i3-fits d d-fits i2 i2-fits w w-fits. search (full_goods, goods))
    & (λ n n-fits i3 i3-fits d d-fits i2 i2-fits w w-fits. search (full_goods, goods))
    & (λ n n-fits i3 i3-fits d d-fits i2 i2-fits w w-fits. search (full_goods, goods))
    & (λ s s-fits i10 i10-fits j j-fits k k-fits i11 i11-fits. search (full_goods, goods))
    & (λ s s-fits i10 i10-fits j j-fits k k-fits i11 i11-fits. search (full_goods, goods))
    & (search (full_goods, goods))
    & (λ i i-fits. search (full_goods, goods))
    & (λ option option-fits. search (full_goods, goods))
    & (λ option option-fits. search (full_goods, goods))
    & (λ option option-fits. search (full_goods, goods))
    & (λ i i-fits. search (full_goods, goods))
    & (λ n n-fits i i-fits. search (full_goods, goods))
    & (λ i i-fits. search (full_goods, goods))
    & (λ s s-fits c c-fits i6 i6-fits j j-fits k k-fits i11 i11-fits. search (full_goods, goods))
    & (λ u u-fits t t-fits i i-fits. search (full_goods, goods))
    & (search (full_goods, goods))
    & (λ g g-fits z z-fits l l-fits n n-fits t t-fits i i-fits. search (full_goods, goods))
    & (λ g g-fits z z-fits l l-fits n n-fits t t-fits p p-fits u u-fits w w-fits i i-fits. search (full_goods, goods))
    & (λ g g-fits z z-fits l l-fits n n-fits t t-fits shift shift-fits m m-fits. search (full_goods, goods))
    & (λ k k-fits s s-fits n n-fits d d-fits m m-fits. search (full_goods, goods))
    & (λ d d-fits r r-fits m m-fits. search (full_goods, goods))
    & (λ d d-fits r r-fits m m-fits. search (full_goods, goods))
    & (λ d d-fits r r-fits m m-fits. search (full_goods, goods))
    & (λ d d-fits r r-fits m m-fits. search (full_goods, goods))
    & (λ n n-fits d d-fits m m-fits. search (full_goods, goods))
    & (λ n n-fits d d-fits m m-fits. search (full_goods, goods))
    & (λ n n-fits d d-fits m m-fits. search (full_goods, goods))
    & (λ n n-fits d d-fits m m-fits. search (full_goods, goods))
    & (λ n n-fits d d-fits m m-fits. search (full_goods, goods))
    & (λ n n-fits a a-fits d d-fits m m-fits. search (full_goods, goods))
    & (λ n n-fits a a-fits d d-fits m m-fits. search (full_goods, goods))
    & (λ n n-fits lo lo-fits hi hi-fits m m-fits. search (full_goods, goods))
    & (λ n n-fits lo lo-fits hi hi-fits m m-fits. search (full_goods, goods))
    & (λ n n-fits lo lo-fits hi hi-fits m m-fits. search (full_goods, goods))
    & (λ n n-fits lo lo-fits hi hi-fits m m-fits. search (full_goods, goods))
    & (λ n n-fits d d-fits m m-fits. search (full_goods, goods))
    & (λ n n-fits d d-fits m m-fits. search (full_goods, goods))
    & tt
