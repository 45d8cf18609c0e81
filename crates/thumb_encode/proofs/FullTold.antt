-- Each instruction that two halfwords stand for outside of IT blocks is one that the test takes.
use Rattle.std.proofs.Common.{◌≡◌, ℕ, ℤ, pos, negsuc, ◌+◌, ◌-◌, ◌*◌, ◌^◌, ◌<◌, Bool, true, false, List, [], ◌∷◌, refl, subst, arith, Option, Some, None, Ok, ◌==◌, ◌&&◌, ◌||◌, not, nat_lt, if◌then◌else◌, slice_get}
use Rattle.std.specs.Prelude.{unwrap_or}
use Rattle.std.specs.List.{list_any}
use Rattle.std.proofs.lemmas.Bool.{and_from, ltb-false}
use Rattle.std.proofs.lemmas.Bool.Decides.{nat_tests}
use Rattle.thumb_instr.specs.declared.operations.AluOp.{AluOp}
use Rattle.thumb_instr.specs.declared.operations.AluOp.TheVariants as alu
use Rattle.thumb_instr.specs.declared.operations.MoveOp.{MoveOp}
use Rattle.thumb_instr.specs.declared.operations.MoveOp.TheVariants.{Mov, Mvn}
use Rattle.thumb_instr.specs.declared.operations.TestOp.{TestOp}
use Rattle.thumb_instr.specs.declared.operations.TestOp.TheVariants.{Tst, Teq, Cmn, Cmp}
use Rattle.thumb_instr.specs.declared.operations.WideOp.{WideOp}
use Rattle.thumb_instr.specs.declared.operations.FieldOp.{FieldOp}
use Rattle.thumb_instr.specs.declared.operations.UnaryOp.{UnaryOp}
use Rattle.thumb_instr.specs.declared.operations.UnaryOp.TheVariants.{Sxth, Sxtb, Uxth, Uxtb, Rev, Rev16, Revsh, Rbit, Clz}
use Rattle.thumb_instr.specs.declared.operations.NothingOp.TheVariants.{Nop}
use Rattle.thumb_instr.specs.declared.operations.AccessOp.{AccessOp}
use Rattle.thumb_instr.specs.declared.operands.Operand.{Operand}
use Rattle.thumb_instr.specs.declared.places.Place.{Place}
use Rattle.thumb_instr.specs.declared.places.Place.TheVariants.{Offset, Pre, Post}
use Rattle.thumb_instr.specs.declared.places.PairIndex.{PairIndex}
use Rattle.thumb_instr.specs.declared.places.PairIndex.TheVariants as index
use Rattle.thumb_instr.specs.declared.instructions.Instr.{Instr}
use Rattle.thumb_instr.specs.declared.instructions.Instr.TheVariants.{Branch, Unary, Nothing}
use Rattle.thumb_instr.specs.declared.refusals.BadInstr.TheVariants.{Unpredictable}
use Rattle.thumb_instr.specs.declared.refusals.ItPlace.TheVariants.{Outside}
use Rattle.thumb_instr.specs.Operands.{has, is_operand, is_even, is_turn, takes_option}
use Rattle.thumb_instr.specs.Patterns.{Answer, cut, decoded, refused}
use Rattle.thumb_instr.specs.Meanings.{signed, is_inside, conditions, unary, half, branch}
use Rattle.thumb_instr.specs.Sets.{sums_with_carry}
use Rattle.thumb_instr.specs.DataRows.{names, is_rrx, has_odd_sp, alu_row, is_copy, move_row, takes_sp, test_row, or_test, or_move, unknown, operations, data_processing}
use Rattle.mark_word.specs.Formulas.{one_if}
use Rattle.thumb_instr.specs.FullRows.{on_plain, members, many, two_words, exclusive, dual, wide_row, extract, insert, on_condition_branch, long_offset, accesses, access_row, by_byte, by_register, product, full_rows}
use Rattle.thumb_encode.specs.HasFull.{has_full, lacks_sp, is_signed, is_always, is_changed, place_has_full}
use Rattle.thumb_encode.proofs.Covering.{OfAnswer, OfRows, Each, done, ◌&◌, each-get, of_table, of_when, of_unless, of_either, of_condition, chosen}
use Rattle.thumb_encode.proofs.FullMeanings.{of_access}
use Rattle.thumb_encode.proofs.FullFields.{one_if-small}

abbrev pub Told : Instr → Type 0
Told i = has_full i ≡ true

denied : (b : Bool) → b ≡ false → not b ≡ true
denied true e = (cc)
denied false e = refl

left : (a b : Bool) → (a || b) ≡ false → a ≡ false
left true b e = e
left false b e = refl

right : (a b : Bool) → (a || b) ≡ false → b ≡ false
right true b e = (cc)
right false b e = e

below : (a b : ℕ) → a < b → nat_lt a b ≡ true
below a b less = grind (arith, nat_tests)

plain_told : (rs : List ℕ) (a : Answer) → (lacks_sp rs ≡ true → OfAnswer Told a) → OfAnswer Told (on_plain rs a)
plain_told rs a h = of_unless Told (list_any (λ r. r == 15) rs) _ _ (λ _. of_unless Told (list_any (λ r. r == 13) rs) _ _ (λ e. h (denied (list_any (λ r. r == 13) rs) e)))

one_lacks : (t : ℕ) → (t == 13) ≡ false → lacks_sp (t ∷ []) ≡ true
one_lacks t e = grind (arith, nat_tests)

two_lack : (t u : ℕ) → ((t == 13) || (u == 13)) ≡ false → lacks_sp (t ∷ u ∷ []) ≡ true
two_lack t u e = grind (arith, nat_tests)

first_two : (d m n : ℕ) → lacks_sp (d ∷ m ∷ n ∷ []) ≡ true → lacks_sp (d ∷ m ∷ []) ≡ true
first_two d m n e = grind (arith, nat_tests)

-- data processing

alu_told : (op : AluOp) (s : Bool) (n d : ℕ) (x : Operand) → OfAnswer Told (alu_row op s n d x)
unfolding alu_row has_full
alu_told op s n d x =
    of_unless Told ((d == 15) || (n == 15) || names 15 x) _ _ (λ _. of_unless Told (has_odd_sp op d n x || not (is_operand x)) _ _ (λ odd.
    of_unless Told (s && (sums_with_carry op || is_rrx x)) _ _ (λ flags. of_when Told (is_operand x) _
    (and_from (not (has_odd_sp op d n x)) (not (s && (sums_with_carry op || is_rrx x))) (denied _ (left (has_odd_sp op d n x) _ odd)) (denied _ flags)))))

move_told : (op : MoveOp) (s : Bool) (d : ℕ) (x : Operand) → OfAnswer Told (move_row op s d x)
unfolding move_row has_full
move_told op s d x =
    let wrong = if is_copy op s x then (d == 13) && names 13 x else (d == 13) || names 13 x in
    of_unless Told ((d == 15) || names 15 x) _ _ (λ _. of_unless Told (wrong || not (is_operand x)) _ _ (λ odd.
    of_unless Told (s && is_rrx x) _ _ (λ flags. of_when Told (is_operand x) _
    (and_from (not wrong) (not (s && is_rrx x)) (denied wrong (left wrong _ odd)) (denied _ flags)))))

test_told : (op : TestOp) (n : ℕ) (x : Operand) → OfAnswer Told (test_row op n x)
unfolding test_row has_full
test_told op n x =
    let wrong = (n == 13) && not (takes_sp op) in
    of_unless Told ((n == 15) || names 15 x) _ _ (λ _. of_unless Told (wrong || names 13 x || not (is_operand x)) _ _ (λ odd.
    of_unless Told (is_rrx x) _ _ (λ flags. of_when Told (is_operand x) _
    (and_from (not wrong && not (names 13 x)) (not (is_rrx x))
    (and_from (not wrong) (not (names 13 x)) (denied wrong (left wrong _ (left (wrong || names 13 x) _ odd))) (denied (names 13 x) (right wrong _ (left (wrong || names 13 x) _ odd)))) (denied _ flags)))))

abbrev pub TellsOf : ℕ → (Bool → ℕ → ℕ → Operand → Answer) → Type 0
TellsOf o f = (s : Bool) (n d : ℕ) (x : Operand) → OfAnswer Told (f s n d x)

or_test_told : (op : AluOp) (t : TestOp) (s : Bool) (n d : ℕ) (x : Operand) → OfAnswer Told (or_test op t s n d x)
unfolding or_test
or_test_told op t s n d x = of_either Told (s && (d == 15)) _ _ (λ _. test_told t n x) (λ _. alu_told op s n d x)

or_move_told : (op : AluOp) (m : MoveOp) (s : Bool) (n d : ℕ) (x : Operand) → OfAnswer Told (or_move op m s n d x)
unfolding or_move
or_move_told op m s n d x = of_either Told (n == 15) _ _ (λ _. move_told m s d x) (λ _. alu_told op s n d x)

unknown_told : (s : Bool) (n d : ℕ) (x : Operand) → OfAnswer Told (unknown s n d x)
unknown_told s n d x = tt

each_operation : Each (Bool → ℕ → ℕ → Operand → Answer) TellsOf 0 operations
each_operation =
    or_test_told alu.And Tst & alu_told alu.Bic & or_move_told alu.Orr Mov & or_move_told alu.Orn Mvn
    & or_test_told alu.Eor Teq & unknown_told & unknown_told & unknown_told
    & or_test_told alu.Add Cmn & unknown_told & alu_told alu.Adc & alu_told alu.Sbc
    & unknown_told & or_test_told alu.Sub Cmp & alu_told alu.Rsb & unknown_told & done

given : (o : ℕ) (f : Option (Bool → ℕ → ℕ → Operand → Answer)) → slice_get operations o ≡ f → TellsOf o (unwrap_or f unknown)
given o None is = unknown_told
given o (Some f) is = each-get TellsOf 0 operations each_operation o f is

data_told : (o : ℕ) (s : Bool) (n d : ℕ) (x : Operand) → OfAnswer Told (data_processing o s n d x)
unfolding data_processing
data_told o = given o (slice_get operations o) refl

-- many registers

fine : (pc a b c : Bool) → ((pc && is_inside Outside) || a || b || c) ≡ false → (a || b || c) ≡ false
fine true a b c e = e
fine false a b c e = e

or_right : (a b : Bool) → b ≡ true → (a || b) ≡ true
or_right true b e = refl
or_right false b e = e

many_told : (load down back : Bool) (n list : ℕ) (pc : Bool) → OfAnswer Told (many Outside load down back n list pc)
unfolding many has_full
many_told load down back n list pc =
    let a = nat_lt (members 15 list + one_if pc) 2 in
    let b = pc && has list 14 in
    let c = back && has list n in
    let wrong = pc && not (load && not down && back && (n == 13)) in
    of_unless Told ((n == 15) || wrong) _ _ (λ pops. of_unless Told ((pc && is_inside Outside) || a || b || c) _ _ (λ e. of_when Told _ _
    (and_from (not wrong) ((list == 0) || not (a || b || c)) (denied wrong (right (n == 15) wrong pops)) (or_right (list == 0) _ (denied (a || b || c) (fine pc a b c e))))))

two_words_told : (load : Bool) (t u n : ℕ) (up : Bool) (imm : ℕ) (x : PairIndex) → OfAnswer Told (two_words load t u n up imm x (is_changed x))
unfolding two_words has_full
two_words_told load t u n up imm x =
    let once = load && (t == u) in
    let apart = is_changed x && ((n == t) || (n == u)) in
    of_unless Told ((t == 15) || (u == 15) || (n == 15)) _ _ (λ _. of_unless Told ((t == 13) || (u == 13) || once || apart) _ _ (λ e. of_when Told _ _
    (let three = left ((t == 13) || (u == 13) || once) apart e in
    and_from (lacks_sp (t ∷ u ∷ []) && not once) (not apart)
    (and_from (lacks_sp (t ∷ u ∷ [])) (not once) (two_lack t u (left ((t == 13) || (u == 13)) once three)) (denied once (right ((t == 13) || (u == 13)) once three)))
    (denied apart (right ((t == 13) || (u == 13) || once) apart e)))))

exclusive_told : (u l t s i : ℕ) → OfAnswer Told (exclusive u l t s i)
unfolding exclusive
exclusive_told u l t s i = of_either Told ((u == 1) && (l == 1) && (t == 15) && (s == 0) && nat_lt i 32) _ _ (λ _. tt) (λ _. tt)

dual_told : (p u w l n t s i : ℕ) → OfAnswer Told (dual p u w l n t s i)
unfolding dual
dual_told p u w l n t s i =
    of_either Told (w == 1) _ _
    (λ _. of_either Told (p == 1) _ _ (λ _. two_words_told (l == 1) t s n (u == 1) (4 * i) index.Pre) (λ _. two_words_told (l == 1) t s n (u == 1) (4 * i) index.Post))
    (λ _. of_either Told (p == 1) _ _ (λ _. two_words_told (l == 1) t s n (u == 1) (4 * i) index.Offset) (λ _. exclusive_told u l t s i))

-- constants, and fields of bits

wide_told : (op : WideOp) (up : Bool) (n d imm : ℕ) → OfAnswer Told (wide_row op up n d imm)
unfolding wide_row has_full
wide_told op up n d imm =
    of_either Told (n == 15) _ _ (λ _. plain_told (d ∷ []) _ (λ e. of_when Told _ _ e))
    (λ _. of_unless Told (d == 15) _ _ (λ _. of_unless Told ((d == 13) && not (n == 13)) _ _ (λ e. of_when Told _ _ (denied ((d == 13) && not (n == 13)) e))))

half_told : (top : Bool) (d imm : ℕ) → imm < 2 ^ 16 → OfAnswer Told (on_plain (d ∷ []) (half top d imm))
unfolding has_full
half_told top d imm less = plain_told (d ∷ []) _ (λ e. and_from (lacks_sp (d ∷ [])) (nat_lt imm (2 ^ 16)) e (below imm (2 ^ 16) less))

extract_told : (op : FieldOp) (n d lsb w : ℕ) → OfAnswer Told (extract op n d lsb w)
unfolding extract has_full
extract_told op n d lsb w = plain_told (d ∷ n ∷ []) _ (λ e. of_when Told _ _ e)

insert_told : (n d lsb w : ℕ) → OfAnswer Told (insert n d lsb w)
unfolding insert has_full
insert_told n d lsb w =
    of_either Told (n == 15) _ _ (λ _. plain_told (d ∷ []) _ (λ e. of_unless Told (nat_lt w lsb) _ _ (λ _. of_when Told _ _ e)))
    (λ _. plain_told (d ∷ n ∷ []) _ (λ e. of_unless Told (nat_lt w lsb) _ _ (λ _. of_when Told _ _ e)))

-- branches

signed_25 : (z : ℕ) → z < 2 ^ 25 → is_signed 25 (signed 25 z) ≡ true
signed_25 z less = chosen (λ b. nat_lt z (2 ^ 24) ≡ b → is_signed 25 (if b then pos z else negsuc (2 ^ 25 - 1 - z)) ≡ true) (nat_lt z (2 ^ 24))
    (λ low _. low) (λ high _. let least = ltb-false z (2 ^ 24) high in below (2 ^ 25 - 1 - z) (2 ^ 24) (omega arith)) refl

signed_21 : (z : ℕ) → z < 2 ^ 21 → is_signed 21 (signed 21 z) ≡ true
signed_21 z less = chosen (λ b. nat_lt z (2 ^ 20) ≡ b → is_signed 21 (if b then pos z else negsuc (2 ^ 21 - 1 - z)) ≡ true) (nat_lt z (2 ^ 20))
    (λ low _. low) (λ high _. let least = ltb-false z (2 ^ 20) high in below (2 ^ 21 - 1 - z) (2 ^ 20) (omega arith)) refl

longer : (n : ℕ) → nat_lt n (2 ^ 20) ≡ true → nat_lt n (2 ^ 24) ≡ true
longer n e = grind (arith, nat_tests)

in_either : (b : Bool) (offset : ℤ) → is_signed 21 offset ≡ true → is_signed (if b then 25 else 21) offset ≡ true
in_either false offset e = e
in_either true (pos n) e = longer n e
in_either true (negsuc n) e = longer n e

long_is_small : (s i10 j k i11 : ℕ) → s < 2 → i10 < 2 ^ 10 → i11 < 2 ^ 11 → long_offset s i10 j k i11 < 2 ^ 25
long_is_small s i10 j k i11 ls l10 l11 = let p = one_if-small (j == s) in let q = one_if-small (k == s) in omega arith

condition_told : (c offset : ℕ) → offset < 2 ^ 21 → OfAnswer Told (on_condition_branch Outside c offset)
unfolding on_condition_branch has_full
condition_told c offset less =
    of_either Told (nat_lt c 14) _ _
    (λ _. of_condition Told (slice_get conditions c) (λ x. branch x (signed 21 offset)) (λ x got. of_when Told (is_even (signed 21 offset)) (Branch (record { cond = x; offset = signed 21 offset })) (in_either (is_always x) (signed 21 offset) (signed_21 offset less))))
    (λ _. tt)

-- loads and stores

access_told : (op : AccessOp) (t n : ℕ) (place : Place) (back : Bool) → ((back && (n == t)) ≡ false → place_has_full t n place ≡ true) → OfAnswer Told (access_row op t n place back)
unfolding access_row has_full
access_told op t n place back h =
    of_unless Told ((t == 15) || (n == 15)) _ _ (λ _. of_unless Told ((t == 13) || (back && (n == t))) _ _ (λ e. of_when Told _ _
    (and_from (lacks_sp (t ∷ [])) (place_has_full t n place) (one_lacks t (left (t == 13) _ e)) (h (right (t == 13) _ e)))))

changed_told : (n t i : ℕ) → i < 256 → (true && (n == t)) ≡ false → (nat_lt i 256 && not (n == t)) ≡ true
changed_told n t i less e = and_from (nat_lt i 256) (not (n == t)) (below i 256 less) (denied (n == t) e)

byte_told : (p u w : ℕ) (op : AccessOp) (n t i : ℕ) → i < 256 → OfAnswer Told (by_byte p u w op n t i)
unfolding by_byte
byte_told p u w op n t i less =
    of_either Told (w == 1) _ _
    (λ _. of_either Told (p == 1) _ _ (λ _. access_told op t n (Pre (u == 1) i) true (changed_told n t i less)) (λ _. access_told op t n (Post (u == 1) i) true (changed_told n t i less)))
    (λ _. of_either Told (p == 0) _ _ (λ _. tt) (λ _. of_either Told (u == 1) _ _ (λ _. tt) (λ _. access_told op t n (Offset false i) false (λ _. below i 256 less))))

register_told : (op : AccessOp) (n t shift m : ℕ) → OfAnswer Told (by_register op n t shift m)
unfolding by_register has_full
register_told op n t shift m =
    of_unless Told ((t == 15) || (n == 15) || (m == 15)) _ _ (λ _. of_unless Told ((t == 13) || (m == 13)) _ _ (λ e. of_when Told _ _
    (and_from (lacks_sp (t ∷ [])) (not (m == 13)) (one_lacks t (left (t == 13) (m == 13) e)) (denied (m == 13) (right (t == 13) (m == 13) e)))))

-- products, and operations on one register

product_told : (n a d m : ℕ) → OfAnswer Told (product n a d m)
unfolding product has_full
product_told n a d m = of_either Told (a == 15) _ _ (λ _. plain_told (d ∷ n ∷ m ∷ []) _ (λ e. e)) (λ _. plain_told (d ∷ n ∷ m ∷ a ∷ []) _ (λ e. e))

extension_told : (op : UnaryOp) (d m turn : ℕ) → OfAnswer Told (on_plain (d ∷ m ∷ []) (unary op d m turn))
unfolding has_full
extension_told op d m turn = plain_told (d ∷ m ∷ []) _ (λ e. of_when Told _ _ e)

order_told : (op : UnaryOp) (n d m : ℕ) → OfAnswer Told (on_plain (d ∷ m ∷ n ∷ []) (refused ((not (n == m), Unpredictable) ∷ []) (unary op d m 0)))
unfolding has_full
order_told op n d m = plain_told (d ∷ m ∷ n ∷ []) _ (λ e. of_unless Told (not (n == m)) _ _ (λ _. of_when Told (is_turn op 0) (Unary (record { op = op; d = d; m = m; turn = 0 })) (first_two d m n e)))

each_row : (c : ℕ) → OfRows Told 32 c (full_rows Outside)
unfolding full_rows has_full
each_row c =
    (λ f. many_told (cut c 21 1 == 1) false (cut c 22 1 == 1) (cut c 20 4) (2 ^ 14 * cut c 15 1 + cut c 13 13) (cut c 16 1 == 1))
    & (λ f. many_told (cut c 21 1 == 1) true (cut c 22 1 == 1) (cut c 20 4) (2 ^ 14 * cut c 15 1 + cut c 13 13) (cut c 16 1 == 1))
    & (λ f. dual_told (cut c 25 1) (cut c 24 1) (cut c 22 1) (cut c 21 1) (cut c 20 4) (cut c 16 4) (cut c 12 4) (cut c 8 8))
    & (λ f. data_told _ _ _ _ _)
    & (λ f. data_told _ _ _ _ _)
    & (λ f. wide_told _ true _ _ _)
    & (λ f. wide_told _ false _ _ _)
    & (λ f. half_told false (cut c 12 4) (4096 * cut c 20 4 + 2048 * cut c 27 1 + 256 * cut c 15 3 + cut c 8 8) (omega arith))
    & (λ f. half_told true (cut c 12 4) (4096 * cut c 20 4 + 2048 * cut c 27 1 + 256 * cut c 15 3 + cut c 8 8) (omega arith))
    & (λ f. extract_told _ _ _ _ _)
    & (λ f. extract_told _ _ _ _ _)
    & (λ f. insert_told _ _ _ _)
    & (λ f. of_when Told _ _ (signed_25 _ (long_is_small (cut c 27 1) (cut c 26 10) (cut c 14 1) (cut c 12 1) (cut c 11 11) (omega arith) (omega arith) (omega arith))))
    & (λ f. of_when Told _ _ (signed_25 _ (long_is_small (cut c 27 1) (cut c 26 10) (cut c 14 1) (cut c 12 1) (cut c 11 11) (omega arith) (omega arith) (omega arith))))
    & (λ f. of_when Told (takes_option Nop 0) (Nothing (record { op = Nop; option = 0 })) refl)
    & (λ f. tt)
    & (λ f. of_when Told _ _ refl)
    & (λ f. of_when Told _ _ refl)
    & (λ f. of_when Told _ _ refl)
    & (λ f. tt) & (λ f. tt) & (λ f. tt)
    & (λ f. condition_told (cut c 26 4) (2 ^ 20 * cut c 27 1 + 2 ^ 19 * cut c 12 1 + 2 ^ 18 * cut c 14 1 + 2 ^ 12 * cut c 22 6 + 2 * cut c 11 11) (omega arith))
    & (λ f. plain_told (cut c 16 4 ∷ []) _ (λ e. of_when Told _ _ e))
    & (λ f. of_when Told _ _ refl)
    & (λ f. of_access Told (slice_get accesses (8 * cut c 25 1 + 2 * cut c 23 2 + cut c 21 1)) _ (λ op got. access_told op (cut c 16 4) (cut c 20 4) (Offset true (cut c 12 12)) false (λ _. below (cut c 12 12) 4096 (omega arith))))
    & (λ f. of_access Told (slice_get accesses (8 * cut c 25 1 + 2 * cut c 23 2 + cut c 21 1)) _ (λ op got. byte_told (cut c 11 1) (cut c 10 1) (cut c 9 1) op (cut c 20 4) (cut c 16 4) (cut c 8 8) (omega arith)))
    & (λ f. of_access Told (slice_get accesses (8 * cut c 25 1 + 2 * cut c 23 2 + cut c 21 1)) _ (λ op got. register_told op (cut c 20 4) (cut c 16 4) (cut c 6 2) (cut c 4 4)))
    & (λ f. plain_told (cut c 12 4 ∷ cut c 20 4 ∷ cut c 4 4 ∷ []) _ (λ e. of_when Told _ _ e))
    & (λ f. extension_told Sxth (cut c 12 4) (cut c 4 4) (8 * cut c 6 2))
    & (λ f. extension_told Uxth (cut c 12 4) (cut c 4 4) (8 * cut c 6 2))
    & (λ f. extension_told Sxtb (cut c 12 4) (cut c 4 4) (8 * cut c 6 2))
    & (λ f. extension_told Uxtb (cut c 12 4) (cut c 4 4) (8 * cut c 6 2))
    & (λ f. order_told Rev (cut c 20 4) (cut c 12 4) (cut c 4 4))
    & (λ f. order_told Rev16 (cut c 20 4) (cut c 12 4) (cut c 4 4))
    & (λ f. order_told Rbit (cut c 20 4) (cut c 12 4) (cut c 4 4))
    & (λ f. order_told Revsh (cut c 20 4) (cut c 12 4) (cut c 4 4))
    & (λ f. order_told Clz (cut c 20 4) (cut c 12 4) (cut c 4 4))
    & (λ f. product_told (cut c 20 4) (cut c 16 4) (cut c 12 4) (cut c 4 4))
    & (λ f. plain_told (cut c 12 4 ∷ cut c 20 4 ∷ cut c 4 4 ∷ cut c 16 4 ∷ []) _ (λ e. e))
    & (λ f. plain_told (cut c 16 4 ∷ cut c 12 4 ∷ cut c 20 4 ∷ cut c 4 4 ∷ []) _ (λ e. of_when Told _ _ e))
    & (λ f. plain_told (cut c 16 4 ∷ cut c 12 4 ∷ cut c 20 4 ∷ cut c 4 4 ∷ []) _ (λ e. of_when Told _ _ e))
    & (λ f. plain_told (cut c 16 4 ∷ cut c 12 4 ∷ cut c 20 4 ∷ cut c 4 4 ∷ []) _ (λ e. of_when Told _ _ e))
    & (λ f. plain_told (cut c 16 4 ∷ cut c 12 4 ∷ cut c 20 4 ∷ cut c 4 4 ∷ []) _ (λ e. of_when Told _ _ e))
    & (λ f. plain_told (cut c 12 4 ∷ cut c 20 4 ∷ cut c 4 4 ∷ []) _ (λ e. e))
    & (λ f. plain_told (cut c 12 4 ∷ cut c 20 4 ∷ cut c 4 4 ∷ []) _ (λ e. e))
    & done

pub code_told : (c : ℕ) (i : Instr) → decoded 32 (full_rows Outside) c ≡ Ok i → has_full i ≡ true
code_told c i is = subst (OfAnswer Told) is (of_table Told 32 c 0 (full_rows Outside) (each_row c))
