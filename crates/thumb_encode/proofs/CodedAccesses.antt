-- Loads and stores that the test takes have a code of two halfwords.
use Rattle.std.proofs.Common.{◌≡◌, ℕ, ◌+◌, ◌*◌, ◌/◌, ◌%◌, ◌^◌, ◌<◌, ◌≤◌, ◌≢◌, Bool, true, false, [], ◌∷◌, refl, ap, ◌∙◌, arith, Option, Some, Ok, ◌==◌, ◌&&◌, ◌||◌, not, nat_lt, nat_le, slice_get}
use Rattle.std.proofs.lemmas.Bool.{and_parts, eqb-true, ltb-true, leb-true}
use Rattle.std.proofs.lemmas.Bool.Decides.{nat_tests}
use Rattle.thumb_instr.specs.declared.operations.AccessOp.{AccessOp}
use Rattle.thumb_instr.specs.declared.operations.AccessOp.TheVariants.{Ldr, Ldrb, Ldrh, Ldrsb, Ldrsh, Str, Strb, Strh}
use Rattle.thumb_instr.specs.declared.places.Place.{Place}
use Rattle.thumb_instr.specs.declared.places.Place.TheVariants.{Offset, Pre, Post, Index}
use Rattle.thumb_instr.specs.declared.places.PairIndex.{PairIndex}
use Rattle.thumb_instr.specs.declared.places.PairIndex.TheVariants as index
use Rattle.thumb_instr.specs.declared.instructions.Instr.{Instr}
use Rattle.thumb_instr.specs.declared.instructions.Instr.TheVariants as instr
use Rattle.thumb_instr.specs.Fields.{AccessFields, PairFields}
use Rattle.thumb_instr.specs.Operands.{is_place, is_pair_offset}
use Rattle.thumb_instr.specs.Patterns.{Answer, cut, fits}
use Rattle.thumb_instr.specs.FullRows.{full_rows, accesses, on_access, access_row, by_byte, by_register, two_words, dual}
use Rattle.thumb_instr.specs.Formed.{PlaceNamesRegisters}
use Rattle.mark_word.specs.Formulas.{one_if}
use Rattle.thumb_encode.specs.FullCodes.{access_number}
use Rattle.thumb_encode.specs.HasFull.{has_full, lacks_sp, place_has_full, is_changed}
use Rattle.thumb_encode.proofs.Covering.{chosen}
use Rattle.thumb_encode.proofs.Putting.{IsGiven, IsCoded, coded, coded_after, full_row}
use Rattle.thumb_encode.proofs.Coded.{four_bits, no_pc, one_bit, bit_again, neither, not_true, taken, passed}

-- the rows of LDR (literal) and of POP of pc alone, which stand before the others

differs : (x v : ℕ) (rest : Bool) → x ≢ v → ((x == v) && rest) ≡ false
differs x v rest apart = chosen (λ t. (x == v) ≡ t → (t && rest) ≡ false) (x == v) (λ e _. absurd (apart (eqb-true x v e))) (λ _ _. refl) refl

second_false : (a b : Bool) → b ≡ false → (a && b) ≡ false
second_false true b e = e
second_false false b e = refl

not_literal : (h n : ℕ) → cut h 20 4 ≡ n → n ≤ 14 → fits (full_row 23).pattern 32 h ≡ false
unfolding full_rows
not_literal h n is low = second_false (cut h 32 8 == 0xF8) ((cut h 23 7 == 95) && true) (differs (cut h 23 7) 95 true (λ ones. omega arith))

not_pop : (h t : ℕ) → cut h 16 4 ≡ t → t ≤ 14 → fits (full_row 24).pattern 32 h ≡ false
unfolding full_rows
not_pop h t is low = differs (cut h 32 32) 0xF85DFB04 true (λ all. omega arith)

access_get : (op : AccessOp) → slice_get accesses (8 * (access_number op / 8) + 2 * (access_number op / 2 % 4) + access_number op % 2) ≡ Some (Some op)
access_get Ldr = refl
access_get Ldrb = refl
access_get Ldrh = refl
access_get Ldrsb = refl
access_get Ldrsh = refl
access_get Str = refl
access_get Strb = refl
access_get Strh = refl

access_is_small : (op : AccessOp) → access_number op < 16
access_is_small Ldr = omega arith
access_is_small Ldrb = omega arith
access_is_small Ldrh = omega arith
access_is_small Ldrsb = omega arith
access_is_small Ldrsh = omega arith
access_is_small Str = omega arith
access_is_small Strb = omega arith
access_is_small Strh = omega arith

on_access_is : (op : AccessOp) (f : AccessOp → Answer) → on_access (slice_get accesses (8 * (access_number op / 8) + 2 * (access_number op / 2 % 4) + access_number op % 2)) f ≡ f op
on_access_is op f = ap (λ (o : Option (Option AccessOp)). on_access o f) (access_get op)

access_takes : (op : AccessOp) (t n : ℕ) (place : Place) (back : Bool) → t ≤ 14 → n ≤ 14 → (t == 13) ≡ false → (back && (n == t)) ≡ false → is_place place ≡ true
    → access_row op t n place back ≡ Ok (instr.Access (record { op = op; t = t; n = n; place = place }))
unfolding access_row
access_takes op t n place back lt ln plain apart is =
    passed _ _ _ _ (neither (t == 15) (n == 15) (no_pc t lt) (no_pc n ln)) (passed _ _ _ _ (neither (t == 13) (back && (n == t)) plain apart) (taken (is_place place) _ is))

register_takes : (op : AccessOp) (t n m shift : ℕ) → t ≤ 14 → n ≤ 14 → m ≤ 14 → (t == 13) ≡ false → (m == 13) ≡ false → is_place (Index m shift) ≡ true
    → by_register op n t shift m ≡ Ok (instr.Access (record { op = op; t = t; n = n; place = Index m shift }))
unfolding by_register
register_takes op t n m shift lt ln lm plain other is =
    passed _ _ _ _ (neither ((t == 15) || (n == 15)) (m == 15) (neither (t == 15) (n == 15) (no_pc t lt) (no_pc n ln)) (no_pc m lm))
    (passed _ _ _ _ (neither (t == 13) (m == 13) plain other) (taken (is_place (Index m shift)) _ is))

-- an offset of 12 bits
twelve_of : (op : AccessOp) (t n imm : ℕ) → t ≤ 14 → n ≤ 14 → (t == 13) ≡ false → imm < 2 ^ 12 → IsCoded (instr.Access (record { op = op; t = t; n = n; place = Offset true imm }))
unfolding full_rows
twelve_of op t n imm lt ln plain less =
    let k = access_number op in
    let small = access_is_small op in
    coded_after (full_row 23 ∷ []) 25 (k / 8, (k / 2 % 4, (k % 2, (n, (t, (imm, tt)))))) _ refl (refl, refl)
    (omega arith, (omega arith, (omega arith, (four_bits n ln, (four_bits t lt, (less, tt))))))
    (λ h cuts. (not_literal h n cuts.1.1.1.1.1.0 ln, tt))
    (on_access_is op (λ op. access_row op t n (Offset true imm) false) ∙ access_takes op t n (Offset true imm) false lt ln plain refl refl)

-- an offset of 8 bits
byte_of : (p u w : ℕ) (op : AccessOp) (t n imm : ℕ) (i : Instr) → p < 2 ^ 1 → u < 2 ^ 1 → w < 2 ^ 1 → t ≤ 14 → n ≤ 14 → imm < 2 ^ 8 → by_byte p u w op n t imm ≡ Ok i → IsCoded i
unfolding full_rows
byte_of p u w op t n imm i lp lu lw lt ln less answer =
    let k = access_number op in
    let small = access_is_small op in
    coded_after (full_row 23 ∷ full_row 24 ∷ []) 26 (k / 8, (k / 2 % 4, (k % 2, (n, (t, (p, (u, (w, (imm, tt))))))))) i refl (refl, (refl, refl))
    (omega arith, (omega arith, (omega arith, (four_bits n ln, (four_bits t lt, (lp, (lu, (lw, (less, tt)))))))))
    (λ h cuts. (not_literal h n cuts.1.1.1.1.1.0 ln, (not_pop h t cuts.1.1.1.1.1.1.0 lt, tt)))
    (on_access_is op (λ op. by_byte p u w op n t imm) ∙ answer)

-- a register
index_of : (op : AccessOp) (t n m shift : ℕ) → t ≤ 14 → n ≤ 14 → m ≤ 14 → (t == 13) ≡ false → (m == 13) ≡ false → nat_le shift 3 ≡ true → IsCoded (instr.Access (record { op = op; t = t; n = n; place = Index m shift }))
unfolding full_rows
index_of op t n m shift lt ln lm plain other most =
    let k = access_number op in
    let small = access_is_small op in
    let few = leb-true shift 3 most in
    coded_after (full_row 23 ∷ []) 27 (k / 8, (k / 2 % 4, (k % 2, (n, (t, (shift, (m, tt))))))) _ refl (refl, refl)
    (omega arith, (omega arith, (omega arith, (four_bits n ln, (four_bits t lt, (omega arith, (four_bits m lm, tt)))))))
    (λ h cuts. (not_literal h n cuts.1.1.1.1.1.0 ln, tt))
    (on_access_is op (λ op. by_register op n t shift m) ∙ register_takes op t n m shift lt ln lm plain other most)

first_of_one : (t : ℕ) → lacks_sp (t ∷ []) ≡ true → (t == 13) ≡ false
first_of_one t e = grind (arith, nat_tests)

pre_takes : (op : AccessOp) (t n : ℕ) (up : Bool) (imm : ℕ) → t ≤ 14 → n ≤ 14 → (t == 13) ≡ false → (n == t) ≡ false → by_byte 1 (one_if up) 1 op n t imm ≡ Ok (instr.Access (record { op = op; t = t; n = n; place = Pre up imm }))
unfolding by_byte
pre_takes op t n up imm lt ln plain apart = rw (bit_again up) (access_takes op t n (Pre up imm) true lt ln plain apart refl)

post_takes : (op : AccessOp) (t n : ℕ) (up : Bool) (imm : ℕ) → t ≤ 14 → n ≤ 14 → (t == 13) ≡ false → (n == t) ≡ false → by_byte 0 (one_if up) 1 op n t imm ≡ Ok (instr.Access (record { op = op; t = t; n = n; place = Post up imm }))
unfolding by_byte
post_takes op t n up imm lt ln plain apart = rw (bit_again up) (access_takes op t n (Post up imm) true lt ln plain apart refl)

below_takes : (op : AccessOp) (t n imm : ℕ) → t ≤ 14 → n ≤ 14 → (t == 13) ≡ false → by_byte 1 0 0 op n t imm ≡ Ok (instr.Access (record { op = op; t = t; n = n; place = Offset false imm }))
unfolding by_byte
below_takes op t n imm lt ln plain = access_takes op t n (Offset false imm) false lt ln plain refl refl

access_of : (op : AccessOp) (t n : ℕ) (place : Place) → t ≤ 14 → n ≤ 14 → PlaceNamesRegisters place → is_place place ≡ true → (t == 13) ≡ false → place_has_full t n place ≡ true
    → IsCoded (instr.Access (record { op = op; t = t; n = n; place = place }))
access_of op t n (Offset true imm) lt ln lp is plain e = let less = ltb-true imm 4096 e in twelve_of op t n imm lt ln plain (omega arith)
access_of op t n (Offset false imm) lt ln lp is plain e = let less = ltb-true imm 256 e in byte_of 1 0 0 op t n imm _ (omega arith) (omega arith) (omega arith) lt ln (omega arith) (below_takes op t n imm lt ln plain)
access_of op t n (Pre up imm) lt ln lp is plain e =
    let both = and_parts (nat_lt imm 256) (not (n == t)) e in
    let less = ltb-true imm 256 both.0 in
    byte_of 1 (one_if up) 1 op t n imm _ (omega arith) (one_bit up) (omega arith) lt ln (omega arith) (pre_takes op t n up imm lt ln plain (not_true (n == t) both.1))
access_of op t n (Post up imm) lt ln lp is plain e =
    let both = and_parts (nat_lt imm 256) (not (n == t)) e in
    let less = ltb-true imm 256 both.0 in
    byte_of 0 (one_if up) 1 op t n imm _ (omega arith) (one_bit up) (omega arith) lt ln (omega arith) (post_takes op t n up imm lt ln plain (not_true (n == t) both.1))
access_of op t n (Index m shift) lt ln lp is plain e = index_of op t n m shift lt ln lp plain (not_true (m == 13) e) is

pub access_coded : (i : AccessFields) → IsGiven (instr.Access i) → has_full (instr.Access i) ≡ true → IsCoded (instr.Access i)
unfolding has_full
access_coded i f e =
    let both = and_parts (lacks_sp (i.t ∷ [])) (place_has_full i.t i.n i.place) e in
    access_of i.op i.t i.n i.place f.registers.0 f.registers.1 f.registers.2 f.fields (first_of_one i.t both.0) both.1

-- LDRD and STRD

quarter_again : (imm : ℕ) → is_pair_offset imm ≡ true → 4 * (imm / 4) ≡ imm
quarter_again imm e = let both = and_parts (nat_le imm 1020) (imm % 4 == 0) e in let rest = eqb-true (imm % 4) 0 both.1 in omega arith

quarter_is_small : (imm : ℕ) → is_pair_offset imm ≡ true → imm / 4 < 2 ^ 8
quarter_is_small imm e = let both = and_parts (nat_le imm 1020) (imm % 4 == 0) e in let most = leb-true imm 1020 both.0 in omega arith

first_of_two : (t u : ℕ) → lacks_sp (t ∷ u ∷ []) ≡ true → (t == 13) ≡ false
first_of_two t u e = grind (arith, nat_tests)

second_of_two : (t u : ℕ) → lacks_sp (t ∷ u ∷ []) ≡ true → (u == 13) ≡ false
second_of_two t u e = grind (arith, nat_tests)

pair_takes : (load : Bool) (t u n : ℕ) (up : Bool) (imm : ℕ) (x : PairIndex) → t ≤ 14 → u ≤ 14 → n ≤ 14 → is_pair_offset imm ≡ true
    → lacks_sp (t ∷ u ∷ []) ≡ true → (load && (t == u)) ≡ false → (is_changed x && ((n == t) || (n == u))) ≡ false
    → two_words load t u n up imm x (is_changed x) ≡ Ok (instr.Pair (record { load = load; t = t; u = u; n = n; up = up; imm = imm; index = x }))
unfolding two_words
pair_takes load t u n up imm x lt lu ln is plain once apart =
    passed _ _ _ _ (neither ((t == 15) || (u == 15)) (n == 15) (neither (t == 15) (u == 15) (no_pc t lt) (no_pc u lu)) (no_pc n ln))
    (passed _ _ _ _ (neither ((t == 13) || (u == 13) || (load && (t == u))) (is_changed x && ((n == t) || (n == u)))
    (neither ((t == 13) || (u == 13)) (load && (t == u)) (neither (t == 13) (u == 13) (first_of_two t u plain) (second_of_two t u plain)) once) apart) (taken (is_pair_offset imm) _ is))

-- p and w
abbrev pub comes_before : PairIndex → ℕ
comes_before index.Offset = 1
comes_before index.Pre = 1
comes_before index.Post = 0

dual_is : (x : PairIndex) (u l n t s i : ℕ) → dual (comes_before x) u (one_if (is_changed x)) l n t s i ≡ two_words (l == 1) t s n (u == 1) (4 * i) x (is_changed x)
unfolding dual
dual_is index.Offset u l n t s i = refl
dual_is index.Pre u l n t s i = refl
dual_is index.Post u l n t s i = refl

before_is_small : (x : PairIndex) → comes_before x < 2 ^ 1
before_is_small index.Offset = omega arith
before_is_small index.Pre = omega arith
before_is_small index.Post = omega arith

dual_takes : (i : PairFields) → IsGiven (instr.Pair i) → has_full (instr.Pair i) ≡ true → dual (comes_before i.index) (one_if i.up) (one_if (is_changed i.index)) (one_if i.load) i.n i.t i.u (i.imm / 4) ≡ Ok (instr.Pair i)
unfolding has_full
dual_takes i f e =
    let both = and_parts (lacks_sp (i.t ∷ i.u ∷ []) && not (i.load && (i.t == i.u))) (not (is_changed i.index && ((i.n == i.t) || (i.n == i.u)))) e in
    let parts = and_parts (lacks_sp (i.t ∷ i.u ∷ [])) (not (i.load && (i.t == i.u))) both.0 in
    dual_is i.index (one_if i.up) (one_if i.load) i.n i.t i.u (i.imm / 4)
    ∙ rw (bit_again i.load, bit_again i.up, quarter_again i.imm f.fields)
    (pair_takes i.load i.t i.u i.n i.up i.imm i.index f.registers.0 f.registers.1 f.registers.2 f.fields parts.0 (not_true _ parts.1) (not_true _ both.1))

pub pair_coded : (i : PairFields) → IsGiven (instr.Pair i) → has_full (instr.Pair i) ≡ true → IsCoded (instr.Pair i)
unfolding full_rows
pair_coded i f e =
    let r = f.registers in
    coded 2 (comes_before i.index, (one_if i.up, (one_if (is_changed i.index), (one_if i.load, (i.n, (i.t, (i.u, (i.imm / 4, tt)))))))) _ refl refl
    (before_is_small i.index, (one_bit i.up, (one_bit (is_changed i.index), (one_bit i.load, (four_bits i.n r.2, (four_bits i.t r.0, (four_bits i.u r.1, (quarter_is_small i.imm f.fields, tt))))))))
    (dual_takes i f e)
