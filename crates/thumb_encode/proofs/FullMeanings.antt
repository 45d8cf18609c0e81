-- What the words of the full table answer has as its only candidate the number that is made of their fields.
use Rattle.std.proofs.Common.{◌≡◌, ℕ, ◌+◌, ◌-◌, ◌*◌, ◌/◌, ◌%◌, ◌^◌, ◌<◌, Bool, true, false, List, [], ◌∷◌, refl, ap, sym, ◌∙◌, subst, arith, Option, Some, None, if◌then◌else◌, nat_lt, not, ◌||◌, ◌&&◌, ◌==◌}
use Rattle.std.specs.List.{list_any}
use Rattle.std.proofs.lemmas.Bool.Decides.{nat_tests}
use Rattle.std.proofs.lemmas.Bool.{eqb-true, ltb-false}
use Rattle.thumb_instr.specs.declared.operations.WideOp.{WideOp}
use Rattle.thumb_instr.specs.declared.operations.FieldOp.TheVariants.{Sbfx, Ubfx}
use Rattle.thumb_instr.specs.declared.operations.UnaryOp.{UnaryOp}
use Rattle.thumb_instr.specs.declared.operations.AccessOp.{AccessOp}
use Rattle.thumb_instr.specs.declared.places.Place.{Place}
use Rattle.thumb_instr.specs.declared.places.Place.TheVariants.{Offset, Pre, Post, Index}
use Rattle.thumb_instr.specs.declared.places.PairIndex.{PairIndex}
use Rattle.thumb_instr.specs.declared.places.PairIndex.TheVariants as index
use Rattle.thumb_instr.specs.declared.instructions.Instr.{Instr}
use Rattle.thumb_instr.specs.declared.instructions.Instr.TheVariants.{Unary}
use Rattle.thumb_instr.specs.declared.refusals.BadInstr.TheVariants.{Unpredictable, PcOperand}
use Rattle.thumb_instr.specs.declared.refusals.ItPlace.TheVariants.{Outside}
use Rattle.thumb_instr.specs.Operands.{has, is_turn}
use Rattle.thumb_instr.specs.Patterns.{Answer, cut, refused}
use Rattle.thumb_instr.specs.Meanings.{signed, access, pair, unary, is_inside}
use Rattle.mark_word.specs.Formulas.{one_if}
use Rattle.thumb_instr.specs.FullRows.{on_plain, members, many, two_words, exclusive, dual, wide_row, extract, insert, on_condition_branch, long_offset, on_access, access_row, by_byte, by_register, product}
use Rattle.thumb_instr.specs.Blocks.{condition_number}
use Rattle.thumb_encode.specs.HalfCodes.{word_of}
use Rattle.thumb_encode.specs.FullCodes.{full_code, full_number, split_number, shifted_number, wide_number, adr_number, access_number, access_row_number, byte_number, near_branch, far_branch, is_before, is_changed, place_code}
use Rattle.thumb_encode.proofs.Covering.{OfAnswer, of_when, of_refused, of_unless, of_either, of_condition, if_false, chosen}
use Rattle.thumb_encode.proofs.Fields.{condition_number-get, word_of-signed_21, word_of-signed_25}
use Rattle.thumb_encode.proofs.FullFields.{full_number-cut, bit-of, same-twice, one_if-small, far_branch-of, near_branch-of}
use Rattle.thumb_encode.proofs.DataCovering.{IsOnly}

pub of_plain : (c : ℕ) (rs : List ℕ) (a : Answer) → OfAnswer (IsOnly c) a → OfAnswer (IsOnly c) (on_plain rs a)
of_plain c rs a h = of_refused (IsOnly c) ((list_any (λ r. r == 15) rs, PcOperand) ∷ (list_any (λ r. r == 13) rs, Unpredictable) ∷ []) a h

pub of_access : (P : Instr → Type 0) (o : Option (Option AccessOp)) (f : AccessOp → Answer) → ((op : AccessOp) → o ≡ Some (Some op) → OfAnswer P (f op)) → OfAnswer P (on_access o f)
of_access P None f h = tt
of_access P (Some None) f h = tt
of_access P (Some (Some op)) f h = h op refl

-- no register, and pc or not, are fewer than two
few : (pc : Bool) → nat_lt (members 15 0 + one_if pc) 2 ≡ true
few true = refl
few false = refl

second-of : (a b c d : Bool) → (((a || b) || c) || d) ≡ false → b ≡ false
second-of true b c d e = absurd (cc)
second-of false true c d e = absurd (cc)
second-of false false c d e = refl

some_listed : (list : ℕ) (pc : Bool) → nat_lt (members 15 list + one_if pc) 2 ≡ false → (list == 0) ≡ false
some_listed list pc e = chosen (λ b. (list == 0) ≡ b → b ≡ false) (list == 0)
    (λ zeros _. let P : ℕ → Type 0 = λ l. nat_lt (members 15 l + one_if pc) 2 ≡ false in
    let wrong : true ≡ false = sym (few pc) ∙ subst P (eqb-true list 0 zeros) e in absurd (cc))
    (λ _ _. refl) refl

pub many-covers : (c : ℕ) (load down back : Bool) (n list : ℕ) (pc : Bool)
    → full_number (2 ^ 2 * (if down then 932 else 930) + 2 * one_if back + one_if load) n (2 ^ 3 * one_if pc + 2 ^ 2 * (list / 2 ^ 14 % 2) + list / 2 ^ 12 % 2) (list / 2 ^ 8 % 16) (list % 2 ^ 8) ≡ c
    → OfAnswer (IsOnly c) (many Outside load down back n list pc)
unfolding many full_code
many-covers c load down back n list pc is =
    of_unless (IsOnly c) ((n == 15) || (pc && not (load && not down && back && (n == 13)))) _ _ (λ _.
    of_unless (IsOnly c) ((pc && is_inside Outside) || nat_lt (members 15 list + one_if pc) 2 || (pc && has list 14) || (back && has list n)) _ _ (λ fine.
    of_when (IsOnly c) _ _ (ap Some (if_false (list == 0) _ _
    (some_listed list pc (second-of (pc && is_inside Outside) (nat_lt (members 15 list + one_if pc) 2) (pc && has list 14) (back && has list n) fine)) ∙ is))))

pub two_words-covers : (c : ℕ) (load : Bool) (t u n : ℕ) (up : Bool) (imm : ℕ) (index : PairIndex) (back : Bool)
    → full_number (2 ^ 5 * 116 + 2 ^ 4 * is_before index + 2 ^ 3 * one_if up + 2 ^ 2 + 2 * is_changed index + one_if load) n t u (imm / 4 % 2 ^ 8) ≡ c
    → OfAnswer (IsOnly c) (two_words load t u n up imm index back)
unfolding two_words full_code
two_words-covers c load t u n up imm index back is = of_refused (IsOnly c)
    (((t == 15) || (u == 15) || (n == 15), PcOperand)
    ∷ ((t == 13) || (u == 13) || (load && (t == u)) || (back && ((n == t) || (n == u))), Unpredictable) ∷ [])
    (pair load t u n up imm index) (of_when (IsOnly c) _ _ (ap Some is))

exclusive-covers : (c u l t s i : ℕ) → OfAnswer (IsOnly c) (exclusive u l t s i)
unfolding exclusive
exclusive-covers c u l t s i = of_either (IsOnly c) ((u == 1) && (l == 1) && (t == 15) && (s == 0) && nat_lt i 32) _ _ (λ _. tt) (λ _. tt)

bit_left : (b : ℕ) → b < 2 → (b == 1) ≡ false → b ≡ 0
bit_left b less not = grind (arith, nat_tests)

bit_set : (b : ℕ) → b < 2 → (b == 0) ≡ false → b ≡ 1
bit_set b less not = grind (arith, nat_tests)

equal : (a b : ℕ) → not (a == b) ≡ false → a ≡ b
equal a b e = grind (arith, nat_tests)

pub dual-covers : (c : ℕ) → c < 2 ^ 32 → cut c 32 7 ≡ 116 → cut c 23 1 ≡ 1
    → OfAnswer (IsOnly c) (dual (cut c 25 1) (cut c 24 1) (cut c 22 1) (cut c 21 1) (cut c 20 4) (cut c 16 4) (cut c 12 4) (cut c 8 8))
unfolding dual
dual-covers c small top one =
    let up = bit-of (cut c 24 1) (omega arith) in
    let load = bit-of (cut c 21 1) (omega arith) in
    let made : (p w : ℕ) → p ≡ cut c 25 1 → w ≡ cut c 22 1
    → full_number (2 ^ 5 * 116 + 2 ^ 4 * p + 2 ^ 3 * one_if (cut c 24 1 == 1) + 2 ^ 2 + 2 * w + one_if (cut c 21 1 == 1)) (cut c 20 4) (cut c 16 4) (cut c 12 4) (4 * cut c 8 8 / 4 % 2 ^ 8) ≡ c
    = λ p w is_p is_w. full_number-cut (2 ^ 5 * 116 + 2 ^ 4 * p + 2 ^ 3 * one_if (cut c 24 1 == 1) + 2 ^ 2 + 2 * w + one_if (cut c 21 1 == 1)) (cut c 20 4) (cut c 16 4) (cut c 12 4) (4 * cut c 8 8 / 4 % 2 ^ 8) c small
    (omega arith) refl refl refl (omega arith) in
    of_either (IsOnly c) (cut c 22 1 == 1) _ _
    (λ changed. of_either (IsOnly c) (cut c 25 1 == 1) _ _
    (λ before. two_words-covers c (cut c 21 1 == 1) (cut c 16 4) (cut c 12 4) (cut c 20 4) (cut c 24 1 == 1) (4 * cut c 8 8) index.Pre true
    (made 1 1 (sym (eqb-true (cut c 25 1) 1 before)) (sym (eqb-true (cut c 22 1) 1 changed))))
    (λ after. two_words-covers c (cut c 21 1 == 1) (cut c 16 4) (cut c 12 4) (cut c 20 4) (cut c 24 1 == 1) (4 * cut c 8 8) index.Post true
    (made 0 1 (sym (bit_left (cut c 25 1) (omega arith) after)) (sym (eqb-true (cut c 22 1) 1 changed)))))
    (λ stays. of_either (IsOnly c) (cut c 25 1 == 1) _ _
    (λ before. two_words-covers c (cut c 21 1 == 1) (cut c 16 4) (cut c 12 4) (cut c 20 4) (cut c 24 1 == 1) (4 * cut c 8 8) index.Offset false
    (made 1 0 (sym (eqb-true (cut c 25 1) 1 before)) (sym (bit_left (cut c 22 1) (omega arith) stays))))
    (λ _. exclusive-covers c (cut c 24 1) (cut c 21 1) (cut c 16 4) (cut c 12 4) (cut c 8 8)))

pub wide_row-covers : (c : ℕ) (op : WideOp) (up : Bool) (n d imm : ℕ) → wide_number op ≡ adr_number up → split_number (wide_number op) n d imm ≡ c → OfAnswer (IsOnly c) (wide_row op up n d imm)
unfolding wide_row full_code
wide_row-covers c op up n d imm same is =
    of_either (IsOnly c) (n == 15) _ _
    (λ none. of_plain c (d ∷ []) _ (of_when (IsOnly c) _ _
    (let P : ℕ → Type 0 = λ y. split_number (wide_number op) y d imm ≡ c in
    let Q : ℕ → Type 0 = λ y. split_number y 15 d imm ≡ c in
    ap Some (subst Q same (subst P (eqb-true n 15 none) is)))))
    (λ _. of_unless (IsOnly c) (d == 15) _ _ (λ _. of_unless (IsOnly c) ((d == 13) && not (n == 13)) _ _ (λ _. of_when (IsOnly c) _ _ (ap Some is))))

pub insert-covers : (c n d lsb w : ℕ) → shifted_number 0xF36 n d lsb w ≡ c → OfAnswer (IsOnly c) (insert n d lsb w)
unfolding insert full_code
insert-covers c n d lsb w is =
    let ends : nat_lt w lsb ≡ false → w ≡ lsb + (w - lsb + 1) - 1 = λ within. omega (arith, ltb-false w lsb within) in
    let P : ℕ → ℕ → Type 0 = λ y z. shifted_number 0xF36 y d lsb z ≡ c in
    of_either (IsOnly c) (n == 15) _ _
    (λ none. of_plain c (d ∷ []) _ (of_unless (IsOnly c) (nat_lt w lsb) _ _ (λ within. of_when (IsOnly c) _ _
    (ap Some (subst (λ (y : ℕ). P y (lsb + (w - lsb + 1) - 1)) (eqb-true n 15 none) (subst (P n) (ends within) is))))))
    (λ _. of_plain c (d ∷ n ∷ []) _ (of_unless (IsOnly c) (nat_lt w lsb) _ _ (λ within. of_when (IsOnly c) _ _ (ap Some (subst (P n) (ends within) is)))))

pub sbfx-covers : (c n d lsb w : ℕ) → shifted_number 0xF34 n d lsb w ≡ c → OfAnswer (IsOnly c) (extract Sbfx n d lsb w)
unfolding extract full_code
sbfx-covers c n d lsb w is = of_plain c (d ∷ n ∷ []) _ (of_when (IsOnly c) _ _
    (let again : w ≡ w + 1 - 1 = omega arith in ap Some (subst (λ (z : ℕ). shifted_number 0xF34 n d lsb z ≡ c) again is)))

pub ubfx-covers : (c n d lsb w : ℕ) → shifted_number 0xF3C n d lsb w ≡ c → OfAnswer (IsOnly c) (extract Ubfx n d lsb w)
unfolding extract full_code
ubfx-covers c n d lsb w is = of_plain c (d ∷ n ∷ []) _ (of_when (IsOnly c) _ _
    (let again : w ≡ w + 1 - 1 = omega arith in ap Some (subst (λ (z : ℕ). shifted_number 0xF3C n d lsb z ≡ c) again is)))

below-2-25 : (s p q ten eleven : ℕ) → s < 2 → p < 2 → q < 2 → ten < 2 ^ 10 → eleven < 2 ^ 11 → 2 ^ 24 * s + 2 ^ 23 * p + 2 ^ 22 * q + 2 ^ 12 * ten + 2 * eleven < 2 ^ 25
below-2-25 s p q ten eleven less_s less_p less_q less_10 less_11 = omega arith

far_sum : (o c s j k x y : ℕ) → c < 2 ^ 32 → cut c 32 5 ≡ 30 → cut c 16 2 ≡ o → cut c 13 1 ≡ 1 → x ≡ j → y ≡ k → s ≡ cut c 27 1 → j ≡ cut c 14 1 → k ≡ cut c 12 1
    → 2 ^ 27 * 30 + 2 ^ 26 * s + 2 ^ 16 * cut c 26 10 + 2 ^ 14 * o + 2 ^ 12 + 2 ^ 13 * x + 2 ^ 11 * y + cut c 11 11 ≡ c
far_sum o c s j k x y small top op one is_x is_y is_s is_j is_k = omega arith

pub far_branch-covers : (o c : ℕ) → c < 2 ^ 32 → cut c 32 5 ≡ 30 → cut c 16 2 ≡ o → cut c 13 1 ≡ 1
    → far_branch o (word_of (signed 25 (long_offset (cut c 27 1) (cut c 26 10) (cut c 14 1) (cut c 12 1) (cut c 11 11)))) ≡ c
far_branch-covers o c small top op one =
    let s = cut c 27 1 in let j = cut c 14 1 in let k = cut c 12 1 in
    let p = one_if (j == s) in let q = one_if (k == s) in
    let less_p : p < 2 = one_if-small (j == s) in
    let less_q : q < 2 = one_if-small (k == s) in
    let less_s : s < 2 = omega arith in
    let offset = long_offset s (cut c 26 10) j k (cut c 11 11) in
    let less : offset < 2 ^ 25 = below-2-25 s p q (cut c 26 10) (cut c 11 11) less_s less_p less_q (omega arith) (omega arith) in
    far_branch-of o (word_of (signed 25 offset)) s p q (cut c 26 10) (cut c 11 11) less_s less_p less_q (omega arith) (omega arith) (word_of-signed_25 offset less)
    ∙ far_sum o c s j k (one_if (p == s)) (one_if (q == s)) small top op one (same-twice j s (omega arith) less_s) (same-twice k s (omega arith) less_s) refl refl refl

pub near_branch-covers : (c : ℕ) → c < 2 ^ 32 → cut c 32 5 ≡ 30 → cut c 16 2 ≡ 2 → cut c 13 1 ≡ 0
    → near_branch (cut c 26 4) (word_of (signed 21 (2 ^ 20 * cut c 27 1 + 2 ^ 19 * cut c 12 1 + 2 ^ 18 * cut c 14 1 + 2 ^ 12 * cut c 22 6 + 2 * cut c 11 11))) ≡ c
near_branch-covers c small top op zeros =
    let offset = 2 ^ 20 * cut c 27 1 + 2 ^ 19 * cut c 12 1 + 2 ^ 18 * cut c 14 1 + 2 ^ 12 * cut c 22 6 + 2 * cut c 11 11 in
    near_branch-of (cut c 26 4) (word_of (signed 21 offset)) (cut c 27 1) (cut c 12 1) (cut c 14 1) (cut c 22 6) (cut c 11 11)
    (omega arith) (omega arith) (omega arith) (omega arith) (omega arith) (word_of-signed_21 offset (omega arith))
    ∙ omega arith

is_14-below : (k : ℕ) → nat_lt k 14 ≡ true → (k == 14) ≡ false
is_14-below k less = grind (arith, nat_tests)

pub on_condition_branch-covers : (c k offset : ℕ) → near_branch k (word_of (signed 21 offset)) ≡ c → OfAnswer (IsOnly c) (on_condition_branch Outside k offset)
unfolding on_condition_branch full_code
on_condition_branch-covers c k offset is =
    of_either (IsOnly c) (nat_lt k 14) _ _
    (λ less. of_condition (IsOnly c) _ _ (λ x got. of_when (IsOnly c) _ _
    (let same = condition_number-get k x got in
    let P : ℕ → Type 0 = λ y. (y == 14) ≡ false in
    let Q : ℕ → Type 0 = λ y. near_branch y (word_of (signed 21 offset)) ≡ c in
    ap Some (if_false (condition_number x == 14) _ _ (subst P (sym same) (is_14-below k less)) ∙ subst Q (sym same) is))))
    (λ _. tt)

pub access_row-covers : (c : ℕ) (op : AccessOp) (t n : ℕ) (place : Place) (back : Bool) → place_code (access_number op) n t place ≡ c → OfAnswer (IsOnly c) (access_row op t n place back)
unfolding access_row full_code
access_row-covers c op t n place back is = of_refused (IsOnly c)
    (((t == 15) || (n == 15), PcOperand) ∷ ((t == 13) || (back && (n == t)), Unpredictable) ∷ [])
    (access op t n place) (of_when (IsOnly c) _ _ (ap Some is))

pub by_register-covers : (c : ℕ) (op : AccessOp) (t n shift m : ℕ) → place_code (access_number op) n t (Index m shift) ≡ c → OfAnswer (IsOnly c) (by_register op n t shift m)
unfolding by_register full_code
by_register-covers c op t n shift m is = of_refused (IsOnly c)
    (((t == 15) || (n == 15) || (m == 15), PcOperand) ∷ ((t == 13) || (m == 13), Unpredictable) ∷ [])
    (access op t n (Index m shift)) (of_when (IsOnly c) _ _ (ap Some is))

-- the number of a load or store is its row's: 1111100 g . zz l
pub access_row_number-cut : (c k : ℕ) → c < 2 ^ 32 → cut c 32 7 ≡ 124 → k ≡ 8 * cut c 25 1 + 2 * cut c 23 2 + cut c 21 1 → access_row_number k + 8 * cut c 24 1 ≡ cut c 32 12
unfolding access_row_number
access_row_number-cut c k small top is = omega arith

by_byte-number : (c k p w : ℕ) → c < 2 ^ 32 → cut c 32 7 ≡ 124 → cut c 24 1 ≡ 0 → cut c 12 1 ≡ 1 → k ≡ 8 * cut c 25 1 + 2 * cut c 23 2 + cut c 21 1 → p ≡ cut c 11 1 → w ≡ cut c 9 1
    → byte_number k (cut c 20 4) (cut c 16 4) p (cut c 10 1 == 1) w (cut c 8 8) ≡ c
unfolding byte_number
by_byte-number c k p w small top zeros one is is_p is_w =
    let up = bit-of (cut c 10 1) (omega arith) in
    let row = access_row_number-cut c k small top is in
    full_number-cut (access_row_number k) (cut c 20 4) (cut c 16 4) (8 + 4 * p + 2 * one_if (cut c 10 1 == 1) + w) (cut c 8 8 % 2 ^ 8) c small (omega arith) refl refl (omega arith) (omega arith)

pub by_byte-covers : (c : ℕ) (op : AccessOp) → c < 2 ^ 32 → cut c 32 7 ≡ 124 → cut c 24 1 ≡ 0 → cut c 12 1 ≡ 1 → access_number op ≡ 8 * cut c 25 1 + 2 * cut c 23 2 + cut c 21 1
    → OfAnswer (IsOnly c) (by_byte (cut c 11 1) (cut c 10 1) (cut c 9 1) op (cut c 20 4) (cut c 16 4) (cut c 8 8))
unfolding by_byte
by_byte-covers c op small top zeros one is =
    let k = access_number op in
    let n = cut c 20 4 in let t = cut c 16 4 in let i = cut c 8 8 in
    let up = cut c 10 1 == 1 in
    of_either (IsOnly c) (cut c 9 1 == 1) _ _
    (λ changed. of_either (IsOnly c) (cut c 11 1 == 1) _ _
    (λ before. access_row-covers c op t n (Pre up i) true (by_byte-number c k 1 1 small top zeros one is (sym (eqb-true (cut c 11 1) 1 before)) (sym (eqb-true (cut c 9 1) 1 changed))))
    (λ after. access_row-covers c op t n (Post up i) true (by_byte-number c k 0 1 small top zeros one is (sym (bit_left (cut c 11 1) (omega arith) after)) (sym (eqb-true (cut c 9 1) 1 changed)))))
    (λ stays. of_either (IsOnly c) (cut c 11 1 == 0) _ _
    (λ _. tt)
    (λ before. of_either (IsOnly c) up _ _
    (λ _. tt)
    (λ down. access_row-covers c op t n (Offset false i) false
    (subst (λ (b : Bool). byte_number k n t 1 b 0 i ≡ c) down
    (by_byte-number c k 1 0 small top zeros one is (sym (bit_set (cut c 11 1) (omega arith) before)) (sym (bit_left (cut c 9 1) (omega arith) stays)))))))

pub product-covers : (c n a d m : ℕ) → full_number 0xFB0 n a d m ≡ c → OfAnswer (IsOnly c) (product n a d m)
unfolding product full_code
product-covers c n a d m is =
    of_either (IsOnly c) (a == 15) _ _
    (λ none. of_plain c (d ∷ n ∷ m ∷ []) _ (let P : ℕ → Type 0 = λ y. full_number 0xFB0 n y d m ≡ c in ap Some (subst P (eqb-true a 15 none) is)))
    (λ _. of_plain c (d ∷ n ∷ m ∷ a ∷ []) _ (let again : m ≡ 2 ^ 4 * 0 + m = omega arith in ap Some (subst (λ (y : ℕ). full_number 0xFB0 n a d y ≡ c) again is)))

pub extension-covers : (c d turn m : ℕ) (op : UnaryOp) → full_code (Unary (record { op = op; d = d; m = m; turn = turn })) ≡ Some c → OfAnswer (IsOnly c) (on_plain (d ∷ m ∷ []) (unary op d m turn))
extension-covers c d turn m op is = of_plain c (d ∷ m ∷ []) _ (of_when (IsOnly c) _ _ is)

pub order-covers : (c n d m : ℕ) (op : UnaryOp) → (m ≡ n → full_code (Unary (record { op = op; d = d; m = m; turn = 0 })) ≡ Some c)
    → OfAnswer (IsOnly c) (on_plain (d ∷ m ∷ n ∷ []) (refused ((not (n == m), Unpredictable) ∷ []) (unary op d m 0)))
order-covers c n d m op is = of_plain c (d ∷ m ∷ n ∷ []) _ (of_unless (IsOnly c) (not (n == m)) _ _ (λ same. of_when (IsOnly c) (is_turn op 0) _ (is (sym (equal n m same)))))
