-- Only the rows that may have the known bits count.
use Rattle.std.proofs.Common.{◌≡◌, ℕ, ◌+◌, ◌-◌, ◌/◌, ◌%◌, ◌^◌, ◌<◌, ◌≤◌, Bool, true, false, List, [], ◌∷◌, refl, ap, sym, ◌∙◌, arith, subst, nat_le, ◌==◌, if◌then◌else◌}
use Rattle.std.proofs.Math.Pow.{mod-mod-pow}
use Rattle.std.proofs.lemmas.Nat.{shr-shr, field_of}
use Rattle.std.proofs.lemmas.Bool.{and_parts, and_from, eqb-true, eq-eqb, leb-true, leb-false}
use Rattle.thumb_instr.specs.Patterns.{Bits, Fixed, Field, Row, Answer, cut, fits, filled_in, decoded}
use Rattle.thumb_instr.specs.declared.refusals.ItPlace.{ItPlace}
use Rattle.thumb_decode.specs.Groups.{full_group}
use Rattle.thumb_decode.specs.KnownBits.{may_have, may_have_all, with_bits, HasBits, full_group_with}
use Rattle.thumb_instr.specs.FullRows.{full_rows}
use Rattle.thumb_decode.proofs.Narrow.{chosen, full_rows_at}

-- a bit of a cut
pub bit_of_cut : (h top w k : ℕ) → w ≤ top → top - w ≤ k → k < top → cut h top w / 2 ^ (k - (top - w)) % 2 ≡ h / 2 ^ k % 2
bit_of_cut h top w k p q r =
    let n = h / 2 ^ (top - w) in
    let j = k - (top - w) in
    let a = w - j - 1 in
    let whole : w ≡ a + 1 + j = omega arith in
    let place : (top - w) + j ≡ k = omega arith in
    ap (λ (x : ℕ). n % 2 ^ x / 2 ^ j % 2) whole ∙ ap (λ (x : ℕ). x % 2) (field_of n (a + 1) j) ∙ mod-mod-pow (n / 2 ^ j) a 1
    ∙ ap (λ (x : ℕ). x % 2) (shr-shr h (top - w) j ∙ ap (λ (x : ℕ). h / 2 ^ x) place)

fits_has : (ps : List Bits) (top k h : ℕ) → k < top → fits ps top h ≡ true → may_have ps top k (h / 2 ^ k % 2) ≡ true
fits_has [] top k h lt fit = refl
fits_has (Fixed width x ∷ ps) top k h lt fit =
    let v = h / 2 ^ k % 2 in
    let both = and_parts (cut h top width == x) (fits ps (top - width) h) fit in
    let same : cut h top width ≡ x = eqb-true (cut h top width) x both.0 in
    chosen (λ b. (if b then (if nat_le (top - width) k then (x / 2 ^ (k - (top - width)) % 2 == v) else may_have ps (top - width) k v) else true) ≡ true) (nat_le width top)
    (λ inside. let in_top : width ≤ top = leb-true width top inside in
    chosen (λ b. (if b then (x / 2 ^ (k - (top - width)) % 2 == v) else may_have ps (top - width) k v) ≡ true) (nat_le (top - width) k)
    (λ here. eq-eqb (x / 2 ^ (k - (top - width)) % 2) v (ap (λ (y : ℕ). y / 2 ^ (k - (top - width)) % 2) (sym same) ∙ bit_of_cut h top width k in_top (leb-true (top - width) k here) lt))
    (λ later. fits_has ps (top - width) k h (leb-false (top - width) k later) both.1))
    (λ _. refl)
fits_has (Field width ∷ ps) top k h lt fit =
    let v = h / 2 ^ k % 2 in
    chosen (λ b. (if b then (if nat_le (top - width) k then true else may_have ps (top - width) k v) else true) ≡ true) (nat_le width top)
    (λ inside. chosen (λ b. (if b then true else may_have ps (top - width) k v) ≡ true) (nat_le (top - width) k)
    (λ _. refl)
    (λ later. fits_has ps (top - width) k h (leb-false (top - width) k later) fit))
    (λ _. refl)

fits_has_all : (ps : List Bits) (h : ℕ) (bs : List (ℕ × ℕ)) → HasBits h bs → fits ps 32 h ≡ true → may_have_all ps bs ≡ true
fits_has_all ps h [] has fit = refl
fits_has_all ps h (b ∷ bs) has fit =
    and_from (may_have ps 32 b.0 b.1) (may_have_all ps bs)
    (let P : ℕ → Type 0 = λ x. may_have ps 32 b.0 x ≡ true in subst P has.1 (fits_has ps 32 b.0 h has.0 fit))
    (fits_has_all ps h bs has.2 fit)

pub known_bits : (h : ℕ) (bs : List (ℕ × ℕ)) → HasBits h bs → (rows : List Row) → decoded 32 rows h ≡ decoded 32 (with_bits bs rows) h
known_bits h bs has [] = refl
known_bits h bs has (r ∷ rows) =
    let x = filled_in r.pattern r.means 32 h in
    let rest = known_bits h bs has rows in
    chosen (λ b. decoded 32 (r ∷ rows) h ≡ decoded 32 (if b then r ∷ with_bits bs rows else with_bits bs rows) h) (may_have_all r.pattern bs)
    (λ _. ap (λ (z : Answer). if fits r.pattern 32 h then x else z) rest)
    (λ never. let misses : fits r.pattern 32 h ≡ false = chosen (λ b. fits r.pattern 32 h ≡ b → b ≡ false) (fits r.pattern 32 h)
    (λ fit is. absurd (let t : true ≡ false = sym (fits_has_all r.pattern h bs has fit) ∙ never in cc)) (λ _ _. refl) refl in
    let P : Bool → Type 0 = λ b. (if b then x else decoded 32 rows h) ≡ decoded 32 (with_bits bs rows) h in
    subst P (sym misses) rest)

-- a group of the table, and the part of it that has the known bits
pub full_group_at : (w k h : ℕ) (bs : List (ℕ × ℕ)) (place : ItPlace) → HasBits h bs → decoded 32 (full_group w k place) h ≡ decoded 32 (full_group_with w k bs place) h
unfolding full_group_with
full_group_at w k h bs place has = known_bits h bs has (full_group w k place)

-- the whole table, and the part of a group that has the known bits
pub full_rows_with : (w k h : ℕ) (bs : List (ℕ × ℕ)) (place : ItPlace) → w ≤ 32 → cut h 32 w ≡ k → HasBits h bs → decoded 32 (full_rows place) h ≡ decoded 32 (full_group_with w k bs place) h
full_rows_with w k h bs place le is has = full_rows_at w k h place le is ∙ full_group_at w k h bs place has
