-- Only the rows that may fit count.
use Rattle.std.proofs.Common.{◌≡◌, ℕ, ◌+◌, ◌-◌, ◌/◌, ◌%◌, ◌^◌, ◌<◌, ◌≤◌, Bool, true, false, List, [], ◌∷◌, refl, ap, sym, ◌∙◌, arith, subst, nat_le, ◌==◌, ◌&&◌, if◌then◌else◌}
use Rattle.std.proofs.lemmas.Nat.{shr-shr, mod-pow-add, field_of, mod_low, pow_pos, mod_below}
use Rattle.std.proofs.lemmas.Bool.{and_parts, and_from, eqb-true, eq-eqb, leb-true, leb-false}
use Rattle.thumb_instr.specs.Patterns.{Bits, Fixed, Field, Row, Answer, cut, fits, filled_in, decoded}
use Rattle.thumb_instr.specs.declared.refusals.ItPlace.{ItPlace}
use Rattle.thumb_instr.specs.HalfRows.{half_rows}
use Rattle.thumb_instr.specs.FullRows.{full_rows}
use Rattle.thumb_decode.specs.Groups.{may_fit, group, half_group, full_group}

-- the first bits of a cut
pub cut_first : (h top a b : ℕ) → a ≤ b → b ≤ top → cut h top b / 2 ^ (b - a) ≡ cut h top a
cut_first h top a b p q =
    let n = h / 2 ^ (top - b) in
    let whole : b ≡ a + (b - a) = omega arith in
    let place : (top - b) + (b - a) ≡ top - a = omega arith in
    ap (λ (x : ℕ). n % 2 ^ x / 2 ^ (b - a)) whole ∙ field_of n a (b - a)
    ∙ ap (λ (x : ℕ). x % 2 ^ a) (shr-shr h (top - b) (b - a) ∙ ap (λ (x : ℕ). h / 2 ^ x) place)

-- the other bits
pub cut_rest : (h top a b : ℕ) → a ≤ b → b ≤ top → cut h top b % 2 ^ (b - a) ≡ cut h (top - a) (b - a)
cut_rest h top a b p q =
    let n = h / 2 ^ (top - b) in
    let j = b - a in
    let whole : b ≡ a + j = omega arith in
    let place : top - b ≡ top - a - (b - a) = omega arith in
    ap (λ (x : ℕ). n % 2 ^ x % 2 ^ j) whole ∙ ap (λ (x : ℕ). x % 2 ^ j) (mod-pow-add n a j)
    ∙ mod_low (n / 2 ^ j % 2 ^ a) j (n % 2 ^ j) (mod_below n (2 ^ j) (pow_pos j))
    ∙ ap (λ (x : ℕ). h / 2 ^ x % 2 ^ j) place

-- a test that was made
pub chosen : (P : Bool → Type 0) (b : Bool) → (b ≡ true → P true) → (b ≡ false → P false) → P b
chosen P true t f = t refl
chosen P false t f = f refl

pub fits_may : (ps : List Bits) (top w h : ℕ) → w ≤ top → fits ps top h ≡ true → may_fit ps top w (cut h top w) ≡ true
fits_may [] top w h le fit = refl
fits_may (Fixed width v ∷ ps) top w h le fit =
    let both = and_parts (cut h top width == v) (fits ps (top - width) h) fit in
    let same : cut h top width ≡ v = eqb-true (cut h top width) v both.0 in
    let k = cut h top w in
    chosen (λ b. (if b then (if nat_le w width then (v / 2 ^ (width - w) == k) else ((k / 2 ^ (w - width) == v) && may_fit ps (top - width) (w - width) (k % 2 ^ (w - width)))) else true) ≡ true) (nat_le width top)
    (λ inside. let in_top : width ≤ top = leb-true width top inside in
    chosen (λ b. (if b then (v / 2 ^ (width - w) == k) else ((k / 2 ^ (w - width) == v) && may_fit ps (top - width) (w - width) (k % 2 ^ (w - width)))) ≡ true) (nat_le w width)
    (λ short. eq-eqb (v / 2 ^ (width - w)) k (ap (λ (x : ℕ). x / 2 ^ (width - w)) (sym same) ∙ cut_first h top w width (leb-true w width short) in_top))
    (λ long. let below : width ≤ w = (let strict : width < w = leb-false w width long in omega arith) in
    let rest : w - width ≤ top - width = omega arith in
    and_from (k / 2 ^ (w - width) == v) (may_fit ps (top - width) (w - width) (k % 2 ^ (w - width)))
    (eq-eqb (k / 2 ^ (w - width)) v (cut_first h top width w below le ∙ same))
    (let P : ℕ → Type 0 = λ x. may_fit ps (top - width) (w - width) x ≡ true in subst P (sym (cut_rest h top width w below le)) (fits_may ps (top - width) (w - width) h rest both.1))))
    (λ _. refl)
fits_may (Field width ∷ ps) top w h le fit =
    let k = cut h top w in
    chosen (λ b. (if b then (if nat_le w width then true else may_fit ps (top - width) (w - width) (k % 2 ^ (w - width))) else true) ≡ true) (nat_le width top)
    (λ inside. chosen (λ b. (if b then true else may_fit ps (top - width) (w - width) (k % 2 ^ (w - width))) ≡ true) (nat_le w width)
    (λ _. refl)
    (λ long. let below : width ≤ w = (let strict : width < w = leb-false w width long in omega arith) in
    let rest : w - width ≤ top - width = omega arith in
    let P : ℕ → Type 0 = λ x. may_fit ps (top - width) (w - width) x ≡ true in subst P (sym (cut_rest h top width w below le)) (fits_may ps (top - width) (w - width) h rest fit)))
    (λ _. refl)

pub narrow : (size w h : ℕ) → w ≤ size → (rows : List Row) → decoded size rows h ≡ decoded size (group size w (cut h size w) rows) h
narrow size w h le [] = refl
narrow size w h le (r ∷ rows) =
    let k = cut h size w in
    let x = filled_in r.pattern r.means size h in
    let rest = narrow size w h le rows in
    chosen (λ b. decoded size (r ∷ rows) h ≡ decoded size (if b then r ∷ group size w k rows else group size w k rows) h) (may_fit r.pattern size w k)
    (λ _. ap (λ (z : Answer). if fits r.pattern size h then x else z) rest)
    (λ never. let misses : fits r.pattern size h ≡ false = chosen (λ b. fits r.pattern size h ≡ b → b ≡ false) (fits r.pattern size h)
    (λ fit is. absurd (let t : true ≡ false = sym (fits_may r.pattern size w h le fit) ∙ never in cc)) (λ _ _. refl) refl in
    let P : Bool → Type 0 = λ b. (if b then x else decoded size rows h) ≡ decoded size (group size w k rows) h in
    subst P (sym misses) rest)

-- the whole table of halfwords, and a group of it
pub half_rows_at : (w k h : ℕ) (place : ItPlace) → w ≤ 16 → cut h 16 w ≡ k → decoded 16 (half_rows place) h ≡ decoded 16 (half_group w k place) h
unfolding half_group
half_rows_at w k h place le is = let P : ℕ → Type 0 = λ x. decoded 16 (half_rows place) h ≡ decoded 16 (group 16 w x (half_rows place)) h in subst P is (narrow 16 w h le (half_rows place))

-- the whole table of pairs, and a group of it
pub full_rows_at : (w k h : ℕ) (place : ItPlace) → w ≤ 32 → cut h 32 w ≡ k → decoded 32 (full_rows place) h ≡ decoded 32 (full_group w k place) h
unfolding full_group
full_rows_at w k h place le is = let P : ℕ → Type 0 = λ x. decoded 32 (full_rows place) h ≡ decoded 32 (group 32 w x (full_rows place)) h in subst P is (narrow 32 w h le (full_rows place))
