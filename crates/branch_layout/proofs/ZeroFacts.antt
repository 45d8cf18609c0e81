-- CBZ and CBNZ have a code for each even offset from 0 to 126.
use Rattle.std.proofs.Common.{◌≡◌, ◌≤◌, ◌<◌, ℕ, ◌+◌, ◌*◌, ◌-◌, ◌/◌, ◌%◌, ◌^◌, List, [], ◌∷◌, Bool, true, false, refl, ap, ◌∙◌, subst, arith, pos, Ok, Err, eq-eqb}
use Rattle.std.specs.Prelude.{nat_le, ◌==◌, ◌&&◌, if◌then◌else◌}
use Rattle.std.proofs.lemmas.Bool.{leb-true, leb-false, le-leb, and_from}
use Rattle.thumb_instr.specs.declared.instructions.Instr.TheVariants as instr
use Rattle.thumb_instr.specs.declared.refusals.ItPlace.TheVariants.{Outside}
use Rattle.thumb_instr.specs.Patterns.{Row, Fixed, Field, cut, fits, filled_in, decoded}
use Rattle.thumb_instr.specs.declared.refusals.BadInstr.TheVariants.{Unknown}
use Rattle.thumb_instr.specs.Meanings.{zero_branch}
use Rattle.thumb_instr.specs.HalfRows.{half_rows}
use Rattle.thumb_instr.specs.FullRows.{full_rows}
use Rattle.thumb_instr.specs.Rows.{is_wide}
use Rattle.thumb_decode.specs.Groups.{half_group}
use Rattle.thumb_decode.proofs.Narrow.{half_rows_at}
use Rattle.thumb_encode.specs.declared.codes.Width.TheVariants.{Half}
use Rattle.thumb_encode.specs.declared.codes.Code.TheVariants as code
use Rattle.thumb_encode.specs.Encoding.{StandsFor, IsCodeOf}
use Rattle.thumb_encode.specs.declared.codes.Code.{Code}
use Rattle.thumb_encode.proofs.Covering.{if_true, if_false}

abbrev bit_of : Bool → ℕ
bit_of b = if b then 1 else 0

-- 1011 z 0 b 1, then five bits and a register
abbrev zero_number : Bool → Bool → ℕ → ℕ → ℕ
zero_number z b i n = 256 * (177 + 8 * bit_of z + 2 * bit_of b) + 8 * i + n

abbrev zero_row : Row
zero_row = record {
  pattern = Fixed 4 11 ∷ Field 1 ∷ Fixed 1 0 ∷ Field 1 ∷ Fixed 1 1 ∷ Field 5 ∷ Field 3 ∷ [];
  means = λ o i6 i n. zero_branch (o == 1) n (2 * (32 * i6 + i));
}

-- It is the only row for each of the four beginnings.
only_at_177 : half_group 8 177 Outside ≡ zero_row ∷ []
unfolding half_group half_rows
only_at_177 = refl

only_at_179 : half_group 8 179 Outside ≡ zero_row ∷ []
unfolding half_group half_rows
only_at_179 = refl

only_at_185 : half_group 8 185 Outside ≡ zero_row ∷ []
unfolding half_group half_rows
only_at_185 = refl

only_at_187 : half_group 8 187 Outside ≡ zero_row ∷ []
unfolding half_group half_rows
only_at_187 = refl

only_row : (z b : Bool) → half_group 8 (177 + 8 * bit_of z + 2 * bit_of b) Outside ≡ zero_row ∷ []
only_row true true = only_at_187
only_row true false = only_at_185
only_row false true = only_at_179
only_row false false = only_at_177

row_answers : (h : ℕ) → cut h 16 4 ≡ 11 → cut h 11 1 ≡ 0 → cut h 9 1 ≡ 1 → decoded 16 (zero_row ∷ []) h ≡ zero_branch (cut h 12 1 == 1) (cut h 3 3) (2 * (32 * cut h 10 1 + cut h 8 5))
row_answers h a c e =
    let fit : fits zero_row.pattern 16 h ≡ true = and_from (cut h 16 4 == 11) ((cut h 11 1 == 0) && ((cut h 9 1 == 1) && true)) (eq-eqb (cut h 16 4) 11 a) (and_from (cut h 11 1 == 0) ((cut h 9 1 == 1) && true) (eq-eqb (cut h 11 1) 0 c) (and_from (cut h 9 1 == 1) true (eq-eqb (cut h 9 1) 1 e) refl)) in
    if_true (fits zero_row.pattern 16 h) (filled_in zero_row.pattern zero_row.means 16 h) (Err Unknown) fit

zero_group : (z b : Bool) (h : ℕ) → cut h 16 8 ≡ 177 + 8 * bit_of z + 2 * bit_of b → cut h 16 4 ≡ 11 → cut h 11 1 ≡ 0 → cut h 9 1 ≡ 1
    → decoded 16 (half_rows Outside) h ≡ zero_branch (cut h 12 1 == 1) (cut h 3 3) (2 * (32 * cut h 10 1 + cut h 8 5))
zero_group z b h k a c e =
    half_rows_at 8 (177 + 8 * bit_of z + 2 * bit_of b) h Outside (omega arith) k ∙ ap (λ (rows : List Row). decoded 16 rows h) (only_row z b) ∙ row_answers h a c e

zero_made : (z : Bool) (n o : ℕ) → o ≤ 126 → o % 2 ≡ 0 → zero_branch z n o ≡ Ok (instr.ZeroBranch (record { nonzero = z; n = n; offset = pos o }))
zero_made z n o le even = rw (le-leb o 126 le, eq-eqb (o % 2) 0 even) refl

-- the fields of such a number
record Parts (t s i n h : ℕ) : Type 0 where
  low : h < 2 ^ 16
  narrow : h / 2 ^ 11 < 29
  top : cut h 16 8 ≡ 177 + 8 * t + 2 * s
  first : cut h 16 4 ≡ 11
  second : cut h 11 1 ≡ 0
  third : cut h 9 1 ≡ 1
  test : cut h 12 1 ≡ t
  high : cut h 10 1 ≡ s
  five : cut h 8 5 ≡ i
  register : cut h 3 3 ≡ n

parts : (t s i n h : ℕ) → t ≤ 1 → s ≤ 1 → i < 32 → n < 8 → h ≡ 256 * (177 + 8 * t + 2 * s) + 8 * i + n → Parts t s i n h
parts t s i n h lt ls li ln e = record {
  low = omega arith;
  narrow = omega arith;
  top = omega arith;
  first = omega arith;
  second = omega arith;
  third = omega arith;
  test = omega arith;
  high = omega arith;
  five = omega arith;
  register = omega arith;
}

bit_small : (b : Bool) → bit_of b ≤ 1
bit_small true = omega arith
bit_small false = omega arith

bit_back : (b : Bool) → (bit_of b == 1) ≡ b
bit_back true = refl
bit_back false = refl

not_wide : (h : ℕ) → h / 2 ^ 11 < 29 → is_wide h ≡ false
not_wide h lt = go (is_wide h) refl
  where
    go : (b : Bool) → is_wide h ≡ b → b ≡ false
    go true e = let g : 29 ≤ h / 2 ^ 11 = leb-true 29 (h / 2 ^ 11) e in absurd (omega arith)
    go false e = refl

zero_stands : (z b : Bool) (i n : ℕ) → i < 32 → n < 8 → StandsFor (code.Half (zero_number z b i n)) (instr.ZeroBranch (record { nonzero = z; n = n; offset = pos (2 * (32 * bit_of b + i)) }))
zero_stands z b i n li ln =
    let h : ℕ = zero_number z b i n in
    let x = parts (bit_of z) (bit_of b) i n h (bit_small z) (bit_small b) li ln refl in
    let small = bit_small b in
    let found : decoded 16 (half_rows Outside) h ≡ zero_branch (cut h 12 1 == 1) (cut h 3 3) (2 * (32 * cut h 10 1 + cut h 8 5)) = zero_group z b h x.top x.first x.second x.third in
    let test : (cut h 12 1 == 1) ≡ z = ap (λ (k : ℕ). k == 1) x.test ∙ bit_back z in
    let offset : 2 * (32 * cut h 10 1 + cut h 8 5) ≡ 2 * (32 * bit_of b + i) = ap (λ (k : ℕ). 2 * (32 * k + cut h 8 5)) x.high ∙ ap (λ (k : ℕ). 2 * (32 * bit_of b + k)) x.five in
    let made : zero_branch (cut h 12 1 == 1) (cut h 3 3) (2 * (32 * cut h 10 1 + cut h 8 5)) ≡ zero_branch z n (2 * (32 * bit_of b + i)) =
    ap (λ (t : Bool). zero_branch t (cut h 3 3) (2 * (32 * cut h 10 1 + cut h 8 5))) test ∙ ap (λ (r : ℕ). zero_branch z r (2 * (32 * cut h 10 1 + cut h 8 5))) x.register ∙ ap (λ (o : ℕ). zero_branch z n o) offset in
    let wide : is_wide h ≡ false = not_wide h x.narrow in
    (x.low, wide, if_false (is_wide h) (decoded 32 (full_rows Outside) (h * 2 ^ 16 + 0)) (decoded 16 (half_rows Outside) h) wide ∙ found ∙ made ∙ zero_made z n (2 * (32 * bit_of b + i)) (omega arith) (omega arith))

pub zero_coded : (z : Bool) (n o : ℕ) → n < 8 → o ≤ 126 → o % 2 ≡ 0 → (c : Code) × IsCodeOf (instr.ZeroBranch (record { nonzero = z; n = n; offset = pos o })) Half c
zero_coded z n o ln le even = go (nat_le 64 o) refl
  where
    coded : (b : Bool) (i : ℕ) → i < 32 → 2 * (32 * bit_of b + i) ≡ o → (c : Code) × IsCodeOf (instr.ZeroBranch (record { nonzero = z; n = n; offset = pos o })) Half c
    coded b i li e = (code.Half (zero_number z b i n), (refl, subst (λ (k : ℕ). StandsFor (code.Half (zero_number z b i n)) (instr.ZeroBranch (record { nonzero = z; n = n; offset = pos k }))) e (zero_stands z b i n li ln)))

    go : (b : Bool) → nat_le 64 o ≡ b → (c : Code) × IsCodeOf (instr.ZeroBranch (record { nonzero = z; n = n; offset = pos o })) Half c
    go true e = let high : 64 ≤ o = leb-true 64 o e in coded true (o / 2 - 32) (omega arith) (omega arith)
    go false e = let low : o < 64 = leb-false 64 o e in coded false (o / 2) (omega arith) (omega arith)
