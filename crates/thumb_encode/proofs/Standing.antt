-- What each other code of an instruction is, where one was found.
use Rattle.std.proofs.Common.{◌≡◌, ℕ, ◌+◌, ◌*◌, ◌/◌, ◌%◌, ◌^◌, ◌<◌, ◌⊎◌, inl, inr, refl, ap, sym, ◌∙◌, arith, Some, None}
use Rattle.thumb_instr.specs.declared.instructions.Instr.{Instr}
use Rattle.thumb_instr.specs.declared.refusals.ItPlace.TheVariants.{Outside}
use Rattle.thumb_instr.specs.Patterns.{decoded}
use Rattle.thumb_instr.specs.HalfRows.{half_rows}
use Rattle.thumb_instr.specs.FullRows.{full_rows}
use Rattle.thumb_instr.specs.Rows.{is_wide}
use Rattle.thumb_encode.specs.declared.codes.Width.TheVariants as width
use Rattle.thumb_encode.specs.declared.codes.Code.{Code}
use Rattle.thumb_encode.specs.declared.codes.Code.TheVariants as code
use Rattle.thumb_encode.specs.Encoding.{StandsFor, IsCodeOf, row_number}
use Rattle.thumb_encode.specs.HalfCodes.{half_code, later_code}
use Rattle.thumb_encode.specs.FullCodes.{full_code}
use Rattle.thumb_encode.proofs.Covering.{if_true, if_false}
use Rattle.thumb_encode.proofs.HalfCovering.{IsCandidate, half_candidate}
use Rattle.thumb_encode.proofs.DataCovering.{IsOnly}
use Rattle.thumb_encode.proofs.FullCovering.{full_candidate}
use Rattle.thumb_encode.proofs.Rising.{candidates_rise}

abbrev pub HalfStands : Instr → ℕ → Type 0
HalfStands i h = StandsFor (code.Half h) i

pub half-candidate : (i : Instr) (h : ℕ) → HalfStands i h → IsCandidate h i
half-candidate i h is = half_candidate h i is.0 (sym (if_false (is_wide h) (decoded 32 (full_rows Outside) (h * 2 ^ 16 + 0)) (decoded 16 (half_rows Outside) h) is.1) ∙ is.2)

below : (first second : ℕ) → first < 2 ^ 16 → second < 2 ^ 16 → first * 2 ^ 16 + second < 2 ^ 32
below first second high low = omega arith

pub full-candidate : (i : Instr) (first second : ℕ) → StandsFor (code.Full first second) i → IsOnly (first * 2 ^ 16 + second) i
full-candidate i first second is =
    let small : first * 2 ^ 16 + second < 2 ^ 32 = below first second is.0 is.1 in
    full_candidate (first * 2 ^ 16 + second) i small
    (sym (if_true (is_wide first) (decoded 32 (full_rows Outside) (first * 2 ^ 16 + second)) (decoded 16 (half_rows Outside) first) is.2) ∙ is.3)

-- one halfword: none
pub no-half : (i : Instr) → ((h : ℕ) → half_code i ≡ Some h → HalfStands i h → ⊥) → ((h : ℕ) → later_code i ≡ Some h → HalfStands i h → ⊥)
    → (c : Code) → IsCodeOf i width.Half c → ⊥
no-half i early late (code.Half h) is = elim (half-candidate i h is.1) [ inl e ↦ early h e is.1 | inr e ↦ late h e is.1 ]
no-half i early late (code.Full first second) is = absurd (cc is.0)

-- the earlier candidate
pub early-half : (i : Instr) (h : ℕ) → half_code i ≡ Some h → (c : Code) → IsCodeOf i width.Half c → (row_number (code.Half h) < row_number c) ⊎ (c ≡ code.Half h)
early-half i h e (code.Half k) is = elim (half-candidate i k is.1) [
  | inl same ↦ let equal : k ≡ h = cc in inr (ap code.Half equal)
  | inr later ↦ inl (candidates_rise i h k e later)
]
early-half i h e (code.Full first second) is = absurd (cc is.0)

-- the later one, where the earlier does not stand for it
pub late-half : (i : Instr) (h : ℕ) → ((k : ℕ) → half_code i ≡ Some k → HalfStands i k → ⊥) → later_code i ≡ Some h → (c : Code) → IsCodeOf i width.Half c → c ≡ code.Half h
late-half i h early e (code.Half k) is = elim (half-candidate i k is.1) [
  | inl same ↦ absurd (early k same is.1)
  | inr later ↦ let equal : k ≡ h = cc in ap code.Half equal
]
late-half i h early e (code.Full first second) is = absurd (cc is.0)

-- two halfwords
pub no-full : (i : Instr) → full_code i ≡ None → (c : Code) → IsCodeOf i width.Full c → ⊥
no-full i e (code.Half h) is = absurd (cc is.0)
no-full i e (code.Full first second) is = let only = full-candidate i first second is.1 in absurd (cc)

pub only-full : (i : Instr) (n : ℕ) → full_code i ≡ Some n → (c : Code) → IsCodeOf i width.Full c → c ≡ code.Full (n / 2 ^ 16) (n % 2 ^ 16)
only-full i n e (code.Half h) is = absurd (cc is.0)
only-full i n e (code.Full first second) is =
    let only = full-candidate i first second is.1 in
    let equal : first * 2 ^ 16 + second ≡ n = cc in
    let low : second < 2 ^ 16 = is.1.1 in
    let one : first ≡ n / 2 ^ 16 = omega arith in
    let two : second ≡ n % 2 ^ 16 = omega arith in
    rw (sym one, sym two) refl
