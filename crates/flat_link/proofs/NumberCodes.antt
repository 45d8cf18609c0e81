-- Instructions whose new number is in range have a code of their old width.
use Rattle.std.proofs.Common.{◌≡◌, ◌≤◌, ◌<◌, ℕ, pos, negsuc, ◌+◌, ◌-◌, ◌*◌, ◌/◌, ◌%◌, ◌^◌, Bool, true, false, cond, refl, sym, ap, ◌∙◌, inl, inr, ◌⊎◌, arith, Ok}
use Rattle.std.specs.Prelude.{◌==◌, ◌&&◌, nat_lt}
use Rattle.std.proofs.lemmas.Bool.{and_parts, and_from, eqb-true, eq-eqb, ltb-true, lt-ltb, cases_lt, true≢false}
use Rattle.std.proofs.lemmas.Bool.Decides.{nat_tests}
use Rattle.thumb_instr.specs.declared.conditions.Cond.{Cond}
use Rattle.thumb_instr.specs.declared.conditions.Cond.TheVariants.{Al}
use Rattle.thumb_instr.specs.declared.instructions.Instr.{Instr}
use Rattle.thumb_instr.specs.declared.instructions.Instr.TheVariants as instr
use Rattle.thumb_instr.specs.declared.refusals.ItPlace.TheVariants.{Outside}
use Rattle.thumb_instr.specs.Operands.{is_even}
use Rattle.thumb_instr.specs.Blocks.{condition_number}
use Rattle.thumb_instr.specs.Patterns.{decoded}
use Rattle.thumb_instr.specs.Meanings.{signed, when, branch}
use Rattle.thumb_instr.specs.HalfRows.{half_rows, short_branch}
use Rattle.thumb_instr.specs.FullRows.{full_rows}
use Rattle.thumb_instr.specs.Rows.{is_wide}
use Rattle.thumb_decode.specs.Groups.{half_group}
use Rattle.thumb_decode.proofs.Narrow.{half_rows_at}
use Rattle.thumb_encode.specs.declared.codes.Code.TheVariants as code
use Rattle.thumb_encode.specs.Encoding.{StandsFor}
use Rattle.thumb_encode.specs.HasFull.{is_signed}
use Rattle.thumb_encode.proofs.Covering.{if_true, if_false}
use Rattle.reloc_places.specs.Relocations.{may_fail}
use Rattle.thumb_table.specs.Links.{is_reached}

not_less : (a b : ℕ) → b ≤ a → nat_lt a b ≡ false
not_less a b less = grind (arith, nat_tests)

-- an even offset that is near, to either side
pub record IsNear (far n : ℕ) : Type 0 where
  pub even : n % 2 ≡ 0
  pub near : (n < far) ⊎ ((2 ^ 32 - far ≤ n) × (n < 2 ^ 32))

pub is_near : (far n : ℕ) → far ≤ 2 ^ 24 → n < 2 ^ 32 → is_reached far n ≡ true → IsNear far n
is_near far n small low h =
    let both = and_parts (n % 2 == 0) (nat_lt ((n + far) % 2 ^ 32) (2 * far)) h in
    let less = ltb-true ((n + far) % 2 ^ 32) (2 * far) both.1 in
    record {
      even = eqb-true (n % 2) 0 both.0;
      near = elim (cases_lt n far) [
        | inl a ↦ inl a
        | inr b ↦ elim (cases_lt n (2 ^ 32 - far)) [
          | inl c ↦
              let whole : (n + far) % 2 ^ 32 ≡ n + far = omega arith in
              absurd (omega arith)
          | inr d ↦ inr (d, low)
        ]
      ];
    }

-- it is an even offset, of so many bits
pub near_even : (n : ℕ) → n < 2 ^ 32 → n % 2 ≡ 0 → is_even (signed 32 n) ≡ true
near_even n small even = go (nat_lt n (2 ^ 31))
  where
    go : (b : Bool) → is_even (cond b (pos n) (negsuc (2 ^ 32 - 1 - n))) ≡ true
    go true = eq-eqb (n % 2) 0 even
    go false = eq-eqb ((2 ^ 32 - 1 - n) % 2) 1 (omega arith)

pub near_bits : (w far n : ℕ) → 2 ^ (w - 1) ≡ far → far ≤ 2 ^ 24 → IsNear far n → is_signed w (signed 32 n) ≡ true
near_bits w far n is small near = go near.near
  where
    go : (n < far) ⊎ ((2 ^ 32 - far ≤ n) × (n < 2 ^ 32)) → is_signed w (signed 32 n) ≡ true
    go (inl low) =
        let less : nat_lt n (2 ^ 31) ≡ true = lt-ltb n (2 ^ 31) (omega arith) in
        ap (λ (b : Bool). is_signed w (cond b (pos n) (negsuc (2 ^ 32 - 1 - n)))) less ∙ lt-ltb n (2 ^ (w - 1)) (omega arith)
    go (inr high) =
        let a = high.0 in
        let b = high.1 in
        let more : nat_lt n (2 ^ 31) ≡ false = not_less n (2 ^ 31) (omega arith) in
        ap (λ (c : Bool). is_signed w (cond c (pos n) (negsuc (2 ^ 32 - 1 - n)))) more ∙ lt-ltb (2 ^ 32 - 1 - n) (2 ^ (w - 1)) (omega arith)

-- the bits of a near offset, and what they stand for
record IsShown (w n m : ℕ) : Type 0 where
  pub small : m < 2 ^ (w - 1)
  pub again : signed w (2 * m) ≡ signed 32 n

-- the lowest bits of it, without bit 0
shown_12 : (n : ℕ) → IsNear (2 ^ 11) n → IsShown 12 n (n / 2 % 2 ^ 11)
shown_12 n near = go near.near
  where
    go : (n < 2 ^ 11) ⊎ ((2 ^ 32 - 2 ^ 11 ≤ n) × (n < 2 ^ 32)) → IsShown 12 n (n / 2 % 2 ^ 11)
    go (inl low) =
        let even = near.even in
        let back : 2 * (n / 2 % 2 ^ 11) ≡ n = omega arith in
        let less : n < 2 ^ 31 = omega arith in
        record { small = omega arith; again = ap (signed 12) back ∙ if_true (nat_lt n (2 ^ 11)) _ _ (lt-ltb n (2 ^ 11) low) ∙ sym (if_true (nat_lt n (2 ^ 31)) _ _ (lt-ltb n (2 ^ 31) less)) }
    go (inr high) =
        let even = near.even in
        let a = high.0 in
        let b = high.1 in
        let back : 2 * (n / 2 % 2 ^ 11) ≡ n - (2 ^ 32 - 2 ^ 12) = omega arith in
        let more : 2 ^ 11 ≤ n - (2 ^ 32 - 2 ^ 12) = omega arith in
        let much : 2 ^ 31 ≤ n = omega arith in
        let same : 2 ^ 12 - 1 - (n - (2 ^ 32 - 2 ^ 12)) ≡ 2 ^ 32 - 1 - n = omega arith in
        record {
          small = omega arith;
          again = ap (signed 12) back ∙ if_false (nat_lt (n - (2 ^ 32 - 2 ^ 12)) (2 ^ 11)) _ _ (not_less (n - (2 ^ 32 - 2 ^ 12)) (2 ^ 11) more) ∙ ap negsuc same
              ∙ sym (if_false (nat_lt n (2 ^ 31)) _ _ (not_less n (2 ^ 31) much));
        }

shown_9 : (n : ℕ) → IsNear (2 ^ 8) n → IsShown 9 n (n / 2 % 2 ^ 8)
shown_9 n near = go near.near
  where
    go : (n < 2 ^ 8) ⊎ ((2 ^ 32 - 2 ^ 8 ≤ n) × (n < 2 ^ 32)) → IsShown 9 n (n / 2 % 2 ^ 8)
    go (inl low) =
        let even = near.even in
        let back : 2 * (n / 2 % 2 ^ 8) ≡ n = omega arith in
        let less : n < 2 ^ 31 = omega arith in
        record { small = omega arith; again = ap (signed 9) back ∙ if_true (nat_lt n (2 ^ 8)) _ _ (lt-ltb n (2 ^ 8) low) ∙ sym (if_true (nat_lt n (2 ^ 31)) _ _ (lt-ltb n (2 ^ 31) less)) }
    go (inr high) =
        let even = near.even in
        let a = high.0 in
        let b = high.1 in
        let back : 2 * (n / 2 % 2 ^ 8) ≡ n - (2 ^ 32 - 2 ^ 9) = omega arith in
        let more : 2 ^ 8 ≤ n - (2 ^ 32 - 2 ^ 9) = omega arith in
        let much : 2 ^ 31 ≤ n = omega arith in
        let same : 2 ^ 9 - 1 - (n - (2 ^ 32 - 2 ^ 9)) ≡ 2 ^ 32 - 1 - n = omega arith in
        record {
          small = omega arith;
          again = ap (signed 9) back ∙ if_false (nat_lt (n - (2 ^ 32 - 2 ^ 9)) (2 ^ 8)) _ _ (not_less (n - (2 ^ 32 - 2 ^ 9)) (2 ^ 8) more) ∙ ap negsuc same
              ∙ sym (if_false (nat_lt n (2 ^ 31)) _ _ (not_less n (2 ^ 31) much));
        }

taken : (b : Bool) (i : Instr) → b ≡ true → when b i ≡ Ok i
taken true i e = refl
taken false i e = absurd (true≢false (sym e))

-- B, T2
always_fits : (h m : ℕ) → h ≡ 2 ^ 11 * 28 + m → m < 2 ^ 11 → decoded 16 (half_rows Outside) h ≡ branch Al (signed 12 (2 * m))
unfolding half_group half_rows
always_fits h m is small =
    let top : h / 2 ^ 11 % 2 ^ 5 ≡ 28 = omega arith in
    let rest : h / 2 ^ 0 % 2 ^ 11 ≡ m = omega arith in
    half_rows_at 5 28 h Outside (omega arith) top
    ∙ if_true ((h / 2 ^ 11 % 2 ^ 5 == 28) && true) _ _ (and_from (h / 2 ^ 11 % 2 ^ 5 == 28) true (eq-eqb (h / 2 ^ 11 % 2 ^ 5) 28 top) refl)
    ∙ ap (λ (k : ℕ). branch Al (signed 12 (2 * k))) rest

-- B, T1
sometimes_fits : (h k m : ℕ) → h ≡ 2 ^ 12 * 13 + 2 ^ 8 * k + m → k < 2 ^ 4 → m < 2 ^ 8 → decoded 16 (half_rows Outside) h ≡ short_branch Outside k m
unfolding half_group half_rows
sometimes_fits h k m is few small =
    let top : h / 2 ^ 12 % 2 ^ 4 ≡ 13 = omega arith in
    let middle : h / 2 ^ 8 % 2 ^ 4 ≡ k = omega arith in
    let rest : h / 2 ^ 0 % 2 ^ 8 ≡ m = omega arith in
    half_rows_at 4 13 h Outside (omega arith) top
    ∙ if_true ((h / 2 ^ 12 % 2 ^ 4 == 13) && true) _ _ (and_from (h / 2 ^ 12 % 2 ^ 4 == 13) true (eq-eqb (h / 2 ^ 12 % 2 ^ 4) 13 top) refl)
    ∙ ap (λ (n : ℕ). short_branch Outside n (h / 2 ^ 0 % 2 ^ 8)) middle ∙ ap (short_branch Outside k) rest

few_conditions : (c : Cond) → condition_number c < 2 ^ 4
few_conditions Al = omega arith
few_conditions c = omega arith

short_takes : (c : Cond) (m : ℕ) → may_fail c ≡ true → short_branch Outside (condition_number c) m ≡ branch c (signed 9 (2 * m))
short_takes Al m e = absurd (true≢false (sym e))
short_takes c m e = refl

-- a halfword that stands for an instruction
abbrev pub HasHalf : Instr → Type 0
HasHalf i = (h : ℕ) × StandsFor (code.Half h) i

pub always_has : (n : ℕ) → n < 2 ^ 32 → IsNear (2 ^ 11) n → HasHalf (instr.Branch (record { cond = Al; offset = signed 32 n }))
always_has n small near =
    let m = n / 2 % 2 ^ 11 in
    let s = shown_12 n near in
    let less : m < 2 ^ 11 = s.small in
    let h = 2 ^ 11 * 28 + m in
    let low : h < 2 ^ 16 = omega arith in
    let narrow : is_wide h ≡ false = grind (arith, nat_tests) in (
      h,
      (
        low,
        narrow,
        if_false (is_wide h) (decoded 32 (full_rows Outside) (h * 2 ^ 16 + 0)) (decoded 16 (half_rows Outside) h) narrow
            ∙ always_fits h m refl less ∙ ap (branch Al) s.again ∙ taken (is_even (signed 32 n)) _ (near_even n small near.even),
      ),
    )

pub sometimes_has : (c : Cond) (n : ℕ) → may_fail c ≡ true → n < 2 ^ 32 → IsNear (2 ^ 8) n → HasHalf (instr.Branch (record { cond = c; offset = signed 32 n }))
sometimes_has c n fails small near =
    let m = n / 2 % 2 ^ 8 in
    let k = condition_number c in
    let s = shown_9 n near in
    let less : m < 2 ^ 8 = s.small in
    let few : k < 2 ^ 4 = few_conditions c in
    let h = 2 ^ 12 * 13 + 2 ^ 8 * k + m in
    let low : h < 2 ^ 16 = omega arith in
    let narrow : is_wide h ≡ false = grind (arith, nat_tests) in (
      h,
      (
        low,
        narrow,
        if_false (is_wide h) (decoded 32 (full_rows Outside) (h * 2 ^ 16 + 0)) (decoded 16 (half_rows Outside) h) narrow
            ∙ sometimes_fits h k m refl few less ∙ short_takes c m fails ∙ ap (branch c) s.again ∙ taken (is_even (signed 32 n)) _ (near_even n small near.even),
      ),
    )
