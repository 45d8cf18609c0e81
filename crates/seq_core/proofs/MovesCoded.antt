-- The numbers by which bases move are constants.
use Rattle.std.proofs.Common.{ℕ, ◌≡◌, ◌<◌, ◌≤◌, ◌+◌, ◌-◌, ◌*◌, ◌/◌, ◌%◌, ◌^◌, Bool, true, false, refl, arith, lit≤, ◌∙◌}
use Rattle.std.specs.Prelude.{if◌then◌else◌, nat_lt}
use Rattle.std.proofs.lemmas.Grind.{common_steps}
use Rattle.std.proofs.lemmas.Bool.Decides.{nat_tests}
use Rattle.mark_word.specs.Formulas.{expand_imm, turned}
use Rattle.thumb_instr.specs.Operands.{has_constant}
use Rattle.thumb_instr.specs.Meanings.{constant_of}
use Rattle.thumb_table.specs.Effects.{of_imm}
use Rattle.seq_core.specs.Constants.{MovesAreConstants, is_move}

abbrev worth : ℕ → ℕ
worth i = (of_imm (expand_imm i false)).value

byte_worth : (n : ℕ) → n < 256 → worth n ≡ n
byte_worth n low =
    let a : n / 2 ^ 10 ≡ 0 = omega arith in
    let b : n / 2 ^ 8 ≡ 0 = omega arith in
    let c : n % 2 ^ 8 ≡ n = omega arith in
    grind (arith, nat_tests)

turned_worth : (i m t : ℕ) → i ≡ t * 128 + m → m < 128 → 8 ≤ t → worth i ≡ turned (128 + m) t
turned_worth i m t e low high =
    let a : i / 2 ^ 7 ≡ t = omega arith in
    let b : i % 2 ^ 7 ≡ m = omega arith in
    let c : 1 ≤ i / 2 ^ 10 = omega arith in
    grind (arith, nat_tests)

turned_by_31 : (m : ℕ) → m < 128 → turned (128 + m) 31 ≡ (128 + m) * 2
turned_by_31 m low = omega arith

turned_by_30 : (m : ℕ) → m < 128 → turned (128 + m) 30 ≡ (128 + m) * 4
turned_by_30 m low = omega arith

half_worth : (n : ℕ) → 256 ≤ n → n < 512 → n % 4 ≡ 0 → worth (31 * 128 + (n / 2 - 128)) ≡ n
half_worth n low high even =
    let small : n / 2 - 128 < 128 = omega arith in
    let back : (128 + (n / 2 - 128)) * 2 ≡ n = omega arith in
    turned_worth _ (n / 2 - 128) 31 refl small (lit≤ tt) ∙ turned_by_31 (n / 2 - 128) small ∙ back

quarter_worth : (n : ℕ) → 512 ≤ n → n ≤ 1020 → n % 4 ≡ 0 → worth (30 * 128 + (n / 4 - 128)) ≡ n
quarter_worth n low high even =
    let small : n / 4 - 128 < 128 = omega arith in
    let back : (128 + (n / 4 - 128)) * 4 ≡ n = omega arith in
    turned_worth _ (n / 4 - 128) 30 refl small (lit≤ tt) ∙ turned_by_30 (n / 4 - 128) small ∙ back

value_of : (n : ℕ) → is_move n ≡ true → worth (constant_of n) ≡ n
value_of n h = by_size (nat_lt n 256) (nat_lt n 512) refl refl
  where
    by_size : (a b : Bool) → nat_lt n 256 ≡ a → nat_lt n 512 ≡ b → worth (if a then n else if b then 31 * 128 + (n / 2 - 128) else 30 * 128 + (n / 4 - 128)) ≡ n
    by_size true b e f = let low : n < 256 = grind (arith, nat_tests) in byte_worth n low
    by_size false true e f = let low : 256 ≤ n = grind (arith, nat_tests) in let high : n < 512 = grind (arith, nat_tests) in let even : n % 4 ≡ 0 = grind (arith, nat_tests) in half_worth n low high even
    by_size false false e f = let low : 512 ≤ n = grind (arith, nat_tests) in let high : n ≤ 1020 = grind (arith, nat_tests) in let even : n % 4 ≡ 0 = grind (arith, nat_tests) in quarter_worth n low high even

small : (n : ℕ) → is_move n ≡ true → n < 2 ^ 32
small n h = grind (arith, nat_tests)

coded : (n : ℕ) → is_move n ≡ true → has_constant (constant_of n) ≡ true
coded n h = grind (arith, common_steps, nat_tests)

pub moves_are_constants : MovesAreConstants
moves_are_constants n h = (record { value = value_of n h; small = small n h }, coded n h)
