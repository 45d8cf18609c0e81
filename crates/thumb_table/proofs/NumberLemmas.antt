-- Bits of numbers.
use Rattle.std.proofs.Common.{◌≡◌, ℕ, zero, suc, ◌+◌, ◌-◌, ◌*◌, ◌/◌, ◌%◌, ◌^◌, ◌<◌, ◌≤◌, arith, refl, ◌∙◌, inl, inr}
use Rattle.std.specs.Int.{reverse_bits_onto}
use Rattle.std.specs.Int.Count.{count_leading_zeros, leading_unique}
use Rattle.std.proofs.Math.Nat.{pow-suc, mul-le-mul_right, mod-lt}
use Rattle.std.proofs.lemmas.Nat.{pow_pos, pow-add, shr_split, shr_below, mul-add-lt}
use Rattle.std.proofs.lemmas.Bool.Decides.{eqb_tells}
use Rattle.thumb_table.specs.Values.{reversed, leading_zeros}

pub pow_next : (k : ℕ) → 2 ^ suc k ≡ 2 * 2 ^ k
pow_next k = omega (arith, pow-suc 2 k)

pub one_more : (a b p q r : ℕ) → q ≡ 2 * p → (a * 2 + b) * p + r ≡ a * q + (b * p + r)
one_more a b p q r e = rw e (grind arith)

pub reversed_onto : (k n a : ℕ) → reverse_bits_onto k n a ≡ a * 2 ^ k + reversed k n
unfolding reverse_bits_onto
reversed_onto zero n a = omega arith
reversed_onto (suc k) n a =
    reversed_onto k (n / 2) (a * 2 + n % 2) ∙ one_more a (n % 2) (2 ^ k) (2 ^ suc k) (reversed k (n / 2)) (pow_next k)

pub reversed_is : (k n : ℕ) → reverse_bits_onto k n 0 ≡ reversed k n
reversed_is k n = omega (arith, reversed_onto k n 0)

-- the digits of a number, from the first that is 1
pub record Digits (k n r : ℕ) : Type 0 where
  pub count : ℕ
  pub rest : r + count ≡ k
  pub below : n < 2 ^ count
  pub above : 2 ^ count ≤ 2 * n + 1

-- a number whose top bit is 1, and one whose top bit is 0
pub top_set : (k n : ℕ) → n / 2 ^ k % 2 ≡ 1 → 2 ^ k ≤ n
top_set k n h =
    let one : 1 ≤ n / 2 ^ k = omega arith in
    omega (arith, mul-le-mul_right (2 ^ k) one, shr_split n k)

pub top_clear : (k n : ℕ) → n < 2 ^ suc k → (n / 2 ^ k % 2 ≡ 1 → ⊥) → n < 2 ^ k
top_clear k n lt h =
    let few : n / 2 ^ k < 2 = shr_below n 1 k (omega (arith, pow-add 2 1 k, pow_next k)) in
    let none : n / 2 ^ k ≡ 0 = omega arith in
    let split = rw none at (shr_split n k) in
    omega (arith, split, mod-lt n (pow_pos k))

pub digits : (k n : ℕ) → n < 2 ^ k → Digits k n (leading_zeros k n)
digits zero n lt = record { count = 0; rest = refl; below = lt; above = omega arith }
digits (suc k) n lt = elim (eqb_tells (n / 2 ^ k % 2) 1) [
  | inl p ↦ rw p.0 (record { count = suc k; rest = omega arith; below = lt; above = omega (arith, pow_next k, top_set k n p.1) })
  | inr p ↦ let d = digits k n (top_clear k n lt p.1) in rw p.0 (record { count = d.count; rest = omega (arith, d.rest); below = d.below; above = d.above })
]

pub leading_is : (k n : ℕ) → n < 2 ^ k → leading_zeros k n ≡ count_leading_zeros k n
leading_is k n lt = let d = digits k n lt in leading_unique k n (leading_zeros k n) d.count d.rest d.below d.above

-- a number with other bits in it has no more digits
pub fields_below : (lsb width more bits n : ℕ) → bits < 2 ^ width → n < 2 ^ (more + (lsb + width))
    → n / 2 ^ (lsb + width) * 2 ^ (lsb + width) + (bits * 2 ^ lsb + n % 2 ^ lsb) < 2 ^ (more + (lsb + width))
fields_below lsb width more bits n fits lt =
    let low : bits * 2 ^ lsb + n % 2 ^ lsb < 2 ^ lsb * 2 ^ width = mul-add-lt bits (2 ^ lsb) (n % 2 ^ lsb) (2 ^ width) fits (mod-lt n (pow_pos lsb)) in
    let low_bits : bits * 2 ^ lsb + n % 2 ^ lsb < 2 ^ (lsb + width) = omega (arith, pow-add 2 lsb width) in
    omega (arith, pow-add 2 more (lsb + width), mul-add-lt (n / 2 ^ (lsb + width)) (2 ^ (lsb + width)) (bits * 2 ^ lsb + n % 2 ^ lsb) (2 ^ more) (shr_below n more (lsb + width) lt) low_bits)

pub fields_fit : (lsb width bits n : ℕ) → lsb + width ≤ 32 → bits < 2 ^ width → n < 2 ^ 32
    → n / 2 ^ (lsb + width) * 2 ^ (lsb + width) + bits * 2 ^ lsb + n % 2 ^ lsb < 2 ^ 32
fields_fit lsb width bits n within fits lt =
    let whole : 32 - (lsb + width) + (lsb + width) ≡ 32 = omega arith in
    let below = rw whole at (fields_below lsb width (32 - (lsb + width)) bits n fits (rw whole lt)) in
    omega (arith, below)
