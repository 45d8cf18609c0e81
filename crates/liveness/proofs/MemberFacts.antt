-- Members of differences, and members that tell two sets apart.
use Rattle.std.proofs.Common.{◌≡◌, ◌<◌, ◌≤◌, ℕ, zero, suc, ◌^◌, ◌&&◌, ◌||◌, not, Bool, true, false, refl, sym, ap, ◌∙◌, inl, inr, ◌⊎◌, ◌↔◌, IsTrue, nat_eq, arith, subst}
use Rattle.std.specs.Int.RustNames.{bit_xor}
use Rattle.std.specs.Int.{bit_at}
use Rattle.std.proofs.lemmas.Nat.Bits.{bit_at_xor, bit_at-lt, bit_at_above, same_from_bits}
use Rattle.std.proofs.lemmas.Bool.{true≢false, eqb-true, eq-eqb}
use Rattle.std.proofs.lemmas.Bool.Decides.{nat_tests}
use Rattle.thumb_instr.specs.Operands.{has}

pub has_xor : (a b k : ℕ) → has (bit_xor a b) k ≡ ((has a k && not (has b k)) || (not (has a k) && has b k))
unfolding has
has_xor a b k = grind (arith, nat_tests, bit_at_xor a b k, bit_at-lt a k, bit_at-lt b k)

either_but : (x y : Bool) → (((x || y) && not y) || (not (x || y) && y)) ≡ (x && not y)
either_but true true = refl
either_but true false = refl
either_but false true = refl
either_but false false = refl

pub has_minus : (s a b r : ℕ) → ((k : ℕ) → has s k ≡ (has a k || has b k)) → r ≡ bit_xor s b → (k : ℕ) → has r k ≡ (has a k && not (has b k))
has_minus s a b r union e k = ap (λ (n : ℕ). has n k) e ∙ has_xor s b k ∙ ap (λ (t : Bool). (t && not (has b k)) || (not t && has b k)) (union k) ∙ either_but (has a k) (has b k)

pub has_above : (a k : ℕ) → a < 2 ^ 32 → 32 ≤ k → has a k ≡ false
unfolding has
has_above a k small high = let z : bit_at a k ≡ 0 = bit_at_above a 32 k small high in grind (arith, nat_tests)

bit_same : (a b k : ℕ) → has a k ≡ has b k → bit_at a k ≡ bit_at b k
unfolding has
bit_same a b k e = grind (arith, nat_tests, bit_at-lt a k, bit_at-lt b k)

pub same_has : (a b : ℕ) → ((k : ℕ) → has a k ≡ has b k) → a ≡ b
same_has a b same = same_from_bits a b (λ k. bit_same a b k (same k))

-- a member of b below n that is none of a, or there is no such member
abbrev pub IsNew : ℕ → ℕ → Type 0
IsNew a b = (k : ℕ) × (has a k ≡ false) × (has b k ≡ true)

bool_cases : (x y : Bool) → (x ≡ true → y ≡ true) → (x ≡ y) ⊎ ((x ≡ false) × (y ≡ true))
bool_cases true true _ = inl refl
bool_cases true false h = inl (sym (h refl))
bool_cases false true _ = inr (refl, refl)
bool_cases false false _ = inl refl

below_none : (a b : ℕ) → (k : ℕ) → k < 0 → has a k ≡ has b k
below_none a b k low = absurd (omega arith)

same_more : (a b n : ℕ) → ((k : ℕ) → k < n → has a k ≡ has b k) → has a n ≡ has b n → (k : ℕ) → k < suc n → has a k ≡ has b k
same_more a b n less here k low = elim (at_or_below k n low) [
  | inl e ↦ subst (λ (j : ℕ). has a j ≡ has b j) (sym e) here
  | inr l ↦ less k l
]
  where
    at_or_below : (k n : ℕ) → k < suc n → (k ≡ n) ⊎ (k < n)
    at_or_below k n low = grind arith

find_new : (a b n : ℕ) → ((k : ℕ) → has a k ≡ true → has b k ≡ true) → IsNew a b ⊎ ((k : ℕ) → k < n → has a k ≡ has b k)
find_new a b zero sub = inr (below_none a b)
find_new a b (suc n) sub = elim (find_new a b n sub) [
  | inl new ↦ inl new
  | inr less ↦ elim (bool_cases (has a n) (has b n) (sub n)) [
    | inl e ↦ inr (same_more a b n less e)
    | inr p ↦ inl (n, p.0, p.1)
  ]
]

low_or_high : (k : ℕ) → (k < 32) ⊎ (32 ≤ k)
low_or_high k = grind arith

pub new_of_differing : (a b : ℕ) → a < 2 ^ 32 → b < 2 ^ 32 → ((k : ℕ) → has a k ≡ true → has b k ≡ true) → (a ≡ b → ⊥) → IsNew a b
new_of_differing a b sa sb sub ne = elim (find_new a b 32 sub) [
  | inl new ↦ new
  | inr same ↦ absurd (ne (same_has a b (λ k. elim (low_or_high k) [
    | inl l ↦ same k l
    | inr h ↦ has_above a k sa h ∙ sym (has_above b k sb h)
  ])))
]

pub differing_of_new : (a b : ℕ) → IsNew a b → a ≡ b → ⊥
differing_of_new a b new e = true≢false (sym new.2 ∙ sym (ap (λ (n : ℕ). has n new.0) e) ∙ new.1)

pub differ_is : (a b x y : ℕ) → x < 2 ^ 32 → y < 2 ^ 32 → ((k : ℕ) → has a k ≡ true → has b k ≡ true) → x ≡ a → y ≡ b → IsTrue (not (nat_eq x y)) ↔ IsNew a b
differ_is a b x y sx sy sub ex ey =
    let sa : a < 2 ^ 32 = omega arith in
    let sb : b < 2 ^ 32 = omega arith in (
      λ t. new_of_differing a b sa sb sub (λ e. not_true (nat_eq x y) t (eq-eqb x y (ex ∙ e ∙ sym ey))),
      λ new. not_from (nat_eq x y) (λ t. differing_of_new a b new (sym ex ∙ eqb-true x y t ∙ ey)),
    )
  where
    not_true : (t : Bool) → IsTrue (not t) → t ≡ true → ⊥
    not_true true h e = true≢false (sym h)
    not_true false h e = true≢false (sym e)

    not_from : (t : Bool) → (t ≡ true → ⊥) → IsTrue (not t)
    not_from true h = absurd (h refl)
    not_from false h = refl
