-- A comparison with 0.
use Rattle.std.proofs.Common.{◌≡◌, ℕ, ◌+◌, ◌-◌, ◌%◌, ◌^◌, ◌<◌, Bool, true, false, ap, ◌∙◌, arith, if◌then◌else◌}
use Rattle.std.specs.Prelude.{not, pos, negsuc, ◌+ℤ◌, ◌-ℤ◌, int_le, int_lt, nat_le, ◌&&◌}
use Rattle.std.proofs.lemmas.Bool.{ne_eqb, le-leb, lt-ltb}
use Rattle.std.proofs.lemmas.Int.{ints}
use Rattle.mark_word.specs.Formulas.{add_flags, signed, one_if, bit}
use Rattle.mark_word.specs.declared.numbers.Sum.{Sum}

not_high : (b : ℕ) → b < 2 ^ 31 → bit b 31 ≡ false
not_high b h = ne_eqb _ _ (λ e. omega arith)

positive : (b : ℕ) → b < 2 ^ 31 → signed b ≡ pos b
positive b h = ap (λ t. if t then pos b -ℤ pos (2 ^ 32) else pos b) (not_high b h)

back : (b : ℕ) → 0 < b → pos b +ℤ negsuc 0 +ℤ pos 1 ≡ pos b
back b h = omega (arith, ints)

sum_is : (b : ℕ) → 0 < b → b < 2 ^ 31 → signed b +ℤ signed (2 ^ 32 - 1) +ℤ pos (one_if true) ≡ pos b
sum_is b p h = ap (λ z. z +ℤ signed (2 ^ 32 - 1) +ℤ pos (one_if true)) (positive b h) ∙ back b p

fits_pos : (b : ℕ) → b < 2 ^ 31 → not (int_le (pos 0 -ℤ pos (2 ^ 31)) (pos b) && int_lt (pos b) (pos (2 ^ 31))) ≡ false
fits_pos b h = ap not (lt-ltb b (2 ^ 31) h)

pub zero_sum : (b : ℕ) → 0 < b → b < 2 ^ 31 → add_flags b (2 ^ 32 - 1) true ≡ record { value = b; carry = true; overflow = false }
zero_sum b p h =
    let v : (b + (2 ^ 32 - 1) + one_if true) % 2 ^ 32 ≡ b = omega arith in
    let c : nat_le (2 ^ 32) (b % 2 ^ 32 + (2 ^ 32 - 1) % 2 ^ 32 + one_if true) ≡ true = le-leb _ _ (omega arith) in
    let o : not (int_le (pos 0 -ℤ pos (2 ^ 31)) (signed b +ℤ signed (2 ^ 32 - 1) +ℤ pos (one_if true)) && int_lt (signed b +ℤ signed (2 ^ 32 - 1) +ℤ pos (one_if true)) (pos (2 ^ 31))) ≡ false =
    ap (λ z. not (int_le (pos 0 -ℤ pos (2 ^ 31)) z && int_lt z (pos (2 ^ 31)))) (sum_is b p h) ∙ fits_pos b h in
    made v c o
  where
    made : {v : ℕ} {c o : Bool} → v ≡ b → c ≡ true → o ≡ false → let s : Sum = record { value = v; carry = c; overflow = o } in s ≡ record { value = b; carry = true; overflow = false }
    made e f g = cc
