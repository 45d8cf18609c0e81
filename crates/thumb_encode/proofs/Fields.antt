-- Numbers are made of their fields.
use Rattle.std.proofs.Common.{◌≡◌, ℕ, pos, negsuc, ◌+◌, ◌-◌, ◌*◌, ◌%◌, ◌^◌, ◌<◌, true, false, refl, ◌∙◌, arith, if◌then◌else◌, nat_lt, ◌==◌, Some, slice_get}
use Rattle.std.proofs.lemmas.Bool.Decides.{nat_tests}
use Rattle.std.proofs.lemmas.Bool.{ltb-false}
use Rattle.thumb_instr.specs.declared.conditions.Cond.{Cond}
use Rattle.thumb_instr.specs.Patterns.{cut}
use Rattle.thumb_instr.specs.Meanings.{conditions, signed, zero_as_32, constant_of}
use Rattle.thumb_instr.specs.Blocks.{condition_number}
use Rattle.thumb_encode.specs.HalfCodes.{two_registers, three_registers, five_bits, eight_bits, high_registers, quarter_of, word_of}
use Rattle.thumb_encode.proofs.Covering.{chosen, Each, done, ◌&◌, each-get}

pub two_registers-cut : (o c : ℕ) → c < 2 ^ 16 → cut c 16 10 ≡ o → two_registers o (cut c 6 3) (cut c 3 3) ≡ c
unfolding two_registers
two_registers-cut o c small is = omega arith

pub three_registers-cut : (o c : ℕ) → c < 2 ^ 16 → cut c 16 7 ≡ o → three_registers o (cut c 9 3) (cut c 6 3) (cut c 3 3) ≡ c
unfolding three_registers
three_registers-cut o c small is = omega arith

pub five_bits-cut : (o c i : ℕ) → c < 2 ^ 16 → cut c 16 5 ≡ o → i % 32 ≡ cut c 11 5 → five_bits o i (cut c 6 3) (cut c 3 3) ≡ c
unfolding five_bits
five_bits-cut o c i small is same = omega arith

pub eight_bits-cut : (o c i : ℕ) → c < 2 ^ 16 → cut c 16 5 ≡ o → i % 256 ≡ cut c 8 8 → eight_bits o (cut c 11 3) i ≡ c
unfolding eight_bits
eight_bits-cut o c i small is same = omega arith

pub high_registers-cut : (o c : ℕ) → c < 2 ^ 16 → cut c 16 8 ≡ o → high_registers o (cut c 7 4) (8 * cut c 8 1 + cut c 3 3) ≡ c
unfolding high_registers
high_registers-cut o c small is = omega arith

-- 0 stands for 32
pub zero_as_32-again : (i : ℕ) → i < 32 → zero_as_32 i % 32 ≡ i
zero_as_32-again i less = grind (arith, nat_tests)

pub quarter_of-constant_of : (i : ℕ) → i < 256 → quarter_of (constant_of (4 * i)) ≡ i
unfolding quarter_of
quarter_of-constant_of i less = grind (arith, nat_tests)

pub condition_number-get : (k : ℕ) (x : Cond) → slice_get conditions k ≡ Some x → condition_number x ≡ k
condition_number-get k x got =
    let each : Each Cond (λ j y. condition_number y ≡ j) 0 conditions =
    refl & refl & refl & refl & refl & refl & refl & refl & refl & refl & refl & refl & refl & refl & refl & done in
    each-get (λ j y. condition_number y ≡ j) 0 conditions each k x got ∙ omega arith

-- a signed number of w bits has these bits in 32
pub word_of-signed_9 : (n : ℕ) → n < 2 ^ 9 → word_of (signed 9 n) % 2 ^ 9 ≡ n
unfolding word_of
word_of-signed_9 n less = chosen (λ b. nat_lt n 256 ≡ b → word_of (if b then pos n else negsuc (2 ^ 9 - 1 - n)) % 2 ^ 9 ≡ n) (nat_lt n 256) (λ low _. omega arith) (λ high _. omega (arith, ltb-false n 256 high)) refl

pub word_of-signed_12 : (n : ℕ) → n < 2 ^ 12 → word_of (signed 12 n) % 2 ^ 12 ≡ n
unfolding word_of
word_of-signed_12 n less = chosen (λ b. nat_lt n 2048 ≡ b → word_of (if b then pos n else negsuc (2 ^ 12 - 1 - n)) % 2 ^ 12 ≡ n) (nat_lt n 2048) (λ low _. omega arith) (λ high _. omega (arith, ltb-false n 2048 high)) refl

pub word_of-signed_21 : (n : ℕ) → n < 2 ^ 21 → word_of (signed 21 n) % 2 ^ 21 ≡ n
unfolding word_of
word_of-signed_21 n less = chosen (λ b. nat_lt n (2 ^ 20) ≡ b → word_of (if b then pos n else negsuc (2 ^ 21 - 1 - n)) % 2 ^ 21 ≡ n) (nat_lt n (2 ^ 20)) (λ low _. omega arith) (λ high _. omega (arith, ltb-false n (2 ^ 20) high)) refl

pub word_of-signed_25 : (n : ℕ) → n < 2 ^ 25 → word_of (signed 25 n) % 2 ^ 25 ≡ n
unfolding word_of
word_of-signed_25 n less = chosen (λ b. nat_lt n (2 ^ 24) ≡ b → word_of (if b then pos n else negsuc (2 ^ 25 - 1 - n)) % 2 ^ 25 ≡ n) (nat_lt n (2 ^ 24)) (λ low _. omega arith) (λ high _. omega (arith, ltb-false n (2 ^ 24) high)) refl

-- a bit, as a test and back
pub bit-again : (b : ℕ) → b < 2 → (if b == 1 then 1 else 0) ≡ b
bit-again b less = grind (arith, nat_tests)

-- three bits are no number of sp
pub is_13-low : (r : ℕ) → r < 8 → (r == 13) ≡ false
is_13-low r low = grind (arith, nat_tests)

pub is_below_8 : (r : ℕ) → r < 8 → nat_lt r 8 ≡ true
is_below_8 r low = grind (arith, nat_tests)
