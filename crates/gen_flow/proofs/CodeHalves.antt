-- The halfwords of the generated code.
use Rattle.std.proofs.Common.{◌≡◌, ℕ, zero, suc, ◌+◌, ◌*◌, ◌/◌, ◌^◌, ◌<◌, Bool, true, false, List, ◌++◌, length, drop, refl, ap, ◌∙◌, arith}
use Rattle.std.specs.Prelude.{slice_index}
use Rattle.std.specs.List.{flat_map, range_with_len}
use Rattle.std.proofs.Math.Seq.{drop-append-add}
use Rattle.std.proofs.lemmas.Bool.{lt-ltb, le-ltb}
use Rattle.elf_model.specs.Fields.{half_at, half}
use Rattle.elf_model.proofs.FieldsRead.{drop_further, half_read}
use Rattle.skip_machine.specs.Draws.{draws}
use Rattle.gen_object.specs.Generated.{choices, choice, function_halves, function_size, calls_next, function_bytes, code_bytes}

-- the lists of a range of numbers, without those of the first k
pub rest_of_range : (f : ℕ → List ℕ) (w a k n : ℕ) → k < n → ((i : ℕ) → i < a + k → length (f i) ≡ w) → (rest : List ℕ) × (drop (w * k) (flat_map f (range_with_len a n)) ≡ f (a + k) ++ rest)
rest_of_range f w a k zero few each = absurd (omega arith)
rest_of_range f w a zero (suc n) few each =
    let none : w * 0 ≡ 0 = omega arith in
    let same : a ≡ a + 0 = omega arith in
    let rest = flat_map f (range_with_len (a + 1) n) in
    (rest, ap (λ (m : ℕ). drop m (f a ++ rest)) none ∙ ap (λ (m : ℕ). f m ++ rest) same)
rest_of_range f w a (suc k) (suc n) few each =
    let more = rest_of_range f w (a + 1) k n (omega arith) (λ i low. each i (omega arith)) in
    let one : length (f a) ≡ w = each a (omega arith) in
    let split : w * suc k ≡ length (f a) + w * k = omega (arith, one) in
    let same : (a + 1) + k ≡ a + suc k = omega arith in
    let others = flat_map f (range_with_len (a + 1) n) in
    (more.0, ap (λ (m : ℕ). drop m (f a ++ others)) split ∙ drop-append-add (f a) others (w * k) ∙ more.1 ∙ ap (λ (m : ℕ). f m ++ more.0) same)

pub function_length : (x : ℕ) (calls : Bool) → length (flat_map half (function_halves x calls)) ≡ function_size calls
function_length x true = refl
function_length x false = refl

-- each function but the last has 14 bytes
pub long_function : (seed count k : ℕ) → k + 1 < count → length (function_bytes seed count k) ≡ 14
long_function seed count k more = function_length (draws seed (3 * k)) (calls_next count k) ∙ ap function_size (lt-ltb (k + 1) count more)

-- function k stands at 14 k
pub function_there : (seed count k : ℕ) → k < count → (rest : List ℕ) × (drop (14 * k) (code_bytes seed count) ≡ function_bytes seed count k ++ rest)
function_there seed count k few =
    let found = rest_of_range (function_bytes seed count) 14 0 k count few (λ i low. long_function seed count i (omega arith)) in
    let same : 0 + k ≡ k = omega arith in
    (found.0, found.1 ∙ ap (λ (m : ℕ). function_bytes seed count m ++ found.0) same)

-- the same where it is known whether it calls
function_with : (seed count k : ℕ) (b : Bool) → k < count → calls_next count k ≡ b → (rest : List ℕ) × (drop (14 * k) (code_bytes seed count) ≡ flat_map half (function_halves (draws seed (3 * k)) b) ++ rest)
function_with seed count k b few is =
    let found = function_there seed count k few in
    (found.0, found.1 ∙ ap (λ (c : Bool). flat_map half (function_halves (draws seed (3 * k)) c) ++ found.0) is)

choice_at : (n : ℕ) → slice_index choices n < 2 ^ 16
choice_at zero = omega arith
choice_at (suc zero) = omega arith
choice_at (suc (suc zero)) = omega arith
choice_at (suc (suc (suc zero))) = omega arith
choice_at (suc (suc (suc (suc zero)))) = omega arith
choice_at (suc (suc (suc (suc (suc zero))))) = omega arith
choice_at (suc (suc (suc (suc (suc (suc zero)))))) = omega arith
choice_at (suc (suc (suc (suc (suc (suc (suc zero))))))) = omega arith
choice_at (suc (suc (suc (suc (suc (suc (suc (suc n)))))))) = omega arith

choice_small : (x : ℕ) → choice x < 2 ^ 16
choice_small x = choice_at (x / 2 ^ 29)

module _ (seed count k : ℕ) (few : k < count) where
  pub push_half : half_at (code_bytes seed count) (14 * k) ≡ 0xB510
  push_half =
      let f = function_there seed count k few in
      half_read (code_bytes seed count) (14 * k) 0xB510 (drop 2 (function_bytes seed count k ++ f.0)) f.1 (omega arith)

  work_at : (j y : ℕ) → y ≡ 2 * j + 2 → j < 3 → half_at (code_bytes seed count) (14 * k + y) ≡ choice (draws (draws seed (3 * k)) (suc j))
  work_at zero y is low =
      let f = function_there seed count k few in
      let row = function_bytes seed count k ++ f.0 in
      let same : y ≡ 2 = omega arith in
      ap (λ (z : ℕ). half_at (code_bytes seed count) (14 * k + z)) same
      ∙ half_read (code_bytes seed count) (14 * k + 2) (choice (draws (draws seed (3 * k)) 1)) (drop 4 row) (drop_further (code_bytes seed count) (14 * k) 2 row f.1) (choice_small (draws (draws seed (3 * k)) 1))
  work_at (suc zero) y is low =
      let f = function_there seed count k few in
      let row = function_bytes seed count k ++ f.0 in
      let same : y ≡ 4 = omega arith in
      ap (λ (z : ℕ). half_at (code_bytes seed count) (14 * k + z)) same
      ∙ half_read (code_bytes seed count) (14 * k + 4) (choice (draws (draws seed (3 * k)) 2)) (drop 6 row) (drop_further (code_bytes seed count) (14 * k) 4 row f.1) (choice_small (draws (draws seed (3 * k)) 2))
  work_at (suc (suc zero)) y is low =
      let f = function_there seed count k few in
      let row = function_bytes seed count k ++ f.0 in
      let same : y ≡ 6 = omega arith in
      ap (λ (z : ℕ). half_at (code_bytes seed count) (14 * k + z)) same
      ∙ half_read (code_bytes seed count) (14 * k + 6) (choice (draws (draws seed (3 * k)) 3)) (drop 8 row) (drop_further (code_bytes seed count) (14 * k) 6 row f.1) (choice_small (draws (draws seed (3 * k)) 3))
  work_at (suc (suc (suc j))) y is low = absurd (omega arith)

  pub work_half : (j : ℕ) → j < 3 → half_at (code_bytes seed count) (14 * k + 2 * j + 2) ≡ choice (draws (draws seed (3 * k)) (j + 1))
  work_half j low =
      let place : 14 * k + 2 * j + 2 ≡ 14 * k + (2 * j + 2) = omega arith in
      let next : suc j ≡ j + 1 = omega arith in
      ap (half_at (code_bytes seed count)) place ∙ work_at j (2 * j + 2) refl low ∙ ap (λ (m : ℕ). choice (draws (draws seed (3 * k)) m)) next

module _ (seed count k : ℕ) (more : k + 1 < count) where
  row_with : (rest : List ℕ) × (drop (14 * k) (code_bytes seed count) ≡ flat_map half (function_halves (draws seed (3 * k)) true) ++ rest)
  row_with = function_with seed count k true (omega arith) (lt-ltb (k + 1) count more)

  pub call_half : half_at (code_bytes seed count) (14 * k + 8) ≡ 0xF7FF
  call_half =
      let f = row_with in
      let row = flat_map half (function_halves (draws seed (3 * k)) true) ++ f.0 in
      half_read (code_bytes seed count) (14 * k + 8) 0xF7FF (drop 10 row) (drop_further (code_bytes seed count) (14 * k) 8 row f.1) (omega arith)

  pub second_call_half : half_at (code_bytes seed count) (14 * k + 8 + 2) ≡ 0xFFFE
  second_call_half =
      let f = row_with in
      let row = flat_map half (function_halves (draws seed (3 * k)) true) ++ f.0 in
      let place : 14 * k + 8 + 2 ≡ 14 * k + 10 = omega arith in
      ap (half_at (code_bytes seed count)) place
      ∙ half_read (code_bytes seed count) (14 * k + 10) 0xFFFE (drop 12 row) (drop_further (code_bytes seed count) (14 * k) 10 row f.1) (omega arith)

  pub back_half : half_at (code_bytes seed count) (14 * k + 12) ≡ 0xBD10
  back_half =
      let f = row_with in
      let row = flat_map half (function_halves (draws seed (3 * k)) true) ++ f.0 in
      half_read (code_bytes seed count) (14 * k + 12) 0xBD10 (drop 14 row) (drop_further (code_bytes seed count) (14 * k) 12 row f.1) (omega arith)

pub last_half : (seed count k : ℕ) → k + 1 ≡ count → half_at (code_bytes seed count) (14 * k + 8) ≡ 0xBD10
last_half seed count k is =
    let f = function_with seed count k false (omega arith) (le-ltb (k + 1) count (omega arith)) in
    let row = flat_map half (function_halves (draws seed (3 * k)) false) ++ f.0 in
    half_read (code_bytes seed count) (14 * k + 8) 0xBD10 (drop 10 row) (drop_further (code_bytes seed count) (14 * k) 8 row f.1) (omega arith)
