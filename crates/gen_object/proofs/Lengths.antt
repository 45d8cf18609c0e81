-- How many bytes the code has.
use Rattle.std.proofs.Common.{◌≡◌, ℕ, zero, suc, ◌+◌, ◌*◌, ◌<◌, ◌≤◌, Bool, true, false, length, refl, ap, ◌∙◌, arith, length-append}
use Rattle.std.specs.List.{flat_map, range_with_len}
use Rattle.std.proofs.lemmas.Bool.{lt-ltb, le-ltb}
use Rattle.elf_model.specs.Fields.{half}
use Rattle.skip_machine.specs.Draws.{draws}
use Rattle.gen_object.specs.Generated.{function_halves, function_size, calls_next, function_bytes, code_bytes}
use Rattle.gen_object.proofs.Ranges.{flat_map_range}

function_length : (x : ℕ) (calls : Bool) → length (flat_map half (function_halves x calls)) ≡ function_size calls
function_length x true = refl
function_length x false = refl

function_bytes_length : (seed count k : ℕ) → length (function_bytes seed count k) ≡ function_size (calls_next count k)
function_bytes_length seed count k = function_length (draws seed (3 * k)) (calls_next count k)

-- the functions before the last one
before_length : (seed count n : ℕ) → n < count → length (flat_map (function_bytes seed count) (range_with_len 0 n)) ≡ 14 * n
before_length seed count zero few = refl
before_length seed count (suc n) few =
    let calls : calls_next count n ≡ true = lt-ltb (n + 1) count (omega arith) in
    let one : length (function_bytes seed count n) ≡ 14 = function_bytes_length seed count n ∙ ap function_size calls in
    let before : length (flat_map (function_bytes seed count) (range_with_len 0 n)) ≡ 14 * n = before_length seed count n (omega arith) in
    ap length (flat_map_range (function_bytes seed count) n)
    ∙ length-append (flat_map (function_bytes seed count) (range_with_len 0 n)) (function_bytes seed count n)
    ∙ omega (arith, one, before)

all_length : (seed n : ℕ) → length (code_bytes seed (suc n)) ≡ 14 * n + 10
all_length seed n =
    let last : calls_next (suc n) n ≡ false = le-ltb (n + 1) (suc n) (omega arith) in
    let one : length (function_bytes seed (suc n) n) ≡ 10 = function_bytes_length seed (suc n) n ∙ ap function_size last in
    let before : length (flat_map (function_bytes seed (suc n)) (range_with_len 0 n)) ≡ 14 * n = before_length seed (suc n) n (omega arith) in
    ap length (flat_map_range (function_bytes seed (suc n)) n)
    ∙ length-append (flat_map (function_bytes seed (suc n)) (range_with_len 0 n)) (function_bytes seed (suc n) n)
    ∙ omega (arith, one, before)

pub code_length : (seed count : ℕ) → 1 ≤ count → length (code_bytes seed count) + 4 ≡ 14 * count
code_length seed zero some = absurd (omega arith)
code_length seed (suc n) some = omega (arith, all_length seed n)
