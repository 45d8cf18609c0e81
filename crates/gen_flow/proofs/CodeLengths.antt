-- How many bytes the generated code has.
use Rattle.std.proofs.Common.{◌≡◌, ℕ, zero, suc, ◌+◌, ◌*◌, ◌≤◌, [], length, ap, ◌∙◌, arith, length-append}
use Rattle.std.specs.List.{flat_map, range_with_len}
use Rattle.std.proofs.lemmas.Bool.{le-ltb}
use Rattle.skip_machine.specs.Draws.{draws}
use Rattle.gen_object.specs.Generated.{function_size, calls_next, function_bytes, code_bytes}
use Rattle.gen_flow.proofs.CodeHalves.{function_length, long_function}

last_function : (seed count k : ℕ) → k + 1 ≡ count → length (function_bytes seed count k) ≡ 10
last_function seed count k is = function_length (draws seed (3 * k)) (calls_next count k) ∙ ap function_size (le-ltb (k + 1) count (omega arith))

-- of the functions from the k-th on
lengths_from : (seed count k n : ℕ) → k + suc n ≡ count → length (flat_map (function_bytes seed count) (range_with_len k (suc n))) ≡ 14 * n + 10
lengths_from seed count k zero all =
    let one = last_function seed count k all in
    length-append (function_bytes seed count k) [] ∙ omega (arith, one)
lengths_from seed count k (suc n) all =
    let one = long_function seed count k (omega arith) in
    let more = lengths_from seed count (k + 1) n (omega arith) in
    length-append (function_bytes seed count k) (flat_map (function_bytes seed count) (range_with_len (k + 1) (suc n))) ∙ omega (arith, one, more)

pub code_length : (seed count : ℕ) → 1 ≤ count → length (code_bytes seed count) + 4 ≡ 14 * count
code_length seed zero some = absurd (omega arith)
code_length seed (suc n) some = omega (arith, lengths_from seed (suc n) 0 n (omega arith))
