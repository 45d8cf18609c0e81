-- One function more.
use Rattle.std.proofs.Common.{◌≡◌, ℕ, suc, ◌+◌, ◌*◌, List, ◌++◌, sym, ap, ap₂, ◌∙◌, arith, add-one}
use Rattle.std.specs.List.{flat_map, range_with_len}
use Rattle.elf_model.specs.Fields.{half}
use Rattle.skip_machine.specs.Draws.{draws}
use Rattle.gen_object.specs.Generated.{function_halves, calls_next, function_bytes}
use Rattle.gen_object.proofs.Ranges.{flat_map_range}

pub code_more : (seed count k x : ℕ) (old new : List ℕ) → old ≡ flat_map (function_bytes seed count) (range_with_len 0 k) → x ≡ draws seed (3 * k)
    → new ≡ old ++ flat_map half (function_halves x (calls_next count k)) → new ≡ flat_map (function_bytes seed count) (range_with_len 0 (k + 1))
code_more seed count k x old new before drawn appends =
    appends ∙ ap₂ (λ (l : List ℕ) (n : ℕ). l ++ flat_map half (function_halves n (calls_next count k))) before drawn
    ∙ sym (flat_map_range (function_bytes seed count) k) ∙ ap (λ (n : ℕ). flat_map (function_bytes seed count) (range_with_len 0 n)) (sym (add-one k))

pub draws_more : (seed k x : ℕ) → x ≡ draws seed (3 * k) → draws x 3 ≡ draws seed (3 * (k + 1))
draws_more seed k x drawn =
    let three : suc (suc (suc (3 * k))) ≡ 3 * (k + 1) = omega arith in
    ap (λ (n : ℕ). draws n 3) drawn ∙ ap (draws seed) three
