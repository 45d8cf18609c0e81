use Rattle.std.proofs.Common.{◌≡◌, ◌≤◌, ◌==◌, ◌-◌, false, ℕ, length, map, get_or, string_bytes, sym, ap, ◌∙◌, arith}
use Rattle.std.proofs.lemmas.Bool.Decides.{nat_tests}
use Rattle.std.proofs.lemmas.List.{length-map}
use Rattle.guard_cli.proofs.Loaded.{named_at, named_last, name_is}
use Rattle.guard_cli.proofs.carrying.name_at.Goals as goal

pub returns-then-number-names : goal.returns-then-number-names
returns-then-number-names c = λ limit.
    let names = c.args.names.now in
    let n = c.index-names-number.result in
    let count = length-map names string_bytes in
    c.as_str.ensures.value
    ∙ sym (named_at limit (map string_bytes names) c.args.number (string_bytes n) (omega arith) ∙ name_is names c.args.number n (omega arith) c.index-names-number.is)

some_there : (n : ℕ) → false ≡ (n == 0) → 1 ≤ n
some_there n e = grind (arith, nat_tests)

pub returns-else-is_empty : goal.returns-else-is_empty
returns-else-is_empty c = λ limit.
    let names = c.args.names.now in
    let n = c.index-names-names.result in
    let count = length-map names string_bytes in
    let some = some_there (length names) c.if-is_empty.ensures in
    let last : length (map string_bytes names) - 1 ≡ length names - 1 = omega arith in
    c.as_str-else-is_empty.ensures.value
    ∙ sym (named_last limit (map string_bytes names) c.args.number (string_bytes n) (omega arith) (omega arith)
    ∙ ap (λ (i : ℕ). get_or (map string_bytes names) i (string_bytes n)) last ∙ name_is names (length names - 1) n (omega arith) c.index-names-names.is)
