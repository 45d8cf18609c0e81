-- The names of functions.
use Rattle.std.proofs.Common.{◌≡◌, ℕ, ◌+◌, ◌%◌, ◌^◌, ◌<◌, ◌≤◌, ◌==◌, ◌&&◌, Bool, true, List, [], ◌∷◌, ◌++◌, length, ap₂, ◌∙◌, arith}
use Rattle.std.specs.Prelude.{not, codes}
use Rattle.std.specs.List.{list_all}
use Rattle.std.specs.Fmt.{decimal}
use Rattle.std.proofs.lemmas.Bool.Decides.{nat_tests}
use Rattle.std.proofs.lemmas.Fmt.{decimal_by_steps, length-decimal-le}
use Rattle.std.proofs.lemmas.List.Folds.{list_all-append}
use Rattle.elf_model.specs.Objects.{is_name}

-- no byte is NUL
abbrev has_no_nul : List ℕ → Bool
has_no_nul bytes = list_all (λ b. not (b == 0)) bytes

digit_is_no_nul : (d : ℕ) → has_no_nul ((48 + d) ∷ []) ≡ true
digit_is_no_nul d = grind (arith, nat_tests)

one_more : (ds : List ℕ) (d : ℕ) → has_no_nul ds ≡ true → has_no_nul (ds ++ (48 + d) ∷ []) ≡ true
one_more ds d h = list_all-append (λ b. not (b == 0)) ds ((48 + d) ∷ []) ∙ ap₂ (λ (a b : Bool). a && b) h (digit_is_no_nul d)

decimal_has_no_nul : (n : ℕ) → n < 2 ^ 64 → has_no_nul (decimal n) ≡ true
decimal_has_no_nul = decimal_by_steps (λ n ds. has_no_nul ds ≡ true) (λ n below. digit_is_no_nul n) (λ n ds above h. one_more ds (n % 10) h)

name_with : (ds : List ℕ) → length ds ≤ 4 → has_no_nul ds ≡ true → is_name (codes "f" ++ ds) ≡ true
name_with ds short h = grind (arith, nat_tests, h)

pub function_name : (k : ℕ) → k < 4000 → is_name (codes "f" ++ decimal k) ≡ true
function_name k few = name_with (decimal k) (length-decimal-le 4 k (omega arith) (omega arith) (omega arith)) (decimal_has_no_nul k (omega arith))
