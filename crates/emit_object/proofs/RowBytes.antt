-- The bytes of one row more.
use Rattle.std.proofs.Common.{◌≡◌, ◌<◌, ℕ, ◌+◌, List, ◌∷◌, ◌++◌, length, drop, get_or, sym, ap, ◌∙◌, append_assoc, add-one}
use Rattle.std.specs.Prelude.{flat_map}
use Rattle.std.proofs.Math.Seq.{drop-cons}
use Rattle.elf_model.specs.declared.objects.MapRow.{MapRow}
use Rattle.elf_model.specs.Maps.{row_bytes}

pub bytes_more : (rows : List MapRow) (i : ℕ) (d : MapRow) (now new all : List ℕ) → i < length rows → now ++ flat_map row_bytes (drop i rows) ≡ all → new ≡ now ++ row_bytes (get_or rows i d) → new ++ flat_map row_bytes (drop (i + 1) rows) ≡ all
bytes_more rows i d now new all low before is =
    let row : MapRow = get_or rows i d in
    let rest : List ℕ = flat_map row_bytes (drop (i + 1) rows) in
    let cut : drop i rows ≡ row ∷ drop (i + 1) rows = drop-cons rows i d low ∙ ap (λ (n : ℕ). row ∷ drop n rows) (sym (add-one i)) in
    ap (λ (l : List ℕ). l ++ rest) is ∙ append_assoc now (row_bytes row) rest ∙ ap (λ (l : List MapRow). now ++ flat_map row_bytes l) (sym cut) ∙ before
