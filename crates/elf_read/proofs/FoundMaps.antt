-- Sections that have the name of a map, one after another.
use Rattle.std.proofs.Common.{◌≡◌, ◌≤◌, ◌<◌, ℕ, ◌+◌, Bool, true, false, cond, List, [], ◌∷◌, length, get_or, drop, sym, ap, ◌∙◌, filter}
use Rattle.std.proofs.lemmas.List.{at_drop_more, at_drop_all, get_or_default}
use Rattle.elf_model.specs.declared.objects.Section.{Section}
use Rattle.elf_model.specs.Maps.{is_map_named}
use Rattle.elf_read.specs.MapRows.{IsNextAt}

pub next_here : (xs : List Section) (first i : ℕ) (s : Section) → i < length xs → s ≡ get_or xs i s → is_map_named s ≡ true → filter is_map_named (drop first xs) ≡ filter is_map_named (drop i xs) → IsNextAt xs first i
next_here xs first i s l e named inv = record {
  s = s;
  inside = l;
  there = λ d. get_or_default xs i d s l ∙ sym e;
  rest = inv ∙ at_drop_more (filter is_map_named) xs i s l ∙ ap (λ (t : Section). filter is_map_named (t ∷ drop (i + 1) xs)) (sym e) ∙ ap (λ (t : Bool). cond t (s ∷ filter is_map_named (drop (i + 1) xs)) (filter is_map_named (drop (i + 1) xs))) named;
}

pub next_more : (xs : List Section) (first i : ℕ) (s : Section) → i < length xs → s ≡ get_or xs i s → is_map_named s ≡ false → filter is_map_named (drop first xs) ≡ filter is_map_named (drop i xs) → filter is_map_named (drop first xs) ≡ filter is_map_named (drop (i + 1) xs)
next_more xs first i s l e named inv =
    inv ∙ at_drop_more (filter is_map_named) xs i s l ∙ ap (λ (t : Section). filter is_map_named (t ∷ drop (i + 1) xs)) (sym e) ∙ ap (λ (t : Bool). cond t (s ∷ filter is_map_named (drop (i + 1) xs)) (filter is_map_named (drop (i + 1) xs))) named

pub next_none : (xs : List Section) (first i : ℕ) → length xs ≤ i → filter is_map_named (drop first xs) ≡ filter is_map_named (drop i xs) → filter is_map_named (drop first xs) ≡ []
next_none xs first i l inv = inv ∙ at_drop_all (filter is_map_named) xs i l
