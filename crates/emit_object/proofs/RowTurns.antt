-- The turns of the loop over points and their units, and the numbers of sections.
use Rattle.std.proofs.Common.{◌≡◌, ◌<◌, ◌≤◌, ℕ, zero, suc, ◌+◌, Bool, true, false, cond, List, [], ◌∷◌, ◌++◌, length, map, take, drop, get_or, refl, sym, ap, ◌∙◌, arith, Option, None}
use Rattle.std.specs.Prelude.{count_by}
use Rattle.std.specs.List.{zip}
use Rattle.std.specs.Option.{option_to_list}
use Rattle.std.proofs.Common.{append_assoc, add-one}
use Rattle.std.proofs.Math.Seq.{drop-cons}
use Rattle.std.proofs.lemmas.List.{drop_all}
use Rattle.elf_model.specs.declared.objects.Section.{Section}
use Rattle.elf_model.specs.declared.objects.MapRow.{MapRow}
use Rattle.elf_model.specs.Objects.{is_code}
use Rattle.elf_model.proofs.Lists.{count_cons}
use Rattle.flow_recover.specs.declared.flows.Point.{Point}
use Rattle.hardened_form.specs.Places.{UnitPlace}
use Rattle.emit_object.specs.RowLists.{ordinals_from, start_row, return_row, merged, rows_from}

module _ {X Y Z : Type 0} (f : Y → Z) where
  zip_length : (xs : List X) (ys : List Y) → length ys ≡ length xs → length (zip xs (map f ys)) ≡ length xs
  zip_length [] ys l = refl
  zip_length (x ∷ xs) [] l = absurd (omega arith)
  zip_length (x ∷ xs) (y ∷ ys) l = ap suc (zip_length xs ys (omega arith))

  zip_at : (xs : List X) (ys : List Y) (k : ℕ) (d : X) (u : Y) → length ys ≡ length xs → k < length xs → get_or (zip xs (map f ys)) k (d, f u) ≡ (get_or xs k d, f (get_or ys k u))
  zip_at [] ys k d u l low = absurd (omega arith)
  zip_at (x ∷ xs) [] k d u l low = absurd (omega arith)
  zip_at (x ∷ xs) (y ∷ ys) zero d u l low = refl
  zip_at (x ∷ xs) (y ∷ ys) (suc k) d u l low = zip_at xs ys k d u (omega arith) (omega arith)

module _ {Y : Type 0} (f : Y → UnitPlace) (number : ℕ → ℕ) (xs : List Point) (ys : List Y) (same : length ys ≡ length xs) where
  abbrev all : List (Point × UnitPlace)
  all = zip xs (map f ys)

  turn : (k : ℕ) (d : Point) (u : Y) (rows new : List MapRow) (waiting : Option MapRow) → k < length xs → rows ++ rows_from number waiting (drop k all) ≡ rows_from number None all
      → new ≡ rows ++ merged waiting (start_row (number (get_or xs k d).section) (get_or xs k d, f (get_or ys k u)))
      → new ++ rows_from number (return_row (number (get_or xs k d).section) (get_or xs k d, f (get_or ys k u))) (drop (k + 1) all) ≡ rows_from number None all
  turn k d u rows new waiting low before is =
      let e : Point × UnitPlace = (get_or xs k d, f (get_or ys k u)) in
      let start = start_row (number e.0.section) e in
      let back = return_row (number e.0.section) e in
      let cut : drop k all ≡ e ∷ drop (k + 1) all =
      drop-cons all k (d, f u) (omega (arith, zip_length f xs ys same)) ∙ ap (λ (z : Point × UnitPlace). z ∷ drop (suc k) all) (zip_at f xs ys k d u same low)
      ∙ ap (λ (n : ℕ). e ∷ drop n all) (sym (add-one k)) in
      ap (λ (l : List MapRow). l ++ rows_from number back (drop (k + 1) all)) is ∙ append_assoc rows (merged waiting start) (rows_from number back (drop (k + 1) all))
      ∙ ap (λ (l : List (Point × UnitPlace)). rows ++ rows_from number waiting l) (sym cut) ∙ before

  pub turned : (k : ℕ) (p : Point) (u : Y) (start : MapRow) (rows new : List MapRow) (waiting back : Option MapRow) → k < length xs → p ≡ get_or xs k p → u ≡ get_or ys k u
      → start ≡ start_row (number p.section) (p, f u) → back ≡ return_row (number p.section) (p, f u) → rows ++ rows_from number waiting (drop k all) ≡ rows_from number None all → new ≡ rows ++ merged waiting start
      → new ++ rows_from number back (drop (k + 1) all) ≡ rows_from number None all
  turned k p u start rows new waiting back low is_p is_u is_start is_back before is =
      let e : Point × UnitPlace = (p, f u) in
      let same : e ≡ (get_or xs k p, f (get_or ys k u)) = ap (λ (z : Point). (z, f u)) is_p ∙ ap (λ (z : Y). (get_or xs k p, f z)) is_u in
      let first = is ∙ ap (λ (z : MapRow). rows ++ merged waiting z) (is_start ∙ ap (λ (z : Point × UnitPlace). start_row (number z.0.section) z) same) in
      ap (λ (z : Option MapRow). new ++ rows_from number z (drop (k + 1) all)) (is_back ∙ ap (λ (z : Point × UnitPlace). return_row (number z.0.section) z) same) ∙ turn k p u rows new waiting low before first

  pub ended : (k : ℕ) (rows : List MapRow) (waiting : Option MapRow) → length xs ≤ k → rows ++ rows_from number waiting (drop k all) ≡ rows_from number None all → rows ++ option_to_list waiting ≡ rows_from number None all
  ended k rows waiting high before =
      ap (λ (l : List (Point × UnitPlace)). rows ++ rows_from number waiting l) (sym (drop_all k all (omega (arith, zip_length f xs ys same, high)))) ∙ before

-- the numbers of sections
pub ordinals_length : (n : ℕ) (ss : List Section) → length (ordinals_from n ss) ≡ length ss
ordinals_length n [] = refl
ordinals_length n (s ∷ ss) = ap suc (ordinals_length (cond (is_code s) (n + 1) n) ss)

pub ordinal_at : (n : ℕ) (ss : List Section) (j : ℕ) → j < length ss → get_or (ordinals_from n ss) j 0 ≡ n + count_by is_code (take j ss)
ordinal_at n [] j low = absurd (omega arith)
ordinal_at n (s ∷ ss) zero low = omega arith
ordinal_at n (s ∷ ss) (suc j) low = ordinal_at (cond (is_code s) (n + 1) n) ss j (omega arith) ∙ go (is_code s) ∙ ap (λ (k : ℕ). n + k) (sym (count_cons is_code s (take j ss)))
  where
    go : (b : Bool) → cond b (n + 1) n + count_by is_code (take j ss) ≡ n + cond b (1 + count_by is_code (take j ss)) (count_by is_code (take j ss))
    go true = omega arith
    go false = omega arith
