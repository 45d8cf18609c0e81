-- The search for a second definition, symbol by symbol.
use Rattle.std.proofs.Common.{◌≡◌, ◌≤◌, ◌<◌, ℕ, zero, suc, ◌+◌, List, [], ◌∷◌, ◌++◌, length, take, get_or, map, refl, sym, ap, ◌∙◌, subst, inl, inr, arith, Option, Some}
use Rattle.std.specs.Prelude.{◌⊎◌, Contains, slice_get}
use Rattle.std.proofs.lemmas.List.{map-append}
use Rattle.std.proofs.lemmas.List.Elements.{Contains-append_left, Contains-append_right, Contains-append_cases}
use Rattle.elf_model.specs.Objects.{ObjectParts}
use Rattle.elf_model.proofs.Elements.{contains_cases, contains_here, contains_none, map_contains}
use Rattle.thumb_table.specs.Names.{Defined, all_symbols}
use Rattle.thumb_table.specs.LinkFaults.{StandsBefore, IsSecond}
use Rattle.flat_link.specs.declared.known.Known.{Known}
use Rattle.flat_link.specs.Known.{defined_of, lower, IsFirstSecond}
use Rattle.flat_link.proofs.ListFacts.{taken, has_at, order_at}
use Rattle.flat_link.proofs.SymbolFacts.{symbols_rise}
use Rattle.flat_link.proofs.NameFacts.{second_yes, second_no}

-- an element among the first ones has a number below theirs
pub record IsEarly {Y : Type 0} (ys : List Y) (i : ℕ) (y : Y) : Type 0 where
  pub number : ℕ
  pub below : number < i
  pub there : slice_get ys number ≡ Some y

pub early : {X Y : Type 0} (f : X → Y) (xs : List X) (i : ℕ) (y : Y) → Contains (map f (take i xs)) y → IsEarly (map f xs) i y
early f [] zero y c = absurd (contains_none y c)
early f [] (suc i) y c = absurd (contains_none y c)
early f (x ∷ xs) zero y c = absurd (contains_none y c)
early f (x ∷ xs) (suc i) y c =
    elim (contains_cases (f x) (map f (take i xs)) y c) [
      | inl e ↦ record { number = 0; below = omega arith; there = ap (λ (z : _). Some z) e }
      | inr r ↦ let h = early f xs i y r in let b = h.below in record { number = suc h.number; below = omega arith; there = h.there }
    ]

pub mapped_at : {X Y : Type 0} (f : X → Y) (xs : List X) (i : ℕ) (x : X) → i < length xs → x ≡ get_or xs i x → slice_get (map f xs) i ≡ Some (f x)
mapped_at f [] i x l e = absurd (omega arith)
mapped_at f (y ∷ ys) zero x l e = ap (λ (z : _). Some (f z)) (sym e)
mapped_at f (y ∷ ys) (suc i) x l e = mapped_at f ys i x (omega arith) e

module _ (objects : List ObjectParts) (all : List Known) (same : map defined_of all ≡ all_symbols 0 objects) where
  pub known_at : (i : ℕ) (k : Known) → i < length all → k ≡ get_or all i k → Contains (all_symbols 0 objects) (defined_of k)
  known_at i k l e = subst (λ (ds : List Defined). Contains ds (defined_of k)) same (map_contains defined_of all k (has_at all i k l e))

  module _ (i : ℕ) (k : Known) (l : i < length all) (e : k ≡ get_or all i k) where
    later : (d : Defined) → Contains (map defined_of (take i all)) d → StandsBefore d (defined_of k)
    later d c =
        let h = early defined_of all i d c in
        order_at StandsBefore (all_symbols 0 objects) h.number i d (defined_of k) (symbols_rise 0 objects) h.below
        (subst (λ (ds : List Defined). slice_get ds h.number ≡ Some d) same h.there)
        (subst (λ (ds : List Defined). slice_get ds i ≡ Some (defined_of k)) same (mapped_at defined_of all i k l e))

    more : map defined_of (take (i + 1) all) ≡ map defined_of (take i all) ++ defined_of k ∷ []
    more = ap (map defined_of) (taken all i k l e) ∙ map-append defined_of (take i all) (k ∷ [])

    split : (d : Defined) → Contains (map defined_of (take (i + 1) all)) d → Contains (map defined_of (take i all)) d ⊎ (defined_of k ≡ d)
    split d c =
        elim (Contains-append_cases (map defined_of (take i all)) (defined_of k ∷ []) d (subst (λ (ds : List Defined). Contains ds d) more c)) [
          | inl a ↦ inl a
          | inr b ↦ elim (contains_cases (defined_of k) [] d b) [ inl q ↦ inr q | inr n ↦ absurd (contains_none d n) ]
        ]

    join : (d : Defined) → Contains (map defined_of (take i all)) d → Contains (map defined_of (take (i + 1) all)) d
    join d c = subst (λ (ds : List Defined). Contains ds d) (sym more) (Contains-append_left (map defined_of (take i all)) (defined_of k ∷ []) d c)

    there : Contains (map defined_of (take (i + 1) all)) (defined_of k)
    there = subst (λ (ds : List Defined). Contains ds (defined_of k)) (sym more) (Contains-append_right (map defined_of (take i all)) (defined_of k ∷ []) (defined_of k) (contains_here (defined_of k) []))

    pub step_yes : (first : Option Known) → IsSecond objects (defined_of k) → IsFirstSecond objects (map defined_of (take i all)) first → IsFirstSecond objects (map defined_of (take (i + 1) all)) (Some (lower first k))
    step_yes first is h = second_yes objects (map defined_of (take i all)) k later first (map defined_of (take (i + 1) all)) is there split join h

    pub step_no : (first : Option Known) → (IsSecond objects (defined_of k) → ⊥) → IsFirstSecond objects (map defined_of (take i all)) first → IsFirstSecond objects (map defined_of (take (i + 1) all)) first
    step_no first never h = second_no objects (map defined_of (take i all)) k later first (map defined_of (take (i + 1) all)) never split join h

  taken_all : (xs : List Known) (n : ℕ) → length xs ≤ n → take n xs ≡ xs
  taken_all [] zero h = refl
  taken_all [] (suc n) h = refl
  taken_all (x ∷ xs) zero h = absurd (omega arith)
  taken_all (x ∷ xs) (suc n) h = ap (λ (t : List Known). x ∷ t) (taken_all xs n (omega arith))

  pub at_end : (n : ℕ) (first : Option Known) → length all ≤ n → IsFirstSecond objects (map defined_of (take n all)) first → IsFirstSecond objects (all_symbols 0 objects) first
  at_end n first l h = subst (λ (ds : List Defined). IsFirstSecond objects ds first) (ap (map defined_of) (taken_all all n l) ∙ same) h
