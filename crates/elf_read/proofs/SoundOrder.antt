-- Relocations of different places, sorted, rise.
use Rattle.std.proofs.Common.{◌≡◌, ◌≤◌, ◌<◌, ◌⊎◌, ℕ, zero, suc, ◌+◌, ◌*◌, ◌/◌, Bool, true, false, cond, ◌&&◌, List, [], ◌∷◌, ◌++◌, get_or, inl, inr, arith, refl, sym, ap, ◌∙◌, subst, map, filter}
use Rattle.std.specs.Prelude.{nat_lt, count_by, ◌==◌, All, IsPermutation}
use Rattle.std.specs.List.{list_all, flat_map}
use Rattle.std.specs.List.Sorted.{IsSortedByKey}
use Rattle.std.specs.Ordering.{nat_cmp, ordering_then, is_lt}
use Rattle.std.specs.declared.cmp.Ordering.TheVariants.{Less, Equal, Greater}
use Rattle.std.proofs.lemmas.Bool.{cases_order, cases_Bool, and_parts, and_from, or_left, or_right, eqb-true, eq-eqb, lt-ltb, le-ltb, both_ways, false_from_ne_true}
use Rattle.std.proofs.lemmas.List.Elements.{All-nil, All-cons, All-head, All-tail, All-append, All-filter, All-map}
use Rattle.std.proofs.lemmas.List.Sorted.{sum_by-IsPermutation}
use Rattle.elf_model.specs.declared.objects.Reloc.{Reloc}
use Rattle.elf_model.specs.Objects.{is_below, rise}
use Rattle.elf_model.specs.Files.{from, header, is_reloc_table, entries_of}
use Rattle.elf_model.proofs.Lists.{count_cons}
use Rattle.elf_model.proofs.Rising.{all_above-trans}
use Rattle.elf_read.specs.RelocFaults.{pair_cmp}

-- each two elements are related, the earlier one first
abbrev pub Apart : {X : Type 0} → (X → X → Type 0) → List X → Type 0
Apart R [] = Unit {0}
Apart R (x ∷ xs) = All (R x) xs × Apart R xs

pub all_made : {X : Type 0} (P : X → Type 0) (f : ℕ → X) (first n : ℕ) → ((k : ℕ) → first ≤ k → k < first + n → P (f k)) → All P (map f (from first n))
all_made P f first zero a = All-nil P
all_made P f first (suc n) a = All-cons P (f first) (map f (from (first + 1) n)) (a first (omega arith) (omega arith)) (all_made P f (first + 1) n (λ k l u. a k (omega arith) (omega arith)))

apart_made : {X : Type 0} (R : X → X → Type 0) (f : ℕ → X) (first n : ℕ) → ((i k : ℕ) → first ≤ i → i < k → k < first + n → R (f i) (f k)) → Apart R (map f (from first n))
apart_made R f first zero a = tt
apart_made R f first (suc n) a =
    (all_made (R (f first)) f (first + 1) n (λ k l u. a first k (omega arith) (omega arith) (omega arith)), apart_made R f (first + 1) n (λ i k l m u. a i k (omega arith) m (omega arith)))

apart_append : {X : Type 0} (R : X → X → Type 0) (xs ys : List X) → Apart R xs → Apart R ys → All (λ x. All (R x) ys) xs → Apart R (xs ++ ys)
apart_append R [] ys a c d = c
apart_append R (x ∷ xs) ys a c d = (All-append (R x) xs ys a.0 (All-head (λ x. All (R x) ys) x xs d), apart_append R xs ys a.1 c (All-tail (λ x. All (R x) ys) x xs d))

pub apart_filter : {X : Type 0} (R : X → X → Type 0) (p : X → Bool) (xs : List X) → Apart R xs → Apart R (filter p xs)
apart_filter R p [] a = tt
apart_filter R p (x ∷ xs) a = go (apart_filter R p xs a.1) (All-filter p (R x) xs a.0) (p x)
  where
    go : Apart R (filter p xs) → All (R x) (filter p xs) → (t : Bool) → Apart R (cond t (x ∷ filter p xs) (filter p xs))
    go rest here true = (here, rest)
    go rest here false = rest

pub apart_map : {X Y : Type 0} (R : Y → Y → Type 0) (g : X → Y) (xs : List X) → Apart (λ x y. R (g x) (g y)) xs → Apart R (map g xs)
apart_map R g [] a = tt
apart_map R g (x ∷ xs) a = (All-map (R (g x)) g xs a.0, apart_map R g xs a.1)

-- the entries of all tables of relocations

module _ (b : List ℕ) where
  pub all_entries : (P : ℕ × ℕ → Type 0) (first n : ℕ) → ((h j : ℕ) → first ≤ h → h < first + n → is_reloc_table b h ≡ true → j < (header b h).size / 8 → P (h, (header b h).offset + 8 * j)) → All P (flat_map (entries_of b) (filter (is_reloc_table b) (from first n)))
  all_entries P first zero a = All-nil P
  all_entries P first (suc n) a = go (all_entries P (first + 1) n (λ h j l u. a h j (omega arith) (omega arith))) (a first) (is_reloc_table b first) refl
    where
      go : All P (flat_map (entries_of b) (filter (is_reloc_table b) (from (first + 1) n))) → ((j : ℕ) → first ≤ first → first < first + suc n → is_reloc_table b first ≡ true → j < (header b first).size / 8 → P (first, (header b first).offset + 8 * j)) → (t : Bool) → is_reloc_table b first ≡ t
          → All P (flat_map (entries_of b) (cond t (first ∷ filter (is_reloc_table b) (from (first + 1) n)) (filter (is_reloc_table b) (from (first + 1) n))))
      go rest here true e = All-append P (entries_of b first) (flat_map (entries_of b) (filter (is_reloc_table b) (from (first + 1) n))) (all_made P (λ j. (first, (header b first).offset + 8 * j)) 0 ((header b first).size / 8) (λ j l u. here j (omega arith) (omega arith) e (omega arith))) rest
      go rest here false e = rest

  pub apart_entries : (R : ℕ × ℕ → ℕ × ℕ → Type 0) (first n : ℕ)
      → ((g i h j : ℕ) → is_reloc_table b g ≡ true → is_reloc_table b h ≡ true → first ≤ g → g < first + n → first ≤ h → h < first + n → i < (header b g).size / 8 → j < (header b h).size / 8 → (g < h) ⊎ ((g ≡ h) × (i < j)) → R (g, (header b g).offset + 8 * i) (h, (header b h).offset + 8 * j))
      → Apart R (flat_map (entries_of b) (filter (is_reloc_table b) (from first n)))
  apart_entries R first zero a = tt
  apart_entries R first (suc n) a = go (apart_entries R (first + 1) n (λ g i h j s t l m o u. a g i h j s t (omega arith) (omega arith) (omega arith) (omega arith))) inner cross (is_reloc_table b first) refl
    where
      inner : is_reloc_table b first ≡ true → Apart R (entries_of b first)
      inner e = apart_made R (λ j. (first, (header b first).offset + 8 * j)) 0 ((header b first).size / 8) (λ i k l m u. a first i first k e e (omega arith) (omega arith) (omega arith) (omega arith) (omega arith) (omega arith) (inr (refl, m)))

      cross : is_reloc_table b first ≡ true → All (λ x. All (R x) (flat_map (entries_of b) (filter (is_reloc_table b) (from (first + 1) n)))) (entries_of b first)
      cross e = all_made (λ x. All (R x) (flat_map (entries_of b) (filter (is_reloc_table b) (from (first + 1) n)))) (λ j. (first, (header b first).offset + 8 * j)) 0 ((header b first).size / 8)
          (λ i l u. all_entries (R (first, (header b first).offset + 8 * i)) (first + 1) n (λ h j p q y m. a first i h j e y (omega arith) (omega arith) (omega arith) (omega arith) (omega arith) m (inl (omega arith))))

      go : Apart R (flat_map (entries_of b) (filter (is_reloc_table b) (from (first + 1) n))) → (is_reloc_table b first ≡ true → Apart R (entries_of b first)) → (is_reloc_table b first ≡ true → All (λ x. All (R x) (flat_map (entries_of b) (filter (is_reloc_table b) (from (first + 1) n)))) (entries_of b first))
          → (t : Bool) → is_reloc_table b first ≡ t → Apart R (flat_map (entries_of b) (cond t (first ∷ filter (is_reloc_table b) (from (first + 1) n)) (filter (is_reloc_table b) (from (first + 1) n))))
      go rest own far true e = apart_append R (entries_of b first) (flat_map (entries_of b) (filter (is_reloc_table b) (from (first + 1) n))) (own e) rest (far e)
      go rest own far false e = rest

-- relocations at one place are counted

abbrev pub same_place : Reloc → Reloc → Bool
same_place q r = (q.section == r.section) && (q.offset == r.offset)

abbrev pub Differ : Reloc → Reloc → Type 0
Differ q r = q.section ≡ r.section → q.offset ≡ r.offset → ⊥

same_parts : (q r : Reloc) → same_place q r ≡ true → (q.section ≡ r.section) × (q.offset ≡ r.offset)
same_parts q r h = let p = and_parts (q.section == r.section) (q.offset == r.offset) h in (eqb-true q.section r.section p.0, eqb-true q.offset r.offset p.1)

count_none : (q : Reloc) (xs : List Reloc) → All (λ r. same_place q r ≡ false) xs → count_by (same_place q) xs ≡ 0
count_none q [] a = refl
count_none q (x ∷ xs) a =
    count_cons (same_place q) x xs ∙ ap (λ (t : Bool). cond t (1 + count_by (same_place q) xs) (count_by (same_place q) xs)) (All-head (λ r. same_place q r ≡ false) x xs a)
    ∙ count_none q xs (All-tail (λ r. same_place q r ≡ false) x xs a)

pub count_apart : (q : Reloc) (xs : List Reloc) → Apart Differ xs → count_by (same_place q) xs ≤ 1
count_apart q [] a = omega arith
count_apart q (x ∷ xs) a = elim (cases_Bool (same_place q x)) [
  | inl y ↦ (
      let one = count_cons (same_place q) x xs ∙ ap (λ (t : Bool). cond t (1 + count_by (same_place q) xs) (count_by (same_place q) xs)) y in
      let here = same_parts q x y in
      let none = count_none q xs (λ k d l. false_from_ne_true _ (λ t.
      let there = same_parts q (get_or xs k d) t in
      a.0 k d l (sym here.0 ∙ there.0) (sym here.1 ∙ there.1))) in
      omega (arith, one, none))
  | inr f ↦ (
      let one = count_cons (same_place q) x xs ∙ ap (λ (t : Bool). cond t (1 + count_by (same_place q) xs) (count_by (same_place q) xs)) f in
      let rest = count_apart q xs a.1 in
      omega (arith, one, rest))
]

more_at : (t : Bool) (n : ℕ) → n ≤ cond t (1 + n) n
more_at true n = omega arith
more_at false n = omega arith

rest_at_most : (q x : Reloc) (xs : List Reloc) → count_by (same_place q) (x ∷ xs) ≤ 1 → count_by (same_place q) xs ≤ 1
rest_at_most q x xs h = let m = more_at (same_place q x) (count_by (same_place q) xs) in omega (arith, m, h, count_cons (same_place q) x xs)

twice : (x y : Reloc) (rest : List Reloc) → x.section ≡ y.section → x.offset ≡ y.offset → count_by (same_place x) (x ∷ y ∷ rest) ≤ 1 → ⊥
twice x y rest e f h =
    let first : same_place x x ≡ true = and_from (x.section == x.section) (x.offset == x.offset) (eq-eqb x.section x.section refl) (eq-eqb x.offset x.offset refl) in
    let second : same_place x y ≡ true = and_from (x.section == y.section) (x.offset == y.offset) (eq-eqb x.section y.section e) (eq-eqb x.offset y.offset f) in
    let one = count_cons (same_place x) x (y ∷ rest) ∙ ap (λ (t : Bool). cond t (1 + count_by (same_place x) (y ∷ rest)) (count_by (same_place x) (y ∷ rest))) first in
    let two = count_cons (same_place x) y rest ∙ ap (λ (t : Bool). cond t (1 + count_by (same_place x) rest) (count_by (same_place x) rest)) second in
    omega (arith, one, two, h)

-- a pair is less where its first number is, or its second one
first_less : (x y : ℕ × ℕ) → x.0 < y.0 → is_lt (pair_cmp x y) ≡ true
first_less x y l = ap (λ (t : Bool). is_lt (ordering_then (cond t Less (cond (x.0 == y.0) Equal Greater)) (nat_cmp x.1 y.1))) (lt-ltb x.0 y.0 l)

second_less : (x y : ℕ × ℕ) → x.0 ≡ y.0 → x.1 < y.1 → is_lt (pair_cmp x y) ≡ true
second_less x y e l =
    ap (λ (t : Bool). is_lt (ordering_then (cond t Less (cond (x.0 == y.0) Equal Greater)) (nat_cmp x.1 y.1))) (le-ltb x.0 y.0 (omega (arith, e)))
    ∙ ap (λ (t : Bool). is_lt (ordering_then (cond t Equal Greater) (nat_cmp x.1 y.1))) (eq-eqb x.0 y.0 e)
    ∙ ap (λ (t : Bool). is_lt (cond t Less (cond (x.1 == y.1) Equal Greater))) (lt-ltb x.1 y.1 l)

neighbours : (x y : Reloc) (rest : List Reloc) → is_lt (pair_cmp (y.section, y.offset) (x.section, x.offset)) ≡ false → count_by (same_place x) (x ∷ y ∷ rest) ≤ 1 → is_below x y ≡ true
neighbours x y rest sorted once =
    elim (cases_order x.section y.section) [
      | inl e ↦ elim (cases_order x.offset y.offset) [
        | inl f ↦ absurd (twice x y rest e f once)
        | inr d ↦ elim d [
          | inl l ↦ or_right (nat_lt x.section y.section) _ (and_from (x.section == y.section) (nat_lt x.offset y.offset) (eq-eqb x.section y.section e) (lt-ltb x.offset y.offset l))
          | inr g ↦ absurd (both_ways _ sorted (second_less (y.section, y.offset) (x.section, x.offset) (sym e) g))
        ]
      ]
      | inr d ↦ elim d [
        | inl l ↦ or_left (nat_lt x.section y.section) _ (lt-ltb x.section y.section l)
        | inr g ↦ absurd (both_ways _ sorted (first_less (y.section, y.offset) (x.section, x.offset) g))
      ]
    ]

abbrev pub key_of : Reloc → ℕ × ℕ
key_of r = (r.section, r.offset)

pub rise_sorted : (xs : List Reloc) → IsSortedByKey key_of pair_cmp xs → ((q : Reloc) → count_by (same_place q) xs ≤ 1) → rise xs ≡ true
rise_sorted [] s c = refl
rise_sorted (x ∷ []) s c = refl
rise_sorted (x ∷ y ∷ rest) s c =
    let tail = rise_sorted (y ∷ rest) (λ k d l u.
    let up : suc k + 1 ≡ suc (k + 1) = omega arith in
    subst (λ (m : ℕ). is_lt (pair_cmp (key_of (get_or (x ∷ y ∷ rest) m d)) (key_of (get_or (y ∷ rest) k d))) ≡ false) up (s (suc k) d (omega arith) (omega (arith, u)))) (λ q. rest_at_most q x (y ∷ rest) (c q)) in
    let below = neighbours x y rest (s 0 x (omega arith) (omega arith)) (c x) in
    let above = and_parts (list_all (is_below y) rest) (rise rest) tail in
    and_from (is_below x y && list_all (is_below x) rest) (rise (y ∷ rest)) (and_from (is_below x y) (list_all (is_below x) rest) below (all_above-trans x y rest below above.0)) tail

pub once_moved : (q : Reloc) (xs ys : List Reloc) → IsPermutation xs ys → count_by (same_place q) xs ≤ 1 → count_by (same_place q) ys ≤ 1
once_moved q xs ys p h = let same = sum_by-IsPermutation (λ r. cond (same_place q r) 1 0) xs ys p in omega (arith, same, h)
