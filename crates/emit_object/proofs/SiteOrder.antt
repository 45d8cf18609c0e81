-- Sites of different places, sorted, rise.
use Rattle.std.proofs.Common.{◌≡◌, ◌≤◌, ◌<◌, ◌⊎◌, ℕ, suc, ◌+◌, Bool, true, false, cond, List, [], ◌∷◌, ◌++◌, get_or, inl, inr, arith, refl, sym, ap, ◌∙◌, subst, map, filter}
use Rattle.std.specs.Prelude.{nat_lt, count_by, ◌==◌, ◌&&◌, All, IsPermutation, Contains}
use Rattle.std.specs.List.{AllByRecursion}
use Rattle.std.specs.List.Sorted.{IsSortedByKey, IsStrictlySortedBy}
use Rattle.std.specs.Ordering.{nat_cmp, ordering_then, is_lt}
use Rattle.std.specs.declared.cmp.Ordering.{Ordering}
use Rattle.std.specs.declared.cmp.Ordering.TheVariants.{Less, Equal, Greater}
use Rattle.std.proofs.lemmas.Bool.{cases_order, cases_Bool, and_parts, and_from, eqb-true, eq-eqb, ltb-true, both_ways, false_from_ne_true}
use Rattle.std.proofs.lemmas.List.Elements.{All-head, All-tail, All-append, All-filter, All-map, All-weaker, All-contains_itself}
use Rattle.std.proofs.lemmas.List.Sorted.{sum_by-IsPermutation}
use Rattle.elf_model.proofs.Lists.{count_cons}
use Rattle.elf_model.proofs.Elements.{contains_here, contains_later}
use Rattle.code_ranges.specs.Spans.{place_cmp}
use Rattle.branch_layout.proofs.NextFacts.{less_is}
use Rattle.emit_object.specs.declared.reloc_sites.Site.{Site}
use Rattle.emit_object.specs.RelocSites.{site_place}

-- PLACES

first_of : (a b : Bool) (o : Ordering) → ordering_then (cond a Less (cond b Equal Greater)) o ≡ Less → (a ≡ true) ⊎ ((b ≡ true) × (o ≡ Less))
first_of true b o h = inl refl
first_of false true o h = inr (refl, h)
first_of false false o h = absurd (cc)

second_of : (a b : Bool) → cond a Less (cond b Equal Greater) ≡ Less → a ≡ true
second_of true b h = refl
second_of false true h = absurd (cc)
second_of false false h = absurd (cc)

pub less_parts : (p q : ℕ × ℕ) → place_cmp p q ≡ Less → (p.0 < q.0) ⊎ ((p.0 ≡ q.0) × (p.1 < q.1))
less_parts p q h = elim (first_of (nat_lt p.0 q.0) (p.0 == q.0) (nat_cmp p.1 q.1) h) [
  | inl a ↦ inl (ltb-true p.0 q.0 a)
  | inr b ↦ inr (eqb-true p.0 q.0 b.0, ltb-true p.1 q.1 (second_of (nat_lt p.1 q.1) (p.1 == q.1) b.1))
]

-- LISTS OF DIFFERENT PLACES

-- each two elements are related, the earlier one first
abbrev pub Apart : {X : Type 0} → (X → X → Type 0) → List X → Type 0
Apart R [] = Unit {0}
Apart R (x ∷ xs) = All (R x) xs × Apart R xs

pub contains-All : {X : Type 0} (P : X → Type 0) (xs : List X) → ((x : X) → Contains xs x → P x) → All P xs
contains-All P xs h = All-weaker (Contains xs) P h xs (All-contains_itself xs)

pub apart_append : {X : Type 0} (R : X → X → Type 0) (xs ys : List X) → Apart R xs → Apart R ys → ((x y : X) → Contains xs x → Contains ys y → R x y) → Apart R (xs ++ ys)
apart_append R [] ys a c d = c
apart_append R (x ∷ xs) ys a c d =
    (All-append (R x) xs ys a.0 (contains-All (R x) ys (λ y h. d x y (contains_here x xs) h)), apart_append R xs ys a.1 c (λ z y h k. d z y (contains_later x xs z h) k))

pub apart_filter : {X : Type 0} (R : X → X → Type 0) (p : X → Bool) (xs : List X) → Apart R xs → Apart R (filter p xs)
apart_filter R p [] a = tt
apart_filter R p (x ∷ xs) a = go (apart_filter R p xs a.1) (All-filter p (R x) xs a.0) (p x)
  where
    go : Apart R (filter p xs) → All (R x) (filter p xs) → (t : Bool) → Apart R (cond t (x ∷ filter p xs) (filter p xs))
    go rest here true = (here, rest)
    go rest here false = rest

pub apart_map : {X Y : Type 0} (R : Y → Y → Type 0) (g : X → Y) (xs : List X) → Apart (λ x y. R (g x) (g y)) xs → Apart R (map g xs)
apart_map R g [] a = tt
apart_map R g (x ∷ xs) a = (All-map (R (g x)) g xs a.0, apart_map R g xs a.1)

-- SITES AT ONE PLACE ARE COUNTED

abbrev pub same_place : Site → Site → Bool
same_place s t = (s.section == t.section) && (s.at == t.at)

abbrev pub Differ : Site → Site → Type 0
Differ s t = s.section ≡ t.section → s.at ≡ t.at → ⊥

same_parts : (s t : Site) → same_place s t ≡ true → (s.section ≡ t.section) × (s.at ≡ t.at)
same_parts s t h = let p = and_parts (s.section == t.section) (s.at == t.at) h in (eqb-true s.section t.section p.0, eqb-true s.at t.at p.1)

count_none : (s : Site) (xs : List Site) → All (λ t. same_place s t ≡ false) xs → count_by (same_place s) xs ≡ 0
count_none s [] a = refl
count_none s (x ∷ xs) a =
    count_cons (same_place s) x xs ∙ ap (λ (t : Bool). cond t (1 + count_by (same_place s) xs) (count_by (same_place s) xs)) (All-head (λ t. same_place s t ≡ false) x xs a)
    ∙ count_none s xs (All-tail (λ t. same_place s t ≡ false) x xs a)

count_apart : (s : Site) (xs : List Site) → Apart Differ xs → count_by (same_place s) xs ≤ 1
count_apart s [] a = omega arith
count_apart s (x ∷ xs) a = elim (cases_Bool (same_place s x)) [
  | inl y ↦ (
      let one = count_cons (same_place s) x xs ∙ ap (λ (t : Bool). cond t (1 + count_by (same_place s) xs) (count_by (same_place s) xs)) y in
      let here = same_parts s x y in
      let none = count_none s xs (λ k d l. false_from_ne_true _ (λ t.
      let there = same_parts s (get_or xs k d) t in
      a.0 k d l (sym here.0 ∙ there.0) (sym here.1 ∙ there.1))) in
      omega (arith, one, none))
  | inr f ↦ (
      let one = count_cons (same_place s) x xs ∙ ap (λ (t : Bool). cond t (1 + count_by (same_place s) xs) (count_by (same_place s) xs)) f in
      let rest = count_apart s xs a.1 in
      omega (arith, one, rest))
]

more_at : (t : Bool) (n : ℕ) → n ≤ cond t (1 + n) n
more_at true n = omega arith
more_at false n = omega arith

rest_at_most : (s x : Site) (xs : List Site) → count_by (same_place s) (x ∷ xs) ≤ 1 → count_by (same_place s) xs ≤ 1
rest_at_most s x xs h = let m = more_at (same_place s x) (count_by (same_place s) xs) in omega (arith, m, h, count_cons (same_place s) x xs)

twice : (x y : Site) (rest : List Site) → x.section ≡ y.section → x.at ≡ y.at → count_by (same_place x) (x ∷ y ∷ rest) ≤ 1 → ⊥
twice x y rest e f h =
    let first : same_place x x ≡ true = and_from (x.section == x.section) (x.at == x.at) (eq-eqb x.section x.section refl) (eq-eqb x.at x.at refl) in
    let second : same_place x y ≡ true = and_from (x.section == y.section) (x.at == y.at) (eq-eqb x.section y.section e) (eq-eqb x.at y.at f) in
    let one = count_cons (same_place x) x (y ∷ rest) ∙ ap (λ (t : Bool). cond t (1 + count_by (same_place x) (y ∷ rest)) (count_by (same_place x) (y ∷ rest))) first in
    let two = count_cons (same_place x) y rest ∙ ap (λ (t : Bool). cond t (1 + count_by (same_place x) rest) (count_by (same_place x) rest)) second in
    omega (arith, one, two, h)

is_less : (o : Ordering) → o ≡ Less → is_lt o ≡ true
is_less o h = ap is_lt h

neighbours : (x y : Site) (rest : List Site) → is_lt (place_cmp (site_place y) (site_place x)) ≡ false → count_by (same_place x) (x ∷ y ∷ rest) ≤ 1 → place_cmp (site_place x) (site_place y) ≡ Less
neighbours x y rest sorted once =
    elim (cases_order x.section y.section) [
      | inl e ↦ elim (cases_order x.at y.at) [
        | inl f ↦ absurd (twice x y rest e f once)
        | inr d ↦ elim d [
          | inl l ↦ less_is (site_place x) (site_place y) (inr (e, l))
          | inr g ↦ absurd (both_ways _ sorted (is_less _ (less_is (site_place y) (site_place x) (inr (sym e, g)))))
        ]
      ]
      | inr d ↦ elim d [
        | inl l ↦ less_is (site_place x) (site_place y) (inl l)
        | inr g ↦ absurd (both_ways _ sorted (is_less _ (less_is (site_place y) (site_place x) (inl g))))
      ]
    ]

above : (p q : ℕ × ℕ) (ps : List (ℕ × ℕ)) → place_cmp p q ≡ Less → AllByRecursion (λ y. place_cmp q y ≡ Less) ps → AllByRecursion (λ y. place_cmp p y ≡ Less) ps
above p q [] l all = tt
above p q (r ∷ ps) l all = (through p q r l all.0, above p q ps l all.1)
  where
    through : (p q r : ℕ × ℕ) → place_cmp p q ≡ Less → place_cmp q r ≡ Less → place_cmp p r ≡ Less
    through p q r a b = less_is p r (elim (less_parts p q a) [
      | inl x ↦ elim (less_parts q r b) [ inl y ↦ inl (omega arith) | inr y ↦ inl (omega (arith, y.0)) ]
      | inr x ↦ elim (less_parts q r b) [ inl y ↦ inl (omega (arith, x.0)) | inr y ↦ inr (x.0 ∙ y.0, omega (arith, x.1, y.1)) ]
    ])

strictly : (xs : List Site) → IsSortedByKey site_place place_cmp xs → ((s : Site) → count_by (same_place s) xs ≤ 1) → IsStrictlySortedBy place_cmp (map site_place xs)
unfolding IsStrictlySortedBy
strictly [] s c = tt
strictly (x ∷ []) s c = (tt, tt)
strictly (x ∷ y ∷ rest) s c =
    let tail = strictly (y ∷ rest) (λ k d l u.
    let up : suc k + 1 ≡ suc (k + 1) = omega arith in
    subst (λ (m : ℕ). is_lt (place_cmp (site_place (get_or (x ∷ y ∷ rest) m d)) (site_place (get_or (y ∷ rest) k d))) ≡ false) up (s (suc k) d (omega arith) (omega (arith, u)))) (λ q. rest_at_most q x (y ∷ rest) (c q)) in
    let below = neighbours x y rest (s 0 x (omega arith) (omega arith)) (c x) in
    ((below, above (site_place x) (site_place y) (map site_place rest) below tail.0), tail)

pub rise_sorted : (xs ys : List Site) → Apart Differ xs → IsPermutation xs ys → IsSortedByKey site_place place_cmp ys → IsStrictlySortedBy place_cmp (map site_place ys)
rise_sorted xs ys apart moved sorted = strictly ys sorted (λ s.
    let same = sum_by-IsPermutation (λ t. cond (same_place s t) 1 0) xs ys moved in
    let few = count_apart s xs apart in
    omega (arith, same, few))
