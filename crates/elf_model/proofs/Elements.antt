-- The elements of lists: whether they are there, and by which numbers.
use Rattle.std.proofs.Common.{◌≡◌, ◌<◌, length, ℕ, zero, suc, ◌+◌, Bool, true, cond, List, [], ◌∷◌, ◌++◌, refl, sym, ap, ◌∙◌, subst, inl, inr, ◌⊎◌, arith, filter, map, Option, Some, None}
use Rattle.std.specs.Prelude.{Contains, slice_get, find}
use Rattle.std.specs.Option.{option_to_list}
use Rattle.std.specs.List.{list_all}
use Rattle.std.proofs.lemmas.Bool.{and_parts, cases_Bool, both_ways}
use Rattle.std.proofs.lemmas.Option.{none-some, same_Some, slice_get-get_or}

pub contains_cases : {X : Type 0} (x : X) (xs : List X) (y : X) → Contains (x ∷ xs) y → (x ≡ y) ⊎ Contains xs y
contains_cases x xs y (zero, l, e) = inl e
contains_cases x xs y (suc k, l, e) = inr (k, omega arith, e)

pub contains_here : {X : Type 0} (x : X) (xs : List X) → Contains (x ∷ xs) x
contains_here x xs = (zero, omega arith, refl)

pub contains_later : {X : Type 0} (x : X) (xs : List X) (y : X) → Contains xs y → Contains (x ∷ xs) y
contains_later x xs y (k, l, e) = (suc k, omega arith, e)

pub contains_none : {X : Type 0} (y : X) → Contains [] y → ⊥
contains_none y (k, l, e) = omega arith

pub contains_map : {X Y : Type 0} (f : X → Y) (xs : List X) (y : Y) → Contains (map f xs) y → (x : X) × Contains xs x × (f x ≡ y)
contains_map f [] y h = absurd (contains_none y h)
contains_map f (x ∷ xs) y h =
    elim (contains_cases (f x) (map f xs) y h) [
      | inl e ↦ (x, contains_here x xs, e)
      | inr r ↦ let q = contains_map f xs y r in (q.0, contains_later x xs q.0 q.1, q.2)
    ]

pub map_contains : {X Y : Type 0} (f : X → Y) (xs : List X) (x : X) → Contains xs x → Contains (map f xs) (f x)
map_contains f [] x h = absurd (contains_none x h)
map_contains f (z ∷ xs) x h =
    elim (contains_cases z xs x h) [
      | inl e ↦ subst (λ (y : _). Contains (map f (z ∷ xs)) (f y)) e (contains_here (f z) (map f xs))
      | inr r ↦ contains_later (f z) (map f xs) (f x) (map_contains f xs x r)
    ]

pub contains_filter : {X : Type 0} (p : X → Bool) (xs : List X) (y : X) → Contains (filter p xs) y → Contains xs y × (p y ≡ true)
contains_filter p [] y h = absurd (contains_none y h)
contains_filter p (x ∷ xs) y h =
    elim (cases_Bool (p x)) [
      | inl t ↦
          elim (contains_cases x (filter p xs) y (subst (λ (l : List _). Contains l y) (ap (λ (b : Bool). cond b (x ∷ filter p xs) (filter p xs)) t) h)) [
            | inl e ↦ (subst (λ (z : _). Contains (x ∷ xs) z) e (contains_here x xs), subst (λ (z : _). p z ≡ true) e t)
            | inr r ↦ let q = contains_filter p xs y r in (contains_later x xs y q.0, q.1)
          ]
      | inr f ↦
          let q = contains_filter p xs y (subst (λ (l : List _). Contains l y) (ap (λ (b : Bool). cond b (x ∷ filter p xs) (filter p xs)) f) h) in
          (contains_later x xs y q.0, q.1)
    ]

-- the first element that passes is an element, and passes
pub found : {X : Type 0} (p : X → Bool) (xs : List X) (x : X) → find p xs ≡ Some x → Contains xs x × (p x ≡ true)
found p [] x h = absurd (none-some x h)
found p (y ∷ ys) x h =
    elim (cases_Bool (p y)) [
      | inl t ↦
          let e : y ≡ x = same_Some y x (sym (ap (λ (b : Bool). cond b (Some y) (find p ys)) t) ∙ h) in
          (subst (λ (z : _). Contains (y ∷ ys) z) e (contains_here y ys), subst (λ (z : _). p z ≡ true) e t)
      | inr f ↦
          let q = found p ys x (sym (ap (λ (b : Bool). cond b (Some y) (find p ys)) f) ∙ h) in
          (contains_later y ys x q.0, q.1)
    ]

-- where an element passes, there is a first one
pub finds : {X : Type 0} (p : X → Bool) (xs : List X) (y : X) → Contains xs y → p y ≡ true → (x : X) × (find p xs ≡ Some x)
finds p [] y h t = absurd (contains_none y h)
finds p (x ∷ xs) y h t =
    elim (cases_Bool (p x)) [
      | inl a ↦ (x, ap (λ (b : Bool). cond b (Some x) (find p xs)) a)
      | inr f ↦
          elim (contains_cases x xs y h) [
            | inl e ↦ (x, ap (λ (b : Bool). cond b (Some x) (find p xs)) (subst (λ (z : _). p z ≡ true) (sym e) t))
            | inr r ↦ let q = finds p xs y r t in (q.0, ap (λ (b : Bool). cond b (Some x) (find p xs)) f ∙ q.1)
          ]
    ]

pub filter_contains : {X : Type 0} (p : X → Bool) (xs : List X) (y : X) → Contains xs y → p y ≡ true → Contains (filter p xs) y
filter_contains p [] y h t = absurd (contains_none y h)
filter_contains p (x ∷ xs) y h t =
    elim (cases_Bool (p x)) [
      | inl a ↦
          subst (λ (l : List _). Contains l y) (sym (ap (λ (b : Bool). cond b (x ∷ filter p xs) (filter p xs)) a))
          (elim (contains_cases x xs y h) [
            | inl e ↦ subst (λ (z : _). Contains (z ∷ filter p xs) y) (sym e) (contains_here y (filter p xs))
            | inr r ↦ contains_later x (filter p xs) y (filter_contains p xs y r t)
          ])
      | inr f ↦
          subst (λ (l : List _). Contains l y) (sym (ap (λ (b : Bool). cond b (x ∷ filter p xs) (filter p xs)) f))
          (elim (contains_cases x xs y h) [
            | inl e ↦ absurd (both_ways (p x) f (subst (λ (z : _). p z ≡ true) (sym e) t))
            | inr r ↦ filter_contains p xs y r t
          ])
    ]

pub element_at : {X : Type 0} (xs : List X) (i : ℕ) → i < length xs → (x : X) × (slice_get xs i ≡ Some x)
element_at [] i l = absurd (omega arith)
element_at (x ∷ xs) zero l = (x, refl)
element_at (x ∷ xs) (suc i) l = element_at xs i (omega arith)

pub place_of : {X : Type 0} (xs : List X) (x : X) → Contains xs x → (i : ℕ) × (slice_get xs i ≡ Some x)
place_of xs x (i, l, e) = (i, slice_get-get_or xs i x l ∙ ap (λ (y : _). Some y) e)

pub contains_at : {X : Type 0} (xs : List X) (i : ℕ) (x : X) → slice_get xs i ≡ Some x → Contains xs x
contains_at [] i x e = absurd (none-some x e)
contains_at (y ∷ xs) zero x e = subst (λ (z : _). Contains (y ∷ xs) z) (same_Some y x e) (contains_here y xs)
contains_at (y ∷ xs) (suc i) x e = contains_later y xs x (contains_at xs i x e)

pub all_at : {X : Type 0} (p : X → Bool) (xs : List X) (i : ℕ) (x : X) → list_all p xs ≡ true → slice_get xs i ≡ Some x → p x ≡ true
all_at p [] i x h e = absurd (none-some x e)
all_at p (y ∷ xs) zero x h e = ap p (sym (same_Some y x e)) ∙ (and_parts (p y) (list_all p xs) h).0
all_at p (y ∷ xs) (suc i) x h e = all_at p xs i x (and_parts (p y) (list_all p xs) h).1 e

-- what each element may give by its number
abbrev pub given_by : {X Y : Type 0} → (ℕ → X → Option Y) → ℕ → List X → List Y
given_by f k [] = []
given_by f k (x ∷ rest) = option_to_list (f k x) ++ given_by f (k + 1) rest

pub record IsGiven {X Y : Type 0} (f : ℕ → X → Option Y) (k : ℕ) (xs : List X) (y : Y) : Type 0 where
  pub index : ℕ
  pub source : X
  pub there : slice_get xs index ≡ Some source
  pub gives : f (k + index) source ≡ Some y

later_given : {X Y : Type 0} (f : ℕ → X → Option Y) (k : ℕ) (x : X) (rest : List X) (y : Y) → IsGiven f (k + 1) rest y → IsGiven f k (x ∷ rest) y
later_given f k x rest y h =
    let e : k + suc h.index ≡ (k + 1) + h.index = omega arith in
    record { index = suc h.index; source = h.source; there = h.there; gives = ap (λ (n : ℕ). f n h.source) e ∙ h.gives }

pub given_is : {X Y : Type 0} (f : ℕ → X → Option Y) (k : ℕ) (xs : List X) (y : Y) → Contains (given_by f k xs) y → IsGiven f k xs y
given_is f k [] y h = absurd (contains_none y h)
given_is {X} {Y} f k (x ∷ rest) y h = go (f k x) refl h (given_is f (k + 1) rest y)
  where
    go : (o : Option Y) → f k x ≡ o → Contains (option_to_list o ++ given_by f (k + 1) rest) y → (Contains (given_by f (k + 1) rest) y → IsGiven f (k + 1) rest y) → IsGiven f k (x ∷ rest) y
    go None e h more = later_given f k x rest y (more h)
    go (Some b) e h more =
        elim (contains_cases b (given_by f (k + 1) rest) y h) [
          | inl same ↦
              let z : k + 0 ≡ k = omega arith in
              record { index = zero; source = x; there = refl; gives = ap (λ (n : ℕ). f n x) z ∙ e ∙ ap (λ (n : Y). Some n) same }
          | inr r ↦ later_given f k x rest y (more r)
        ]

pub given_has : {X Y : Type 0} (f : ℕ → X → Option Y) (k : ℕ) (xs : List X) (i : ℕ) (x : X) (y : Y) → slice_get xs i ≡ Some x → f (k + i) x ≡ Some y → Contains (given_by f k xs) y
given_has f k [] i x y e h = absurd (none-some x e)
given_has f k (t ∷ rest) zero x y e h =
    let z : k ≡ k + 0 = omega arith in
    let same : f k t ≡ Some y = ap (λ (n : ℕ). f n t) z ∙ ap (f (k + 0)) (same_Some t x e) ∙ h in
    subst (λ (o : Option _). Contains (option_to_list o ++ given_by f (k + 1) rest) y) (sym same) (contains_here y (given_by f (k + 1) rest))
given_has {X} {Y} f k (t ∷ rest) (suc i) x y e h =
    let z : (k + 1) + i ≡ k + suc i = omega arith in
    go (f k t) (given_has f (k + 1) rest i x y e (ap (λ (n : ℕ). f n x) z ∙ h))
  where
    go : (o : Option Y) → Contains (given_by f (k + 1) rest) y → Contains (option_to_list o ++ given_by f (k + 1) rest) y
    go None h = h
    go (Some b) h = contains_later b (given_by f (k + 1) rest) y h
