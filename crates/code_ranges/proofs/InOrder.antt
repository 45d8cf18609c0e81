-- Lists in order: those with the same elements are one list, and an element stands at one index.
use Rattle.std.proofs.Common.{◌≡◌, ◌↔◌, ◌<◌, ℕ, zero, suc, List, [], ◌∷◌, map, refl, sym, ap, ◌∙◌, subst, inl, inr, arith, Some, length}
use Rattle.std.specs.Prelude.{Contains, slice_get}
use Rattle.std.specs.declared.cmp.Ordering.{Ordering}
use Rattle.std.specs.declared.cmp.Ordering.TheVariants.{Less, Greater}
use Rattle.std.specs.Cmp.{IsTotalOrder}
use Rattle.std.specs.Ordering.{nat_cmp, ordering_reverse}
use Rattle.std.specs.List.Sorted.{IsStrictlySortedBy, IsStrictlyIncreasing}
use Rattle.std.proofs.lemmas.Cmp.{ranked}
use Rattle.std.proofs.lemmas.List.Elements.{All-contains}
use Rattle.std.proofs.lemmas.Map.Keys.{sorted_tail, sorted_from_strictly_increasing}
use Rattle.std.proofs.lemmas.Map.Views.{All-after_first}
use Rattle.std.proofs.lemmas.Option.{none-some, same_Some}
use Rattle.elf_model.proofs.Elements.{contains_cases, contains_here, contains_later, contains_none, contains_at, map_contains}

-- each element is before those behind it
abbrev pub Rises : {X : Type 0} → (X → X → Type 0) → List X → Type 0
Rises before [] = Unit {0}
Rises {X} before (x ∷ xs) = ((z : X) → Contains xs z → before x z) × Rises before xs

pub through : {A B P : Type 0} → (A ↔ P) → (B ↔ P) → (A ↔ B)
through a b = (λ h. b.1 (a.0 h), λ h. a.1 (b.0 h))

module _ {X : Type 0} (before : X → X → Type 0) (never : (a b : X) → before a b → before b a → ⊥) where
  heads : (x y : X) (xs ys : List X) → Rises before (x ∷ xs) → Rises before (y ∷ ys) → Contains (y ∷ ys) x → Contains (x ∷ xs) y → x ≡ y
  heads x y xs ys s t h k =
      elim (contains_cases y ys x h) [
        | inl e ↦ sym e
        | inr r ↦ elim (contains_cases x xs y k) [
          | inl e ↦ e
          | inr q ↦ absurd (never x y (s.0 y q) (t.0 x r))
        ]
      ]

  behind_first : (x y z : X) (xs ys : List X) → x ≡ y → Rises before (x ∷ xs) → Contains xs z → Contains (y ∷ ys) z → Contains ys z
  behind_first x y z xs ys e s h k =
      elim (contains_cases y ys z k) [
        | inl f ↦
            let low : before x x = subst (λ (w : X). before x w) (sym f ∙ sym e) (s.0 z h) in
            absurd (never x x low low)
        | inr r ↦ r
      ]

  pub one_list : (xs ys : List X) → Rises before xs → Rises before ys → ((z : X) → Contains xs z ↔ Contains ys z) → xs ≡ ys
  one_list [] [] s t same = refl
  one_list [] (y ∷ ys) s t same = absurd (contains_none y ((same y).1 (contains_here y ys)))
  one_list (x ∷ xs) [] s t same = absurd (contains_none x ((same x).0 (contains_here x xs)))
  one_list (x ∷ xs) (y ∷ ys) s t same =
      let first : x ≡ y = heads x y xs ys s t ((same x).0 (contains_here x xs)) ((same y).1 (contains_here y ys)) in
      let rest : xs ≡ ys = one_list xs ys s.1 t.1 (λ z. (
        (λ h. behind_first x y z xs ys first s h ((same z).0 (contains_later x xs z h))),
        (λ h. behind_first y x z ys xs (sym first) t h ((same z).1 (contains_later y ys z h))),
      )) in
      ap (λ (w : X). w ∷ xs) first ∙ ap (λ (l : List X). y ∷ l) rest

  pub one_index : (xs : List X) (p q : ℕ) (x y : X) → Rises before xs → slice_get xs p ≡ Some x → slice_get xs q ≡ Some y → (before x y → ⊥) → (before y x → ⊥) → p ≡ q
  one_index [] p q x y s e f g h = absurd (none-some x e)
  one_index (z ∷ zs) zero zero x y s e f g h = refl
  one_index (z ∷ zs) zero (suc q) x y s e f g h = absurd (g (subst (λ (w : X). before w y) (same_Some z x e) (s.0 y (contains_at zs q y f))))
  one_index (z ∷ zs) (suc p) zero x y s e f g h = absurd (h (subst (λ (w : X). before w x) (same_Some z y f) (s.0 x (contains_at zs p x e))))
  one_index (z ∷ zs) (suc p) (suc q) x y s e f g h = ap (λ (n : ℕ). suc n) (one_index zs p q x y s.1 e f g h)

-- lists that are as long and agree at each index
pub same_at_each : {X : Type 0} (xs ys : List X) → length xs ≡ length ys → ((k : ℕ) (x y : X) → slice_get xs k ≡ Some x → slice_get ys k ≡ Some y → x ≡ y) → xs ≡ ys
same_at_each [] [] l same = refl
same_at_each [] (y ∷ ys) l same = absurd (omega arith)
same_at_each (x ∷ xs) [] l same = absurd (omega arith)
same_at_each (x ∷ xs) (y ∷ ys) l same = ap (λ (w : _). w ∷ xs) (same zero x y refl refl) ∙ ap (λ (r : List _). y ∷ r) (same_at_each xs ys (omega arith) (λ k. same (suc k)))

-- orders by keys, and numbers
pub never_less : {K : Type 0} (cmp : K → K → Ordering) → IsTotalOrder cmp → (a b : K) → cmp a b ≡ Less → cmp b a ≡ Less → ⊥
never_less cmp total a b h k =
    let turned : Less ≡ Greater = sym h ∙ total.antisymm a b ∙ ap ordering_reverse k in
    absurd (cc)

pub never_itself : {K : Type 0} (cmp : K → K → Ordering) → IsTotalOrder cmp → (a b : K) → a ≡ b → cmp a b ≡ Less → ⊥
never_itself cmp total a b e h = let low = ap (λ (k : _). cmp a k) e ∙ h in never_less cmp total a a low low

pub rises_keys : {X K : Type 0} (key : X → K) (cmp : K → K → Ordering) (xs : List X) → IsStrictlySortedBy cmp (map key xs) → Rises (λ (a b : X). cmp (key a) (key b) ≡ Less) xs
rises_keys key cmp [] s = tt
rises_keys key cmp (x ∷ xs) s = (
  (λ z h. All-contains (λ q. cmp (key x) q ≡ Less) (map key xs) (key z) (All-after_first cmp (key x) (map key xs) s) (map_contains key xs z h)),
  rises_keys key cmp xs (sorted_tail cmp (key x) (map key xs) s),
)

rises_sorted : (xs : List ℕ) → IsStrictlySortedBy nat_cmp xs → Rises (λ (a b : ℕ). a < b) xs
rises_sorted [] s = tt
rises_sorted (x ∷ xs) s = (
  (λ z h. ranked x z Less (sym (All-contains (λ q. nat_cmp x q ≡ Less) xs z (All-after_first nat_cmp x xs s) h))),
  rises_sorted xs (sorted_tail nat_cmp x xs s),
)

pub rises_numbers : (xs : List ℕ) → IsStrictlyIncreasing xs → Rises (λ (a b : ℕ). a < b) xs
rises_numbers xs s = rises_sorted xs (sorted_from_strictly_increasing xs s)
