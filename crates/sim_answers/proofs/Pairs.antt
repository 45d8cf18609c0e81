-- Lists of pairs.
use Rattle.std.specs.Prelude.{◌≡◌, List, [], ◌∷◌, length, map, Contains}
use Rattle.std.specs.List.{zip}
use Rattle.std.proofs.Common.{arith, inl, inr, ap, subst}
use Rattle.elf_model.proofs.Elements.{contains_cases, contains_none, contains_here, contains_later}

pub zip_there : {A B : Type 0} (xs : List A) (ys : List B) → length xs ≡ length ys → (x : A) → Contains xs x → (y : B) × Contains (zip xs ys) (x, y)
zip_there [] ys l x c = absurd (contains_none x c)
zip_there (z ∷ xs) [] l x c = absurd (omega arith)
zip_there (z ∷ xs) (y ∷ ys) l x c =
    elim (contains_cases z xs x c) [
      | inl e ↦ (y, subst (λ (q : _). Contains ((z, y) ∷ zip xs ys) (q, y)) e (contains_here (z, y) (zip xs ys)))
      | inr r ↦ let h = zip_there xs ys (omega arith) x r in (h.0, contains_later (z, y) (zip xs ys) (x, h.0) h.1)
    ]

pub zip_left : {A B : Type 0} (xs : List A) (ys : List B) (e : A × B) → Contains (zip xs ys) e → Contains xs e.0
zip_left [] ys e c = absurd (contains_none e c)
zip_left (z ∷ xs) [] e c = absurd (contains_none e c)
zip_left (z ∷ xs) (y ∷ ys) e c =
    elim (contains_cases (z, y) (zip xs ys) e c) [
      | inl h ↦ subst (λ (q : _). Contains (z ∷ xs) (q.0)) h (contains_here z xs)
      | inr r ↦ contains_later z xs e.0 (zip_left xs ys e r)
    ]

pub zip_mapped : {A B C : Type 0} (f : A → C) (xs : List A) (ys : List B) (e : C × B) → Contains (zip (map f xs) ys) e → (x : A) × Contains (zip xs ys) (x, e.1) × (f x ≡ e.0)
zip_mapped f [] ys e c = absurd (contains_none e c)
zip_mapped f (z ∷ xs) [] e c = absurd (contains_none e c)
zip_mapped f (z ∷ xs) (y ∷ ys) e c =
    elim (contains_cases (f z, y) (zip (map f xs) ys) e c) [
      | inl h ↦ (z, subst (λ (q : _). Contains ((z, y) ∷ zip xs ys) (z, q.1)) h (contains_here (z, y) (zip xs ys)), ap (λ (q : _). q.0) h)
      | inr r ↦ let h = zip_mapped f xs ys e r in (h.0, contains_later (z, y) (zip xs ys) (h.0, e.1) h.1, h.2)
    ]

pub mapped_zip : {A B C : Type 0} (f : A → C) (xs : List A) (ys : List B) (x : A) (y : B) → Contains (zip xs ys) (x, y) → Contains (zip (map f xs) ys) (f x, y)
mapped_zip f [] ys x y c = absurd (contains_none (x, y) c)
mapped_zip f (z ∷ xs) [] x y c = absurd (contains_none (x, y) c)
mapped_zip f (z ∷ xs) (w ∷ ys) x y c =
    elim (contains_cases (z, w) (zip xs ys) (x, y) c) [
      | inl h ↦ subst (λ (q : _). Contains ((f z, w) ∷ zip (map f xs) ys) (f (q.0), q.1)) h (contains_here (f z, w) (zip (map f xs) ys))
      | inr r ↦ contains_later (f z, w) (zip (map f xs) ys) (f x, y) (mapped_zip f xs ys x y r)
    ]
