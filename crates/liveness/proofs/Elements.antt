-- What is picked from lists.
use Rattle.std.proofs.Common.{◌≡◌, List, [], ◌∷◌, ◌++◌, refl, sym, ap, ◌∙◌, subst, inl, inr, Option, Some, None}
use Rattle.std.specs.Prelude.{Contains}
use Rattle.std.specs.Option.{option_to_list}
pub use Rattle.elf_model.proofs.Elements.{contains_cases, contains_here, contains_later, contains_none, place_of, contains_at}
use Rattle.liveness.specs.Spots.{picked}

pub picked_is : {X Y : Type 0} (f : X → Option Y) (xs : List X) (y : Y) → Contains (picked f xs) y → (x : X) × Contains xs x × (f x ≡ Some y)
picked_is f [] y h = absurd (contains_none y h)
picked_is {X} {Y} f (x ∷ rest) y h = go (f x) refl h (picked_is f rest y)
  where
    go : (o : Option Y) → f x ≡ o → Contains (option_to_list o ++ picked f rest) y → (Contains (picked f rest) y → (z : X) × Contains rest z × (f z ≡ Some y)) → (z : X) × Contains (x ∷ rest) z × (f z ≡ Some y)
    go None e h more = let q = more h in (q.0, contains_later x rest q.0 q.1, q.2)
    go (Some b) e h more =
        elim (contains_cases b (picked f rest) y h) [
          | inl same ↦ (x, contains_here x rest, e ∙ ap (λ (n : Y). Some n) same)
          | inr r ↦ let q = more r in (q.0, contains_later x rest q.0 q.1, q.2)
        ]

pub picked_has : {X Y : Type 0} (f : X → Option Y) (xs : List X) (x : X) (y : Y) → Contains xs x → f x ≡ Some y → Contains (picked f xs) y
picked_has f [] x y c e = absurd (contains_none x c)
picked_has {X} {Y} f (t ∷ rest) x y c e = elim (contains_cases t rest x c) [
  | inl same ↦ subst (λ (o : Option Y). Contains (option_to_list o ++ picked f rest) y) (sym (ap f same ∙ e)) (contains_here y (picked f rest))
  | inr r ↦ later (f t) (picked_has f rest x y r e)
]
  where
    later : (o : Option Y) → Contains (picked f rest) y → Contains (option_to_list o ++ picked f rest) y
    later None h = h
    later (Some b) h = contains_later b (picked f rest) y h
