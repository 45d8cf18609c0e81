-- The order of units and words: what is next is behind all that stands.
use Rattle.std.proofs.Common.{◌≡◌, ℕ, zero, suc, ◌+◌, ◌<◌, inl, inr, List, [], ◌∷◌, take, subst, arith, Some, add-one}
use Rattle.std.specs.Prelude.{slice_get, Contains}
use Rattle.std.specs.List.Sorted.{IsStrictlySortedBy}
use Rattle.std.specs.declared.cmp.Ordering.TheVariants.{Less}
use Rattle.std.proofs.lemmas.List.Elements.{Contains-push_cases, All-contains}
use Rattle.std.proofs.lemmas.Map.Keys.{sorted_tail}
use Rattle.std.proofs.lemmas.Map.Views.{All-after_first}
use Rattle.elf_model.proofs.Elements.{contains_cases, contains_here, contains_later, contains_at, contains_none}
use Rattle.std.proofs.lemmas.Option.{none-some, same_Some}
use Rattle.code_ranges.specs.Spans.{place_cmp}
use Rattle.code_ranges.proofs.PlaceOrder.{place_total}
use Rattle.branch_layout.specs.Standing.{AllBefore, IsNext, AreAhead}
use Rattle.branch_layout.proofs.Lists.{take_push}

head_below : (x : ℕ × ℕ) (xs : List (ℕ × ℕ)) (z : ℕ × ℕ) → IsStrictlySortedBy place_cmp (x ∷ xs) → Contains xs z → place_cmp x z ≡ Less
head_below x xs z s h = All-contains (λ q. place_cmp x q ≡ Less) xs z (All-after_first place_cmp x xs s) h

behind_above : (xs : List (ℕ × ℕ)) (i : ℕ) (x y : ℕ × ℕ) → IsStrictlySortedBy place_cmp xs → slice_get xs i ≡ Some x → slice_get xs (suc i) ≡ Some y → place_cmp x y ≡ Less
behind_above [] zero x y s e f = absurd (cc)
behind_above [] (suc i) x y s e f = absurd (cc)
behind_above (a ∷ xs) zero x y s e f = let same : a ≡ x = cc in subst (λ (q : ℕ × ℕ). place_cmp q y ≡ Less) same (head_below a xs y s (contains_at xs zero y f))
behind_above (a ∷ xs) (suc i) x y s e f = behind_above xs i x y (sorted_tail place_cmp a xs s) e f

pub next_above : (xs : List (ℕ × ℕ)) (i : ℕ) (x y : ℕ × ℕ) → IsStrictlySortedBy place_cmp xs → slice_get xs i ≡ Some x → slice_get xs (i + 1) ≡ Some y → place_cmp x y ≡ Less
next_above xs i x y s e f = behind_above xs i x y s e (subst (λ (n : ℕ). slice_get xs n ≡ Some y) (add-one i) f)

pub first_below : (xs : List (ℕ × ℕ)) (i : ℕ) (x : ℕ × ℕ) → IsStrictlySortedBy place_cmp xs → slice_get xs i ≡ Some x → AllBefore (take i xs) x
first_below [] zero x s e q h = absurd (contains_none q h)
first_below [] (suc i) x s e q h = absurd (contains_none q h)
first_below (a ∷ xs) zero x s e q h = absurd (contains_none q h)
first_below (a ∷ xs) (suc i) x s e q h = elim (contains_cases a (take i xs) q h) [
  | inl same ↦ subst (λ (r : ℕ × ℕ). place_cmp r x ≡ Less) same (head_below a xs x s (contains_at xs i x e))
  | inr later ↦ first_below xs i x (sorted_tail place_cmp a xs s) e q later
]

pub later_above : (xs : List (ℕ × ℕ)) (i k : ℕ) (x y : ℕ × ℕ) → IsStrictlySortedBy place_cmp xs → i < k → slice_get xs i ≡ Some x → slice_get xs k ≡ Some y → place_cmp x y ≡ Less
later_above xs i k x y s lt e f = first_below xs k y s f x (taken xs i k x lt e)
  where
    taken : (xs : List (ℕ × ℕ)) (i k : ℕ) (x : ℕ × ℕ) → i < k → slice_get xs i ≡ Some x → Contains (take k xs) x
    taken [] i k x lt e = absurd (none-some x e)
    taken (a ∷ xs) i zero x lt e = absurd (omega arith)
    taken (a ∷ xs) zero (suc k) x lt e = subst (Contains (a ∷ take k xs)) (same_Some a x e) (contains_here a (take k xs))
    taken (a ∷ xs) (suc i) (suc k) x lt e = contains_later a (take k xs) x (taken xs i k x (omega arith) e)

pub ahead_turned : (places others : List (ℕ × ℕ)) (i k : ℕ) → AreAhead places others i k → AreAhead others places k i
ahead_turned places others i k a = record { one = a.other; other = a.one }

pub ahead_more : (places others : List (ℕ × ℕ)) (i k : ℕ) → IsStrictlySortedBy place_cmp places → IsNext places others i k → AreAhead places others i k → AreAhead places others (i + 1) k
ahead_more places others i k s next a = record {
  one = λ q e r h. place_total.trans r next.place q (a.one next.place next.there r h) (next_above places i next.place q s next.there e);
  other = λ q e r h. elim (Contains-push_cases (take i places) next.place r (subst (λ (l : List (ℕ × ℕ)). Contains l r) (take_push places i next.place next.there) h)) [
    | inl old ↦ a.other q e r old
    | inr same ↦ subst (λ (z : ℕ × ℕ). place_cmp z q ≡ Less) same (next.before q e)
  ];
}
