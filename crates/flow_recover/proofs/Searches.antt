-- What a binary search finds in a list that rises strictly.
use Rattle.std.proofs.Common.{◌≡◌, ◌↔◌, ◌<◌, ℕ, ◌+◌, List, sym, ap, ◌∙◌, subst, inl, inr, arith, length, map, [], ◌∷◌, get_or, refl, Option, None, Some, Result, Ok, Err}
use Rattle.std.specs.Prelude.{◌≤◌, slice_get}
use Rattle.std.specs.declared.cmp.Ordering.{Ordering}
use Rattle.std.specs.declared.cmp.Ordering.TheVariants.{Less, Equal, Greater}
use Rattle.std.specs.Cmp.{IsTotalOrder}
use Rattle.std.specs.Ordering.{is_lt, ordering_index, ordering_reverse}
use Rattle.std.specs.Option.{option_map}
use Rattle.std.specs.Result.{result_ok}
use Rattle.std.specs.List.Sorted.{IsStrictlySortedBy, IsSortedBy, IsNonDecreasingBy, IsSearchInRange, IsBinarySearchResult}
use Rattle.std.proofs.lemmas.Bool.{cases_lt, cases_order}
use Rattle.std.proofs.lemmas.Cmp.{tied_itself}
use Rattle.std.proofs.lemmas.List.Sorted.{searchable_from_sorted}
use Rattle.std.proofs.lemmas.Map.Keys.{Less-from_sorted}
use Rattle.std.proofs.Math.ListN.{get_or-map}
use Rattle.std.proofs.lemmas.List.{length-map}
use Rattle.std.proofs.lemmas.List as lists
use Rattle.std.proofs.lemmas.Option.{slice_get-map, none-some, same_Some, slice_get-get_or, slice_get_within, get_or_from_slice_get}

module _ {K : Type 0} {R : K → K → Ordering} (o : IsTotalOrder R) (exact : (x y : K) → R x y ≡ Equal → x ≡ y) (xs : List K) (order : IsStrictlySortedBy R xs) (x : K) where
  sorted : IsSortedBy (λ a b. is_lt (R a b)) xs
  sorted k d low high = ap is_lt (o.antisymm (get_or xs (k + 1) d) (get_or xs k d) ∙ ap ordering_reverse (Less-from_sorted R xs k (k + 1) d order (omega arith) high))

  searchable : IsNonDecreasingBy (λ y. ordering_index (R y x)) xs
  searchable = searchable_from_sorted o (λ k. k) xs x sorted

  not_less : (y : K) → y ≡ x → R y x ≡ Less → ⊥
  not_less y e h = let same : R x x ≡ Equal = tied_itself o x in let less : R x x ≡ Less = ap (λ (z : K). R z x) (sym e) ∙ h in cc

  not_greater : (y : K) → y ≡ x → R y x ≡ Greater → ⊥
  not_greater y e h = let same : R x x ≡ Equal = tied_itself o x in let greater : R x x ≡ Greater = ap (λ (z : K). R z x) (sym e) ∙ h in cc

  once : (a b : ℕ) → slice_get xs a ≡ Some x → slice_get xs b ≡ Some x → a ≡ b
  once a b at_a at_b =
      elim (cases_order a b) [
        | inl e ↦ e
        | inr d ↦ elim d [
          | inl l ↦ absurd (twice a b at_a at_b l)
          | inr l ↦ absurd (twice b a at_b at_a l)
        ]
      ]
    where
      twice : (i j : ℕ) → slice_get xs i ≡ Some x → slice_get xs j ≡ Some x → i < j → ⊥
      twice i j at_i at_j l =
          let less : R (get_or xs i x) (get_or xs j x) ≡ Less = Less-from_sorted R xs i j x order l (slice_get_within xs j x at_j) in
          not_less (get_or xs i x) (get_or_from_slice_get xs i x x at_i) (ap (λ (z : K). R (get_or xs i x) z) (sym (get_or_from_slice_get xs j x x at_j)) ∙ less)

  pub searched : (r : Result ℕ ℕ) → IsSearchInRange r (length xs) → IsBinarySearchResult (λ y. R y x) xs r → (q : ℕ) → (result_ok r ≡ Some q) ↔ (slice_get xs q ≡ Some x)
  searched (Ok i) range equal q =
      let there : slice_get xs i ≡ Some x = slice_get-get_or xs i x range ∙ ap (λ (y : K). Some y) (exact (get_or xs i x) x (equal x)) in
      ((λ h. subst (λ (k : ℕ). slice_get xs k ≡ Some x) (same_Some i q h) there), (λ h. ap (λ (k : ℕ). Some k) (once i q there h)))
  searched (Err i) range parted q = (
    (λ h. absurd (none-some q h)),
    (λ h. let is : get_or xs q x ≡ x = get_or_from_slice_get xs q x x h in
        elim (cases_lt q i) [
          | inl l ↦ absurd (not_less (get_or xs q x) is ((parted searchable).0 q x (omega arith) l))
          | inr l ↦ absurd (not_greater (get_or xs q x) is ((parted searchable).1 q x l (slice_get_within xs q x h)))
        ]),
  )

-- the same of a search by keys
module _ {X K : Type 0} {R : K → K → Ordering} (o : IsTotalOrder R) (exact : (x y : K) → R x y ≡ Equal → x ≡ y) (key : X → K) (x : K) where
  by_keys : (xs : List X) (d : X) (r : Result ℕ ℕ) → IsSearchInRange r (length xs) → IsBinarySearchResult (λ y. R (key y) x) xs r → IsBinarySearchResult (λ k. R k x) (map key xs) r
  by_keys xs d (Ok i) range equal = λ e. ap (λ (k : K). R k x) (lists.get_or-map key xs i d e range) ∙ equal d
  by_keys xs d (Err i) range parted = λ rises.
      let long = length-map xs key in
      let p = parted (λ a b c low high. rising a b c (rises a b (key c) low (omega arith))) in (
        (λ j e low l. ap (λ (k : K). R k x) (lists.get_or-map key xs j d e (omega arith)) ∙ p.0 j d low l),
        (λ j e low l. ap (λ (k : K). R k x) (lists.get_or-map key xs j d e (omega arith)) ∙ p.1 j d low (omega arith)),
      )
    where
      rising : (a b : ℕ) (c : X) → ordering_index (R (get_or (map key xs) a (key c)) x) ≤ ordering_index (R (get_or (map key xs) b (key c)) x) → ordering_index (R (key (get_or xs a c)) x) ≤ ordering_index (R (key (get_or xs b c)) x)
      rising a b c h =
          subst (λ (k : K). ordering_index (R k x) ≤ ordering_index (R (key (get_or xs b c)) x)) (get_or-map key xs a c)
          (subst (λ (k : K). ordering_index (R (get_or (map key xs) a (key c)) x) ≤ ordering_index (R k x)) (get_or-map key xs b c) h)

  at_key : (xs : List X) (q : ℕ) → (slice_get (map key xs) q ≡ Some x) ↔ ((y : X) × (slice_get xs q ≡ Some y) × (key y ≡ x))
  at_key xs q = ((λ h. go (slice_get xs q) refl (sym (slice_get-map key xs q) ∙ h)), (λ h. slice_get-map key xs q ∙ ap (option_map key) h.1 ∙ ap (λ (k : K). Some k) h.2))
    where
      go : (e : Option X) → slice_get xs q ≡ e → option_map key e ≡ Some x → (y : X) × (slice_get xs q ≡ Some y) × (key y ≡ x)
      go None e h = absurd (none-some x h)
      go (Some y) e h = (y, e, same_Some (key y) x h)

  pub searched_by_key : (xs : List X) → IsStrictlySortedBy R (map key xs) → (r : Result ℕ ℕ) → IsSearchInRange r (length xs) → IsBinarySearchResult (λ y. R (key y) x) xs r
      → (q : ℕ) → (result_ok r ≡ Some q) ↔ ((y : X) × (slice_get xs q ≡ Some y) × (key y ≡ x))
  searched_by_key [] order (Ok i) range found q = absurd (omega arith)
  searched_by_key [] order (Err i) range found q = ((λ h. absurd (none-some q h)), (λ h. absurd (none-some h.0 h.1)))
  searched_by_key (y ∷ ys) order r range found q =
      let long = length-map (y ∷ ys) key in
      let is = searched o exact (map key (y ∷ ys)) order x r (subst (IsSearchInRange r) (sym long) range) (by_keys (y ∷ ys) y r range found) q in
      let at = at_key (y ∷ ys) q in
      ((λ h. at.0 (is.0 h)), (λ h. is.1 (at.1 h)))
