-- The indexes of the nodes at which control enters.
use Rattle.std.proofs.Common.{◌≡◌, ◌↔◌, ◌<◌, ◌≤◌, ℕ, ◌+◌, Bool, true, List, [], ◌∷◌, ◌++◌, length, get_or, refl, sym, ap, ◌∙◌, subst, inl, inr, ◌⊎◌, arith, Some}
use Rattle.std.specs.Prelude.{slice_get, Contains}
use Rattle.std.specs.List.Sorted.{IsStrictlyIncreasing}
use Rattle.std.proofs.lemmas.Bool.{cases_lt}
use Rattle.std.proofs.lemmas.List.{length-append, get_or_append_left}
use Rattle.std.proofs.lemmas.List.Elements.{Contains-get_or}
use Rattle.std.proofs.lemmas.Option.{same_Some, slice_get_within}
use Rattle.flow_recover.specs.declared.nodes.Node.{Node}
use Rattle.flow_recover.specs.Settled.{IsAmong, AreEntries}
use Rattle.flow_recover.proofs.GainFacts.{push_gains}
use Rattle.elf_model.proofs.Elements.{contains_none}

pub among_is : (is_in : ℕ → ℕ → Bool) (n : Node) (b : Bool) → n.it ≡ 0 → b ≡ is_in n.section n.offset → (b ≡ true) ↔ IsAmong is_in n
among_is is_in n b clear e = (
  (λ h. record {
    section = n.section;
    offset = n.offset;
    entered = sym e ∙ h;
    is = ap (λ (k : ℕ). let m : Node = record { section = n.section; offset = n.offset; it = k } in m) clear;
  }),
  (λ a. e ∙ ap (λ (m : Node). is_in m.section m.offset) a.is ∙ a.entered),
)

-- a rising list with a greater number behind it
pub rising_push : (xs : List ℕ) (y : ℕ) → IsStrictlyIncreasing xs → ((x : ℕ) → Contains xs x → x < y) → IsStrictlyIncreasing (xs ++ y ∷ [])
rising_push xs y up low k h =
    let long = length-append xs (y ∷ []) in
    elim (cases_lt (k + 1) (length xs)) [
      | inl l ↦
          let a : get_or (xs ++ y ∷ []) k 0 ≡ get_or xs k 0 = get_or_append_left xs (y ∷ []) 0 k (omega arith) in
          let b : get_or (xs ++ y ∷ []) (k + 1) 0 ≡ get_or xs (k + 1) 0 = get_or_append_left xs (y ∷ []) 0 (k + 1) l in
          let less = up k l in
          omega (arith, a, b, less)
      | inr l ↦
          let last : k + 1 ≡ length xs = omega arith in
          let a : get_or (xs ++ y ∷ []) k 0 ≡ get_or xs k 0 = get_or_append_left xs (y ∷ []) 0 k (omega arith) in
          let b : get_or (xs ++ y ∷ []) (k + 1) 0 ≡ y = ap (λ (n : ℕ). get_or (xs ++ y ∷ []) n 0) last ∙ seam xs in
          let less = low (get_or xs k 0) (Contains-get_or xs k 0 (omega arith)) in
          omega (arith, a, b, less)
    ]
  where
    seam : (zs : List ℕ) → get_or (zs ++ y ∷ []) (length zs) 0 ≡ y
    seam [] = refl
    seam (z ∷ zs) = seam zs

-- the indexes among the first nodes
pub record AreUpTo (is_in : ℕ → ℕ → Bool) (nodes : List Node) (i : ℕ) (entries : List ℕ) : Type 0 where
  pub exact : (q : ℕ) → Contains entries q ↔ ((n : Node) × ((q < i) × (slice_get nodes q ≡ Some n) × IsAmong is_in n))
  pub order : IsStrictlyIncreasing entries

pub none_up_to : (is_in : ℕ → ℕ → Bool) (nodes : List Node) (entries : List ℕ) → entries ≡ [] → AreUpTo is_in nodes 0 entries
none_up_to is_in nodes entries e = record {
  exact = λ q. ((λ h. absurd (contains_none q (subst (λ (l : List ℕ). Contains l q) e h))), (λ h. absurd (omega (arith, h.1.0))));
  order = subst (λ (l : List ℕ). IsStrictlyIncreasing l) (sym e) (λ k h. absurd (omega arith));
}

module _ (is_in : ℕ → ℕ → Bool) (nodes : List Node) (i : ℕ) (n : Node) (at : slice_get nodes i ≡ Some n) (old : List ℕ) (before : AreUpTo is_in nodes i old) where
  split : (q : ℕ) → ((m : Node) × ((q < i + 1) × (slice_get nodes q ≡ Some m) × IsAmong is_in m)) → Contains old q ⊎ ((i ≡ q) × IsAmong is_in n)
  split q h =
      elim (cases_lt q i) [
        | inl l ↦ inl ((before.exact q).1 (h.0, (l, h.1.1, h.1.2)))
        | inr l ↦
            let low = h.1.0 in
            let e : i ≡ q = omega arith in
            let same : h.0 ≡ n = same_Some h.0 n (sym h.1.1 ∙ sym (ap (λ (z : ℕ). slice_get nodes z) e) ∙ at) in
            inr (e, subst (λ (m : Node). IsAmong is_in m) same h.1.2)
      ]

  later : (q : ℕ) → Contains old q → (m : Node) × ((q < i + 1) × (slice_get nodes q ≡ Some m) × IsAmong is_in m)
  later q h = let b = (before.exact q).0 h in let l = b.1.0 in (b.0, (omega arith, b.1.1, b.1.2))

  pub same_up_to : (IsAmong is_in n → ⊥) → AreUpTo is_in nodes (i + 1) old
  same_up_to none = record {
    exact = λ q. (
      (λ h. later q h),
      (λ h. elim (split q h) [
        | inl o ↦ o
        | inr a ↦ absurd (none a.1)
      ]),
    );
    order = before.order;
  }

  pub more_up_to : (new : List ℕ) → IsAmong is_in n → new ≡ old ++ i ∷ [] → AreUpTo is_in nodes (i + 1) new
  more_up_to new a e = record {
    exact = λ q. (
      (λ h. elim ((push_gains old i q).0 (subst (λ (l : List ℕ). Contains l q) e h)) [
        | inl o ↦ later q o
        | inr s ↦ (n, (omega arith, sym (ap (λ (z : ℕ). slice_get nodes z) s) ∙ at, a))
      ]),
      (λ h. subst (λ (l : List ℕ). Contains l q) (sym e) ((push_gains old i q).1 (elim (split q h) [
        | inl o ↦ inl o
        | inr s ↦ inr s.0
      ]))),
    );
    order = subst (λ (l : List ℕ). IsStrictlyIncreasing l) (sym e) (rising_push old i before.order (λ x h. ((before.exact x).0 h).1.0));
  }

pub done_up_to : (is_in : ℕ → ℕ → Bool) (nodes : List Node) (i : ℕ) (entries : List ℕ) → length nodes ≤ i → AreUpTo is_in nodes i entries → AreEntries is_in nodes entries
done_up_to is_in nodes i entries long up = record {
  exact = λ q. ((λ h. let b = (up.exact q).0 h in (b.0, (b.1.1, b.1.2))), (λ h. let l = slice_get_within nodes q h.0 h.1.0 in (up.exact q).1 (h.0, (omega arith, h.1.0, h.1.1))));
  order = up.order;
}
