-- A link that is added keeps chains.
use Rattle.std.proofs.Common.{◌≡◌, ◌+◌, ◌<◌, ◌≤◌, ℕ, List, [], ◌∷◌, ◌++◌, refl, sym, ap, ◌∙◌, subst, inl, inr, ◌⊎◌, Option, Some, None, length, arith, zero, suc, replicate}
use Rattle.std.specs.Prelude.{slice_get}
use Rattle.std.proofs.Math.ListN.{set, take}
use Rattle.std.proofs.lemmas.Bool.{cases_eq, cases_order}
use Rattle.std.proofs.lemmas.List.{length_push, length-set, take_at}
use Rattle.std.proofs.lemmas.Option.{none-some, same_Some, slice_get_within}
use Rattle.index_links.specs.Links.{IsFirstFrom}
use Rattle.index_links.specs.Chains.{Belongs, IsLast, AreChains, firsts_with, nexts_with}
use Rattle.index_links.proofs.Places.{push_cases, push_old, push_new, set_cases}

-- a new link belongs to its head's chain alone
new_belongs : (heads : List ℕ) (h j k : ℕ) → Belongs (heads ++ h ∷ []) j k → Belongs heads j k ⊎ ((k ≡ length heads) × (h ≡ j))
new_belongs heads h j k b = push_cases heads h j k b

-- what was first stays first
first_stays : (heads : List ℕ) (h j low e : ℕ) → IsFirstFrom (Belongs heads j) low (Some e) → IsFirstFrom (Belongs (heads ++ h ∷ []) j) low (Some e)
first_stays heads h j low e w = (
  w.0,
  push_old heads h j e w.1,
  λ k above below b. elim (new_belongs heads h j k b) [
    | inl old ↦ w.2 k above below old
    | inr new ↦ let inside : e < length heads = slice_get_within heads e j w.1 in let same = new.0 in absurd (omega arith)
  ],
)

-- another chain stays as it is
other_stays : (heads : List ℕ) (h j low : ℕ) (o : Option ℕ) → (j ≡ h → ⊥) → IsFirstFrom (Belongs heads j) low o → IsFirstFrom (Belongs (heads ++ h ∷ []) j) low o
other_stays heads h j low (Some e) ne w = first_stays heads h j low e w
other_stays heads h j low None ne w = λ k above b. elim (new_belongs heads h j k b) [
  | inl old ↦ w k above old
  | inr new ↦ ne (sym new.1)
]

-- where a later link is there, the first one is
some_stays : (heads : List ℕ) (h j low last : ℕ) (o : Option ℕ) → low ≤ last → Belongs heads j last → IsFirstFrom (Belongs heads j) low o → IsFirstFrom (Belongs (heads ++ h ∷ []) j) low o
some_stays heads h j low last (Some e) above there w = first_stays heads h j low e w
some_stays heads h j low last None above there w = absurd (w last above there)

-- the new link comes first behind all others
new_first : (heads : List ℕ) (h low : ℕ) → low ≤ length heads → ((k : ℕ) → low ≤ k → Belongs heads h k → ⊥) → IsFirstFrom (Belongs (heads ++ h ∷ []) h) low (Some (length heads))
new_first heads h low above none = (
  above,
  push_new heads h,
  λ k high below b. elim (new_belongs heads h h k b) [
    | inl old ↦ none k high old
    | inr new ↦ let same = new.0 in absurd (omega arith)
  ],
)

module _ (heads : List ℕ) (nexts firsts lasts : List (Option ℕ)) (chains : AreChains heads nexts firsts lasts) (h : ℕ) where
  first_with : (last : Option ℕ) → IsLast heads h last → (j : ℕ) (o : Option ℕ) → slice_get (firsts_with firsts h last (length heads)) j ≡ Some o → IsFirstFrom (Belongs (heads ++ h ∷ []) j) 0 o
  first_with None is j o e = elim (set_cases firsts h j (Some (length heads)) o e) [
    | inl here ↦
        let new = new_first heads h 0 (omega arith) (λ k high b. is k b) in
        let at : IsFirstFrom (Belongs (heads ++ h ∷ []) j) 0 (Some (length heads)) = subst (λ (i : ℕ). IsFirstFrom (Belongs (heads ++ h ∷ []) i) 0 (Some (length heads))) (sym here.0) new in
        subst (λ (p : Option ℕ). IsFirstFrom (Belongs (heads ++ h ∷ []) j) 0 p) here.1 at
    | inr other ↦ other_stays heads h j 0 o other.0 (chains.first j o other.1)
  ]
  first_with (Some last) is j o e = elim (cases_eq j h) [
    | inl same ↦ some_stays heads h j 0 last o (omega arith) (subst (λ (i : ℕ). Belongs heads i last) (sym same) is.0) (chains.first j o e)
    | inr ne ↦ other_stays heads h j 0 o ne (chains.first j o e)
  ]

  -- behind the new link comes none
  next_new : (o : Option ℕ) → o ≡ None → (j : ℕ) → IsFirstFrom (Belongs (heads ++ h ∷ []) j) (length heads + 1) o
  next_new None is j = λ k high b. let low = slice_get_within (heads ++ h ∷ []) k j b in let n = length_push heads h in absurd (omega arith)
  next_new (Some e) is j = absurd (none-some e (sym is))

  pushed : (e : ℕ) (o : Option ℕ) → slice_get (nexts ++ None ∷ []) e ≡ Some o → (slice_get nexts e ≡ Some o) ⊎ ((e ≡ length heads) × (o ≡ None))
  pushed e o there = elim (push_cases nexts None o e there) [
    | inl old ↦ inl old
    | inr new ↦ inr (new.0 ∙ chains.linked, sym new.1)
  ]

  next_pushed : (e j : ℕ) (o : Option ℕ) → Belongs (heads ++ h ∷ []) j e → slice_get (nexts ++ None ∷ []) e ≡ Some o → (Belongs heads j e → IsFirstFrom (Belongs heads j) (e + 1) o → IsFirstFrom (Belongs (heads ++ h ∷ []) j) (e + 1) o) → IsFirstFrom (Belongs (heads ++ h ∷ []) j) (e + 1) o
  next_pushed e j o b there keep = elim (pushed e o there) [
    | inr new ↦ subst (λ (n : ℕ). IsFirstFrom (Belongs (heads ++ h ∷ []) j) (n + 1) o) (sym new.0) (next_new o new.1 j)
    | inl old ↦ elim (new_belongs heads h j e b) [
      | inl was ↦ keep was (chains.next e j o was old)
      | inr new ↦ let low = slice_get_within nexts e o old in let n = chains.linked in let at = new.0 in absurd (omega arith)
    ]
  ]

  next_with : (last : Option ℕ) → IsLast heads h last → (e j : ℕ) (o : Option ℕ) → Belongs (heads ++ h ∷ []) j e → slice_get (nexts_with (nexts ++ None ∷ []) last (length heads)) e ≡ Some o → IsFirstFrom (Belongs (heads ++ h ∷ []) j) (e + 1) o
  next_with None is e j o b there = next_pushed e j o b there (λ was w. other_stays heads h j (e + 1) o (λ same. is e (subst (λ (i : ℕ). Belongs heads i e) same was)) w)
  next_with (Some last) is e j o b there = elim (set_cases (nexts ++ None ∷ []) last e (Some (length heads)) o there) [
    | inl here ↦
        let inside : last < length heads = slice_get_within heads last h is.0 in
        let at : Belongs (heads ++ h ∷ []) j last = subst (λ (i : ℕ). Belongs (heads ++ h ∷ []) j i) here.0 b in
        let same : h ≡ j = same_Some h j (sym (push_old heads h h last is.0) ∙ at) in
        let new = new_first heads h (last + 1) (omega arith) (λ k high b. is.1 k (omega arith) b) in
        let to_j : IsFirstFrom (Belongs (heads ++ h ∷ []) j) (last + 1) (Some (length heads)) = subst (λ (i : ℕ). IsFirstFrom (Belongs (heads ++ h ∷ []) i) (last + 1) (Some (length heads))) same new in
        let to_e : IsFirstFrom (Belongs (heads ++ h ∷ []) j) (e + 1) (Some (length heads)) = subst (λ (i : ℕ). IsFirstFrom (Belongs (heads ++ h ∷ []) j) (i + 1) (Some (length heads))) (sym here.0) to_j in
        subst (λ (p : Option ℕ). IsFirstFrom (Belongs (heads ++ h ∷ []) j) (e + 1) p) here.1 to_e
    | inr other ↦ next_pushed e j o b other.1 (λ was w. elim (cases_eq j h) [
      | inr ne ↦ other_stays heads h j (e + 1) o ne w
      | inl same ↦ elim (cases_order e last) [
        | inl at ↦ absurd (other.0 at)
        | inr (inl low) ↦ some_stays heads h j (e + 1) last o (omega arith) (subst (λ (i : ℕ). Belongs heads i last) (sym same) is.0) w
        | inr (inr high) ↦ absurd (is.1 e high (subst (λ (i : ℕ). Belongs heads i e) same was))
      ]
    ])
  ]

  last_stays : (j : ℕ) (o : Option ℕ) → (j ≡ h → ⊥) → IsLast heads j o → IsLast (heads ++ h ∷ []) j o
  last_stays j None ne is = λ k b. elim (new_belongs heads h j k b) [
    | inl old ↦ is k old
    | inr new ↦ ne (sym new.1)
  ]
  last_stays j (Some e) ne is = (
    push_old heads h j e is.0,
    λ k high b. elim (new_belongs heads h j k b) [
      | inl old ↦ is.1 k high old
      | inr new ↦ ne (sym new.1)
    ],
  )

  last_with : (j : ℕ) (o : Option ℕ) → slice_get (set lasts h (Some (length heads))) j ≡ Some o → IsLast (heads ++ h ∷ []) j o
  last_with j o e = elim (set_cases lasts h j (Some (length heads)) o e) [
    | inl here ↦
        let new : IsLast (heads ++ h ∷ []) h (Some (length heads)) = (push_new heads h, λ k high b. let low = slice_get_within (heads ++ h ∷ []) k h b in let n = length_push heads h in absurd (omega arith)) in
        let at : IsLast (heads ++ h ∷ []) j (Some (length heads)) = subst (λ (i : ℕ). IsLast (heads ++ h ∷ []) i (Some (length heads))) (sym here.0) new in
        subst (λ (p : Option ℕ). IsLast (heads ++ h ∷ []) j p) here.1 at
    | inr other ↦ last_stays j o other.0 (chains.last j o other.1)
  ]

  length_firsts : (last : Option ℕ) (e : ℕ) → length (firsts_with firsts h last e) ≡ length firsts
  length_firsts None e = length-set firsts h (Some e)
  length_firsts (Some last) e = refl

  length_nexts : (last : Option ℕ) (e : ℕ) → length (nexts_with (nexts ++ None ∷ []) last e) ≡ length nexts + 1
  length_nexts None e = length_push nexts None
  length_nexts (Some last) e = length-set (nexts ++ None ∷ []) last (Some e) ∙ length_push nexts None

  pub added : (last : Option ℕ) → h < length firsts → slice_get lasts h ≡ Some last → AreChains (heads ++ h ∷ []) (nexts_with (nexts ++ None ∷ []) last (length heads)) (firsts_with firsts h last (length heads)) (set lasts h (Some (length heads)))
  added last low at =
      let is : IsLast heads h last = chains.last h last at in
      record {
        linked = let a = length_nexts last (length heads) in let b = length_push heads h in let c = chains.linked in omega arith;
        ended = length-set lasts h (Some (length heads)) ∙ chains.ended ∙ sym (length_firsts last (length heads));
        within = λ e j b. let n = length_firsts last (length heads) in elim (new_belongs heads h j e b) [
          | inl old ↦ let w = chains.within e j old in omega arith
          | inr new ↦ let same = new.1 in omega arith
        ];
        first = first_with last is;
        next = next_with last is;
        last = last_with;
      }

  pub added_as : (heads2 : List ℕ) (nexts1 nexts2 nexts3 firsts1 firsts2 firsts3 : List (Option ℕ)) (link m n : ℕ) (last : Option ℕ) → h < length firsts → slice_get lasts h ≡ Some last → heads2 ≡ heads ++ h ∷ [] → nexts1 ≡ nexts ++ None ∷ [] → nexts2 ≡ nexts_with nexts1 last link → firsts1 ≡ firsts → firsts2 ≡ firsts_with firsts1 h last link → link ≡ length heads → m ≡ length nexts1 → n ≡ length firsts → AreChains heads2 (take m (nexts2 ++ nexts3)) (take n (firsts2 ++ firsts3)) (set lasts h (Some link))
  added_as heads2 nexts1 nexts2 nexts3 firsts1 firsts2 firsts3 link m n last low at heads_are nexts1_are nexts_are firsts1_are firsts_are link_is m_is n_is =
      let nexts_are_with : nexts2 ≡ nexts_with (nexts ++ None ∷ []) last (length heads) = nexts_are ∙ ap (λ (l : List (Option ℕ)). nexts_with l last link) nexts1_are ∙ ap (λ (e : ℕ). nexts_with (nexts ++ None ∷ []) last e) link_is in
      let firsts_are_with : firsts2 ≡ firsts_with firsts h last (length heads) = firsts_are ∙ ap (λ (l : List (Option ℕ)). firsts_with l h last link) firsts1_are ∙ ap (λ (e : ℕ). firsts_with firsts h last e) link_is in
      let nexts_long : length nexts2 ≡ m = ap (λ (l : List (Option ℕ)). length l) nexts_are_with ∙ length_nexts last (length heads) ∙ sym (length_push nexts None) ∙ sym (ap (λ (l : List (Option ℕ)). length l) nexts1_are) ∙ sym m_is in
      let firsts_long : length firsts2 ≡ n = ap (λ (l : List (Option ℕ)). length l) firsts_are_with ∙ length_firsts last (length heads) ∙ sym n_is in
      let by_link : AreChains (heads ++ h ∷ []) (nexts_with (nexts ++ None ∷ []) last (length heads)) (firsts_with firsts h last (length heads)) (set lasts h (Some link)) = subst (λ (e : ℕ). AreChains (heads ++ h ∷ []) (nexts_with (nexts ++ None ∷ []) last (length heads)) (firsts_with firsts h last (length heads)) (set lasts h (Some e))) (sym link_is) (added last low at) in
      let by_heads : AreChains heads2 (nexts_with (nexts ++ None ∷ []) last (length heads)) (firsts_with firsts h last (length heads)) (set lasts h (Some link)) = subst (λ (l : List ℕ). AreChains l (nexts_with (nexts ++ None ∷ []) last (length heads)) (firsts_with firsts h last (length heads)) (set lasts h (Some link))) (sym heads_are) by_link in
      let by_nexts : AreChains heads2 (take m (nexts2 ++ nexts3)) (firsts_with firsts h last (length heads)) (set lasts h (Some link)) = subst (λ (l : List (Option ℕ)). AreChains heads2 l (firsts_with firsts h last (length heads)) (set lasts h (Some link))) (sym (take_at nexts2 nexts3 m nexts_long ∙ nexts_are_with)) by_heads in
      subst (λ (l : List (Option ℕ)). AreChains heads2 (take m (nexts2 ++ nexts3)) l (set lasts h (Some link))) (sym (take_at firsts2 firsts3 n firsts_long ∙ firsts_are_with)) by_nexts

  -- the last link of a chain is there
  pub last_there : (last : Option ℕ) → slice_get lasts h ≡ Some last → (e : ℕ) → last ≡ Some e → e < length heads
  last_there None at e is = absurd (none-some e is)
  last_there (Some last) at e is = let b = chains.last h (Some last) at in let same = same_Some last e is in let low = slice_get_within heads last h b.0 in omega arith

-- no links yet
none_there : (k : ℕ) (x : ℕ) → slice_get [] k ≡ Some x → ⊥
none_there k x e = absurd (none-some x e)

none_at : (n j : ℕ) (o : Option ℕ) → slice_get (replicate n None) j ≡ Some o → o ≡ None
none_at zero j o at = absurd (none-some o at)
none_at (suc n) zero o at = sym (same_Some None o at)
none_at (suc n) (suc j) o at = none_at n j o at

pub no_chains : (n : ℕ) → AreChains [] [] (replicate n None) (replicate n None)
no_chains n = record {
  linked = refl;
  ended = refl;
  within = λ e j b. absurd (none_there e j b);
  first = λ j o at. subst (λ (p : Option ℕ). IsFirstFrom (Belongs [] j) 0 p) (sym (none_at n j o at)) (λ k high b. none_there k j b);
  next = λ e j o b at. absurd (none_there e j b);
  last = λ j o at. subst (λ (p : Option ℕ). IsLast [] j p) (sym (none_at n j o at)) (λ k b. none_there k j b);
}
