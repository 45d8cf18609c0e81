-- Words by their places, places that relocations turn to, and targets.
use Rattle.std.proofs.Common.{◌≡◌, ◌↔◌, ℕ, Bool, true, false, cond, List, [], ◌∷◌, map, refl, sym, ap, ◌∙◌, subst, inl, inr, Option, Some, None, Result, length}
use Rattle.std.specs.Prelude.{Contains, slice_get}
use Rattle.std.specs.BTreeSet.{BTreeSet, contains, IsOrdered}
use Rattle.std.specs.List.Sorted.{IsStrictlySortedBy, IsBinarySearchResult, IsSearchInRange}
use Rattle.std.specs.Result.{result_ok}
use Rattle.std.proofs.lemmas.Map.Views.{btree_set_contains_iff}
use Rattle.std.proofs.lemmas.Option.{none-some, same_Some}
use Rattle.elf_model.specs.declared.objects.Symbol.{Symbol}
use Rattle.elf_model.specs.declared.objects.Reloc.{Reloc}
use Rattle.elf_model.specs.declared.objects.Home.{Home}
use Rattle.elf_model.specs.declared.objects.Home.TheVariants as homes
use Rattle.elf_model.specs.Objects.{ObjectParts, is_object}
use Rattle.elf_model.proofs.Elements.{contains_at, place_of, contains_map, map_contains}
use Rattle.code_ranges.specs.Spans.{place_cmp}
use Rattle.code_ranges.proofs.PlaceOrder.{place_total, place_exact}
use Rattle.flow_recover.specs.declared.flows.PoolWord.{PoolWord}
use Rattle.flow_recover.specs.Flows.{FlowParts}
use Rattle.flow_recover.specs.Gains.{has_place, PlacesGain, IsFrom}
use Rattle.flow_recover.specs.WholeFlows.{place_of_word, IsFlow}
use Rattle.flow_recover.proofs.GainFacts.{gain_none, gain_same}
use Rattle.flow_recover.proofs.Searches.{searched_by_key}
use Rattle.hardened_form.specs.Turns.{Target, is_turned, old_target, IsTarget, IsTurnedTo, place_of_target, AreTargets}
use Rattle.emit_object.specs.Lasting.{HasWordAt}
use Rattle.emit_object.specs.TurnedPlaces.{place_in, place_by, turned_place}
use Rattle.emit_object.specs.TargetPlaces.{Gives, target_at}
use Rattle.emit_object.proofs.FlowGives.{lasting_stays, stays_lasting}

-- the places that one answer gives
pub with_answer : (P : ℕ × ℕ → Type 0) (q : ℕ × ℕ) (old new : BTreeSet (ℕ × ℕ)) → ((p : ℕ × ℕ) → (Some q ≡ Some p) ↔ P p) → PlacesGain (λ j x. (q.0 ≡ j) × (q.1 ≡ x)) old new → PlacesGain (λ j x. P (j, x)) old new
with_answer P q old new is more j x = gain_same (has_place new j x ≡ true) (has_place old j x ≡ true) ((q.0 ≡ j) × (q.1 ≡ x)) (P (j, x))
    (λ e. (is (j, x)).0 (ap (λ (k : ℕ). Some (k, q.1)) e.0 ∙ ap (λ (k : ℕ). Some (j, k)) e.1))
    (λ l. let same : q ≡ (j, x) = same_Some q (j, x) ((is (j, x)).1 l) in (ap (λ (z : ℕ × ℕ). z.0) same, ap (λ (z : ℕ × ℕ). z.1) same))
    (more j x)

pub with_none : (P : ℕ × ℕ → Type 0) (places : BTreeSet (ℕ × ℕ)) → ((p : ℕ × ℕ) → (None ≡ Some p) ↔ P p) → PlacesGain (λ j x. P (j, x)) places places
with_none P places none j x = gain_none (has_place places j x ≡ true) (P (j, x)) (λ l. none-some (j, x) ((none (j, x)).1 l))

-- a set that began empty has what it gained
pub gained : (P : ℕ × ℕ → Type 0) (none all : BTreeSet (ℕ × ℕ)) → ((j x : ℕ) → has_place none j x ≡ true → ⊥) → PlacesGain (λ j x. P (j, x)) none all → (p : ℕ × ℕ) → (contains place_cmp all p ≡ true) ↔ P p
gained P none all empty g p = (
  λ h. elim ((g p.0 p.1).0 h) [ inl n ↦ absurd (empty p.0 p.1 n) | inr f ↦ f ],
  λ h. (g p.0 p.1).1 (inr h),
)

-- what a search among words finds
pub searched_word : (f : FlowParts) (words : List PoolWord) (j x : ℕ) → IsStrictlySortedBy place_cmp (map place_of_word f.words) → words ≡ f.words → (r : Result ℕ ℕ) → IsSearchInRange r (length words)
    → IsBinarySearchResult (λ w. place_cmp (place_of_word w) (j, x)) words r → (q : ℕ) → (result_ok r ≡ Some q) ↔ ((w : PoolWord) × (slice_get words q ≡ Some w) × (place_of_word w ≡ (j, x)))
searched_word f words j x rise e r range found q =
    searched_by_key place_total place_exact place_of_word (j, x) words (subst (λ (l : List PoolWord). IsStrictlySortedBy place_cmp (map place_of_word l)) (sym e) rise) r range found q

module _ (f : FlowParts) (words : List PoolWord) (j x : ℕ) (e : words ≡ f.words) where
  pub word_found : (q : ℕ) → ((w : PoolWord) × (slice_get words q ≡ Some w) × (place_of_word w ≡ (j, x))) → HasWordAt f j x
  word_found q (w, at, same) = record {
    word = w;
    there = subst (λ (l : List PoolWord). Contains l w) e (contains_at words q w at);
    section = ap (λ (k : ℕ × ℕ). k.0) same;
    offset = ap (λ (k : ℕ × ℕ). k.1) same;
  }

  pub no_word : (r : Result ℕ ℕ) → ((q : ℕ) → (result_ok r ≡ Some q) ↔ ((w : PoolWord) × (slice_get words q ≡ Some w) × (place_of_word w ≡ (j, x)))) → result_ok r ≡ None → HasWordAt f j x → ⊥
  no_word r is none h =
      let at = place_of words h.word (subst (λ (l : List PoolWord). Contains l h.word) (sym e) h.there) in
      none-some at.0 (sym none ∙ (is at.0).1 (h.word, at.1, λ i. (h.section i, h.offset i)))

-- the place that a relocation turns to is its target's
module _ (o : ObjectParts) (r : Reloc) where
  at_home : (s : Symbol) (t : Target) (home : Home) → place_in o r s home ≡ Some (t.section, t.old) → (home ≡ homes.Section t.section) × (t.old ≡ old_target o r s)
  at_home s t homes.Undefined e = absurd (none-some (t.section, t.old) e)
  at_home s t homes.Absolute e = absurd (none-some (t.section, t.old) e)
  at_home s t (homes.Section j) e =
      let same : (j, old_target o r s) ≡ (t.section, t.old) = same_Some (j, old_target o r s) (t.section, t.old) e in
      (ap (λ (k : ℕ × ℕ). homes.Section k.0) same, sym (ap (λ (k : ℕ × ℕ). k.1) same))

  place_is : (s : Option Symbol) (t : Target) → slice_get o.symbols r.symbol ≡ s → place_by o r s ≡ Some (t.section, t.old) → IsTarget o r t
  place_is None t names e = absurd (none-some (t.section, t.old) e)
  place_is (Some s) t names e = let h = at_home s t s.home e in record { symbol = s; names = names; home = h.0; old = h.1 }

  is_place : (t : Target) → IsTarget o r t → place_by o r (slice_get o.symbols r.symbol) ≡ Some (t.section, t.old)
  is_place t h =
      ap (place_by o r) h.names ∙ ap (place_in o r h.symbol) h.home ∙ ap (λ (k : ℕ). Some (t.section, k)) (sym h.old)

  turned_is : (b : Bool) → is_turned o r ≡ b → (t : Target) → cond b (place_by o r (slice_get o.symbols r.symbol)) None ≡ Some (t.section, t.old) → (is_turned o r ≡ true) × IsTarget o r t
  turned_is true e t h = (e, place_is (slice_get o.symbols r.symbol) t refl h)
  turned_is false e t h = absurd (none-some (t.section, t.old) h)

  pub turned_to : (t : Target) → (turned_place o r ≡ Some (t.section, t.old)) ↔ ((is_turned o r ≡ true) × IsTarget o r t)
  turned_to t = (
    λ h. turned_is (is_turned o r) refl t h,
    λ (e, h). ap (λ (b : Bool). cond b (place_by o r (slice_get o.symbols r.symbol)) None) e ∙ is_place t h,
  )

-- the listed places are the targets
module _ (o : ObjectParts) (f : FlowParts) (sound : is_object o ≡ true) (flow : IsFlow o f) where
  given_target : (t : Target) → IsFrom (Gives o f) o.relocs (t.section, t.old) → IsTurnedTo o f t
  given_target t g =
      let at = place_of o.relocs g.source g.there in
      let h = (turned_to o g.source t).0 g.gives.turned in
      record { number = at.0; reloc = g.source; there = at.1; stays = lasting_stays o f sound flow at.0 g.source at.1 g.gives.lasts; turned = h.0; target = h.1 }

  target_given : (t : Target) → IsTurnedTo o f t → IsFrom (Gives o f) o.relocs (t.section, t.old)
  target_given t h = record {
    source = h.reloc;
    there = contains_at o.relocs h.number h.reloc h.there;
    gives = record { lasts = stays_lasting o f sound flow h.number h.reloc h.there h.stays; turned = (turned_to o h.reloc t).1 (h.turned, h.target) };
  }

  same_places : (list : List (ℕ × ℕ)) → map place_of_target (map target_at list) ≡ list
  same_places [] = refl
  same_places (p ∷ list) = ap (λ (l : List (ℕ × ℕ)). p ∷ l) (same_places list)

  pub are_targets : (s : BTreeSet (ℕ × ℕ)) (list : List (ℕ × ℕ)) → ((p : ℕ × ℕ) → (contains place_cmp s p ≡ true) ↔ IsFrom (Gives o f) o.relocs p) → IsOrdered place_cmp s → list ≡ s.keys → AreTargets o f (map target_at list)
  are_targets s list exact order e = record {
    exact = λ t. (
      (λ h.
          let p = contains_map target_at list t h in
          let c = btree_set_contains_iff place_total place_exact s p.0 in
          let here = subst (λ (l : List (ℕ × ℕ)). Contains l p.0) e p.1 in
          subst (λ (t : Target). IsTurnedTo o f t) p.2 (given_target (target_at p.0) ((exact p.0).0 (c.1 here)))),
      (λ h.
          let p : ℕ × ℕ = (t.section, t.old) in
          let c = btree_set_contains_iff place_total place_exact s p in
          map_contains target_at list p (subst (λ (l : List (ℕ × ℕ)). Contains l p) (sym e) (c.0 ((exact p).1 (target_given t h))))),
    );
    rise = subst (λ (l : List (ℕ × ℕ)). IsStrictlySortedBy place_cmp l) (sym (same_places list ∙ e)) order;
  }
