-- The words that reached literal loads name.
use Rattle.std.proofs.Common.{◌≡◌, ◌↔◌, ◌<◌, ℕ, ◌+◌, true, List, [], ◌∷◌, ◌++◌, map, take, get_or, sym, ap, ◌∙◌, subst, inl, inr, Option, Some, None, Ok, length}
use Rattle.std.specs.Prelude.{Contains}
use Rattle.std.specs.BTreeSet.{BTreeSet, contains, IsOrdered}
use Rattle.std.specs.List.Sorted.{IsStrictlySortedBy}
use Rattle.std.proofs.lemmas.List.{take_more, map-append}
use Rattle.std.proofs.lemmas.Map.Views.{btree_set_contains_iff}
use Rattle.std.proofs.lemmas.Option.{none-some, same_Some}
use Rattle.elf_model.specs.Objects.{ObjectParts}
use Rattle.thumb_instr.specs.declared.instructions.Instr.{Instr}
use Rattle.flow_recover.specs.declared.nodes.Node.{Node}
use Rattle.flow_recover.specs.declared.visits.Visit.{Visit}
use Rattle.flow_recover.specs.Reach.{IsFound}
use Rattle.flow_recover.specs.Visits.{AreVisits}
use Rattle.flow_recover.specs.Gains.{has_place, PlacesGain, IsFrom}
use Rattle.flow_recover.proofs.AnswerFacts.{this_of, one_of}
use Rattle.flow_recover.proofs.GainFacts.{gain_none, gain_same}
use Rattle.flow_recover.specs.Settled.{IsNamedBy, IsLoad, IsLoadedPlace, ArePlaces}
use Rattle.code_ranges.specs.Spans.{place_cmp}
use Rattle.code_ranges.proofs.PlaceOrder.{place_total, place_exact}
use Rattle.flow_recover.proofs.VisitFacts.{visited}

-- a load is what stands at a node and names a place
pub load_from : (o : ObjectParts) (n : Node) (i : Instr) (r : Option (ℕ × ℕ)) → ((k : Instr) → (Some i ≡ Some k) ↔ IsFound o n (Ok k)) → ((p : ℕ × ℕ) → (r ≡ Some p) ↔ IsNamedBy n i p) → (p : ℕ × ℕ) → (r ≡ Some p) ↔ IsLoad o n p
load_from o n i r found named p = (
  λ h. record { instr = i; found = this_of (λ k. IsFound o n (Ok k)) i found; names = (named p).0 h },
  λ l. (named p).1 (subst (λ (k : Instr). IsNamedBy n k p) (sym (one_of (λ k. IsFound o n (Ok k)) i found l.instr l.found)) l.names),
)

-- the places that a node's load gives
pub with_place : (o : ObjectParts) (n : Node) (q : ℕ × ℕ) (old new : BTreeSet (ℕ × ℕ)) → ((p : ℕ × ℕ) → (Some q ≡ Some p) ↔ IsLoad o n p) → PlacesGain (λ j x. (q.0 ≡ j) × (q.1 ≡ x)) old new → PlacesGain (λ j x. IsLoad o n (j, x)) old new
with_place o n q old new load more j x = gain_same (has_place new j x ≡ true) (has_place old j x ≡ true) ((q.0 ≡ j) × (q.1 ≡ x)) (IsLoad o n (j, x))
    (λ e. (load (j, x)).0 (ap (λ (k : ℕ). Some (k, q.1)) e.0 ∙ ap (λ (k : ℕ). Some (j, k)) e.1))
    (λ l. let same : q ≡ (j, x) = same_Some q (j, x) ((load (j, x)).1 l) in (ap (λ (z : ℕ × ℕ). z.0) same, ap (λ (z : ℕ × ℕ). z.1) same))
    (more j x)

pub without_place : (o : ObjectParts) (n : Node) (places : BTreeSet (ℕ × ℕ)) → ((p : ℕ × ℕ) → (None ≡ Some p) ↔ IsLoad o n p) → PlacesGain (λ j x. IsLoad o n (j, x)) places places
without_place o n places none j x = gain_none (has_place places j x ≡ true) (IsLoad o n (j, x)) (λ l. none-some (j, x) ((none (j, x)).1 l))

-- after the last one they are all
pub all_loaded : (o : ObjectParts) (visits : List Visit) (none all : BTreeSet (ℕ × ℕ)) → AreVisits o visits → ((j x : ℕ) → has_place none j x ≡ true → ⊥) → PlacesGain (λ j x. IsFrom (λ (v : Visit). IsLoad o v.node) visits (j, x)) none all
    → (p : ℕ × ℕ) → (contains place_cmp all p ≡ true) ↔ IsLoadedPlace o p
all_loaded o visits none all seen empty g p = (
  λ h. elim ((g p.0 p.1).0 h) [
    | inl n ↦ absurd (empty p.0 p.1 n)
    | inr f ↦ let v : Visit = f.source in record { node = v.node; reached = seen.reached v f.there; load = f.gives }
  ],
  λ l.
      let w = visited o visits (λ n k. IsLoad o n p) l.node l.load.instr seen (record { reached = l.reached; found = l.load.found }) l.load in
      (g p.0 p.1).1 (inr (record { source = w.0; there = w.1; gives = w.3 })),
)

-- the words at one place more
pub map_more : {X Y : Type 0} (f : X → Y) (xs : List X) (i : ℕ) (d : X) (old new : List Y) (y : Y) → old ≡ map f (take i xs) → i < length xs → y ≡ f (get_or xs i d) → new ≡ old ++ y ∷ [] → new ≡ map f (take (i + 1) xs)
map_more {X} {Y} f xs i d old new y e l is n =
    n ∙ ap (λ (z : List Y). z ++ y ∷ []) e ∙ ap (λ (z : Y). map f (take i xs) ++ z ∷ []) is ∙ sym (map-append f (take i xs) (get_or xs i d ∷ [])) ∙ ap (λ (z : List X). map f z) (sym (take_more xs i d l))

-- the places in a set, listed in order
pub places_listed : (o : ObjectParts) (s : BTreeSet (ℕ × ℕ)) (list : List (ℕ × ℕ)) → ((p : ℕ × ℕ) → (contains place_cmp s p ≡ true) ↔ IsLoadedPlace o p) → IsOrdered place_cmp s → list ≡ s.keys → ArePlaces o list
places_listed o s list exact order e = record {
  exact = λ p. let c = btree_set_contains_iff place_total place_exact s p in
      ((λ h. (exact p).0 (c.1 (subst (λ (l : List (ℕ × ℕ)). Contains l p) e h))), (λ l. subst (λ (l : List (ℕ × ℕ)). Contains l p) (sym e) (c.0 ((exact p).1 l))));
  order = subst (λ (l : List (ℕ × ℕ)). IsStrictlySortedBy place_cmp l) (sym e) order;
}
