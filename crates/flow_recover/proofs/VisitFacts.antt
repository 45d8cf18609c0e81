-- What is known of the instructions that control reaches.
use Rattle.std.proofs.Common.{◌≡◌, ◌↔◌, ◌<◌, ◌≤◌, ℕ, ◌+◌, List, [], ◌∷◌, ◌++◌, length, take, get_or, map, refl, sym, ap, ◌∙◌, subst, inl, inr, Option, Some, Ok, Err}
use Rattle.std.specs.Prelude.{Contains, slice_get}
use Rattle.std.proofs.lemmas.List.{take_more, take_all, map-append, length-map}
use Rattle.std.proofs.lemmas.List.Elements.{Contains-push, Contains-push_cases, Contains-append_left}
use Rattle.elf_model.specs.declared.refusals.Spot.{Spot}
use Rattle.elf_model.specs.Objects.{ObjectParts}
use Rattle.elf_model.proofs.Elements.{contains_none, contains_at}
use Rattle.std.specs.Option.{option_map}
use Rattle.std.proofs.lemmas.Option.{slice_get-get_or, slice_get-map}
use Rattle.thumb_instr.specs.declared.instructions.Instr.{Instr}
use Rattle.thumb_instr.specs.declared.refusals.BadInstr.{BadInstr}
use Rattle.code_ranges.specs.Spots.{spot_of}
use Rattle.flow_recover.specs.declared.nodes.Node.{Node}
use Rattle.flow_recover.specs.declared.visits.Visit.{Visit}
use Rattle.flow_recover.specs.Reach.{IsFound, IsReached}
use Rattle.flow_recover.specs.FlowFaults.{IsReachedInstr, refusal_of}
use Rattle.flow_recover.specs.Gains.{Gains, IsFrom}
use Rattle.flow_recover.specs.Charts.{AreNodes}
use Rattle.flow_recover.specs.NodeFaults.{IsBadSpot, IsReachedBad}
use Rattle.flow_recover.specs.Visits.{IsVisit, IsVisitAt, visit_node, AreVisits, AreInOrder, Notes}
use Rattle.flow_recover.specs.Visits.Notes.{good, bad}
use Rattle.flow_recover.proofs.AnswerFacts.{some_is}
use Rattle.flow_recover.proofs.FoundFacts.{found_once}
use Rattle.flow_recover.proofs.GainFacts.{gains_none, gains_one, gains_as}

module _ (o : ObjectParts) where
  -- an instruction is the only one at its node, and no other answer is there
  pub same_instr : (n : Node) (i k : Instr) → IsFound o n (Ok i) → IsFound o n (Ok k) → i ≡ k
  same_instr n i k f g = let e = found_once o n (Ok i) (Ok k) f g in cc

  pub not_both : (n : Node) (i : Instr) (b : BadInstr) → IsFound o n (Ok i) → IsFound o n (Err b) → ⊥
  not_both n i b f g = let e = found_once o n (Ok i) (Err b) f g in cc

  -- the visits of these nodes
  pub record AreRead (nodes : List Node) (visits : List Visit) : Type 0 where
    pub from : (v : Visit) → Contains visits v → Contains nodes v.node
    pub sound : (v : Visit) → Contains visits v → IsVisit o v
    pub whole : (n : Node) (i : Instr) → Contains nodes n → IsFound o n (Ok i) → (v : Visit) × Contains visits v × (v.node ≡ n) × (v.instr ≡ i)
    pub order : ((n : Node) (b : BadInstr) → Contains nodes n → ¬ IsFound o n (Err b)) → map visit_node visits ≡ nodes

  pub read_none : AreRead [] []
  read_none = record { from = λ v h. absurd (contains_none v h); sound = λ v h. absurd (contains_none v h); whole = λ n i h f. absurd (contains_none n h); order = λ ok. refl }

  read_good : (nodes : List Node) (visits : List Visit) (n : Node) (v : Visit) → IsVisitAt o n v → AreRead nodes visits → AreRead (nodes ++ n ∷ []) (visits ++ v ∷ [])
  read_good nodes visits n v at r = record {
    from = λ w h. elim (Contains-push_cases visits v w h) [
      | inl k ↦ Contains-append_left nodes (n ∷ []) w.node (r.from w k)
      | inr e ↦ subst (λ (z : Visit). Contains (nodes ++ n ∷ []) z.node) e (subst (λ (z : Node). Contains (nodes ++ n ∷ []) z) (sym at.node) (Contains-push nodes n))
    ];
    sound = λ w h. elim (Contains-push_cases visits v w h) [ inl k ↦ r.sound w k | inr e ↦ subst (IsVisit o) e at.is ];
    whole = λ m i h f. elim (Contains-push_cases nodes n m h) [
      | inl k ↦ let w = r.whole m i k f in (w.0, Contains-append_left visits (v ∷ []) w.0 w.1, w.2, w.3)
      | inr e ↦ (v, Contains-push visits v, at.node ∙ e, same_instr m v.instr i (subst (λ (z : Node). IsFound o z (Ok v.instr)) (at.node ∙ e) at.is.found) f)
    ];
    order = λ ok. map-append visit_node visits (v ∷ []) ∙ ap (λ (l : List Node). l ++ v.node ∷ []) (r.order (λ m b h. ok m b (Contains-append_left nodes (n ∷ []) m h))) ∙ ap (λ (z : Node). nodes ++ z ∷ []) at.node;
  }

  read_bad : (nodes : List Node) (visits : List Visit) (n : Node) (b : BadInstr) → IsFound o n (Err b) → AreRead nodes visits → AreRead (nodes ++ n ∷ []) visits
  read_bad nodes visits n b found r = record {
    from = λ w h. Contains-append_left nodes (n ∷ []) w.node (r.from w h);
    sound = r.sound;
    whole = λ m i h f. elim (Contains-push_cases nodes n m h) [
      | inl k ↦ r.whole m i k f
      | inr e ↦ absurd (not_both m i b f (subst (λ (z : Node). IsFound o z (Err b)) e found))
    ];
    order = λ ok. absurd (ok n b (Contains-push nodes n) found);
  }

  read_noted : (nodes : List Node) (n : Node) (old new : List Visit) (before after : List Spot) → Notes o n old new before after → AreRead nodes old → AreRead (nodes ++ n ∷ []) new
  read_noted nodes n old new before after (good v at e f) r = subst (AreRead (nodes ++ n ∷ [])) (sym e) (read_good nodes old n v at r)
  read_noted nodes n old new before after (bad b found e f) r = subst (AreRead (nodes ++ n ∷ [])) (sym e) (read_bad nodes old n b found r)

  pub read_more : (nodes : List Node) (i : ℕ) (d : Node) (old new : List Visit) (before after : List Spot) → i < length nodes → Notes o (get_or nodes i d) old new before after → AreRead (take i nodes) old → AreRead (take (i + 1) nodes) new
  read_more nodes i d old new before after low notes r =
      subst (λ (l : List Node). AreRead l new) (sym (take_more nodes i d low)) (read_noted (take i nodes) (get_or nodes i d) old new before after notes r)

  pub read_all : (nodes : List Node) (i : ℕ) (visits : List Visit) → AreNodes o nodes → length nodes ≤ i → AreRead (take i nodes) visits → AreVisits o visits
  read_all nodes i visits are high r =
      let all : AreRead nodes visits = subst (λ (l : List Node). AreRead l visits) (take_all i nodes high) r in
      record { reached = λ v h. (are.exact v.node).0 (all.from v h); sound = all.sound; whole = λ n i r. all.whole n i ((are.exact n).1 r.reached) r.found }

  pub read_ordered : (nodes : List Node) (i : ℕ) (visits : List Visit) → AreNodes o nodes → length nodes ≤ i → AreRead (take i nodes) visits → AreInOrder o nodes visits
  read_ordered nodes i visits are high r =
      let all : AreRead nodes visits = subst (λ (l : List Node). AreRead l visits) (take_all i nodes high) r in
      record { order = λ ok. all.order (λ n b h. ok n b ((are.exact n).0 h)) }

  -- the spots that a node gives
  pub spots_noted : (n : Node) (old new : List Visit) (before after : List Spot) → Notes o n old new before after → Gains (IsBadSpot o n) before after
  spots_noted n old new before after (good v at e f) =
      let found : IsFound o n (Ok v.instr) = subst (λ (z : Node). IsFound o z (Ok v.instr)) at.node at.is.found in
      subst (Gains (IsBadSpot o n) before) (sym f) (gains_none (IsBadSpot o n) before (λ s p. not_both n v.instr p.bad found p.found))
  spots_noted n old new before after (bad b found e f) =
      subst (Gains (IsBadSpot o n) before) (sym f) (gains_one (IsBadSpot o n) before (spot_of (refusal_of b) n.section n.offset) (record { bad = b; found = found; at = refl })
      (λ s p. let same = found_once o n (Err b) (Err p.bad) found p.found in let is : b ≡ p.bad = cc in ap (λ (z : BadInstr). spot_of (refusal_of z) n.section n.offset) is ∙ sym p.at))

  pub all_bad : (nodes : List Node) (before spots : List Spot) → AreNodes o nodes → Gains (IsFrom (IsBadSpot o) nodes) before spots → Gains (IsReachedBad o) before spots
  all_bad nodes before spots are g = gains_as (IsFrom (IsBadSpot o) nodes) (IsReachedBad o) before spots (λ s. (
    λ f. record { node = f.source; reached = (are.exact f.source).0 f.there; bad = f.gives },
    λ b. record { source = b.node; there = (are.exact b.node).1 b.reached; gives = b.bad },
  )) g

  -- a visit's instruction is the only one
  pub visit_instrs : (v : Visit) → IsVisit o v → (i : Instr) → (Some v.instr ≡ Some i) ↔ IsFound o v.node (Ok i)
  visit_instrs v is = some_is (λ i. IsFound o v.node (Ok i)) v.instr is.found (λ i f. same_instr v.node v.instr i is.found f)

  -- one of them, in a loop
  pub visit_item : (visits : List Visit) → AreVisits o visits → (i : ℕ) (v : Visit) → i < length visits → v ≡ get_or visits i v → IsReached o v.node × IsVisit o v
  visit_item visits are i v low is =
      let there : Contains visits v = contains_at visits i v (slice_get-get_or visits i v low ∙ ap (λ (z : Visit). Some z) (sym is)) in
      (are.reached v there, are.sound v there)

  -- what holds of a reached instruction holds of its visit
  pub visited : (visits : List Visit) (P : Node → Instr → Type 0) (n : Node) (i : Instr) → AreVisits o visits → IsReachedInstr o n i → P n i → (v : Visit) × Contains visits v × (v.node ≡ n) × P v.node v.instr
  visited visits P n i are r p =
      let w = are.whole n i r in
      (w.0, w.1, w.2, subst (λ (z : Node). P z w.0.instr) (sym w.2) (subst (P n) (sym w.3) p))

-- the node of a visit stands where the visit stands
pub node_item : (nodes : List Node) (visits : List Visit) → map visit_node visits ≡ nodes → (i : ℕ) (v : Visit) → i < length visits → v ≡ get_or visits i v → slice_get nodes i ≡ Some v.node
node_item nodes visits e i v low is =
    ap (λ (l : List Node). slice_get l i) (sym e) ∙ slice_get-map visit_node visits i ∙ ap (λ (z : Option Visit). option_map visit_node z) (slice_get-get_or visits i v low ∙ ap (λ (z : Visit). Some z) (sym is))

pub same_length : (nodes : List Node) (visits : List Visit) → map visit_node visits ≡ nodes → length visits ≡ length nodes
same_length nodes visits e = sym (length-map visits visit_node) ∙ ap (λ (l : List Node). length l) e
