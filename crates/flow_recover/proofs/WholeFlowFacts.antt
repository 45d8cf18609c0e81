-- The parts of a flow make it whole.
use Rattle.std.proofs.Common.{◌≡◌, ◌↔◌, ◌<◌, ◌≤◌, ℕ, ◌^◌, Bool, true, false, List, [], ◌∷◌, length, Ok, map, refl, sym, ap, ◌∙◌, subst, arith, Option, Some, None}
use Rattle.std.specs.Prelude.{IsTrue, Contains, slice_get}
use Rattle.std.specs.List.Sorted.{IsStrictlySortedBy}
use Rattle.std.proofs.lemmas.List.Elements.{All-contains}
use Rattle.elf_model.specs.declared.refusals.Spot.{Spot}
use Rattle.elf_model.specs.Objects.{ObjectParts, is_object, is_within, code_size}
use Rattle.thumb_instr.specs.declared.instructions.Instr.TheVariants as instr
use Rattle.flow_recover.specs.declared.named.Claim.{Claim}
use Rattle.flow_recover.specs.declared.nodes.Node.{Node}
use Rattle.flow_recover.specs.declared.flows.Point.{Point}
use Rattle.flow_recover.specs.declared.flows.PoolWord.{PoolWord}
use Rattle.code_ranges.specs.declared.ranges.Range.{Range}
use Rattle.flow_recover.specs.Flows.{FlowParts}
use Rattle.code_ranges.specs.CodeRanges.{comes_before, AreRanges}
use Rattle.code_ranges.specs.Spans.{place_cmp}
use Rattle.code_ranges.specs.Spots.{spot_of, IsFirst}
use Rattle.flow_recover.specs.Reach.{IsFound, node_at}
use Rattle.flow_recover.specs.FlowFaults.{IsLaterRefusal}
use Rattle.flow_recover.specs.WholeFlows.{IsPoint, IsPoolWord, IsEntry, place_of_node, place_of_word, IsFlow}
use Rattle.reloc_places.specs.Tables.{AreStarts}
use Rattle.flow_recover.specs.Charts.{AreNamed, AreNodes, AreFaults}
use Rattle.flow_recover.specs.Settled.{IsFaultless, IsLoadedPlace, ArePlaces, ArePointsOf, word_at, AreEntries}
use Rattle.elf_model.proofs.Elements.{contains_map, contains_none, map_contains}
use Rattle.reloc_places.proofs.StartFacts.{any_limit, code_within}
use Rattle.flow_recover.proofs.NodePlaces.{places_rise}
use Rattle.flow_recover.proofs.OneState.{one_state}
use Rattle.flow_recover.proofs.PointCount.{few_nodes}
use Rattle.flow_recover.proofs.PointFacts.{reached_starts, entry_reached}

module _ (o : ObjectParts) (nodes : List Node) (are : AreNodes o nodes) (faultless : IsFaultless o) where
  -- the nodes rise by their places
  pub nodes_rise : IsStrictlySortedBy place_cmp (map place_of_node nodes)
  nodes_rise = places_rise nodes are.order (λ a b x y e f. one_state o faultless a b ((are.exact a).0 x) ((are.exact b).0 y) e f)

  pub nodes_few : is_object o ≡ true → IsTrue (is_within o any_limit) → length nodes ≤ code_size o.sections
  nodes_few sound within = few_nodes o nodes sound within nodes_rise (λ n h. reached_starts o n ((are.exact n).0 h))

  pub nodes_below : is_object o ≡ true → IsTrue (is_within o any_limit) → length nodes < 2 ^ 32
  nodes_below sound within = let few = nodes_few sound within in let small = code_within o within in omega arith

-- a place is one of a word that a reached load names exactly where its word is
word_is : (o : ObjectParts) (places : List (ℕ × ℕ)) → ArePlaces o places → (w : PoolWord) → Contains (map (word_at o) places) w ↔ IsPoolWord o w
word_is o places are w = (
  (λ h. let p = contains_map (word_at o) places w h in
      let l : IsLoadedPlace o p.0 = (are.exact p.0).0 p.1 in
      subst (λ (z : PoolWord). IsPoolWord o z) p.2 (from p.0 l)),
  (λ p.
      let at : ℕ × ℕ = (w.section, w.offset) in
      let l : IsLoadedPlace o at = record {
        node = p.node;
        reached = p.loads.reached;
        load = record { instr = instr.Literal p.literal; found = p.loads.found; names = record { literal = p.literal; is = refl; section = p.section; offset = p.offset } };
      } in
      let same : word_at o at ≡ w = ap (λ r. let z : PoolWord = record { section = w.section; offset = w.offset; reloc = r } in z) (sym p.reloc) in
      subst (λ (z : PoolWord). Contains (map (word_at o) places) z) same (map_contains (word_at o) places at ((are.exact at).1 l))),
)
  where
    from : (p : ℕ × ℕ) → IsLoadedPlace o p → IsPoolWord o (word_at o p)
    from p l = record {
      node = l.node;
      literal = l.load.names.literal;
      loads = record { reached = l.reached; found = subst (λ i. IsFound o l.node (Ok i)) l.load.names.is l.load.found };
      section = l.load.names.section;
      offset = l.load.names.offset;
      reloc = refl;
    }

words_places : (o : ObjectParts) (places : List (ℕ × ℕ)) → map place_of_word (map (word_at o) places) ≡ places
words_places o [] = refl
words_places o (p ∷ rest) = ap (λ (l : List (ℕ × ℕ)). p ∷ l) (words_places o rest)

flow_is : (o : ObjectParts) (end_at : ℕ → ℕ → Option ℕ) (nodes : List Node) (places : List (ℕ × ℕ)) (f : FlowParts) (is_in : ℕ → ℕ → Bool) → AreStarts o end_at → is_object o ≡ true → IsTrue (is_within o any_limit) → AreNodes o nodes → IsFaultless o → ArePlaces o places
    → ArePointsOf o nodes (map (word_at o) places) f.points → f.words ≡ map (word_at o) places → ((j x : ℕ) → (is_in j x ≡ true) ↔ IsEntry o j x) → AreEntries is_in nodes f.entries → AreRanges o f.ranges → IsFlow o f
flow_is o end_at nodes places f is_in starts sound within are faultless words points same entered entries ranges = record {
  nodes = nodes;
  reached = are.exact;
  order = nodes_rise o nodes are faultless;
  count = points.count;
  few = let few = nodes_few o nodes are faultless sound within in let e = points.count in omega arith;
  points = subst (λ (l : List PoolWord). (k : ℕ) (n : Node) (p : Point) → slice_get nodes k ≡ Some n → slice_get f.points k ≡ Some p → IsPoint o nodes l n p) (sym same) points.each;
  words = subst (λ (l : List PoolWord). (w : PoolWord) → Contains l w ↔ IsPoolWord o w) (sym same) (word_is o places words);
  words_order = subst (λ (l : List PoolWord). IsStrictlySortedBy place_cmp (map place_of_word l)) (sym same) (subst (λ (l : List (ℕ × ℕ)). IsStrictlySortedBy place_cmp l) (sym (words_places o places)) words.order);
  entries = λ q. (
    (λ h.
        let e = (entries.exact q).0 h in
        (e.1.1.section, e.1.1.offset, ((entered e.1.1.section e.1.1.offset).0 e.1.1.entered, e.1.0 ∙ ap (λ (n : Node). Some n) e.1.1.is))),
    (λ h.
        (entries.exact q).1 (node_at h.0 h.1, (h.2.1, record { section = h.0; offset = h.1; entered = (entered h.0 h.1).1 h.2.0; is = refl }))),
  );
  entries_order = entries.order;
  entered = λ j x e. (are.exact (node_at j x)).1 (entry_reached o faultless end_at starts j x e);
  ranges = ranges;
  no_fault = faultless;
}

-- the same of parts that are known under other names
pub flow_made : (o : ObjectParts) (end_at : ℕ → ℕ → Option ℕ) (nodes : List Node) (places one two : List (ℕ × ℕ)) (points : List Point) (words : List PoolWord) (entries : List ℕ) (ranges : List Range) (f : FlowParts) (is_in : ℕ → ℕ → Bool) → AreStarts o end_at → is_object o ≡ true
    → IsTrue (is_within o any_limit) → AreNodes o nodes → IsFaultless o → ArePlaces o places → one ≡ places → two ≡ places → words ≡ map (word_at o) one → ArePointsOf o nodes (map (word_at o) two) points
    → ((j x : ℕ) → (is_in j x ≡ true) ↔ IsEntry o j x) → AreEntries is_in nodes entries → AreRanges o ranges → f ≡ record { points = points; words = words; entries = entries; ranges = ranges } → IsFlow o f
flow_made o end_at nodes places one two points words entries ranges f is_in starts sound within are faultless loaded first second same each entered indexes spans e =
    let made : FlowParts = record { points = points; words = words; entries = entries; ranges = ranges } in
    subst (λ (g : FlowParts). IsFlow o g) (sym e)
    (flow_is o end_at nodes places made is_in starts sound within are faultless loaded (subst (λ (l : List (ℕ × ℕ)). ArePointsOf o nodes (map (word_at o) l) points) second each)
    (same ∙ ap (λ (l : List (ℕ × ℕ)). map (word_at o) l) first) entered indexes spans)

-- no spot, no fault
pub faultless_from : (o : ObjectParts) (spots list : List Spot) → AreFaults o spots → list ≡ spots → IsFirst list None → IsFaultless o
faultless_from o spots list faults e none r section offset f = contains_none (spot_of r section offset) (subst (λ (l : List Spot). Contains l (spot_of r section offset)) (sym e ∙ none) (faults.whole r section offset f))

-- the first spot is where the first fault is
pub refusal_from : (o : ObjectParts) (ranges : List Range) (spots list : List Spot) (spot : Spot) → AreRanges o ranges → AreFaults o spots → list ≡ spots → IsFirst list (Some spot) → IsLaterRefusal o spot
refusal_from o ranges spots list spot spans faults e first =
    let fault = faults.sound spot (subst (λ (l : List Spot). Contains l spot) e first.0) in
    record {
      ranges = spans.sound;
      flow = record {
        fault = fault.0;
        file = fault.1;
        first = λ r section offset f. All-contains (λ (s : Spot). comes_before s.refusal s.section s.offset spot ≡ false) list (spot_of r section offset) first.1 (subst (λ (l : List Spot). Contains l (spot_of r section offset)) (sym e) (faults.whole r section offset f));
      };
    }

pub named_from : (o : ObjectParts) (claims list : List Claim) → AreNamed o claims → list ≡ claims → AreNamed o list
named_from o claims list are e = subst (λ (l : List Claim). AreNamed o l) (sym e) are
