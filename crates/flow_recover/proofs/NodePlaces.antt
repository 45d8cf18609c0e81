-- Where each start has one state, the nodes rise by their places alone.
use Rattle.std.proofs.Common.{◌≡◌, ◌<◌, ℕ, ◌+◌, List, refl, sym, ap, ◌∙◌, arith, map, length, get_or}
use Rattle.std.specs.Prelude.{Contains}
use Rattle.std.specs.declared.cmp.Ordering.{Ordering}
use Rattle.std.specs.declared.cmp.Ordering.TheVariants.{Less, Equal, Greater}
use Rattle.std.specs.Ordering.{nat_cmp, ordering_then}
use Rattle.std.specs.List.Sorted.{IsStrictlySortedBy}
use Rattle.std.proofs.lemmas.Cmp.{ranked}
use Rattle.std.proofs.Math.ListN.{get_or-map}
use Rattle.std.proofs.lemmas.List.{length-map}
use Rattle.std.proofs.lemmas.List.Elements.{Contains-get_or}
use Rattle.std.proofs.lemmas.Map.Keys.{Less-from_sorted, sorted_from_all_adjacent}
use Rattle.flow_recover.specs.declared.nodes.Node.{Node}
use Rattle.code_ranges.specs.Spans.{place_cmp}
use Rattle.flow_recover.specs.Charts.{node_cmp}
use Rattle.flow_recover.specs.WholeFlows.{place_of_node}
use Rattle.code_ranges.proofs.PlaceOrder.{place_total}

-- of two nodes in order that differ in state only where they differ in place, the places are in order
lower_place : (a b : Node) → node_cmp a b ≡ Less → (a.section ≡ b.section → a.offset ≡ b.offset → a.it ≡ b.it) → place_cmp (place_of_node a) (place_of_node b) ≡ Less
lower_place a b h once = go (nat_cmp a.section b.section) refl (nat_cmp a.offset b.offset) refl h
  where
    go : (s : Ordering) → nat_cmp a.section b.section ≡ s → (t : Ordering) → nat_cmp a.offset b.offset ≡ t → ordering_then s (ordering_then t (nat_cmp a.it b.it)) ≡ Less → ordering_then s t ≡ Less
    go Less e t f h = refl
    go Greater e t f h = absurd (cc)
    go Equal e Less f h = refl
    go Equal e Greater f h = absurd (cc)
    go Equal e Equal f h =
        let same : a.it ≡ b.it = once (ranked a.section b.section Equal (sym e)) (ranked a.offset b.offset Equal (sym f)) in
        let less : a.it < b.it = ranked a.it b.it Less (sym h) in
        absurd (omega arith)

abbrev nowhere : Node
nowhere = record { section = 0; offset = 0; it = 0 }

pub places_rise : (nodes : List Node) → IsStrictlySortedBy node_cmp nodes
    → ((a b : Node) → Contains nodes a → Contains nodes b → a.section ≡ b.section → a.offset ≡ b.offset → a.it ≡ b.it) → IsStrictlySortedBy place_cmp (map place_of_node nodes)
places_rise nodes order once = sorted_from_all_adjacent place_total (map place_of_node nodes) (place_of_node nowhere) next
  where
    next : (k : ℕ) → k + 1 < length (map place_of_node nodes) → place_cmp (get_or (map place_of_node nodes) k (place_of_node nowhere)) (get_or (map place_of_node nodes) (k + 1) (place_of_node nowhere)) ≡ Less
    next k l =
        let many : length (map place_of_node nodes) ≡ length nodes = length-map nodes place_of_node in
        let a : Node = get_or nodes k nowhere in
        let b : Node = get_or nodes (k + 1) nowhere in
        let less : node_cmp a b ≡ Less = Less-from_sorted node_cmp nodes k (k + 1) nowhere order (omega arith) (omega arith) in
        ap (λ (p : ℕ × ℕ). place_cmp p (get_or (map place_of_node nodes) (k + 1) (place_of_node nowhere))) (get_or-map place_of_node nodes k nowhere)
        ∙ ap (λ (p : ℕ × ℕ). place_cmp (place_of_node a) p) (get_or-map place_of_node nodes (k + 1) nowhere)
        ∙ lower_place a b less (once a b (Contains-get_or nodes k nowhere (omega arith)) (Contains-get_or nodes (k + 1) nowhere (omega arith)))
