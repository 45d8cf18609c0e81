use Rattle.std.proofs.Common.{◌≡◌, ◌∙◌, ℕ, List, ap, arith, length, vec_len}
use Rattle.std.specs.List.{list_any}
use Rattle.std.specs.BTreeMap.{is_at, keys}
use Rattle.index_links.specs.Queues.{PendingParts}
use Rattle.flow_recover.specs.Charts.{node_cmp}
use Rattle.flow_recover.proofs.WalkFacts.{places_few, first_walk}
use Rattle.flow_recover.proofs.walks.new_walk.Goals as goal

pub overflow_cast-len : goal.overflow_cast-len
overflow_cast-len c =
    let few = places_few c.args.o.now c.args.chart.now.starts c.requires.chart.starts c.start_places.ensures.ordered c.sound.ensures c.requires.within in
    let same : length c.in_ok-places.places.items ≡ length (keys c.args.chart.now.starts) = ap (λ (l : List (ℕ × ℕ)). length l) c.in_ok-places.ensures.places in
    let len = c.len-2.ensures in
    omega arith

pub returns : goal.returns
returns c =
    let long : vec_len c.in_ok-places.places ≡ length c.in_ok-places.places.items = omega arith in
    first_walk c.args.o.now c.args.chart.now.starts c.requires.chart.starts c.start_places.ensures.ordered c.sound.ensures c.requires.within
    (record { places = c.in_ok-places.places; come = c.in_ok-come.come; pending = c.in_ok-pending.pending; nodes = c.new-nodes.result }) c.len.result c.in_ok-places.ensures.places (c.in_ok-come.ensures.items_if_clones_equal (λ y h. h)) (c.len.ensures ∙ long)
    (ap (λ (p : PendingParts). p.waiting) c.in_ok-pending.ensures) (ap (λ (p : PendingParts). p.size) c.in_ok-pending.ensures ∙ c.len-2.ensures ∙ long) (λ n. ap (list_any (is_at (node_cmp n))) c.new-nodes.ensures.empty)
