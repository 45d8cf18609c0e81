use Rattle.std.proofs.Common.{arith}
use Rattle.std.specs.BTreeMap.{get}
use Rattle.std.specs.BTreeSet.{contains}
use Rattle.code_ranges.specs.Spans.{place_cmp}
use Rattle.flow_recover.proofs.WholeFlowFacts.{nodes_below, flow_made}
use Rattle.flow_recover.proofs.VisitFacts.{same_length}
use Rattle.flow_recover.proofs.PointFacts.{none_bad}
use Rattle.flow_recover.proofs.recovery.flow_of.Goals as goal

pub points_of-requires-clause-few : goal.points_of-requires-clause-few
points_of-requires-clause-few c = nodes_below c.args.o.now c.args.nodes.now c.requires.nodes c.requires.faultless c.sound.ensures c.requires.within

pub points_of-requires-clause-few_places : goal.points_of-requires-clause-few_places
points_of-requires-clause-few_places c =
    let nodes = nodes_below c.args.o.now c.args.nodes.now c.requires.nodes c.requires.faultless c.sound.ensures c.requires.within in
    let visits = same_length c.args.nodes.now c.args.visits.now (c.requires.order.order (λ n b r f. none_bad c.args.o.now c.requires.faultless n b r f)) in
    let places = c.in_ok-places.ensures.few in
    let same = c.deref-2.ensures.len in
    omega (arith, nodes, visits, places, same)

pub points_of-requires-clause-order : goal.points_of-requires-clause-order
points_of-requires-clause-order c = c.requires.order.order (λ n b r f. none_bad c.args.o.now c.requires.faultless n b r f)

pub entries_of-requires : goal.entries_of-requires
entries_of-requires c = nodes_below c.args.o.now c.args.nodes.now c.requires.nodes c.requires.faultless c.sound.ensures c.requires.within

pub returns : goal.returns
returns c =
    flow_made c.args.o.now (λ j x. get place_cmp c.args.chart.now.starts (j, x)) c.args.nodes.now c.in_ok-places.places.items c.deref.result.now c.deref-2.result.now c.in_ok-points.points.items c.in_ok-words.words.items c.in_ok-entries.entries.items c.args.ranges.items c.new.result
    (λ j x. contains place_cmp c.in_ok-entered.entered (j, x)) c.requires.chart.starts c.sound.ensures c.requires.within c.requires.nodes c.requires.faultless c.in_ok-places.ensures.exact c.deref.ensures.value c.deref-2.ensures.value
    (c.in_ok-words.ensures c.args.o.now c.requires.chart) c.in_ok-points.ensures c.in_ok-entered.ensures c.in_ok-entries.ensures c.requires.ranges c.new.ensures
