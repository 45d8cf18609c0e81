use Rattle.std.proofs.Common.{◌≤◌, length, map, arith}
use Rattle.flow_recover.specs.Settled.{word_at}
use Rattle.flow_recover.proofs.PointFacts.{no_points, point_more, points_done}
use Rattle.flow_recover.proofs.VisitFacts.{visit_item, node_item, same_length}
use Rattle.flow_recover.proofs.points.points_of.Goals as goal

pub loop-v-init : goal.loop-v-init
loop-v-init c = no_points c.args.o.now c.args.nodes.now (map (word_at c.args.o.now) c.args.places.now) c.new-points.result.items c.new-points.ensures.items

pub point_of-requires-clause-reached : goal.point_of-requires-clause-reached
point_of-requires-clause-reached c = (visit_item c.args.o.now c.args.visits.now c.requires.visits c.loop-v.v-index c.v-item.result c.loop-v-test.true c.v-item.is).0

pub point_of-requires-clause-visit : goal.point_of-requires-clause-visit
point_of-requires-clause-visit c = (visit_item c.args.o.now c.args.visits.now c.requires.visits c.loop-v.v-index c.v-item.result c.loop-v-test.true c.v-item.is).1

pub loop-v-preserved : goal.loop-v-preserved
loop-v-preserved c =
    point_more c.args.o.now c.args.nodes.now (map (word_at c.args.o.now) c.args.places.now) c.loop-v.v-index c.loop-v.points.items c.push.new.self.items c.v-item.result.node c.point_of.result
    (node_item c.args.nodes.now c.args.visits.now c.requires.order c.loop-v.v-index c.v-item.result c.loop-v-test.true c.v-item.is) c.point_of.ensures c.in_ok-push.ensures.items c.loop-v.invariant

pub returns : goal.returns
returns c =
    let low : c.loop-v.v-index ≤ length c.args.visits.now = c.loop-v.auto.v-index-end in
    let high : length c.args.visits.now ≤ c.loop-v.v-index = c.loop-v-test.false in
    let same = same_length c.args.nodes.now c.args.visits.now c.requires.order in
    points_done c.args.o.now c.args.nodes.now (map (word_at c.args.o.now) c.args.places.now) c.loop-v.v-index c.loop-v.points.items (omega (arith, same)) c.loop-v.invariant
