use Rattle.std.proofs.Common.{refl}
use Rattle.flow_recover.specs.NodeFaults.{IsVisitSpot}
use Rattle.flow_recover.proofs.GainFacts.{gains_item, gains_all}
use Rattle.flow_recover.proofs.VisitFacts.{visit_item}
use Rattle.flow_recover.proofs.flow_faults.push_visits.Goals as goal

pub push_visit-requires-clause-visit : goal.push_visit-requires-clause-visit
push_visit-requires-clause-visit c = (visit_item c.args.o.now c.args.visits.now c.requires.visits c.loop-v.v-index c.v-item.result c.loop-v-test.true c.v-item.is).1

pub loop-v-preserved : goal.loop-v-preserved
loop-v-preserved c = gains_item (IsVisitSpot c.args.o.now) c.args.visits.now c.args.visits.now c.loop-v.v-index c.v-item.result c.v-item.result c.args.spots.now.items c.loop-v.spots.items c.push_visit.new.spots.items refl c.loop-v-test.true c.v-item.is
    c.loop-v.invariant c.in_ok-push_visit.ensures

pub returns : goal.returns
returns c = gains_all (IsVisitSpot c.args.o.now) c.args.visits.now c.loop-v.v-index c.args.spots.now.items c.loop-v.spots.items c.loop-v-test.false c.loop-v.invariant
