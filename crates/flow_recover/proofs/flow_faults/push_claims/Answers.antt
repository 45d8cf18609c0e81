use Rattle.flow_recover.specs.NodeFaults.{IsClaimSpot}
use Rattle.flow_recover.proofs.GainFacts.{gains_more, gains_all}
use Rattle.flow_recover.proofs.NodeFaultFacts.{claim_spot}
use Rattle.flow_recover.proofs.flow_faults.push_claims.Goals as goal

pub loop-c-preserved : goal.loop-c-preserved
loop-c-preserved c = gains_more (IsClaimSpot c.args.o.now) c.args.claims.now c.loop-c.c-index _ c.args.spots.now.items c.loop-c.spots.items c.push_if.new.spots.items c.loop-c-test.true c.loop-c.invariant
    (claim_spot c.args.o.now _ c.is_wrong-wrong.result c.loop-c.spots.items c.push_if.new.spots.items c.is_wrong-wrong.ensures c.in_ok-push_if.ensures)

pub returns : goal.returns
returns c = gains_all (IsClaimSpot c.args.o.now) c.args.claims.now c.loop-c.c-index c.args.spots.now.items c.loop-c.spots.items c.loop-c-test.false c.loop-c.invariant
