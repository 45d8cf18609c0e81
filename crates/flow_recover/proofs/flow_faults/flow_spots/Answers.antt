use Rattle.flow_recover.proofs.FlowFaultFacts.{all_faults}
use Rattle.flow_recover.proofs.flow_faults.flow_spots.Goals as goal

pub returns : goal.returns
returns c = all_faults c.args.o.now c.args.visits.now c.args.claims.now c.requires.visits c.requires.claims
    c.args.bad.items c.push_visits.new.spots.items c.push_claims.new.spots.items c.push_relocs.new.spots.items
    c.requires.bad c.in_ok-push_visits.ensures c.in_ok-push_claims.ensures c.in_ok-push_relocs.ensures
