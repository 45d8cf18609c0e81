use Rattle.std.proofs.Common.{List, inr, subst}
use Rattle.elf_model.specs.declared.refusals.Spot.{Spot}
use Rattle.flow_recover.specs.Gains.{Gains}
use Rattle.flow_recover.specs.NodeFaults.{IsReachedBad}
use Rattle.flow_recover.proofs.WholeFlowFacts.{faultless_from, refusal_from, named_from}
use Rattle.flow_recover.proofs.recovery.recover.Goals as goal

pub reached_nodes-requires-clause-named : goal.reached_nodes-requires-clause-named
reached_nodes-requires-clause-named c = named_from c.args.o.now c.in_ok-named.named.items c.deref-2.result.now c.in_ok-named.ensures c.deref-2.ensures.value

pub all_claims-requires-clause-named : goal.all_claims-requires-clause-named
all_claims-requires-clause-named c = named_from c.args.o.now c.in_ok-named.named.items c.deref-4.result.now c.in_ok-named.ensures c.deref-4.ensures.value

pub flow_spots-requires-clause-bad : goal.flow_spots-requires-clause-bad
flow_spots-requires-clause-bad c = subst (λ (l : List Spot). Gains (IsReachedBad c.args.o.now) l c.visits_of.new.spots.items) c.new-bad.ensures.items c.in_ok-visits.ensures.bad

pub flow_of-requires-clause-faultless : goal.flow_of-requires-clause-faultless
flow_of-requires-clause-faultless c = faultless_from c.args.o.now c.in_ok-spots.spots.items c.deref-8.result.now c.in_ok-spots.ensures c.deref-8.ensures.value c.in-None.ensures

pub returns-in-Some-clause-refused : goal.returns-in-Some-clause-refused
returns-in-Some-clause-refused c =
    inr (refusal_from c.args.o.now c.in_ok-ranges.ranges.items c.in_ok-spots.spots.items c.deref-8.result.now c.in-Some.spot c.in_ok-ranges.ensures.ranges c.in_ok-spots.ensures c.deref-8.ensures.value c.in-Some.ensures)
