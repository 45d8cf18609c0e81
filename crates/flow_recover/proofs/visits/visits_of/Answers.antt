use Rattle.std.proofs.Common.{List, [], get_or, sym, subst}
use Rattle.std.proofs.lemmas.Option.{slice_get-get_or}
use Rattle.elf_model.proofs.Elements.{contains_at}
use Rattle.flow_recover.specs.declared.nodes.Node.{Node}
use Rattle.flow_recover.specs.declared.visits.Visit.{Visit}
use Rattle.flow_recover.specs.NodeFaults.{IsBadSpot}
use Rattle.flow_recover.proofs.GainFacts.{gains_start, gains_more, gains_all}
use Rattle.flow_recover.proofs.PointFacts.{reached_starts}
use Rattle.flow_recover.proofs.VisitFacts.{AreRead, read_none, read_more, read_all, read_ordered, spots_noted, all_bad}
use Rattle.flow_recover.proofs.visits.visits_of.Goals as goal

abbrev nowhere : Node
nowhere = record { section = 0; offset = 0; it = 0 }

pub loop-n-init : goal.loop-n-init
loop-n-init c = record {
  read = subst (λ (l : List Visit). AreRead c.args.o.now [] l) (sym c.new-visits.ensures.items) (read_none c.args.o.now);
  bad = gains_start (IsBadSpot c.args.o.now) c.args.nodes.now c.args.spots.now.items;
}

pub note_node-requires-clause-start : goal.note_node-requires-clause-start
note_node-requires-clause-start c =
    let n : Node = get_or c.args.nodes.now c.loop-n.n-index nowhere in
    reached_starts c.args.o.now n ((c.requires.nodes.exact n).0 (contains_at c.args.nodes.now c.loop-n.n-index n (slice_get-get_or c.args.nodes.now c.loop-n.n-index nowhere c.loop-n-test.true)))

pub loop-n-preserved : goal.loop-n-preserved
loop-n-preserved c =
    let n : Node = get_or c.args.nodes.now c.loop-n.n-index nowhere in
    record {
      read = read_more c.args.o.now c.args.nodes.now c.loop-n.n-index nowhere c.loop-n.visits.items c.note_node.new.visits.items c.loop-n.spots.items c.note_node.new.spots.items c.loop-n-test.true c.in_ok-note_node.ensures c.loop-n.invariant.read;
      bad = gains_more (IsBadSpot c.args.o.now) c.args.nodes.now c.loop-n.n-index nowhere c.args.spots.now.items c.loop-n.spots.items c.note_node.new.spots.items c.loop-n-test.true c.loop-n.invariant.bad
          (spots_noted c.args.o.now n c.loop-n.visits.items c.note_node.new.visits.items c.loop-n.spots.items c.note_node.new.spots.items c.in_ok-note_node.ensures);
    }

pub returns-clause-visits : goal.returns-clause-visits
returns-clause-visits c = read_all c.args.o.now c.args.nodes.now c.loop-n.n-index c.loop-n.visits.items c.requires.nodes c.loop-n-test.false c.loop-n.invariant.read

pub returns-clause-order : goal.returns-clause-order
returns-clause-order c = read_ordered c.args.o.now c.args.nodes.now c.loop-n.n-index c.loop-n.visits.items c.requires.nodes c.loop-n-test.false c.loop-n.invariant.read

pub returns-clause-bad : goal.returns-clause-bad
returns-clause-bad c = all_bad c.args.o.now c.args.nodes.now c.args.spots.now.items c.loop-n.spots.items c.requires.nodes
    (gains_all (IsBadSpot c.args.o.now) c.args.nodes.now c.loop-n.n-index c.args.spots.now.items c.loop-n.spots.items c.loop-n-test.false c.loop-n.invariant.bad)
