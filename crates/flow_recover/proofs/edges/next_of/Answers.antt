use Rattle.std.specs.BTreeMap.{get}
use Rattle.code_ranges.specs.Spans.{place_cmp}
use Rattle.flow_recover.proofs.EdgeFacts.{started_is, next_there, next_stops}
use Rattle.flow_recover.proofs.edges.next_of.Goals as goal

pub returns-then-v : goal.returns-then-v
returns-then-v c =
    next_there c.args.o.now c.args.v.now.node c.args.v.now.instr c.requires.visit.found c.node_behind.result c.started.result (c.requires.visit.goes c.if-v.true) c.node_behind.ensures
    (started_is c.args.o.now (λ j x. get place_cmp c.args.chart.now.starts (j, x)) c.requires.chart.starts c.node_behind.result c.started.result c.started.ensures)

pub returns-else-v : goal.returns-else-v
returns-else-v c = next_stops c.args.o.now c.args.v.now.node c.args.v.now.instr c.requires.visit.found (c.requires.visit.ends c.if-v.false)
