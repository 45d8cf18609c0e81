use Rattle.std.proofs.Common.{refl}
use Rattle.std.specs.BTreeMap.{get}
use Rattle.code_ranges.specs.Spans.{place_cmp}
use Rattle.flow_recover.specs.WholeFlows.IsNext.{none}
use Rattle.flow_recover.proofs.PointFacts.{next_there}
use Rattle.flow_recover.proofs.points.next_index.Goals as goal

pub returns-then-v : goal.returns-then-v
returns-then-v c =
    next_there c.args.o.now c.requires.faultless (λ j x. get place_cmp c.args.chart.now.starts (j, x)) c.requires.chart.starts c.args.nodes.now c.requires.nodes c.args.v.now.node c.args.v.now.instr c.requires.reached c.requires.visit.found
    c.node_behind.result c.node_index.result (c.requires.visit.goes c.if-v.true) c.node_behind.ensures c.node_index.ensures

pub returns-else-v : goal.returns-else-v
returns-else-v c = none (c.requires.visit.ends c.if-v.false) refl
