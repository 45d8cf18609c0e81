use Rattle.std.specs.BTreeMap.{get}
use Rattle.code_ranges.specs.Spans.{place_cmp}
use Rattle.flow_recover.proofs.EdgeFacts.{aimed_none, aimed_some}
use Rattle.flow_recover.proofs.edges.start_aimed.Goals as goal

pub returns-in_err-offset : goal.returns-in_err-offset
returns-in_err-offset c =
    aimed_none c.args.o.now (λ j x. get place_cmp c.args.chart.now.starts (j, x)) c.requires.chart.starts c.args.v.now.node c.args.v.now.instr c.args.v.now.aim c.requires.visit.aim c.from_residual.result
    c.in_err-offset.ensures c.from_residual.ensures

pub returns : goal.returns
returns c =
    aimed_some c.args.o.now (λ j x. get place_cmp c.args.chart.now.starts (j, x)) c.requires.chart.starts c.args.v.now.node c.args.v.now.instr c.args.v.now.aim c.requires.visit.aim c.in_ok-offset.offset c.started.result
    c.in_ok-offset.ensures c.started.ensures
