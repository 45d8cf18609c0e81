use Rattle.std.proofs.Common.{sym, ◌∙◌}
use Rattle.flow_recover.proofs.NodeFaultFacts.{runs_is}
use Rattle.flow_recover.proofs.flow_faults.runs_out.Goals as goal

pub returns-then-may_fall : goal.returns-then-may_fall
returns-then-may_fall c = runs_is c.args.o.now c.args.v.now.node c.args.v.now.instr c.args.v.now.behind c.has_start.result (sym c.may_fall.ensures ∙ c.if-may_fall.true) c.requires.visit.behind c.has_start.ensures
