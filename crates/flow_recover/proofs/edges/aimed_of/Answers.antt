use Rattle.std.proofs.Common.{sym, ◌∙◌}
use Rattle.flow_recover.proofs.EdgeFacts.{aimed_there, aimed_nowhere}
use Rattle.flow_recover.proofs.edges.aimed_of.Goals as goal

pub returns-then-has_offset : goal.returns-then-has_offset
returns-then-has_offset c =
    aimed_there c.args.o.now c.args.v.now.node c.args.v.now.instr c.requires.visit.found c.start_aimed.result (sym c.has_offset.ensures ∙ c.if-has_offset.true) c.start_aimed.ensures

pub returns-else-has_offset : goal.returns-else-has_offset
returns-else-has_offset c = aimed_nowhere c.args.o.now c.args.v.now.node c.args.v.now.instr c.requires.visit.found (sym c.has_offset.ensures ∙ c.if-has_offset.false)
