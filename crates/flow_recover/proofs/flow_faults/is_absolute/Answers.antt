use Rattle.std.proofs.Common.{sym, ◌∙◌}
use Rattle.flow_recover.proofs.NodeFaultFacts.{absolute_is}
use Rattle.flow_recover.proofs.AimFacts.{aim_is}
use Rattle.flow_recover.proofs.flow_faults.is_absolute.Goals as goal

pub returns-then-has_offset : goal.returns-then-has_offset
returns-then-has_offset c = absolute_is c.args.o.now c.args.v.now.node c.args.v.now.instr c.args.v.now.aim c.is_fixed.result (sym c.has_offset.ensures ∙ c.if-has_offset.true) (λ b. aim_is c.args.o.now c.args.v.now.node.section c.args.v.now.node.offset c.args.v.now.instr c.args.v.now.aim b c.requires.aim) c.is_fixed.ensures
