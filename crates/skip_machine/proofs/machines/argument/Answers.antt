use Rattle.std.proofs.Common.{◌∙◌}
use Rattle.skip_machine.proofs.Arguments.{argument_within, argument_past}
use Rattle.skip_machine.proofs.machines.argument.Goals as goal

pub returns-then-k-args : goal.returns-then-k-args
returns-then-k-args c = c.plain.ensures ∙ argument_within c.args.args.now c.args.k 0 c.if-k-args.true

pub returns-else-k-args : goal.returns-else-k-args
returns-else-k-args c = c.plain-else-k-args.ensures ∙ argument_past c.args.args.now c.args.k c.if-k-args.false
