use Rattle.std.proofs.Common.{rules}
use Rattle.sim_relation.specs.Accepted.{boundaries}
use Rattle.harden_core.proofs.hardening.harden.Goals as goal

pub returns-in_err-flow-clause-refused : goal.returns-in_err-flow-clause-refused
returns-in_err-flow-clause-refused c = let refused = c.in_err-flow.ensures.refused (boundaries c.args.s.now.results) c.args.s.now.copies in search (rules, refused)

pub returns-in_err-sets-clause-refused : goal.returns-in_err-sets-clause-refused
returns-in_err-sets-clause-refused c = let refused = c.in_err-sets.ensures.refused c.args.s.now.copies in search (rules, refused)
