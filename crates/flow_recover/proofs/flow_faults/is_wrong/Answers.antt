use Rattle.std.proofs.Common.{◌≡◌, ◌↔◌, true, sym, subst, Bool}
use Rattle.flow_recover.specs.FlowFaults.{IsInBlock}
use Rattle.flow_recover.proofs.NodeFaultFacts.{wrong_is}
use Rattle.flow_recover.proofs.flow_faults.is_wrong.Goals as goal

pub returns-else-not-has_start : goal.returns-else-not-has_start
returns-else-not-has_start c = wrong_is c.args.o.now c.args.c c.has_start.result c.contains.result c.has_start.ensures c.if-not-has_start.false
    (subst (λ (b : Bool). (b ≡ true) ↔ IsInBlock c.args.o.now c.args.c.section c.args.c.offset) (sym c.contains.ensures) (c.requires.places c.args.c.section c.args.c.offset))
