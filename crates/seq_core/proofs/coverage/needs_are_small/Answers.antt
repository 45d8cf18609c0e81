use Rattle.seq_core.proofs.NeedsFew.{through_needs, needs_fit}
use Rattle.seq_core.proofs.coverage.needs_are_small.Goals as goal

pub returns-clause-through : goal.returns-clause-through
returns-clause-through c = through_needs

pub returns-clause-all : goal.returns-clause-all
returns-clause-all c = needs_fit
