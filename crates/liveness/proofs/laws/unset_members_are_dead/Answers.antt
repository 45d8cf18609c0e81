use Rattle.liveness.proofs.FaultFacts.{entry_dead, return_dead}
use Rattle.liveness.proofs.laws.unset_members_are_dead.Goals as goal

pub returns-clause-entry : goal.returns-clause-entry
returns-clause-entry c = λ f b l p k names are. entry_dead f b l are names p k

pub returns-clause-call : goal.returns-clause-call
returns-clause-call c = λ f b l p q k x are. return_dead f b l are p q k x
