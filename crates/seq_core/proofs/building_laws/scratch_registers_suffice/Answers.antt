use Rattle.seq_core.proofs.Built.{through_one_works, through_two_works}
use Rattle.seq_core.proofs.building_laws.scratch_registers_suffice.Goals as goal

pub returns-clause-one : goal.returns-clause-one
returns-clause-one c = through_one_works

pub returns-clause-two : goal.returns-clause-two
returns-clause-two c = through_two_works
