use Rattle.sim_answers.proofs.RightRelocs.{relocs_are_right}
use Rattle.sim_answers.proofs.laws.relocations_answer.Goals as goal

pub returns : goal.returns
returns c = relocs_are_right
