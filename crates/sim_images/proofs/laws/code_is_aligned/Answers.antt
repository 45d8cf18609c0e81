use Rattle.sim_images.proofs.Alignments.{code_aligned}
use Rattle.sim_images.proofs.laws.code_is_aligned.Goals as goal

pub returns : goal.returns
returns c = code_aligned
