use Rattle.gen_hardened.proofs.ScratchPoints.{points_have_scratch}
use Rattle.gen_hardened.proofs.laws.generated_points_have_scratch.Goals as goal

pub returns : goal.returns
returns c = points_have_scratch c.generated_points_are_known.ensures
