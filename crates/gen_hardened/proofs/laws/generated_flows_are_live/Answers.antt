use Rattle.gen_hardened.proofs.LivePoints.{flows_are_live}
use Rattle.gen_hardened.proofs.laws.generated_flows_are_live.Goals as goal

pub returns : goal.returns
returns c = flows_are_live c.generated_points_are_known.ensures
