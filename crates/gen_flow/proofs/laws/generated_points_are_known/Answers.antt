use Rattle.gen_flow.proofs.KnownPoints.{points_are_known}
use Rattle.gen_flow.proofs.laws.generated_points_are_known.Goals as goal

pub returns : goal.returns
returns c = λ seed count f p x limits flow at. points_are_known seed count f p x limits flow at
