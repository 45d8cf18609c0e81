use Rattle.gen_hardened.proofs.LaidUnits.{units_are_laid}
use Rattle.gen_hardened.proofs.laws.generated_units_are_laid.Goals as goal

pub returns : goal.returns
returns c = units_are_laid c.generated_points_are_known.ensures
