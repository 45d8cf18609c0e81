use Rattle.pair_parts.proofs.Growth.{made_grow}
use Rattle.pair_parts.proofs.MadePaired.{made_paired}
use Rattle.pair_parts.proofs.laws.made_are_paired.Goals as goal

pub returns : goal.returns
returns c = made_paired c.units_work.ensures made_grow
