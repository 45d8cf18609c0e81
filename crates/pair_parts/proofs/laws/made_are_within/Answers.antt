use Rattle.pair_parts.proofs.MadeWithin.{made_within}
use Rattle.pair_parts.proofs.laws.made_are_within.Goals as goal

pub returns : goal.returns
returns c = made_within
