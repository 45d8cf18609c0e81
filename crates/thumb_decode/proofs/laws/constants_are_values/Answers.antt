use Rattle.thumb_decode.proofs.Constants.{constant_is_value}
use Rattle.thumb_decode.proofs.laws.constants_are_values.Goals as goal

pub returns : goal.returns
returns c = constant_is_value
