use Rattle.thumb_encode.proofs.TellsCodes.{tells_codes}
use Rattle.thumb_encode.proofs.laws.full_codes_are_told.Goals as goal

pub returns : goal.returns
returns c = tells_codes
