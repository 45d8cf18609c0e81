use Rattle.thumb_instr.proofs.Numbers.{renumbers}
use Rattle.thumb_instr.proofs.laws.numbers_keep_places.Goals as goal

pub returns : goal.returns
returns c = renumbers
