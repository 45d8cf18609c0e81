use Rattle.thumb_instr.proofs.Decoded.{decode_formed}
use Rattle.thumb_instr.proofs.laws.decodes_are_formed.Goals as goal

pub returns : goal.returns
returns c = decode_formed
