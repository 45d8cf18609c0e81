use Rattle.thumb_instr.proofs.Decoded.{decode_wide}
use Rattle.thumb_instr.proofs.laws.decodes_are_wide.Goals as goal

pub returns : goal.returns
returns c = decode_wide
