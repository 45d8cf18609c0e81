use Rattle.thumb_instr.proofs.Decoded.{decode_carry}
use Rattle.thumb_instr.proofs.laws.decodes_use_carry_once.Goals as goal

pub returns : goal.returns
returns c = decode_carry
