use Rattle.std.proofs.Common.{sym}
use Rattle.thumb_instr.specs.FullRows.{by_byte}
use Rattle.thumb_decode.proofs.memory.coded_by_byte.Goals as goal

pub returns-in-None : goal.returns-in-None
returns-in-None c = sym (c.in-None.ensures.none (λ op. by_byte c.args.p c.args.u c.args.w op c.args.n c.args.t c.args.i))
