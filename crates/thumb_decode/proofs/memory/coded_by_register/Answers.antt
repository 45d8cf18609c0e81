use Rattle.std.proofs.Common.{sym}
use Rattle.thumb_instr.specs.FullRows.{by_register}
use Rattle.thumb_decode.proofs.memory.coded_by_register.Goals as goal

pub returns-in-None : goal.returns-in-None
returns-in-None c = sym (c.in-None.ensures.none (λ op. by_register op c.args.n c.args.t c.args.shift c.args.m))
