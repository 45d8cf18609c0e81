use Rattle.std.proofs.Common.{true, false, sym}
use Rattle.thumb_instr.specs.declared.places.Place.TheVariants.{Offset}
use Rattle.thumb_instr.specs.FullRows.{access_row}
use Rattle.thumb_decode.proofs.memory.coded_above.Goals as goal

pub returns-in-None : goal.returns-in-None
returns-in-None c = sym (c.in-None.ensures.none (λ op. access_row op c.args.t c.args.n (Offset true c.args.i) false))
