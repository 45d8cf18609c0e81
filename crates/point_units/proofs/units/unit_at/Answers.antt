use Rattle.std.proofs.Common.{refl}
use Rattle.thumb_instr.specs.Operands.{has}
use Rattle.point_units.proofs.ShortFacts.{sequence_short}
use Rattle.point_units.proofs.units.unit_at.Goals as goal

pub returns : goal.returns
returns c = λ b live. record {
  section = refl;
  old = refl;
  live = has c.args.live.0;
  is_live = live;
  scratch = c.in_ok-sequence_at.ensures.0;
  sequence = c.in_ok-sequence_at.ensures.1;
  short = sequence_short c.args.o.now (has c.args.live.0) c.args.copies c.args.x.now c.in_ok-sequence_at.ensures.0 c.in_ok-sequence_at.field-0 c.in_ok-sequence_at.ensures.1;
  target = c.target_of.ensures;
  word = refl;
  reloc = refl;
}
