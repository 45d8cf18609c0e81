use Rattle.std.proofs.Common.{◌∙◌}
use Rattle.thumb_table.proofs.NumberLemmas.{reversed_is}
use Rattle.thumb_table.proofs.bit_values.reversed.Goals as goal

pub returns : goal.returns
returns c = c.reverse_bits.ensures ∙ reversed_is 32 c.args.n
