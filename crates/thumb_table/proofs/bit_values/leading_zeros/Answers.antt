use Rattle.std.proofs.Common.{◌<◌, ◌^◌, sym, arith}
use Rattle.thumb_table.proofs.NumberLemmas.{leading_is}
use Rattle.thumb_table.proofs.bit_values.leading_zeros.Goals as goal

pub returns : goal.returns
returns c = let lt : c.args.n < 2 ^ 32 = omega arith in sym (leading_is 32 c.args.n lt)
