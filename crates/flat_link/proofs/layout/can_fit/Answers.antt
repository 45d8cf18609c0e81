use Rattle.std.proofs.Common.{◌+◌, arith, map}
use Rattle.flat_link.specs.declared.sorts.Sort.TheVariants.{Data}
use Rattle.flat_link.specs.Lots.{placed_of}
use Rattle.flat_link.specs.Placing.{alignment_of}
use Rattle.flat_link.proofs.EndFacts.{end_grows, good_lots}
use Rattle.flat_link.proofs.layout.can_fit.Goals as goal

pub overflow_sub-data_end : goal.overflow_sub-data_end
overflow_sub-data_end c =
    omega (arith, end_grows (alignment_of Data) (c.args.at.now.base + c.args.at.now.room) (map placed_of c.args.data_lots.now) (good_lots Data c.args.data_lots.now c.requires.sound), c.end_of-data_end.ensures.end)
