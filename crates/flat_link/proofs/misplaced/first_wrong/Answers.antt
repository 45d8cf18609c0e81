use Rattle.std.proofs.Common.{ap, arith, length}
use Rattle.std.proofs.lemmas.Option.{slice_get_within}
use Rattle.flat_link.proofs.MisplacedFacts.{more_right}
use Rattle.flat_link.proofs.misplaced.first_wrong.Goals as goal

pub loop-k-preserved : goal.loop-k-preserved
loop-k-preserved c =
    more_right c.args.o.now c.loop-k.k c.relocs-r-items.result.now _ c.relocs-r-items.ensures c.loop-k-test.true (c.is_right.ensures.0 c.if-not-is_right.false) c.loop-k.invariant

pub returns : goal.returns
returns c = λ k r at. c.loop-k.invariant k r (omega (arith, slice_get_within c.args.o.now.relocs k r at, ap length c.relocs-r-items.ensures)) at
