use Rattle.std.proofs.Common.{length, drop, arith}
use Rattle.std.proofs.lemmas.List.{length-drop}
use Rattle.guard_cli.proofs.HardenLoops.{pair_is_left}
use Rattle.guard_cli.proofs.texts.lines_text.Goals as goal

pub unreachable-requires : goal.unreachable-requires
unreachable-requires c =
    let count = length-drop c.loop-counted.counted-index c.args.counts.now in
    pair_is_left c.loop-counted.rest.now (length (drop c.loop-counted.counted-index c.args.counts.now)) c.in_default.len_below c.loop-counted.invariant.left (omega (arith, count, c.loop-counted-test.true))
