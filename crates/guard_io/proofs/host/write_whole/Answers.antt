use Rattle.std.proofs.Common.{arith, length-drop}
use Rattle.std.proofs.lemmas.List.{take_rest}
use Rattle.guard_io.proofs.Streams.{Appends-more}
use Rattle.guard_io.proofs.host.write_whole.Goals as goal

pub loop-done-preserved : goal.loop-done-preserved
loop-done-preserved g c =
    let piece = take_rest c.args.bytes.now c.loop-done.done in
    let wrote = rw piece at c.in-Ok.ensures.bytes in
    let bound = rw (piece, length-drop c.loop-done.done c.args.bytes.now) at c.in-Ok.ensures.bound in
    record {
      within = omega arith;
      appended = Appends-more _ _ _ _ _ _ c.loop-done.invariant.appended wrote;
    }
