use Rattle.std.proofs.Common.{◌≡◌, ◌+◌, ◌<◌, ◌%◌, arith}
use Rattle.listing.proofs.Leading.{over_word, over_byte}
use Rattle.listing.proofs.contents.push_data.Goals as goal
use Rattle.listing.proofs.contents.push_data.Goals.{else-at-eq0-via-then-at-eq0+else-end-at-ge4, else-at-eq0-via-else-at-eq0}

pub loop-at-preserved-then-end-at-ge4 : goal.loop-at-preserved-then-end-at-ge4
loop-at-preserved-then-end-at-ge4 c =
    over_word c.args.bytes.now c.args.start c.args.end c.loop-at.at _ _ _ (omega arith) (omega arith) c.requires.inside c.loop-at.invariant c.in_ok-push_word_line.ensures

pub loop-at-preserved : goal.loop-at-preserved
loop-at-preserved c =
    let near : c.loop-at.at % 4 ≡ 0 → c.args.end < c.loop-at.at + 4 =
    λ e. elim c.else-at-eq0.branch [ else-at-eq0-via-then-at-eq0+else-end-at-ge4 w ↦ omega arith | else-at-eq0-via-else-at-eq0 w ↦ omega arith ] in
    over_byte c.args.bytes.now c.args.start c.args.end c.loop-at.at _ _ _ near c.loop-at-test.true c.requires.inside c.loop-at.invariant c.in_ok-push_byte_line.ensures
