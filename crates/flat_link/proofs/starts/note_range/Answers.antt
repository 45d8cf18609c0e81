use Rattle.flat_link.proofs.RangeStarts.{none_noted, one_noted}
use Rattle.flat_link.proofs.starts.note_range.Goals as goal

pub loop-at-init : goal.loop-at-init
loop-at-init c = none_noted _ _ _ _ _

pub loop-at-preserved : goal.loop-at-preserved
loop-at-preserved c =
    one_noted c.args.bytes.now c.args.r.section c.args.r.start c.args.r.end c.loop-at.at _ _ _ _ c.loop-at.invariant c.loop-at-test.true c.start_behind-at.ensures.whole c.start_behind-at.ensures.single c.in_ok-note_start.ensures
