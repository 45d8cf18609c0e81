use Rattle.thumb_encode.specs.declared.codes.Width.{Width}
use Rattle.std.proofs.Common.{take, subst, sym}
use Rattle.seq_core.specs.declared.steps.Step.{Step}
use Rattle.branch_layout.specs.Widths.{IsLong, AreLong}
use Rattle.branch_layout.proofs.Lists.{all_zip_next}
use Rattle.branch_layout.proofs.copies.long_widths.Goals as goal

pub loop-copy-preserved : goal.loop-copy-preserved
loop-copy-preserved c =
    subst (AreLong (take _ c.args.copies.now)) (sym c.in_ok-push.ensures.items)
    (all_zip_next (λ (s : Step) (w : Width). IsLong s.instr w) c.args.copies.now c.loop-copy.widths.items c.loop-copy.copy-index c.copy-item.result c.long_width.result c.loop-copy-test.true c.copy-item.is c.loop-copy.invariant c.long_width.ensures)
