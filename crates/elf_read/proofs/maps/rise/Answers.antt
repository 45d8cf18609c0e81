use Rattle.std.proofs.Common.{◌∙◌, sym}
use Rattle.elf_read.proofs.MapRows.{next_row}
use Rattle.elf_read.proofs.maps.rise.Goals as goal

pub loop-r-preserved : goal.loop-r-preserved
loop-r-preserved c =
    next_row c.loop-r.last c.args.rows.now c.loop-r.r-index _ c.loop-r-test.true (sym c.may_come.ensures ∙ c.if-not-may_come.false) c.loop-r.invariant
