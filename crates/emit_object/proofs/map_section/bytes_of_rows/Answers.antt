use Rattle.emit_object.proofs.RowBytes.{bytes_more}
use Rattle.emit_object.proofs.map_section.bytes_of_rows.Goals as goal

pub loop-r-preserved : goal.loop-r-preserved
loop-r-preserved c = bytes_more c.args.rows.now c.loop-r.r-index _ c.loop-r.bytes.items c.put_row.new.out.items _ c.loop-r-test.true c.loop-r.invariant c.in_ok-put_row.ensures
