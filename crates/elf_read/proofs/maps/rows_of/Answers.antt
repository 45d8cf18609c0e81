use Rattle.std.proofs.Common.{◌≤◌, ◌<◌, ◌*◌, length, refl, sym, subst, arith}
use Rattle.elf_read.specs.MapRefusals.{IsDenied}
use Rattle.elf_read.specs.MapRows.{HasNoRows, IsRowAt}
use Rattle.elf_read.proofs.RowBytes.{none_read, one_more, all_read, no_rows}
use Rattle.elf_read.proofs.maps.rows_of.Goals as goal

pub loop-i-init : goal.loop-i-init
loop-i-init c = none_read c.args.bytes.now c.new-rows.result.items c.new-rows.ensures.items

pub returns-in_default-clause-refused : goal.returns-in_default-clause-refused
returns-in_default-clause-refused c =
    let b = c.args.bytes.now in
    let l : 16 * c.loop-i.i < length b = omega arith in
    subst (IsDenied (HasNoRows b)) (sym c.refused.ensures) (refl, no_rows b c.loop-i.i l (subst (IsRowAt b (16 * c.loop-i.i)) c.in_default.is c.row_at.ensures))

pub loop-i-preserved : goal.loop-i-preserved
loop-i-preserved c =
    let b = c.args.bytes.now in
    one_more b c.loop-i.i c.loop-i.rows.items c.push.new.self.items c.in-Some.row c.in_ok-push.ensures.items (subst (IsRowAt b (16 * c.loop-i.i)) c.in-Some.is c.row_at.ensures) c.loop-i.invariant

pub returns-clause-rows : goal.returns-clause-rows
returns-clause-rows c =
    let l : length c.args.bytes.now ≤ 16 * c.loop-i.i = omega arith in
    all_read c.args.bytes.now c.loop-i.i c.loop-i.rows.items l c.loop-i.invariant
