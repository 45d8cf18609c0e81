use Rattle.std.proofs.Common.{arith, sym, ◌∙◌}
use Rattle.thumb_decode.proofs.Narrow.{half_rows_at}
use Rattle.thumb_decode.proofs.half_others.others.Goals as goal

pub returns-in-0 : goal.returns-in-0
returns-in-0 c = c.move_sp.ensures ∙ sym (half_rows_at 8 176 c.args.h c.args.place (omega arith) (omega arith))

pub returns-in-1 : goal.returns-in-1
returns-in-1 c = c.on_zero.ensures ∙ sym (half_rows_at 4 11 c.args.h c.args.place (omega arith) (omega arith))

pub returns-in-2 : goal.returns-in-2
returns-in-2 c = c.extension.ensures ∙ sym (half_rows_at 8 178 c.args.h c.args.place (omega arith) (omega arith))

pub returns-in-3 : goal.returns-in-3
returns-in-3 c = c.on_zero-in-3.ensures ∙ sym (half_rows_at 4 11 c.args.h c.args.place (omega arith) (omega arith))

pub returns-in-4 : goal.returns-in-4
returns-in-4 c = c.push.ensures ∙ sym (half_rows_at 7 90 c.args.h c.args.place (omega arith) (omega arith))

pub returns-in-5 : goal.returns-in-5
returns-in-5 c = c.push-in-5.ensures ∙ sym (half_rows_at 7 90 c.args.h c.args.place (omega arith) (omega arith))

pub returns-in-6 : goal.returns-in-6
returns-in-6 c = c.change_state.ensures ∙ sym (half_rows_at 8 182 c.args.h c.args.place (omega arith) (omega arith))

pub returns-in-9 : goal.returns-in-9
returns-in-9 c = c.on_zero-in-9.ensures ∙ sym (half_rows_at 4 11 c.args.h c.args.place (omega arith) (omega arith))

pub returns-in-10 : goal.returns-in-10
returns-in-10 c = c.order.ensures ∙ sym (half_rows_at 8 186 c.args.h c.args.place (omega arith) (omega arith))

pub returns-in-11 : goal.returns-in-11
returns-in-11 c = c.on_zero-in-11.ensures ∙ sym (half_rows_at 4 11 c.args.h c.args.place (omega arith) (omega arith))

pub returns-in-12 : goal.returns-in-12
returns-in-12 c = c.pop.ensures ∙ sym (half_rows_at 7 94 c.args.h c.args.place (omega arith) (omega arith))

pub returns-in-13 : goal.returns-in-13
returns-in-13 c = c.pop-in-13.ensures ∙ sym (half_rows_at 7 94 c.args.h c.args.place (omega arith) (omega arith))

pub returns-in-14 : goal.returns-in-14
returns-in-14 c = c.breakpoint.ensures ∙ sym (half_rows_at 8 190 c.args.h c.args.place (omega arith) (omega arith))

pub returns-in-15 : goal.returns-in-15
returns-in-15 c = c.block.ensures ∙ sym (half_rows_at 8 191 c.args.h c.args.place (omega arith) (omega arith))
