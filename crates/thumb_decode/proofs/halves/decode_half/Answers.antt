use Rattle.std.proofs.Common.{arith, sym, ◌∙◌}
use Rattle.thumb_decode.proofs.Narrow.{half_rows_at}
use Rattle.thumb_decode.proofs.halves.decode_half.Goals as goal

pub returns-in-0 : goal.returns-in-0
returns-in-0 c = c.shifted_move.ensures ∙ sym (half_rows_at 3 0 c.args.h c.args.place (omega arith) (omega arith))

pub returns-in-1 : goal.returns-in-1
returns-in-1 c = c.shifted_move-in-1.ensures ∙ sym (half_rows_at 3 0 c.args.h c.args.place (omega arith) (omega arith))

pub returns-in-2 : goal.returns-in-2
returns-in-2 c = c.constants.ensures ∙ sym (half_rows_at 3 1 c.args.h c.args.place (omega arith) (omega arith))

pub returns-in-3 : goal.returns-in-3
returns-in-3 c = c.constants-in-3.ensures ∙ sym (half_rows_at 3 1 c.args.h c.args.place (omega arith) (omega arith))

pub returns-then-bits-eq0 : goal.returns-then-bits-eq0
returns-then-bits-eq0 c = c.by_code.ensures ∙ sym (half_rows_at 5 8 c.args.h c.args.place (omega arith) (omega arith))

pub returns-else-bits-eq0 : goal.returns-else-bits-eq0
returns-else-bits-eq0 c = c.load_literal.ensures ∙ sym (half_rows_at 5 9 c.args.h c.args.place (omega arith) (omega arith))

pub returns-in-5 : goal.returns-in-5
returns-in-5 c = c.by_index.ensures ∙ sym (half_rows_at 4 5 c.args.h c.args.place (omega arith) (omega arith))

pub returns-in-6 : goal.returns-in-6
returns-in-6 c = c.by_offset.ensures ∙ sym (half_rows_at 3 3 c.args.h c.args.place (omega arith) (omega arith))

pub returns-in-7 : goal.returns-in-7
returns-in-7 c = c.by_offset-in-7.ensures ∙ sym (half_rows_at 3 3 c.args.h c.args.place (omega arith) (omega arith))

pub returns-in-8 : goal.returns-in-8
returns-in-8 c = c.halfword.ensures ∙ sym (half_rows_at 4 8 c.args.h c.args.place (omega arith) (omega arith))

pub returns-in-9 : goal.returns-in-9
returns-in-9 c = c.by_sp.ensures ∙ sym (half_rows_at 4 9 c.args.h c.args.place (omega arith) (omega arith))

pub returns-in-10 : goal.returns-in-10
returns-in-10 c = c.address.ensures ∙ sym (half_rows_at 4 10 c.args.h c.args.place (omega arith) (omega arith))

pub returns-in-11 : goal.returns-in-11
returns-in-11 c = c.others.ensures

pub returns-in-12 : goal.returns-in-12
returns-in-12 c = c.many.ensures ∙ sym (half_rows_at 4 12 c.args.h c.args.place (omega arith) (omega arith))

pub returns-in-13 : goal.returns-in-13
returns-in-13 c = c.on_condition.ensures ∙ sym (half_rows_at 4 13 c.args.h c.args.place (omega arith) (omega arith))

pub returns-in-14 : goal.returns-in-14
returns-in-14 c = c.branch_always.ensures ∙ sym (half_rows_at 4 14 c.args.h c.args.place (omega arith) (omega arith))

pub returns-in-15 : goal.returns-in-15
returns-in-15 c = c.none.ensures ∙ sym (half_rows_at 4 15 c.args.h c.args.place (omega arith) (omega arith))
