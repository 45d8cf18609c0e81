use Rattle.std.proofs.Common.{sym, ◌∙◌, arith}
use Rattle.thumb_decode.proofs.Narrow.{full_rows_at}
use Rattle.thumb_decode.proofs.fulls.of_registers.Goals as goal

pub returns-in-0 : goal.returns-in-0
returns-in-0 c = c.shift_form.ensures ∙ sym (full_rows_at 9 500 c.args.h c.args.place (omega arith) (omega arith))

pub returns-in-1 : goal.returns-in-1
returns-in-1 c = c.order_form.ensures ∙ sym (full_rows_at 9 501 c.args.h c.args.place (omega arith) (omega arith))

pub returns-in-2 : goal.returns-in-2
returns-in-2 c = c.product_form.ensures ∙ sym (full_rows_at 9 502 c.args.h c.args.place (omega arith) (omega arith))

pub returns-in_default : goal.returns-in_default
returns-in_default c = c.long_form.ensures ∙ sym (full_rows_at 9 503 c.args.h c.args.place (omega arith) (omega arith))
