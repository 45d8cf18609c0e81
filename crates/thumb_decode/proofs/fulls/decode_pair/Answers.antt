use Rattle.std.proofs.Common.{sym, ◌∙◌, arith}
use Rattle.thumb_instr.specs.FullRows.{full_rows}
use Rattle.thumb_decode.specs.Groups.{full_group}
use Rattle.thumb_decode.proofs.Narrow.{full_rows_at}
use Rattle.thumb_decode.proofs.fulls.decode_pair.Goals as goal

pub returns-in-116 : goal.returns-in-116
returns-in-116 c = c.multiple_form.ensures ∙ sym (full_rows_at 7 116 c.args.h c.args.place (omega arith) (omega arith))

pub returns-in-117 : goal.returns-in-117
returns-in-117 c = c.register_form.ensures ∙ sym (full_rows_at 7 117 c.args.h c.args.place (omega arith) (omega arith))

pub returns-in-118 : goal.returns-in-118
unfolding full_group full_rows
returns-in-118 c = sym (full_rows_at 7 118 c.args.h c.args.place (omega arith) (omega arith))

pub returns-in-119 : goal.returns-in-119
unfolding full_group full_rows
returns-in-119 c = sym (full_rows_at 7 119 c.args.h c.args.place (omega arith) (omega arith))

pub returns-in-124 : goal.returns-in-124
returns-in-124 c = c.memory_form.ensures ∙ sym (full_rows_at 7 124 c.args.h c.args.place (omega arith) (omega arith))

pub returns-in-126 : goal.returns-in-126
unfolding full_group full_rows
returns-in-126 c = sym (full_rows_at 7 126 c.args.h c.args.place (omega arith) (omega arith))

pub returns-in-127 : goal.returns-in-127
unfolding full_group full_rows
returns-in-127 c = sym (full_rows_at 7 127 c.args.h c.args.place (omega arith) (omega arith))
