use Rattle.std.proofs.Common.{[], ◌∷◌, sym, ◌∙◌, arith}
use Rattle.thumb_decode.proofs.Narrow.{full_rows_at}
use Rattle.thumb_decode.proofs.KnownBits.{full_rows_with}
use Rattle.thumb_decode.proofs.fulls.constants_and_branches.Goals as goal

pub returns-in-2 : goal.returns-in-2
returns-in-2 c = c.number_form.ensures ∙ sym (full_rows_with 5 30 c.args.h ((25, 1) ∷ (24, 0) ∷ (15, 0) ∷ []) c.args.place (omega arith) (omega arith) (omega arith, omega arith, (omega arith, omega arith, (omega arith, omega arith, tt))))

pub returns-in-3 : goal.returns-in-3
returns-in-3 c = c.field_form.ensures ∙ sym (full_rows_with 5 30 c.args.h ((25, 1) ∷ (24, 1) ∷ (15, 0) ∷ []) c.args.place (omega arith) (omega arith) (omega arith, omega arith, (omega arith, omega arith, (omega arith, omega arith, tt))))

pub returns-then-pair_bits-eq1 : goal.returns-then-pair_bits-eq1
returns-then-pair_bits-eq1 c = c.long_branch.ensures ∙ sym (full_rows_with 5 30 c.args.h ((15, 1) ∷ (12, 1) ∷ []) c.args.place (omega arith) (omega arith) (omega arith, omega arith, (omega arith, omega arith, tt)))

pub returns-else-pair_bits-eq1 : goal.returns-else-pair_bits-eq1
returns-else-pair_bits-eq1 c = c.control_form.ensures ∙ sym (full_rows_with 5 30 c.args.h ((15, 1) ∷ (12, 0) ∷ []) c.args.place (omega arith) (omega arith) (omega arith, omega arith, (omega arith, omega arith, tt)))

pub returns-in_default : goal.returns-in_default
returns-in_default c = c.constant_form.ensures ∙ sym (full_rows_at 5 30 c.args.h c.args.place (omega arith) (omega arith))
