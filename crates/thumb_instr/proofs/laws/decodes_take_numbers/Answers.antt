use Rattle.thumb_instr.specs.Rows.{is_wide}
use Rattle.thumb_instr.proofs.Numbers.{answers_taken}
use Rattle.thumb_instr.proofs.laws.decodes_take_numbers.Goals as goal

pub returns : goal.returns
returns c = λ place first second i e n. (answers_taken place (is_wide first) first second).taken i e n
