use Rattle.guard_words.proofs.NumberTexts.{hexadecimal_is_read}
use Rattle.guard_words.proofs.numbers.hexadecimal_of.Goals as goal

pub returns-in-Err : goal.returns-in-Err
returns-in-Err c = hexadecimal_is_read c.args.digits.now c.in-Err.field-0 c.in-Err.ensures.value
