use Rattle.std.proofs.Common.{arith}
use Rattle.guard_words.proofs.NumberTexts.{same_number}
use Rattle.guard_words.proofs.numbers.count_of.Goals as goal

pub returns-in_default : goal.returns-in_default
returns-in_default c = λ n h. let e = same_number c.args.text.now n c.in-Some.n h.number c.in-Some.ensures in let few = h.few in omega (arith, e, few)

pub returns-in_default-2 : goal.returns-in_default-2
returns-in_default-2 c = λ n h. let e = same_number c.args.text.now n c.in-Some.n h.number c.in-Some.ensures in let some = h.some in omega (arith, e, some)

pub returns-in_default-3 : goal.returns-in_default-3
returns-in_default-3 c = λ n h. c.in_default.ensures n h.number
