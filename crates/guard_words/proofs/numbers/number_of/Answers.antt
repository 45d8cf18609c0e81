use Rattle.std.proofs.Common.{◌≡◌, ◌++◌, codes, sym, ap, ◌∙◌, arith}
use Rattle.guard_words.proofs.NumberTexts.{prefixed_number, plain_number}
use Rattle.guard_words.proofs.numbers.number_of.Goals as goal

pub returns-in-Some : goal.returns-in-Some
returns-in-Some c =
    let cut = c.in-Some.ensures.cases in
    let text : c.args.text.now ≡ codes "0x" ++ c.in-Some.digits.now = cut.1.1 ∙ ap (λ l. codes "0x" ++ l) (sym cut.2) in
    prefixed_number c.args.text.now c.in-Some.digits.now text c.hexadecimal_of.result c.hexadecimal_of.ensures

pub returns-in-Some-decimal_of : goal.returns-in-Some-decimal_of
returns-in-Some-decimal_of c = plain_number c.args.text.now c.in-Some-decimal_of.n (omega arith) c.in-Some-decimal_of.ensures c.small.result c.small.ensures
