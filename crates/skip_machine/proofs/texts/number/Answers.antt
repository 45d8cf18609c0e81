use Rattle.std.proofs.Common.{◌≡◌, ◌∙◌, sym, arith}
use Rattle.std.proofs.lemmas.Fmt.{decimal_injective}
use Rattle.skip_machine.proofs.texts.number.Goals as goal

pub returns-else-n-lt9223372036854775808 : goal.returns-else-n-lt9223372036854775808
returns-else-n-lt9223372036854775808 c = λ m small e.
    let same : m ≡ c.in_ok-n.n = decimal_injective m c.in_ok-n.n (omega arith) (omega arith) (sym e ∙ c.in_ok-n.ensures) in
    absurd (omega arith)
