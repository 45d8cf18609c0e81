use Rattle.std.proofs.Common.{arith, ap, length-append, length, ◌∙◌}
use Rattle.std.specs.Fmt.{decimal}
use Rattle.thumb_text.proofs.Decimals.{ten_digits}
use Rattle.thumb_text.proofs.line.Line.push_decimal.Goals as goal

pub push_digits-requires : goal.push_digits-requires
push_digits-requires c = omega (arith, ten_digits c.args.n (omega arith))

pub returns-clause-short : goal.returns-clause-short
returns-clause-short c =
    let e = ap length c.push_digits.ensures ∙ length-append c.args.self.now (decimal c.args.n) in
    omega (arith, e, ten_digits c.args.n (omega arith))
