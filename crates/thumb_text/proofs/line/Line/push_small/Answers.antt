use Rattle.std.proofs.Common.{arith, ap, length-append, length, ◌∙◌}
use Rattle.std.specs.Fmt.{decimal}
use Rattle.thumb_text.proofs.Decimals.{two_digits, one_digit}
use Rattle.thumb_text.proofs.line.Line.push_small.Goals as goal

pub push_digits-requires : goal.push_digits-requires
push_digits-requires c = omega (arith, two_digits c.args.n c.requires.small)

pub returns-clause-short : goal.returns-clause-short
returns-clause-short c =
    let e = ap length c.push_digits.ensures ∙ length-append c.args.self.now (decimal c.args.n) in
    omega (arith, e, two_digits c.args.n c.requires.small)

pub returns-clause-shorter : goal.returns-clause-shorter
returns-clause-shorter c h =
    let e = ap length c.push_digits.ensures ∙ length-append c.args.self.now (decimal c.args.n) in
    omega (arith, e, one_digit c.args.n h)
