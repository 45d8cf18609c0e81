use Rattle.std.proofs.Common.{arith}
use Rattle.flat_link.proofs.SectionFacts.{aligned_as, rounded}
use Rattle.flat_link.specs.Placing.{alignment_of}
use Rattle.flat_link.proofs.sorts.start_of.Goals as goal

pub round_up-requires-clause-above_zero : goal.round_up-requires-clause-above_zero
round_up-requires-clause-above_zero c = omega (arith, (aligned_as c.args.sort c.args.s.now c.requires.section).0, c.alignment_of.ensures)

pub returns-clause-above : goal.returns-clause-above
returns-clause-above c =
    omega (arith, (rounded c.args.from (alignment_of c.args.sort c.args.s.now) (aligned_as c.args.sort c.args.s.now c.requires.section).0).0, c.round_up.ensures, c.alignment_of.ensures)

pub returns-clause-near : goal.returns-clause-near
returns-clause-near c =
    let a = aligned_as c.args.sort c.args.s.now c.requires.section in
    omega (arith, (rounded c.args.from (alignment_of c.args.sort c.args.s.now) a.0).1, a.1, c.round_up.ensures, c.alignment_of.ensures)
