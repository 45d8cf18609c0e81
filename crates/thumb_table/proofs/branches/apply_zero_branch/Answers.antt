use Rattle.thumb_table.specs.Effects.{change}
use Rattle.thumb_table.proofs.BranchLemmas.{branched}
use Rattle.thumb_table.proofs.branches.apply_zero_branch.Goals as goal

pub returns : goal.returns
unfolding change
returns c = λ code m width e.
    rw (c.fall.ensures, c.chosen.ensures, ← c.is_taken-taken.ensures, ← c.zero_branch_target-target.ensures) (branched c.is_taken-taken.result c.zero_branch_target-target.result c.args.next c.args.s.now m)
