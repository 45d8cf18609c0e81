use Rattle.std.proofs.Common.{◌≡◌, ◌∙◌, sym}
use Rattle.thumb_table.specs.Effects.{change}
use Rattle.thumb_table.specs.Conditions.{holds}
use Rattle.thumb_table.specs.CoreStates.{core_of}
use Rattle.thumb_table.proofs.BranchLemmas.{branched, holds_alone}
use Rattle.thumb_table.proofs.branches.apply_branch.Goals as goal

pub returns : goal.returns
unfolding change
returns c = λ code m width e.
    let i = c.args.i.now in
    let s = c.args.s.now in
    let taken : holds i.cond (core_of s m) ≡ c.holds-taken.result = rw (← c.i.view_is) (holds_alone c.i.inside.cond s m ∙ sym c.holds-taken.ensures) in
    rw (c.fall.ensures, c.chosen.ensures, taken, ← c.branch_target-target.ensures) (branched c.holds-taken.result c.branch_target-target.result c.args.next s m)
