use Rattle.std.proofs.Common.{arith, subst}
use Rattle.flat_link.specs.Misplaced.{IsFirstWrong}
use Rattle.flat_link.proofs.ListFacts.{there_at}
use Rattle.flat_link.proofs.MisplacedFacts.{one_right, one_wrong, all_right}
use Rattle.flat_link.proofs.misplaced.first_misplaced.Goals as goal

pub returns-in-Some : goal.returns-in-Some
returns-in-Some c =
    let o = c.index-objects-i.result in
    one_wrong c.args.objects.now c.loop-i.i c.in-Some.k o _ (there_at c.args.objects.now c.loop-i.i o (omega arith) c.index-objects-i.is)
    (subst (IsFirstWrong o) c.in-Some.is c.in_ok-k.ensures) c.loop-i.invariant c.misplaced_at.ensures

pub loop-i-preserved : goal.loop-i-preserved
loop-i-preserved c =
    let o = c.index-objects-i.result in
    one_right c.args.objects.now c.loop-i.i o (there_at c.args.objects.now c.loop-i.i o (omega arith) c.index-objects-i.is) (subst (IsFirstWrong o) c.in-None.is c.in_ok-k.ensures) c.loop-i.invariant

pub returns : goal.returns
returns c = all_right c.args.objects.now c.loop-i.i (omega arith) c.loop-i.invariant
