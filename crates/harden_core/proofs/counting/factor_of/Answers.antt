use Rattle.std.proofs.Common.{rules}
use Rattle.harden_core.proofs.LongestFacts.{next_at_most, all_at_most}
use Rattle.harden_core.proofs.counting.factor_of.Goals as goal

-- src/counting.rt:20:5
pub loop-u-preserved : goal.loop-u-preserved
loop-u-preserved c = record {
  low = search rules;
  most = search rules;
  enough = next_at_most c.args.l.now.units c.loop-u.u-index c.u-item.result c.loop-u.most c.if-most-count.most (search rules) (search rules) c.loop-u.invariant.enough (search rules) (search rules);
  one = search rules;
}

-- src/counting.rt:15:1
pub returns : goal.returns
returns c = record { low = c.loop-u.invariant.low; enough = all_at_most c.args.l.now c.loop-u.u-index c.loop-u.most (search rules) c.loop-u.invariant.enough; one = c.loop-u.invariant.one }
