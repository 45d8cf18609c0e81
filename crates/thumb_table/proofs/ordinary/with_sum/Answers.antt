use Rattle.std.proofs.Common.{[], ◌∷◌}
use Rattle.thumb_table.specs.States.{read}
use Rattle.thumb_table.specs.Ordinary.{IsPlain, in_sum}
use Rattle.thumb_table.specs.CoreStates.{alone}
use Rattle.thumb_table.proofs.OrdinaryLemmas.{then_both}
use Rattle.thumb_table.proofs.ordinary.with_sum.Goals as goal

pub returns-then-two : goal.returns-then-two
returns-then-two c =
    then_both (λ r. IsPlain (read (alone c.args.s.now) r).mark) (c.args.n ∷ c.args.m ∷ []) (in_sum c.args.op c.args.lo c.args.hi) c.two.result c.in_sum.result c.if-two.true c.two.ensures c.in_sum.ensures
