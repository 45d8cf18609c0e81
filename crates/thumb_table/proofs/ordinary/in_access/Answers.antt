use Rattle.std.proofs.Common.{◌∷◌}
use Rattle.thumb_table.specs.States.{read}
use Rattle.thumb_table.specs.Ordinary.{IsPlain, in_place, in_part}
use Rattle.thumb_table.specs.CoreStates.{alone}
use Rattle.thumb_table.proofs.OrdinaryLemmas.{then_both, else_none}
use Rattle.thumb_table.proofs.ordinary.in_access.Goals as goal

pub returns-then-in_address : goal.returns-then-in_address
returns-then-in_address c =
    then_both (λ r. IsPlain (read (alone c.args.s.now) r).mark) (c.args.n ∷ in_place c.args.place) (in_part c.args.op c.args.t) c.in_address.result c.in_part.result c.if-in_address.true c.in_address.ensures c.in_part.ensures

pub returns-else-in_address : goal.returns-else-in_address
returns-else-in_address c =
    else_none (λ r. IsPlain (read (alone c.args.s.now) r).mark) (c.args.n ∷ in_place c.args.place) (in_part c.args.op c.args.t) c.in_address.result c.if-in_address.false c.in_address.ensures
