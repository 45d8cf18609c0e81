use Rattle.std.proofs.Common.{◌<◌, ◌≤◌, length, sym, subst}
use Rattle.seq_core.specs.Series.{Series}
use Rattle.point_units.proofs.ShortFacts.{short, landed_short}
use Rattle.point_units.proofs.building.sequence_of.Goals as goal

pub under-requires : goal.under-requires
under-requires c =
    let first : length c.built-s.result.steps ≤ 5 = subst (λ (s : Series). length s.steps ≤ 5) (sym c.built-s.ensures.steps) (short c.args.class c.args.copies c.args.i.now c.args.scratch.now) in
    subst (λ (s : Series). length s.steps < 8) (sym c.landed.ensures.steps) (landed_short c.args.never c.args.copies c.built-s.result.steps first)

pub returns-clause-works : goal.returns-clause-works
returns-clause-works c = λ cond is. c.under.ensures.works cond _ c.args.i.now _ is (c.landed.ensures.works _ c.args.i.now _ c.built-s.ensures.works)
