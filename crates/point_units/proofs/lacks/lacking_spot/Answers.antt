use Rattle.std.proofs.Common.{Some, sym, ap, ◌∙◌}
use Rattle.elf_model.specs.declared.refusals.Spot.{Spot}
use Rattle.thumb_instr.specs.Operands.{has}
use Rattle.point_units.specs.Spots.{lack_at, lack_by}
use Rattle.point_units.proofs.lacks.lacking_spot.Goals as goal

pub returns-in-None : goal.returns-in-None
returns-in-None c = record {
  class = c.class_of.result;
  exact = c.class_of.ensures.class;
  is = ap (lack_at c.args.x.now) (sym c.in-None.is ∙ c.in_ok-lack.ensures) ∙ ap (lack_by c.args.x.now (has c.args.live.0)) (sym c.in-Some.is);
}

pub returns-in-Some-2 : goal.returns-in-Some-2
returns-in-Some-2 c = record {
  class = c.class_of.result;
  exact = c.class_of.ensures.class;
  is = ap (λ (s : Spot). Some s) c.spot_of.ensures ∙ ap (lack_at c.args.x.now) (sym c.in-Some-2.is ∙ c.in_ok-lack.ensures) ∙ ap (lack_by c.args.x.now (has c.args.live.0)) (sym c.in-Some.is);
}

pub returns-in_default : goal.returns-in_default
returns-in_default c = record {
  class = c.class_of.result;
  exact = c.class_of.ensures.class;
  is = ap (lack_by c.args.x.now (has c.args.live.0)) (sym c.in_default.is);
}
