use Rattle.point_units.specs.Units.{HaveUnits}
use Rattle.point_units.proofs.units.all_units.Given as goal

abbrev pub invariant-loop-p : goal.invariant-loop-p
invariant-loop-p l = HaveUnits l.o l.f l.b l.copies l.f.points l.p l.units.items
