-- The units of a chart of lists are linked.
use Rattle.sim_objects.specs.Together.{UnitsAreLinked}
use Rattle.sim_objects.proofs.LinkedUnits.{units_stand}

pub units_are_linked : UnitsAreLinked
units_are_linked F c K pairs at plain hard chart may_skip images is met keeps = record {
  even = met.even;
  units = λ a p there point.
      let s = units_stand F c K pairs at plain hard images a p point in
      record { link = s.link; may = s.puts.may; stands = s.stands; keeps = keeps a p point; goes = met.goes a p there; meets = met.meets a p there point s.link s.puts };
}
