use Rattle.std.proofs.Common.{◌≡◌, ◌++◌, drop}
use Rattle.emit_object.specs.WordPlaces.{islands}
use Rattle.emit_object.proofs.word_places.add_islands.Given as goal

-- with those of the units to come they are all
abbrev pub invariant-loop-u : goal.invariant-loop-u
invariant-loop-u l = l.list.items ++ islands (drop l.u-index l.units) ≡ l.initial.list.items ++ islands l.units
