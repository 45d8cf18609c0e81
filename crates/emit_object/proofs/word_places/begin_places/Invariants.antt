use Rattle.std.proofs.Common.{◌≡◌, ◌++◌, drop}
use Rattle.emit_object.specs.WordPlaces.{begins}
use Rattle.emit_object.proofs.word_places.begin_places.Given as goal

-- with those of the units to come they are all
abbrev pub invariant-loop-u : goal.invariant-loop-u
invariant-loop-u l = l.list.items ++ begins (drop l.u-index l.units) ≡ begins l.units
