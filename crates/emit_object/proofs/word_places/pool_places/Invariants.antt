use Rattle.std.proofs.Common.{◌≡◌, ◌++◌, drop, map}
use Rattle.std.specs.List.{zip}
use Rattle.emit_object.specs.WordPlaces.{pool_place}
use Rattle.emit_object.proofs.word_places.pool_places.Given as goal

-- with those of the words to come they are all
abbrev pub invariant-loop-k : goal.invariant-loop-k
invariant-loop-k l = l.list.items ++ map pool_place (drop l.k (zip l.words l.places)) ≡ map pool_place (zip l.words l.places)
