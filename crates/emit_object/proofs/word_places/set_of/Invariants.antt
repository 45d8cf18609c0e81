use Rattle.std.proofs.Common.{take}
use Rattle.flow_recover.specs.Gains.{PlacesGain, IsFrom}
use Rattle.emit_object.proofs.WordFacts.{IsSame}
use Rattle.emit_object.proofs.word_places.set_of.Given as goal

-- the places so far
abbrev pub invariant-loop-p : goal.invariant-loop-p
invariant-loop-p l = PlacesGain (λ j x. IsFrom IsSame (take l.p-index l.list) (j, x)) l.initial.set l.set
