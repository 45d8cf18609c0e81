use Rattle.std.proofs.Common.{◌≡◌, map, take}
use Rattle.elf_model.specs.Objects.{ObjectParts}
use Rattle.flow_recover.specs.Charts.{IsChart}
use Rattle.flow_recover.specs.Settled.{word_at}
use Rattle.flow_recover.proofs.literals.words_at.Given as goal

-- the words at the places so far
abbrev pub invariant-loop-place : goal.invariant-loop-place
invariant-loop-place l = (o : ObjectParts) → IsChart o l.chart → l.words.items ≡ map (word_at o) (take l.place-index l.places)
