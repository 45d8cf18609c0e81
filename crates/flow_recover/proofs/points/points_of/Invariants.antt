use Rattle.std.proofs.Common.{map}
use Rattle.flow_recover.specs.Settled.{word_at}
use Rattle.flow_recover.proofs.PointFacts.{ArePointsUpTo}
use Rattle.flow_recover.proofs.points.points_of.Given as goal

-- the points of the instructions so far
abbrev pub invariant-loop-v : goal.invariant-loop-v
invariant-loop-v l = ArePointsUpTo l.o l.nodes (map (word_at l.o) l.places) l.v-index l.points.items
