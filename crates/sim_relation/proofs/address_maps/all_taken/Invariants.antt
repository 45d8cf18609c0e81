use Rattle.std.proofs.Common.{◌≡◌, ◌++◌, drop, map}
use Rattle.sim_relation.specs.Taken.{by_parts}
use Rattle.sim_relation.proofs.address_maps.all_taken.Given as goal

abbrev pub invariant-loop-part : goal.invariant-loop-part
invariant-loop-part l = l.out.items ++ by_parts l.kind l.hard (map (λ rows. rows.items) l.maps) (drop l.part-index l.plain) ≡ by_parts l.kind l.hard (map (λ rows. rows.items) l.maps) l.plain
