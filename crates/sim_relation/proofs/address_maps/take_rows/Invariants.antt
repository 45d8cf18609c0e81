use Rattle.std.proofs.Common.{◌≡◌, ◌++◌, drop}
use Rattle.sim_relation.specs.Taken.{by_rows}
use Rattle.sim_relation.proofs.address_maps.take_rows.Given as goal

abbrev pub invariant-loop-row : goal.invariant-loop-row
invariant-loop-row l = l.out.items ++ by_rows l.kind l.part l.hard (drop l.row-index l.rows) ≡ l.fn.out.items ++ by_rows l.kind l.part l.hard l.rows
