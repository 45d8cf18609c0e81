use Rattle.std.proofs.Common.{◌≡◌, ◌≤◌, ◌++◌, drop}
use Rattle.emit_object.specs.RowLists.{ordinals_from}
use Rattle.emit_object.proofs.rows.ordinals.Given as goal

-- with those of the sections to come they are all
abbrev pub invariant-loop-s : goal.invariant-loop-s
invariant-loop-s l = record { all : l.list.items ++ ordinals_from l.count (drop l.s-index l.sections) ≡ ordinals_from 0 l.sections; few : l.count ≤ l.s-index }
