use Rattle.std.proofs.Common.{◌≡◌, drop}
use Rattle.std.specs.List.{list_any}
use Rattle.sim_relation.specs.Same.{shows}
use Rattle.sim_relation.proofs.sameness.is_listed.Given as goal

abbrev pub invariant-loop-t : goal.invariant-loop-t
invariant-loop-t l = list_any (shows l.low l.index l.address l.shown) (drop l.t-index l.list) ≡ list_any (shows l.low l.index l.address l.shown) l.list
