use Rattle.std.proofs.Common.{◌≡◌, ◌++◌, map, drop}
use Rattle.flat_link.specs.Layout.{parts_in}
use Rattle.flat_link.specs.Marks.{marks_among}
use Rattle.flat_link.specs.Sites.{link_of}
use Rattle.flat_link.proofs.marks.marks_of.Given as goal

abbrev pub invariant-loop-t : goal.invariant-loop-t
invariant-loop-t l = l.marks.items ++ marks_among (parts_in l.layout) (map link_of (drop l.t-index l.ties)) ≡ marks_among (parts_in l.layout) (map link_of l.ties)
