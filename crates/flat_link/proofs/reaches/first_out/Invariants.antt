use Rattle.std.proofs.Common.{◌≡◌, map, drop}
use Rattle.std.specs.Prelude.{find, not}
use Rattle.thumb_table.specs.Links.{is_in_range}
use Rattle.flat_link.specs.Layout.{parts_in}
use Rattle.flat_link.specs.Sites.{link_of}
use Rattle.flat_link.proofs.reaches.first_out.Given as goal

abbrev pub invariant-loop-t : goal.invariant-loop-t
invariant-loop-t l = find (λ k. not (is_in_range (parts_in l.layout) k)) (map link_of (drop l.t-index l.ties)) ≡ find (λ k. not (is_in_range (parts_in l.layout) k)) (map link_of l.ties)
