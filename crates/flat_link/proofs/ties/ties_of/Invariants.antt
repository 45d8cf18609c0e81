use Rattle.std.proofs.Common.{◌≡◌, ◌++◌, map, drop}
use Rattle.flat_link.specs.Layout.{parts_in}
use Rattle.flat_link.specs.Sites.{sited_of, link_of, links_among}
use Rattle.flat_link.proofs.ties.ties_of.Given as goal

abbrev pub invariant-loop-site : goal.invariant-loop-site
invariant-loop-site l =
    map link_of l.ties.items ++ links_among l.layout.objects.now (parts_in l.layout) (map sited_of (drop l.site-index l.sites))
    ≡ links_among l.layout.objects.now (parts_in l.layout) (map sited_of l.sites)
