use Rattle.std.proofs.Common.{◌≡◌, ◌++◌, drop, map}
use Rattle.flat_link.specs.Sites.{all_sited, sited_of}
use Rattle.flat_link.proofs.sites.all_sites.Given as goal

abbrev pub invariant-loop-i : goal.invariant-loop-i
invariant-loop-i l = map sited_of l.sites.items ++ all_sited l.i (drop l.i l.objects) ≡ all_sited 0 l.objects
