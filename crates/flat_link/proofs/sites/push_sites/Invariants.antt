use Rattle.std.proofs.Common.{◌≡◌, ◌++◌, drop, map}
use Rattle.flat_link.specs.Sites.{sited, sited_of}
use Rattle.flat_link.proofs.sites.push_sites.Given as goal

abbrev pub invariant-loop-k : goal.invariant-loop-k
invariant-loop-k l = map sited_of l.sites.items ++ sited l.file l.object l.k (drop l.k l.object.relocs) ≡ map sited_of l.fn.sites.items ++ sited l.file l.object 0 l.object.relocs
