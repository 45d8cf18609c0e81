use Rattle.std.proofs.Common.{◌≡◌, map, drop}
use Rattle.std.specs.Prelude.{find, is_none}
use Rattle.flat_link.specs.Sites.{sited_of, meaning}
use Rattle.flat_link.proofs.meanings.first_undefined.Given as goal

abbrev pub invariant-loop-site : goal.invariant-loop-site
invariant-loop-site l =
    find (λ s. is_none (meaning l.names.objects.now s)) (map sited_of (drop l.site-index l.sites)) ≡ find (λ s. is_none (meaning l.names.objects.now s)) (map sited_of l.sites)
