use Rattle.std.proofs.Common.{◌≡◌, rules}
use Rattle.std.proofs.lemmas.List.Sorted.{answers_always}
use Rattle.emit_object.specs.RelocSites.{site_place}
use Rattle.emit_object.proofs.reloc_sites.reloc_sites.Goals as goal

pub returns-clause-sorted : goal.returns-clause-sorted
returns-clause-sorted c = c.sort_unstable_by_key.ensures.sorted site_place (answers_always _ (λ a r. r ≡ (a.0.now.section, a.0.now.at)) _ (λ f a r g q. search rules))
