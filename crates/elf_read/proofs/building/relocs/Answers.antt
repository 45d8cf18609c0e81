use Rattle.std.proofs.Common.{◌≡◌, rules}
use Rattle.std.proofs.lemmas.List.Sorted.{answers_always}
use Rattle.elf_model.specs.declared.objects.Reloc.{Reloc}
use Rattle.elf_read.proofs.building.relocs.Goals as goal

pub returns-clause-sorted : goal.returns-clause-sorted
returns-clause-sorted c = c.sort_unstable_by_key.ensures.sorted (λ (r : Reloc). (r.section, r.offset)) (answers_always _ (λ a r. r ≡ (a.0.now.section, a.0.now.offset)) _ (λ f a r g q. search rules))
