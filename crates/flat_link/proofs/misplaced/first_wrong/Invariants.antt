use Rattle.std.proofs.Common.{◌≡◌, ◌<◌, ℕ, Some}
use Rattle.std.specs.Prelude.{slice_get}
use Rattle.elf_model.specs.declared.objects.Reloc.{Reloc}
use Rattle.reloc_places.specs.Relocations.{IsRight}
use Rattle.flat_link.proofs.misplaced.first_wrong.Given as goal

abbrev pub invariant-loop-k : goal.invariant-loop-k
invariant-loop-k l = (h : ℕ) (q : Reloc) → h < l.k → slice_get l.o.relocs h ≡ Some q → IsRight l.o h q
