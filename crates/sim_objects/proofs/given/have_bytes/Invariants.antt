use Rattle.std.proofs.Common.{◌≡◌, ◌<◌, ◌^◌, ℕ, Some}
use Rattle.std.specs.Prelude.{slice_get}
use Rattle.elf_model.specs.declared.objects.Section.{Section}
use Rattle.elf_model.specs.Fields.{byte_at}
use Rattle.elf_model.specs.Objects.{ObjectParts}
use Rattle.sim_objects.proofs.given.have_bytes.Given as goal

abbrev pub invariant-loop-o : goal.invariant-loop-o
invariant-loop-o l = (i j : ℕ) (o : ObjectParts) (s : Section) → i < l.o-index → slice_get l.objects i ≡ Some o → slice_get o.sections j ≡ Some s → (x : ℕ) → byte_at s.bytes x < 2 ^ 8
