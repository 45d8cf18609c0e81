use Rattle.std.proofs.Common.{◌≡◌, ◌<◌, ◌^◌, ℕ, Some}
use Rattle.std.specs.Prelude.{slice_get}
use Rattle.elf_model.specs.declared.objects.Section.{Section}
use Rattle.elf_model.specs.Fields.{byte_at}
use Rattle.sim_objects.proofs.given.sections_have_bytes.Given as goal

abbrev pub invariant-loop-s : goal.invariant-loop-s
invariant-loop-s l = (j : ℕ) (s : Section) → j < l.s-index → slice_get l.sections j ≡ Some s → (x : ℕ) → byte_at s.bytes x < 2 ^ 8
