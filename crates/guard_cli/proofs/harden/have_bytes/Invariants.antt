use Rattle.std.proofs.Common.{◌≡◌, ◌<◌, ◌^◌, ℕ, Some}
use Rattle.std.specs.Prelude.{slice_get}
use Rattle.elf_model.specs.declared.objects.Section.{Section}
use Rattle.elf_model.specs.Fields.{byte_at}
use Rattle.guard_cli.proofs.harden.have_bytes.Given as goal

abbrev pub invariant-loop-section : goal.invariant-loop-section
invariant-loop-section l = (j : ℕ) (s : Section) → j < l.section-index → slice_get l.sections j ≡ Some s → (x : ℕ) → byte_at s.bytes x < 2 ^ 8
