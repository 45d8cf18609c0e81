use Rattle.std.proofs.Common.{◌≡◌, ◌*◌, ◌≤◌, ◌^◌, take}
use Rattle.elf_model.specs.Objects.{code_size}
use Rattle.make_run.proofs.making.code_bytes_of.Given as goal

abbrev pub invariant-loop-section : goal.invariant-loop-section
invariant-loop-section l = (l.sum ≤ l.section-index * 2 ^ 32) × (l.sum ≡ code_size (take l.section-index l.sections))
