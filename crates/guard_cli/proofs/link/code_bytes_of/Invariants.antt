use Rattle.std.proofs.Common.{◌≡◌, ◌*◌, ◌≤◌, ◌^◌, take}
use Rattle.elf_model.specs.Objects.{is_code}
use Rattle.guard_cli.specs.LinkWork.{bytes_of}
use Rattle.guard_cli.proofs.link.code_bytes_of.Given as goal

abbrev pub invariant-loop-section : goal.invariant-loop-section
invariant-loop-section l = (l.sum ≤ l.section-index * 2 ^ 32) × (l.sum ≡ bytes_of is_code (take l.section-index l.sections))
