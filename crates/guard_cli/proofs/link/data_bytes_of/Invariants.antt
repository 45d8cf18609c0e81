use Rattle.std.proofs.Common.{◌≡◌, ◌*◌, ◌≤◌, ◌^◌, take}
use Rattle.thumb_table.specs.Images.{is_data}
use Rattle.guard_cli.specs.LinkWork.{bytes_of}
use Rattle.guard_cli.proofs.link.data_bytes_of.Given as goal

abbrev pub invariant-loop-section : goal.invariant-loop-section
invariant-loop-section l = (l.sum ≤ l.section-index * 2 ^ 32) × (l.sum ≡ bytes_of is_data (take l.section-index l.sections))
