use Rattle.std.proofs.Common.{◌≡◌, take}
use Rattle.std.specs.Prelude.{All}
use Rattle.std.specs.List.{flat_map}
use Rattle.elf_model.specs.Fits.{RelocFits}
use Rattle.elf_model.specs.Canonical.{reloc_row}
use Rattle.elf_write.proofs.relocs.reloc_rows.Given as goal

abbrev pub invariant-loop-r : goal.invariant-loop-r
invariant-loop-r l = record { rows : l.rows.items ≡ flat_map reloc_row (take l.r-index l.relocs); fit : All RelocFits (take l.r-index l.relocs) }
