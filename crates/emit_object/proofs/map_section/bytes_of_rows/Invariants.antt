use Rattle.std.proofs.Common.{◌≡◌, ◌++◌, drop}
use Rattle.std.specs.Prelude.{flat_map}
use Rattle.elf_model.specs.Maps.{row_bytes}
use Rattle.emit_object.proofs.map_section.bytes_of_rows.Given as goal

-- with those of the rows to come they are all
abbrev pub invariant-loop-r : goal.invariant-loop-r
invariant-loop-r l = l.bytes.items ++ flat_map row_bytes (drop l.r-index l.rows) ≡ flat_map row_bytes l.rows
