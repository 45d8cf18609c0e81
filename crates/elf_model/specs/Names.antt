-- The bytes of a name.
use Rattle.std.specs.Prelude.{ℕ, List}
use Rattle.elf_model.specs.declared.names.Text.{Text}
use Rattle.elf_model.specs.declared.names.Text.TheVariants.{Own, Part}

-- its own, or those of a table's part
abbrev pub bytes_of : Text → List ℕ
bytes_of (Own v) = v.items
bytes_of (Part p) = p
