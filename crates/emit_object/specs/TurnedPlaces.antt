-- The section and old offset that a relocation leads to, if it turns to a symbol of its target's own.
use Rattle.std.specs.Prelude.{ℕ, Option, Some, None, if◌then◌else◌, slice_get}
use Rattle.elf_model.specs.declared.objects.Symbol.{Symbol}
use Rattle.elf_model.specs.declared.objects.Reloc.{Reloc}
use Rattle.elf_model.specs.declared.objects.Home.{Home}
use Rattle.elf_model.specs.declared.objects.Home.TheVariants as homes
use Rattle.elf_model.specs.Objects.{ObjectParts}
use Rattle.hardened_form.specs.Turns.{is_turned, old_target}

abbrev pub place_in : ObjectParts → Reloc → Symbol → Home → Option (ℕ × ℕ)
place_in o r s homes.Undefined = None
place_in o r s homes.Absolute = None
place_in o r s (homes.Section j) = Some (j, old_target o r s)

abbrev pub place_by : ObjectParts → Reloc → Option Symbol → Option (ℕ × ℕ)
place_by o r None = None
place_by o r (Some s) = place_in o r s s.home

abbrev pub turned_place : ObjectParts → Reloc → Option (ℕ × ℕ)
turned_place o r = if is_turned o r then place_by o r (slice_get o.symbols r.symbol) else None
