-- When an object has no address map, and what it is refused for then.
use Rattle.std.specs.Prelude.{◌≡◌, List, ⊤}
use Rattle.elf_model.specs.declared.objects.MapRow.{MapRow}
use Rattle.elf_model.specs.declared.refusals.Refusal.TheVariants.{SectionKind}
use Rattle.elf_model.specs.declared.refusals.Deny.{Deny}
use Rattle.elf_model.specs.declared.refusals.Deny.TheVariants.{NoMemory, Refused}
use Rattle.elf_model.specs.Maps.{HasMap}
use Rattle.elf_model.specs.Objects.{ObjectParts}

abbrev pub HasNoMap : ObjectParts → Type 0
HasNoMap o = (rows : List MapRow) → HasMap o rows → ⊥

-- the refusal of an object without a map
abbrev pub map_spot : Deny
map_spot = Refused (record { refusal = SectionKind; file = 0; section = 0; offset = 0 })

-- what comes in place of rows, only for this reason; memory may run out at any time
abbrev pub IsDenied : Type 0 → Deny → Type 0
IsDenied P NoMemory = ⊤
IsDenied P (Refused spot) = (Refused spot ≡ map_spot) × P
