-- Where the sections of objects stand in memory: code from a base on, then data.
use Rattle.std.specs.Prelude.{◌≡◌, ◌<◌, ◌≤◌, ℕ, ◌+◌, ◌-◌, ◌%◌, ◌^◌, ◌==◌, ◌&&◌, max, Bool, List, [], ◌∷◌, ◌++◌, replicate, find, Option, Some, None, if◌then◌else◌}
use Rattle.elf_model.specs.declared.objects.Section.{Section}
use Rattle.elf_model.specs.declared.objects.Home.{Home}
use Rattle.elf_model.specs.declared.objects.Home.TheVariants as home
use Rattle.elf_model.specs.Constants.{nobits}
use Rattle.elf_model.specs.Objects.{ObjectParts, is_code, is_data}
use Rattle.elf_model.specs.Canonical.{round_up}
use Rattle.thumb_table.specs.declared.placements.Placement.{Placement}
use Rattle.thumb_table.specs.declared.parts.Part.{Part}

-- A placement is where code and data go: code from `base` on, in `room` bytes, then data, then `stack` bytes.
pub record IsPlacement (at : Placement) : Type 0 where
  pub base_even : at.base % 4096 ≡ 0
  pub base_fits : at.base < 2 ^ 32
  pub room_even : at.room % 8 ≡ 0
  pub room_low : 8 ≤ at.room
  pub room_high : at.room ≤ 524288
  pub stack_even : at.stack % 8 ≡ 0
  pub stack_low : 8 ≤ at.stack
  pub stack_high : at.stack ≤ 16777216

-- A section in its place: of which object, its number there, its number among the sections of its sort
-- (code, or data), and where it starts.
pub record Placed : Type 0 where
  pub object : ℕ
  pub index : ℕ
  pub ordinal : ℕ
  pub start : ℕ
  pub section : Section

-- the sections of a sort, in the order of objects and sections, not yet placed
abbrev pub chosen : (Section → Bool) → ℕ → ℕ → ℕ → List Section → List Placed
chosen sort i j k [] = []
chosen sort i j k (s ∷ rest) =
    if sort s then record { object = i; index = j; ordinal = k; start = 0; section = s } ∷ chosen sort i (j + 1) (k + 1) rest
    else chosen sort i (j + 1) k rest

abbrev pub all_chosen : (Section → Bool) → ℕ → List ObjectParts → List Placed
all_chosen sort i [] = []
all_chosen sort i (o ∷ rest) = chosen sort i 0 0 o.sections ++ all_chosen sort (i + 1) rest

-- one behind the other from an address on, each at a multiple of its alignment
abbrev pub placed : (Section → ℕ) → ℕ → List Placed → List Placed
placed alignment from [] = []
placed alignment from (p ∷ rest) =
    let start = round_up from (alignment p.section) in
    record p { start = start } ∷ placed alignment (start + p.section.size) rest

abbrev pub code_parts : List ObjectParts → Placement → List Placed
code_parts objects at = placed (λ s. max 4 s.align) at.base (all_chosen is_code 0 objects)

abbrev pub data_parts : List ObjectParts → Placement → List Placed
data_parts objects at = placed (λ s. s.align) (at.base + at.room) (all_chosen is_data 0 objects)

-- the bytes of parts from an address on, with zeros between them and in sections without bytes
abbrev pub part_bytes : Section → List ℕ
part_bytes s = if s.kind == nobits then replicate s.size 0 else s.bytes

abbrev pub bytes_from : ℕ → List Placed → List ℕ
bytes_from from [] = []
bytes_from from (p ∷ rest) = replicate (p.start - from) 0 ++ part_bytes p.section ++ bytes_from (p.start + p.section.size) rest

abbrev pub code_bytes_of : List ObjectParts → Placement → List ℕ
code_bytes_of objects at = bytes_from at.base (code_parts objects at)

abbrev pub data_bytes_of : List ObjectParts → Placement → List ℕ
data_bytes_of objects at = bytes_from (at.base + at.room) (data_parts objects at)

-- all sections in their places, code first
abbrev pub all_placed : List ObjectParts → Placement → List Placed
all_placed objects at = code_parts objects at ++ data_parts objects at

abbrev pub as_part : Placed → Part
as_part p = record { object = p.object; code = is_code p.section; ordinal = p.ordinal; start = p.start; size = p.section.size }

-- the part that an object's section is in, and where it starts; a section that isn't in memory starts at 0
abbrev pub part_of : List Placed → ℕ → ℕ → Option Placed
part_of parts i j = find (λ p. (p.object == i) && (p.index == j)) parts

-- the part that a home names, if it is in memory
abbrev pub home_part : List Placed → ℕ → Home → Option Placed
home_part parts i home.Undefined = None
home_part parts i home.Absolute = None
home_part parts i (home.Section j) = part_of parts i j

abbrev pub start_of : Option Placed → ℕ
start_of None = 0
start_of (Some p) = p.start

abbrev pub home_start : List Placed → ℕ → Home → ℕ
home_start parts i home.Undefined = 0
home_start parts i home.Absolute = 0
home_start parts i (home.Section j) = start_of (part_of parts i j)
