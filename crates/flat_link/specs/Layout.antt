-- Sections in their places: the whole layout, and why there is none.
use Rattle.std.specs.Prelude.{◌≡◌, ◌<◌, ◌≤◌, ◌⊎◌, ℕ, ◌+◌, true, List, length, map, option_map, All, IsTrue, ⊤}
use Rattle.std.specs.BTreeMap.{get}
use Rattle.std.specs.List.{list_all}
use Rattle.elf_model.specs.declared.refusals.TheConstants.Limit.{ANY}
use Rattle.elf_model.specs.declared.refusals.Refusal.TheVariants.{DoesNotFit}
use Rattle.elf_model.specs.declared.refusals.Deny.{Deny}
use Rattle.elf_model.specs.declared.refusals.Deny.TheVariants.{NoMemory, Refused}
use Rattle.elf_model.specs.Objects.{ObjectParts, is_object, is_within}
use Rattle.elf_model.specs.Canonical.{round_up}
use Rattle.code_ranges.specs.Spans.{place_cmp}
use Rattle.thumb_table.specs.declared.placements.Placement.{Placement}
use Rattle.thumb_table.specs.Layouts.{Placed, IsPlacement, code_parts, data_parts, all_placed, part_of, code_bytes_of, data_bytes_of}
use Rattle.code_ranges.specs.Spots.{spot_in}
use Rattle.flat_link.specs.declared.layout.Layout.{Layout}
use Rattle.flat_link.specs.Lots.{placed_of}

abbrev pub AreObjects : List ObjectParts → Type 0
AreObjects objects = list_all is_object objects ≡ true

-- code, data and stack fit their places
pub record Fits (objects : List ObjectParts) (at : Placement) : Type 0 where
  pub code : length (code_bytes_of objects at) ≤ at.room
  pub memory : round_up (length (data_bytes_of objects at)) 8 + at.stack ≤ 16777216
  pub last : at.base + at.room + length (data_bytes_of objects at) ≤ 0x7FFFF000

-- sound objects at a placement that they fit
pub record Stands (objects : List ObjectParts) (at : Placement) : Type 0 where
  pub placement : IsPlacement at
  pub sound : AreObjects objects
  pub fits : Fits objects at

-- all sections of a layout in their places
abbrev pub parts_in : Layout → List Placed
parts_in l = all_placed l.objects.now l.at

pub record IsLayout (l : Layout) : Type 0 where
  pub placement : IsPlacement l.at
  pub few : length l.objects.now ≤ 16
  pub within : All (λ o. IsTrue (is_within o ANY)) l.objects.now
  pub sound : AreObjects l.objects.now
  pub fits : Fits l.objects.now l.at
  pub code : map placed_of l.code.items ≡ code_parts l.objects.now l.at
  pub memory : map placed_of l.data.items ≡ data_parts l.objects.now l.at
  pub table : (i j : ℕ) → option_map placed_of (get place_cmp l.table (i, j)) ≡ part_of (parts_in l) i j

-- one of the three is too long
abbrev pub IsTooLong : List ObjectParts → Placement → Type 0
IsTooLong objects at =
    (at.room < length (code_bytes_of objects at))
    ⊎ ((16777216 < round_up (length (data_bytes_of objects at)) 8 + at.stack) ⊎ (0x7FFFF000 < at.base + at.room + length (data_bytes_of objects at)))

abbrev pub IsFitDenial : List ObjectParts → Placement → Deny → Type 0
IsFitDenial objects at NoMemory = ⊤
IsFitDenial objects at (Refused spot) = (spot ≡ spot_in DoesNotFit 0 0 0) × IsTooLong objects at
