-- An address map as a list of addresses: what the rows of maps make of two images, part by part.
use Rattle.std.specs.Prelude.{◌≡◌, ◌⊎◌, ℕ, ◌+◌, ◌%◌, ◌^◌, ◌==◌, ◌&&◌, nat_lt, nat_le, Bool, true, false, List, [], ◌∷◌, ◌++◌, Option, Some, None, if◌then◌else◌, slice_get, Contains}
use Rattle.elf_model.specs.declared.objects.MapRow.{MapRow}
use Rattle.elf_model.specs.declared.objects.RowKind.{RowKind}
use Rattle.elf_model.specs.declared.objects.RowKind.TheVariants.{Start, Return}
use Rattle.thumb_table.specs.declared.parts.Part.{Part}
use Rattle.thumb_table.specs.Images.{even}
use Rattle.sim_relation.specs.declared.address_maps.Taken.{Taken}
use Rattle.sim_relation.specs.AddressMaps.{IsEnd}

-- the addresses that are taken, of entries and of return addresses
pub record MapParts : Type 0 where
  pub entries : List Taken
  pub returns : List Taken

-- an address as words have it: bit 0 is its own
abbrev pub TakenTo : List Taken → ℕ → ℕ → Type 0
TakenTo list a b = IsEnd a b ⊎ ((t : Taken) × Contains list t × (t.from ≡ even a) × (b ≡ even t.to + a % 2))

abbrev pub is_kind : RowKind → RowKind → Bool
is_kind Start Start = true
is_kind Start Return = false
is_kind Return Start = false
is_kind Return Return = true

-- an instruction is in its section; a call may end it
abbrev pub lies_at : RowKind → ℕ → ℕ → Bool
lies_at Start old size = nat_lt old size
lies_at Return old size = nat_lt 0 old && nat_le old size

abbrev pub is_row_of : RowKind → Part → MapRow → Bool
is_row_of kind part row = (row.section == part.ordinal) && (is_kind kind row.kind && lies_at kind row.old part.size)

abbrev pub is_twin : Part → Part → Bool
is_twin part other = other.code && ((other.object == part.object) && (other.ordinal == part.ordinal))

abbrev pub taken : Part → MapRow → Part → Taken
taken part row other = record { from = part.start + row.old; to = (other.start + row.new) % 2 ^ 32 }

-- what the elements of a list give that pass a test
abbrev pub gathered : {X : Type 0} → (X → Bool) → (X → List Taken) → List X → List Taken
gathered test gives [] = []
gathered test gives (x ∷ rest) = if test x then gives x ++ gathered test gives rest else gathered test gives rest

abbrev pub by_twins : Part → MapRow → List Part → List Taken
by_twins part row hard = gathered (is_twin part) (λ other. taken part row other ∷ []) hard

abbrev pub by_rows : RowKind → Part → List Part → List MapRow → List Taken
by_rows kind part hard rows = gathered (is_row_of kind part) (λ row. by_twins part row hard) rows

abbrev pub rows_in : Option (List MapRow) → List MapRow
rows_in None = []
rows_in (Some rows) = rows

abbrev pub by_part : RowKind → List Part → List (List MapRow) → Part → List Taken
by_part kind hard maps part = by_rows kind part hard (rows_in (slice_get maps part.object))

abbrev pub by_parts : RowKind → List Part → List (List MapRow) → List Part → List Taken
by_parts kind hard maps plain = gathered (λ (part : Part). part.code) (by_part kind hard maps) plain
