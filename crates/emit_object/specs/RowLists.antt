-- The rows of points in order: what a call returns to comes behind the next point where that begins there, else before it.
use Rattle.std.specs.Prelude.{◌<◌, ◌^◌, ℕ, ◌+◌, ◌==◌, nat_lt, ◌&&◌, ◌||◌, Bool, true, false, List, [], ◌∷◌, ◌++◌, Option, Some, None, if◌then◌else◌, length}
use Rattle.std.specs.Option.{option_to_list}
use Rattle.elf_model.specs.declared.objects.Section.{Section}
use Rattle.elf_model.specs.declared.objects.MapRow.{MapRow}
use Rattle.elf_model.specs.declared.objects.RowKind.TheVariants.{Start, Return}
use Rattle.elf_model.specs.Objects.{is_code}
use Rattle.flow_recover.specs.declared.flows.Point.{Point}
use Rattle.flow_recover.specs.declared.flows.Exit.{Exit}
use Rattle.flow_recover.specs.declared.flows.Exit.TheVariants.{Call}
use Rattle.flow_recover.specs.Points.{end_of}
use Rattle.seq_core.specs.Places.{PlacedParts}
use Rattle.hardened_form.specs.Places.{UnitPlace}

-- the number of each section among those of code, from a number on
abbrev pub ordinals_from : ℕ → List Section → List ℕ
ordinals_from n [] = []
ordinals_from n (s ∷ rest) = n ∷ ordinals_from (if is_code s then n + 1 else n) rest

abbrev pub is_call : Exit → Bool
is_call Call = true
is_call _ = false

-- the rows of a point in the code section of a number
abbrev pub start_row : ℕ → Point × UnitPlace → MapRow
start_row n e = record { section = n; old = e.0.offset; new = e.1.start; kind = Start }

abbrev pub return_row : ℕ → Point × UnitPlace → Option MapRow
return_row n e = if is_call e.0.exit then Some (record { section = n; old = end_of e.0; new = e.1.back; kind = Return }) else None

-- a row is of an earlier place
abbrev pub is_earlier : MapRow → MapRow → Bool
is_earlier r s = nat_lt r.section s.section || ((r.section == s.section) && nat_lt r.old s.old)

abbrev pub merged : Option MapRow → MapRow → List MapRow
merged None s = s ∷ []
merged (Some r) s = if is_earlier r s then r ∷ s ∷ [] else s ∷ r ∷ []

-- with a row that waits
abbrev pub rows_from : (ℕ → ℕ) → Option MapRow → List (Point × UnitPlace) → List MapRow
rows_from number waiting [] = option_to_list waiting
rows_from number waiting (e ∷ rest) = merged waiting (start_row (number e.0.section) e) ++ rows_from number (return_row (number e.0.section) e) rest

-- a unit's numbers are small
abbrev pub UnitFits : PlacedParts → Type 0
UnitFits u = u.start + u.length < 2 ^ 32

-- a point's section has a number, and its place is small
pub record PointFits (ordinals : List ℕ) (x : Point) : Type 0 where
  pub numbered : x.section < length ordinals
  pub small : x.offset + 4 < 2 ^ 32
