-- The copies of a unit's steps as they stand, and which of them carry the relocation of the unit's point.
use Rattle.std.specs.Prelude.{◌≡◌, ℕ, ◌+◌, ◌||◌, Bool, true, false, List, [], ◌∷◌, map, filter, slice_get, Some, Contains}
use Rattle.elf_model.specs.Fields.{half_at}
use Rattle.elf_model.specs.Objects.{ObjectParts}
use Rattle.thumb_instr.specs.declared.instructions.Instr.{Instr}
use Rattle.thumb_instr.specs.declared.instructions.Instr.TheVariants as instr
use Rattle.thumb_encode.specs.declared.codes.Code.{Code}
use Rattle.thumb_encode.specs.declared.codes.Code.TheVariants as code
use Rattle.thumb_encode.specs.Encoding.{width_of}
use Rattle.reloc_places.specs.Starts.{bytes_of}
use Rattle.seq_core.specs.declared.steps.Step.{Step}
use Rattle.seq_core.specs.declared.steps.Goal.{Goal}
use Rattle.seq_core.specs.declared.steps.Goal.TheVariants as goal
use Rattle.seq_core.specs.Places.{PlacedParts, LayoutParts}
use Rattle.hardened_form.specs.Carriers.{Carrier}
use Rattle.branch_layout.specs.Copies.{copies_of, bytes_of as bytes_of_width}
use Rattle.branch_layout.specs.Goals.{placed_instr}
use Rattle.branch_layout.specs.Laid.{laid_place, laid_places}

-- one of them: its offset, its step, its code
pub record Copy : Type 0 where
  pub at : ℕ
  pub step : Step
  pub code : Code

-- one behind the other
abbrev pub copies_from : ℕ → List Step → List Code → List Copy
copies_from at [] cs = []
copies_from at (t ∷ ts) [] = []
copies_from at (t ∷ ts) (c ∷ cs) = record { at = at; step = t; code = c } ∷ copies_from (at + bytes_of_width (width_of c)) ts cs

abbrev pub unit_copies : PlacedParts → List Copy
unit_copies u = copies_from u.start (copies_of u.unit.seq.steps) u.codes

-- MOVW and MOVT carry it, and what goes to the target.
abbrev pub is_half : Instr → Bool
is_half (instr.Half i) = true
is_half i = false

abbrev pub is_target : Goal → Bool
is_target goal.Target = true
is_target g = false

abbrev pub carries : Step → Bool
carries s = is_half s.instr || is_target s.goal

abbrev pub copy_carries : Copy → Bool
copy_carries c = carries c.step

abbrev pub carrier : LayoutParts → PlacedParts → Copy → Carrier
carrier l u c = record { at = c.at; instr = placed_instr (laid_places l) u.unit (laid_place u) c.at c.step }

abbrev pub carriers_of : LayoutParts → PlacedParts → List Carrier
carriers_of l u = map (carrier l u) (filter copy_carries (unit_copies u))

abbrev pub all_carriers : LayoutParts → List (List Carrier)
all_carriers l = map (carriers_of l) l.units

-- the halfwords of a code stand at an offset
abbrev pub CodeAt : List ℕ → ℕ → Code → Type 0
CodeAt bytes at (code.Half h) = half_at bytes at ≡ h
CodeAt bytes at (code.Full first second) = (half_at bytes at ≡ first) × (half_at bytes (at + 2) ≡ second)

-- Each copy has its code where it stands.
abbrev pub HaveCodes : ObjectParts → LayoutParts → Type 0
HaveCodes h l = (k : ℕ) (u : PlacedParts) (c : Copy) → slice_get l.units k ≡ Some u → Contains (unit_copies u) c → CodeAt (bytes_of h u.unit.section) c.at c.code
