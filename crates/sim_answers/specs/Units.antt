-- What is asked of a hardened form beyond its tables: its units are instructions one behind the other.
use Rattle.std.specs.Prelude.{Option, [], ◌∷◌, Ok, ◌≡◌, ◌<◌, ℕ, ◌+◌, ◌%◌, List, Some, slice_get, unwrap_or, Contains}
use Rattle.std.specs.List.{zip}
use Rattle.elf_model.specs.declared.objects.Section.{Section}
use Rattle.elf_model.specs.declared.objects.Reloc.{Reloc}
use Rattle.elf_model.specs.Objects.{ObjectParts}
use Rattle.elf_model.specs.Ranges.{length_at, IsStart}
use Rattle.thumb_instr.specs.declared.instructions.Instr.{Instr}
use Rattle.reloc_places.specs.Starts.{bytes_of, decoded_at, behind}
use Rattle.reloc_places.specs.Relocations.{reloc_at}
use Rattle.flow_recover.specs.declared.flows.Point.{Point}
use Rattle.flow_recover.specs.Flows.{FlowParts}
use Rattle.hardened_form.specs.Places.{UnitPlace, Places}
use Rattle.hardened_form.specs.Standing.{units}
use Rattle.hardened_form.specs.Carriers.{Carrier}

-- Lengths of instructions divide what lies between an offset and another.
pub data Divides (bytes : List ℕ) (z : ℕ) : ℕ → Type 0 where
  ended : Divides bytes z z
  longer : (x : ℕ) → Divides bytes z (x + length_at bytes x) → Divides bytes z x

-- The instructions from one offset to another, each with its relocation, if it has one.
pub data AreSteps (h : ObjectParts) (j z : ℕ) : ℕ → List (Instr × Option ℕ) → Type 0 where
  done : AreSteps h j z z []
  step : (x : ℕ) (i : Instr) (rest : List (Instr × Option ℕ)) → decoded_at (bytes_of h j) x 0 ≡ Ok i → AreSteps h j z (behind h j x) rest → AreSteps h j z x ((i, reloc_at h j x) ∷ rest)

-- where a unit's instructions end: before the word behind them, if it has one
abbrev pub code_end : UnitPlace → ℕ
code_end u = unwrap_or u.island u.end

-- A unit begins inside of its section, its bytes are instructions, and its word stands behind them at a multiple of 4.
pub record IsUnit (h : ObjectParts) (j : ℕ) (u : UnitPlace) : Type 0 where
  pub inside : (t : Section) → slice_get h.sections j ≡ Some t → u.start < t.size
  pub divided : Divides (bytes_of h j) (code_end u) u.start
  pub island : (y : ℕ) → u.island ≡ Some y → (u.start < y) × (y % 4 ≡ 0) × (u.end ≡ y + 4)

-- And what carries the relocation of a point is one of the instructions of its unit.
pub record AreUnits (o h : ObjectParts) (f : FlowParts) (p : Places) (carriers : List (List Carrier)) : Type 0 where
  pub each : (x : Point) (u : UnitPlace) → Contains (units f p) (x, u) → IsUnit h x.section u
  pub steps : (x : Point) (u : UnitPlace) (all : List Carrier) (c : Carrier) (k : ℕ) (r : Reloc) → Contains (zip (units f p) carriers) ((x, u), all) → Contains all c
      → x.reloc ≡ Some k → slice_get o.relocs k ≡ Some r → IsStart (bytes_of h x.section) u.start (code_end u) c.at
