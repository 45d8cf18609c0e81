-- The sequence of a unit: what the bytes of the hardened section are there, read by the table of instructions.
use Rattle.std.specs.Prelude.{◌≡◌, ℕ, ◌+◌, List, [], ◌∷◌, Option, Some, None, Ok, Contains}
use Rattle.elf_model.specs.Canonical.{round_up}
use Rattle.elf_model.specs.Objects.{ObjectParts}
use Rattle.elf_model.specs.Ranges.{length_at}
use Rattle.thumb_instr.specs.declared.instructions.Instr.{Instr}
use Rattle.reloc_places.specs.Starts.{bytes_of, decoded_at}
use Rattle.reloc_places.specs.Relocations.{reloc_at}
use Rattle.hardened_form.specs.Places.{UnitPlace}
use Rattle.hardened_form.specs.Carriers.{Carrier}
use Rattle.hardened_form.specs.Code.{IsFill}

-- an instruction of a section: where it stands, how many bytes it has, what it is out of IT blocks, and its relocation
pub record PlacedStep : Type 0 where
  pub at : ℕ
  pub width : ℕ
  pub instr : Instr
  pub reloc : Option ℕ

-- the instructions of a unit, where they end, and the registers that they may spoil
pub record Sequence : Type 0 where
  pub steps : List PlacedStep
  pub behind : ℕ
  pub scratch : List ℕ

pub record IsStepAt (h : ObjectParts) (j x : ℕ) (s : PlacedStep) : Type 0 where
  pub at : s.at ≡ x
  pub width : s.width ≡ length_at (bytes_of h j) x
  pub instr : decoded_at (bytes_of h j) x 0 ≡ Ok s.instr
  pub reloc : s.reloc ≡ reloc_at h j x

-- the instructions from x to z
abbrev pub AreSteps : ObjectParts → ℕ → ℕ → List PlacedStep → ℕ → Type 0
AreSteps h j x [] z = x ≡ z
AreSteps h j x (s ∷ rest) z = IsStepAt h j x s × AreSteps h j (x + s.width) rest z

-- A word of the unit's own stands behind them, at the next multiple of 4.
pub record IsIsland (bytes : List ℕ) (x w end : ℕ) : Type 0 where
  pub place : w ≡ round_up x 4
  pub filled : IsFill bytes x w
  pub ends : end ≡ w + 4

abbrev pub EndsWith : List ℕ → ℕ → Option ℕ → ℕ → Type 0
EndsWith bytes x None end = end ≡ x
EndsWith bytes x (Some w) end = IsIsland bytes x w end

-- What the section has at the unit's place.
pub record IsSequence (h : ObjectParts) (j : ℕ) (u : UnitPlace) (s : Sequence) : Type 0 where
  pub steps : AreSteps h j u.start s.steps s.behind
  pub island : EndsWith (bytes_of h j) s.behind u.island u.end

-- What carries a relocation of its point is one of them.
abbrev pub AreAmong : List Carrier → List PlacedStep → Type 0
AreAmong carriers steps = (c : Carrier) → Contains carriers c → (s : PlacedStep) × Contains steps s × (s.at ≡ c.at)
