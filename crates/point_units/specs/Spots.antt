-- The places of what points lack, in the order in which they are found.
use Rattle.std.specs.Prelude.{◌≡◌, ◌↔◌, ℕ, ◌&&◌, ◌||◌, nat_lt, Bool, List, Option, Some, None, if◌then◌else◌, length, Contains}
use Rattle.elf_model.specs.declared.refusals.Refusal.{Refusal}
use Rattle.elf_model.specs.declared.refusals.Refusal.TheVariants.{NoScratch}
use Rattle.elf_model.specs.declared.refusals.Spot.{Spot}
use Rattle.thumb_instr.specs.declared.instructions.Instr.{Instr}
use Rattle.thumb_instr.specs.declared.register_sets.RegSet.{RegSet}
use Rattle.thumb_instr.specs.Operands.{has}
use Rattle.code_ranges.specs.Spots.{spot_of}
use Rattle.flow_recover.specs.declared.flows.Point.{Point}
use Rattle.flow_recover.specs.Flows.{FlowParts}
use Rattle.liveness.specs.declared.boundary.Boundary.{Boundary}
use Rattle.seq_core.specs.declared.classes.Class.{Class}
use Rattle.seq_core.specs.Classes.{IsOf}
use Rattle.seq_core.specs.Needs.{registers_of, changes_flags}
use Rattle.point_units.specs.Scratch.{scratch_of, has_live_flag, Lacks}

-- a register that is not busy
abbrev pub free_in : RegSet → ℕ → Option ℕ
free_in busy n = if has busy.0 n then None else Some n

-- what an instruction of a class lacks
abbrev pub lack : Class → (ℕ → Bool) → Instr → Option Refusal
lack c live i =
    let need : ℕ = registers_of c i in
    let have : ℕ = length (scratch_of live i) in
    let flags : Bool = changes_flags c && has_live_flag live in
    if nat_lt have need || flags then Some (NoScratch need have flags) else None

-- with its place
abbrev pub lack_at : Point → Option Refusal → Option Spot
lack_at x None = None
lack_at x (Some r) = Some (spot_of r x.section x.offset)

abbrev pub lack_by : Point → (ℕ → Bool) → Option Class → Option Spot
lack_by x live None = None
lack_by x live (Some c) = lack_at x (lack c live x.instr)

-- by the class that it has, if it has one
pub record IsLackAt (x : Point) (live : ℕ → Bool) (s : Option Spot) : Type 0 where
  pub class : Option Class
  pub exact : (c : Class) → (class ≡ Some c) ↔ IsOf c x.instr
  pub is : s ≡ lack_by x live class

-- of some points
pub record AreSpots (f : FlowParts) (b : Boundary) (points : List Point) (spots : List Spot) : Type 0 where
  pub sound : (s : Spot) → Contains spots s → (x : Point) × (need : ℕ) × (have : ℕ) × (flags : Bool) × Contains points x × Lacks f b x need have flags × (s ≡ spot_of (NoScratch need have flags) x.section x.offset)
  pub whole : (x : Point) (need have : ℕ) (flags : Bool) → Contains points x → Lacks f b x need have flags → Contains spots (spot_of (NoScratch need have flags) x.section x.offset)
