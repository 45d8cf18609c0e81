-- The first of the faults with the lowest numbers.
use Rattle.std.specs.Prelude.{ℕ, ◌<◌, List, Option, Some, None}
use Rattle.elf_model.specs.declared.refusals.Refusal.{Refusal}
use Rattle.elf_model.specs.declared.refusals.Limit.{Limit}
use Rattle.elf_model.specs.declared.refusals.Spot.{Spot}
use Rattle.elf_model.specs.Refusals.{number_of}
use Rattle.elf_read.specs.declared.places.Place.{Place}
use Rattle.elf_read.specs.Faults.{Fault, IsFirstFault}

abbrev pub spot_at : Refusal → Place → Spot
spot_at r p = record { refusal = r; file = 0; section = p.section; offset = p.offset }

-- no fault with a number below n
abbrev pub IsFaultlessBelow : List ℕ → Limit → ℕ → Type 0
IsFaultlessBelow b l n = (r : Refusal) (section offset : ℕ) → number_of r < n → Fault b l r section offset → ⊥

-- what a file is refused for among the faults with numbers below n, or none of them
abbrev pub IsFirstBelow : List ℕ → Limit → ℕ → Option Spot → Type 0
IsFirstBelow b l n None = IsFaultlessBelow b l n
IsFirstBelow b l n (Some spot) = (number_of spot.refusal < n) × IsFirstFault b l spot
