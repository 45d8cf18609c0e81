-- A machine.
use Rattle.std.specs.Prelude.{◌≡◌, ℕ, ◌+◌, ◌%◌, ◌^◌, ◌<◌, ◌≤◌, Bool, length, map, Some, Ok}
use Rattle.std.specs.List.Sorted.{IsStrictlyIncreasing}
use Rattle.elf_model.specs.Canonical.{round_up}
use Rattle.thumb_table.specs.declared.cores.Core.{Core as Registers}
use Rattle.thumb_table.specs.Parts.{CodeBytes, Memory, Image}
use Rattle.thumb_table.specs.States.{State}
use Rattle.thumb_table.specs.Steps.{Fetched, skip_of}
use Rattle.thumb_table.specs.CoreStates.{state_of}

pub record Machine : Type 0 where
  pub code : CodeBytes
  pub core : Registers
  pub memory : Memory
  pub steps : ℕ
  pub running : Bool
  pub ordinary : Bool

abbrev pub state : Machine → State
state m = state_of m.core m.memory

-- Marks and stops rise, and code and memory end below 2^32.
pub record IsSound (code : CodeBytes) (memory : Memory) : Type 0 where
  pub marks_rise : IsStrictlyIncreasing (map (λ p. p.at) code.marks)
  pub stops_rise : IsStrictlyIncreasing code.stops
  pub code_ends : code.base + length code.bytes < 2 ^ 32
  pub memory_ends : memory.base + length memory.cells < 2 ^ 32

-- an image that is run with so large a stack
pub record CanRun (image : Image) (stack : ℕ) : Type 0 where
  pub base : image.memory.base ≡ image.code.base + image.room
  pub base_even : image.memory.base % 8 ≡ 0
  pub code_fits : length image.code.bytes ≤ image.room
  pub stack_even : stack % 8 ≡ 0
  pub stack_low : 8 ≤ stack
  pub data_fits : round_up (length image.memory.cells) 8 + stack ≤ 16777216
  pub end_fits : image.memory.base + length image.memory.cells ≤ 0x7FFFF000
  pub marks_rise : IsStrictlyIncreasing (map (λ p. p.at) image.code.marks)
  pub stops_rise : IsStrictlyIncreasing image.code.stops

-- A skipped step makes these registers of those, whatever memory has.
abbrev pub PassesOver : Fetched → Registers → Registers → Type 0
PassesOver f s t = (m : Memory) → skip_of (Some f) (state_of s m) ≡ Ok (state_of t m)
