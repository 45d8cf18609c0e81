-- The processor's registers, with memory beside them, as a state of the machine.
use Rattle.std.specs.Prelude.{ℕ, Bool, [], if◌then◌else◌}
use Rattle.thumb_table.specs.declared.cores.Core.{Core as Registers}
use Rattle.thumb_table.specs.Parts.{Memory, CodeBytes}
use Rattle.thumb_table.specs.States.{Core, State, Site, at}

abbrev pub core_of : Registers → Memory → Core
core_of s m = record { regs = s.r; n = s.n; z = s.z; c = s.c; v = s.v; it = s.it; memory = m }

abbrev pub state_of : Registers → Memory → State
state_of s m = at s.pc (core_of s m)

-- registers and flags alone, over memory that has no bytes
abbrev pub alone : Registers → Core
alone s = core_of s (record { base = 0; cells = [] })

-- the bytes of an instruction
abbrev pub width_of : Bool → ℕ
width_of wide = if wide then 4 else 2

-- where an instruction stands that so many bytes are of
abbrev pub site_of : CodeBytes → Registers → ℕ → Site
site_of code s width = record { code = code; address = s.pc; width = width }
