-- Registers with the flags of a result.
use Rattle.std.specs.Prelude.{ℕ, ◌==◌, Bool, true, false}
use Rattle.thumb_table.specs.declared.cores.Core.{Core as Registers}
use Rattle.thumb_table.specs.States.{or_old}
use Rattle.thumb_table.specs.Values.{Computed, is_negative}

-- N and Z, the carry where there is one, and V of a sum
abbrev pub flagged : Bool → Computed → Registers → Registers
flagged false r s = s
flagged true r s = record s { n = is_negative r.value; z = r.value == 0; c = or_old r.carry s.c; v = or_old r.overflow s.v }

-- N and Z alone
abbrev pub signed_by : Bool → ℕ → Registers → Registers
signed_by false bits s = s
signed_by true bits s = record s { n = is_negative bits; z = bits == 0 }
