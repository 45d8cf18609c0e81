-- The instructions of which sequences are made have codes.
use Rattle.std.specs.Prelude.{◌≡◌, ◌≢◌, ◌<◌, ◌≤◌, ℕ, ◌==◌, ◌&&◌, Bool, true, false}
use Rattle.thumb_instr.specs.declared.operations.AccessOp.{AccessOp}
use Rattle.thumb_instr.specs.declared.register_sets.RegSet.{RegSet}
use Rattle.thumb_instr.specs.Operands.{has_constant, is_list}
use Rattle.thumb_table.specs.Effects.{registers}
use Rattle.seq_core.specs.Groups.{moving}
use Rattle.seq_core.specs.Bases.{access_at, summing}
use Rattle.seq_core.specs.Stacks.{transfer_at}
use Rattle.seq_core.specs.Builders.{HasRow}
use Rattle.seq_core.specs.Replaced.{copy_loading}

-- a move of a register, if not of sp to sp
abbrev pub MovesCoded : Type 0
MovesCoded = (d m : ℕ) → d ≤ 14 → m ≤ 14 → ((d == 13) && (m == 13)) ≡ false → HasRow (moving false d m)

-- a sum or difference with a constant, put below sp
abbrev pub SumsCoded : Type 0
SumsCoded = (up : Bool) (d n k : ℕ) → d < 13 → n ≤ 14 → has_constant k ≡ true → HasRow (summing up d n k)

-- a load or store at a base
abbrev pub AccessesCoded : Type 0
AccessesCoded = (op : AccessOp) (t n : ℕ) → t ≤ 14 → t ≢ 13 → n ≤ 14 → HasRow (access_at op t n)

-- what moves a list at a base that stays
abbrev pub TransfersCoded : Type 0
TransfersCoded = (load : Bool) (n : ℕ) (list : RegSet) → n ≤ 14 → is_list list.0 false ≡ true → HasRow (transfer_at load n list (registers list.0))

-- what loads one from a copy of its base
abbrev pub CopiesCoded : Type 0
CopiesCoded = (down : Bool) (n : ℕ) (list : RegSet) → n ≤ 14 → is_list list.0 false ≡ true → HasRow (copy_loading down n list (registers list.0))
