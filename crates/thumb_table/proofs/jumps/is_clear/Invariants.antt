use Rattle.std.proofs.Common.{◌+◌, ◌-◌, length}
use Rattle.thumb_table.specs.Ordinary.{IsClear}
use Rattle.thumb_table.proofs.jumps.is_clear.Given as goal

abbrev pub invariant-walk : goal.invariant-walk
invariant-walk l = record { onwards : IsClear l.code l.at → IsClear l.code l.fn.address; backwards : IsClear l.code l.fn.address → IsClear l.code l.at }

abbrev pub decreases-walk : goal.decreases-walk
decreases-walk l = l.code.base + length l.code.bytes - l.at
