use Rattle.std.proofs.Common.{take}
use Rattle.emit_object.specs.KeptBytes.{AreKept}
use Rattle.emit_object.proofs.kept_bytes.kept_bytes.Given as goal

-- by the relocations so far
abbrev pub invariant-loop-r : goal.invariant-loop-r
invariant-loop-r l = AreKept l.o (take l.r-index l.o.relocs) l.all.items
