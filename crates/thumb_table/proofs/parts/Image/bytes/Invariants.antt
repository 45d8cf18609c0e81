use Rattle.std.proofs.Common.{◌≡◌, ◌++◌, ◌-◌, length, map, take}
use Rattle.std.specs.Prelude.{replicate}
use Rattle.thumb_table.proofs.parts.Image.bytes.Given as goal

abbrev pub invariant-loop-cell : goal.invariant-loop-cell
invariant-loop-cell l = l.bytes.items ≡ l.self.code.bytes ++ replicate (l.self.room - length l.self.code.bytes) 0 ++ map (λ c. c.byte) (take l.cell-index l.cell-items)
