use Rattle.std.proofs.Common.{◌≡◌, drop}
use Rattle.thumb_table.specs.Images.{entry_of}
use Rattle.thumb_table.proofs.parts.Image.entry.Given as goal

abbrev pub invariant-loop-e : goal.invariant-loop-e
invariant-loop-e l = entry_of (drop l.e-index l.e-items) l.name ≡ entry_of l.self.entries l.name
