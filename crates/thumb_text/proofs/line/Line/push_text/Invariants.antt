use Rattle.std.proofs.Common.{◌≡◌, ◌++◌, take}
use Rattle.thumb_text.proofs.line.Line.push_text.Given as goal

-- the bytes so far stand behind what the line had
abbrev pub invariant-loop-byte : goal.invariant-loop-byte
invariant-loop-byte l = l.self ≡ l.initial.self ++ take l.byte-index l.byte-items
