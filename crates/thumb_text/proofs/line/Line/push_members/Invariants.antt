use Rattle.std.proofs.Common.{◌≡◌, ◌+◌, ◌-◌, ◌*◌, ◌≤◌, ◌++◌, codes, length}
use Rattle.thumb_text.specs.Pieces.{separated, names_of, has_any}
use Rattle.thumb_text.proofs.line.Line.push_members.Given as goal

-- The names below this number stand behind what the line had. Those below 10 take 3 bytes each with a comma.
abbrev pub invariant-loop-number : goal.invariant-loop-number
invariant-loop-number l =
    (l.self ≡ l.initial.self ++ separated (codes ",") (names_of l.list.0 l.number))
    × (l.some ≡ has_any (names_of l.list.0 l.number))
    × (length l.self ≤ length l.initial.self + 3 * l.number + (l.number - 10))
