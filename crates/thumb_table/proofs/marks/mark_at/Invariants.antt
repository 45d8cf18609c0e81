use Rattle.std.proofs.Common.{◌-◌, ◌<◌, ◌≤◌, map, ℕ, length, get_or}
use Rattle.thumb_table.proofs.marks.mark_at.Given as goal

abbrev pub invariant-halve : goal.invariant-halve
invariant-halve l = record {
  order : l.low ≤ l.high;
  within : l.high ≤ length l.marks;
  below : (k : ℕ) → k < l.low → get_or (map (λ p. p.at) l.marks) k 0 < l.address;
  above : (k : ℕ) → l.high ≤ k → k < length l.marks → l.address ≤ get_or (map (λ p. p.at) l.marks) k 0;
}

abbrev pub decreases-halve : goal.decreases-halve
decreases-halve l = l.high - l.low
