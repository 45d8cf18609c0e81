use Rattle.std.proofs.Common.{◌≡◌, ◌≤◌, ◌<◌, ℕ, length, take, get_or, Bool}
use Rattle.std.specs.Prelude.{count_by}
use Rattle.elf_read.proofs.keeping.counts.Given as goal

abbrev pub invariant-loop-flag : goal.invariant-loop-flag
invariant-loop-flag l = record {
  long : length l.counts.items ≡ l.flag-index;
  each : (k : ℕ) → k < l.flag-index → get_or l.counts.items k 0 ≡ count_by (λ (x : Bool). x) (take k l.flags);
  next : l.n ≡ count_by (λ (x : Bool). x) (take l.flag-index l.flags);
  small : l.n ≤ l.flag-index;
}
