use Rattle.std.proofs.Common.{◌≢◌, ◌<◌, ◌+◌, ℕ, get_or}
use Rattle.elf_read.proofs.strings.text_len.Given as goal

abbrev pub invariant-loop-n : goal.invariant-loop-n
invariant-loop-n l = (k : ℕ) → k < l.n → get_or l.table (l.start + k) 0 ≢ 0
