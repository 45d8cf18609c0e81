use Rattle.std.proofs.Common.{◌≡◌, ◌++◌, drop, length, map, string_bytes}
use Rattle.guard_words.specs.Tasks.{pairs_in}
use Rattle.guard_cli.proofs.HardenLoops.{lines_of}
use Rattle.guard_cli.proofs.texts.lines_text.Given as goal

abbrev pub invariant-loop-counted : goal.invariant-loop-counted
invariant-loop-counted l = record {
  lines : string_bytes l.lines ++ lines_of (pairs_in (map string_bytes l.rest)) (drop l.counted-index l.counts) ≡ lines_of (pairs_in (map string_bytes l.names)) l.counts;
  left : length (pairs_in (map string_bytes l.rest)) ≡ length (drop l.counted-index l.counts);
}
