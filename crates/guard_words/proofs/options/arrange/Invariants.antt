use Rattle.std.proofs.Common.{List, length, map, string_bytes}
use Rattle.guard_words.specs.Words.{Setting}
use Rattle.guard_words.proofs.Arrangements.{HasRead}
use Rattle.guard_words.proofs.options.arrange.Given as goal

abbrev pub invariant-fronts : goal.invariant-fronts
invariant-fronts l = (settings : List Setting) × HasRead (map string_bytes l.fn.words) (map string_bytes l.rest) l.options settings

abbrev pub decreases-fronts : goal.decreases-fronts
decreases-fronts l = length l.rest
