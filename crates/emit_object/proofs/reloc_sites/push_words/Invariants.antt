use Rattle.std.proofs.Common.{◌≡◌, ◌++◌, drop}
use Rattle.std.specs.List.{zip}
use Rattle.emit_object.specs.RelocSites.{word_sites}
use Rattle.emit_object.proofs.reloc_sites.push_words.Given as goal

-- with those of the words to come they are all
abbrev pub invariant-loop-k : goal.invariant-loop-k
invariant-loop-k l = l.sites.items ++ word_sites l.o (drop l.k (zip l.words l.places)) ≡ l.initial.sites.items ++ word_sites l.o (zip l.words l.places)
