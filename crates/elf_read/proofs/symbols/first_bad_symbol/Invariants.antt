use Rattle.std.proofs.Common.{◌≡◌}
use Rattle.elf_read.proofs.BadSymbols.{others_below, SoundBelow}
use Rattle.elf_read.proofs.symbols.first_bad_symbol.Given as goal

abbrev pub invariant-loop-k : goal.invariant-loop-k
invariant-loop-k l = record { seen : l.seen ≡ others_below l.bytes l.t l.k; sound : SoundBelow l.bytes l.t l.k }
