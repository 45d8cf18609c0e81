use Rattle.std.proofs.Common.{map, string_bytes, refl}
use Rattle.guard_words.proofs.Pairs.{harden_read}
use Rattle.guard_words.proofs.words.harden_of.Goals as goal

pub returns-then-are_pairs : goal.returns-then-are_pairs
returns-then-are_pairs c = harden_read (map string_bytes c.args.names.now) (c.if-are_pairs.ensures.0 refl)
