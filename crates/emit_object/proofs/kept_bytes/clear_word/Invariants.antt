use Rattle.emit_object.specs.KeptBytes.{AreCleared, is_among}
use Rattle.emit_object.proofs.kept_bytes.clear_word.Given as goal

-- as many as the loop has come to
abbrev pub invariant-loop-k : goal.invariant-loop-k
invariant-loop-k l = AreCleared (is_among l.at l.k) l.initial.bytes l.bytes
