use Rattle.emit_object.specs.CodeBytes.{IsBlank}
use Rattle.emit_object.proofs.code_bytes.blank.Given as goal

abbrev pub invariant-loop-x : goal.invariant-loop-x
invariant-loop-x l = IsBlank l.x l.bytes.items
