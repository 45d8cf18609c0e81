use Rattle.emit_object.specs.CodeBytes.{contents_of, AreBlank}
use Rattle.emit_object.proofs.code_bytes.blanks.Given as goal

abbrev pub invariant-loop-j : goal.invariant-loop-j
invariant-loop-j l = AreBlank l.sizes l.j (contents_of l.all.items)
