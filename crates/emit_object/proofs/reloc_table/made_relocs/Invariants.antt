use Rattle.std.proofs.Common.{take}
use Rattle.hardened_form.specs.Symbols.{Lists}
use Rattle.emit_object.specs.MadeRelocs.{AreMade}
use Rattle.emit_object.specs.Numbering.{AreNumbers}
use Rattle.emit_object.proofs.reloc_table.made_relocs.Given as goal

-- those of the sites so far
abbrev pub invariant-loop-s : goal.invariant-loop-s
invariant-loop-s c = (l : Lists) → AreNumbers c.o l c.targets c.first c.numbers → AreMade c.o l (take c.s-index c.sites) c.list.items
