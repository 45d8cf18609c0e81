use Rattle.std.proofs.Common.{take}
use Rattle.emit_object.specs.CodeBytes.{contents_of, ArePut}
use Rattle.emit_object.proofs.code_bytes.put_pieces.Given as goal

abbrev pub invariant-loop-p : goal.invariant-loop-p
invariant-loop-p l = ArePut (take l.p-index l.pieces) (contents_of l.fn.all.items) (contents_of l.all.items)
