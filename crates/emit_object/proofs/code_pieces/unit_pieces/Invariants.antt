use Rattle.std.proofs.Common.{◌≡◌, take, map}
use Rattle.emit_object.specs.CodePieces.{unit_piece}
use Rattle.emit_object.proofs.code_pieces.unit_pieces.Given as goal

abbrev pub invariant-loop-u : goal.invariant-loop-u
invariant-loop-u l = l.pieces.items ≡ map unit_piece (take l.u-index l.units)
