use Rattle.std.proofs.Common.{take}
use Rattle.std.specs.List.{AllZip, zip}
use Rattle.emit_object.specs.CodePieces.{IsWordPiece}
use Rattle.emit_object.proofs.code_pieces.word_pieces.Given as goal

abbrev pub invariant-loop-k : goal.invariant-loop-k
invariant-loop-k l = AllZip (IsWordPiece l.o) (take l.k (zip l.words l.places)) l.pieces.items
