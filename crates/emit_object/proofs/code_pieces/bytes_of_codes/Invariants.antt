use Rattle.std.proofs.Common.{◌≡◌, take}
use Rattle.std.specs.Prelude.{flat_map}
use Rattle.emit_object.specs.CodePieces.{code_bytes}
use Rattle.emit_object.proofs.code_pieces.bytes_of_codes.Given as goal

abbrev pub invariant-loop-code : goal.invariant-loop-code
invariant-loop-code l = l.bytes.items ≡ flat_map code_bytes (take l.code-index l.codes)
