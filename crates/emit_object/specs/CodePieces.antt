-- The code of a hardened object in pieces: the codes of a unit, and the number in a word, each with its place.
use Rattle.std.specs.Prelude.{◌≡◌, ◌+◌, ◌≤◌, ◌<◌, ◌⊎◌, ◌≢◌, ℕ, List, ◌++◌, length, flat_map}
use Rattle.elf_model.specs.Fields.{half, word_at}
use Rattle.elf_model.specs.Objects.{ObjectParts}
use Rattle.thumb_encode.specs.declared.codes.Code.{Code}
use Rattle.thumb_encode.specs.declared.codes.Code.TheVariants as code
use Rattle.flow_recover.specs.declared.flows.PoolWord.{PoolWord}
use Rattle.seq_core.specs.Places.{PlacedParts}
use Rattle.hardened_form.specs.Code.{word_number, reloc_of}
use Rattle.emit_object.specs.declared.code_pieces.Piece.{Piece}

-- halfwords as bytes
abbrev pub code_bytes : Code → List ℕ
code_bytes (code.Half h) = half h
code_bytes (code.Full first second) = half first ++ half second

-- the codes of a unit, one behind the other
abbrev pub unit_piece : PlacedParts → Piece
unit_piece u = record { section = u.unit.section; at = u.start; bytes = flat_map code_bytes u.codes }

-- the number in a word
pub record IsWordPiece (o : ObjectParts) (e : PoolWord × ℕ) (p : Piece) : Type 0 where
  pub section : p.section ≡ e.0.section
  pub at : p.at ≡ e.1
  pub size : length p.bytes ≡ 4
  pub number : word_at p.bytes 0 ≡ word_number o e.0 (reloc_of o e.0.reloc)

-- a piece has a byte at an offset of a section
pub record IsOver (p : Piece) (j x : ℕ) : Type 0 where
  pub section : p.section ≡ j
  pub low : p.at ≤ x
  pub high : x < p.at + length p.bytes

-- two pieces do not meet
abbrev pub AreApart : Piece → Piece → Type 0
AreApart p q = (p.section ≢ q.section) ⊎ ((p.at + length p.bytes ≤ q.at) ⊎ (q.at + length q.bytes ≤ p.at))
