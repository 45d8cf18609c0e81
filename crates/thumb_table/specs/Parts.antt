-- Code, memory and images, as contracts see them.
use Rattle.std.specs.Prelude.{ℕ, List}
use Rattle.mark_word.specs.Words.{Cell}
use Rattle.thumb_table.specs.declared.parts.PlaceMark.{PlaceMark}
use Rattle.thumb_table.specs.declared.parts.Part.{Part}
use Rattle.thumb_table.specs.declared.parts.NamedEntry.{NamedEntry}

-- memory: data, and the stack behind it
pub record Memory : Type 0 where
  pub base : ℕ
  pub cells : List Cell

-- Code is bytes that no step changes. Its stops are where no return may lead to.
pub record CodeBytes : Type 0 where
  pub base : ℕ
  pub bytes : List ℕ
  pub marks : List PlaceMark
  pub stops : List ℕ

-- an image; `memory` is its data
pub record Image : Type 0 where
  pub code : CodeBytes
  pub memory : Memory
  pub room : ℕ
  pub parts : List Part
  pub entries : List NamedEntry
