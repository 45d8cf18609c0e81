-- The bytes of sections of code, and pieces that are put into them.
use Rattle.std.specs.Prelude.{◌≡◌, ◌+◌, ◌%◌, ◌≤◌, ◌<◌, ◌⊎◌, ◌==◌, ℕ, List, [], Some, Vec, length, map, slice_get, slice_index, slice_index_or, if◌then◌else◌, Contains}
use Rattle.std.specs.declared.alloc.Global.{Global}
use Rattle.elf_model.specs.Fields.{byte_at}
use Rattle.emit_object.specs.declared.code_pieces.Piece.{Piece}
use Rattle.emit_object.specs.CodePieces.{IsOver, AreApart}

abbrev pub contents_of : List (Vec ℕ Global) → List (List ℕ)
contents_of all = map (λ (v : Vec ℕ Global). v.items) all

-- those of the section with a number
abbrev pub bytes_in : List (List ℕ) → ℕ → List ℕ
bytes_in all j = slice_index_or all j []

-- DE00 from each even offset on
abbrev pub filler_byte : ℕ → ℕ
filler_byte x = if x % 2 == 0 then 0 else 0xDE

pub record IsBlank (n : ℕ) (bytes : List ℕ) : Type 0 where
  pub size : length bytes ≡ n
  pub filled : (x : ℕ) → x < n → byte_at bytes x ≡ filler_byte x

pub record AreBlank (sizes : List ℕ) (n : ℕ) (all : List (List ℕ)) : Type 0 where
  pub count : length all ≡ n
  pub each : (j : ℕ) → j < n → IsBlank (slice_index sizes j) (bytes_in all j)

-- Pieces lie in their sections, and each is apart from those behind it.
pub record Fits (all : List (List ℕ)) (p : Piece) : Type 0 where
  pub there : p.section < length all
  pub room : p.at + length p.bytes ≤ length (bytes_in all p.section)

pub record CanPut (all : List (List ℕ)) (pieces : List Piece) : Type 0 where
  pub fit : (p : Piece) → Contains pieces p → Fits all p
  pub apart : (i k : ℕ) (p q : Piece) → i < k → slice_get pieces i ≡ Some p → slice_get pieces k ≡ Some q → AreApart p q

-- a run is put over the bytes from an offset on
pub record IsPutAt (x : ℕ) (run old new : List ℕ) : Type 0 where
  pub size : length new ≡ length old
  pub stands : (i : ℕ) → i < length run → byte_at new (x + i) ≡ byte_at run i
  pub others : (k : ℕ) → (k < x) ⊎ (x + length run ≤ k) → byte_at new k ≡ byte_at old k

-- pieces stand there, and everything else is as it was
pub record ArePut (pieces : List Piece) (old new : List (List ℕ)) : Type 0 where
  pub count : length new ≡ length old
  pub sizes : (j : ℕ) → length (bytes_in new j) ≡ length (bytes_in old j)
  pub stand : (p : Piece) (i : ℕ) → Contains pieces p → i < length p.bytes → byte_at (bytes_in new p.section) (p.at + i) ≡ byte_at p.bytes i
  pub others : (j x : ℕ) → ((p : Piece) → Contains pieces p → ¬ IsOver p j x) → byte_at (bytes_in new j) x ≡ byte_at (bytes_in old j) x
