-- Names in string tables, and symbols, that faults name.
use Rattle.std.specs.Prelude.{◌≡◌, ◌≢◌, ◌≤◌, ◌<◌, ◌+◌, ℕ, List, length, Option, Some, None}
use Rattle.elf_model.specs.Constants.{rel}
use Rattle.elf_model.specs.Fields.{byte_at, half_at, word_at}
use Rattle.elf_model.specs.Files.{header_place, header, EndsAt}
use Rattle.elf_read.specs.Faults.{IsHeader, IsSymbolAt}

-- A text ends within 4,095 bytes of a place of a string table, with none of its bytes zero.
pub record IsText (table : List ℕ) (at n : ℕ) : Type 0 where
  pub short : n ≤ 4095
  pub inside : at + n < length table
  pub ends : byte_at table (at + n) ≡ 0
  pub none_before : (k : ℕ) → k < n → byte_at table (at + k) ≢ 0

-- no text ends there
abbrev pub HasNoText : List ℕ → ℕ → Type 0
HasNoText table at = (n : ℕ) → n ≤ 4095 → at + n < length table → byte_at table (at + n) ≢ 0

abbrev pub IsTextOrNone : List ℕ → ℕ → Option ℕ → Type 0
IsTextOrNone table at None = HasNoText table at
IsTextOrNone table at (Some n) = IsText table at n

-- a section whose name doesn't end
pub record IsUnnamed (b : List ℕ) (h o : ℕ) : Type 0 where
  pub listed : IsHeader b h
  pub named : (header b h).kind ≢ rel
  pub endless : EndsAt b (half_at b 50) (header b h).name → ⊥
  pub place : o ≡ header_place b h

-- a symbol whose name doesn't end
pub record IsUnnamedSymbol (b : List ℕ) (t e : ℕ) : Type 0 where
  pub k : ℕ
  pub stands : IsSymbolAt b t k e
  pub endless : EndsAt b (header b t).link (word_at b e) → ⊥

-- Every name ends.
pub record IsNamed (b : List ℕ) : Type 0 where
  pub sections : (h : ℕ) → IsHeader b h → (header b h).kind ≢ rel → EndsAt b (half_at b 50) (header b h).name
  pub symbols : (t k e : ℕ) → IsSymbolAt b t k e → EndsAt b (header b t).link (word_at b e)
