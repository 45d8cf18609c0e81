-- What may be wrong with a symbol, as tests, each with its offset.
use Rattle.std.specs.Prelude.{◌≡◌, ◌≤◌, ◌<◌, false, ℕ, ◌+◌, ◌/◌, ◌%◌, ◌==◌, nat_lt, nat_le, ◌&&◌, ◌||◌, not, Bool, List, [], ◌∷◌}
use Rattle.elf_model.specs.Constants.{local}
use Rattle.elf_model.specs.Fields.{byte_at, half_at, word_at}
use Rattle.elf_model.specs.Files.{header_count, header}
use Rattle.elf_read.specs.Faults.{IsSymbolAt, names_no_section, place_of}

-- its value lies behind the end of the section that it is defined in
abbrev pub is_beyond : List ℕ → ℕ → ℕ → ℕ → Bool
is_beyond b index kind value =
    ((not (names_no_section index) && nat_lt index (header_count b)) && nat_lt index 0xFF00) && nat_lt (header b index).size (place_of kind value)

-- of no known binding or type, or a local one behind another one
abbrev pub is_unknown : Bool → ℕ → Bool
is_unknown seen info = (nat_lt 2 (info / 16) || nat_lt 4 (info % 16)) || (seen && (info / 16 == local))

-- in a section that isn't there
abbrev pub is_homeless : List ℕ → ℕ → Bool
is_homeless b index = not (names_no_section index) && (nat_le (header_count b) index || nat_le 0xFF00 index)

-- The offsets of the symbol at e; `seen`: a symbol that isn't local stands before it.
abbrev pub symbol_tests : Bool → List ℕ → ℕ → List (ℕ × Bool)
symbol_tests seen b e =
    (4, is_beyond b (half_at b (e + 14)) (byte_at b (e + 12) % 16) (word_at b (e + 4)))
    ∷ (12, is_unknown seen (byte_at b (e + 12)))
    ∷ (14, is_homeless b (half_at b (e + 14)))
    ∷ []

-- Every symbol is sound.
pub record AreSymbols (b : List ℕ) : Type 0 where
  pub bind : (t k e : ℕ) → IsSymbolAt b t k e → byte_at b (e + 12) / 16 ≤ 2
  pub kind : (t k e : ℕ) → IsSymbolAt b t k e → byte_at b (e + 12) % 16 ≤ 4
  pub locals_first : (t j d k e : ℕ) → j < k → IsSymbolAt b t j d → IsSymbolAt b t k e → byte_at b (e + 12) / 16 ≡ local → byte_at b (d + 12) / 16 ≡ local
  pub home : (t k e : ℕ) → IsSymbolAt b t k e → names_no_section (half_at b (e + 14)) ≡ false → (half_at b (e + 14) < header_count b) × (half_at b (e + 14) < 0xFF00)
  pub value : (t k e : ℕ) → IsSymbolAt b t k e → names_no_section (half_at b (e + 14)) ≡ false →
      place_of (byte_at b (e + 12) % 16) (word_at b (e + 4)) ≤ (header b (half_at b (e + 14))).size
