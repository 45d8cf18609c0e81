-- What may be wrong with the table of section headers, as tests, each with its offset.
use Rattle.std.specs.Prelude.{◌<◌, ◌≤◌, ◌≢◌, ◌≡◌, ℕ, ◌+◌, ◌*◌, ◌%◌, ◌==◌, nat_lt, ◌&&◌, ◌||◌, not, Bool, List, [], ◌∷◌, length}
use Rattle.elf_model.specs.Constants.{symtab, strtab, rel, nobits}
use Rattle.elf_model.specs.Fields.{half_at, word_at}
use Rattle.elf_model.specs.Objects.{is_alignment}
use Rattle.elf_model.specs.Files.{Header, header_count, header, IsKind, is_table}
use Rattle.elf_read.specs.Faults.{IsHeader, IsTarget}
use Rattle.elf_read.specs.Headers.{HasHeaders}

-- a header of this kind stands behind the null header
abbrev pub has_kind : List ℕ → ℕ → ℕ → Bool
has_kind b h kind = nat_lt 0 h && nat_lt h (header_count b) && ((header b h).kind == kind)

abbrev pub is_target : List ℕ → ℕ → Bool
is_target b h = nat_lt 0 h && nat_lt h (header_count b) && not (is_table (header b h).kind)

abbrev pub is_outside : List ℕ → Header → Bool
is_outside b f = not (f.kind == nobits) && nat_lt (length b) (f.offset + f.size)

abbrev pub is_uneven : Header → Bool
is_uneven f = ((f.kind == symtab) && not (f.size % 16 == 0)) || ((f.kind == rel) && not (f.size % 8 == 0))

abbrev pub is_mislinked : List ℕ → Header → Bool
is_mislinked b f = ((f.kind == symtab) && not (has_kind b f.link strtab)) || ((f.kind == rel) && not (has_kind b f.link symtab))

abbrev pub is_astray : List ℕ → Header → Bool
is_astray b f = (f.kind == rel) && not (is_target b f.info)

abbrev pub is_misaligned : Header → Bool
is_misaligned f = not (f.align == 0) && not (is_alignment f.align)

abbrev pub is_missized : Header → Bool
is_missized f = ((f.kind == symtab) && not (f.entry == 16)) || ((f.kind == rel) && not (f.entry == 8))

-- The file header's offsets, where it speaks of the table.
abbrev pub table_tests : List ℕ → List (ℕ × Bool)
table_tests b =
    (32, nat_lt (length b) (word_at b 32 + 40 * header_count b))
    ∷ (46, not (half_at b 46 == 40))
    ∷ (50, not (has_kind b (half_at b 50) strtab))
    ∷ []

-- A section header's offsets from its start; `seen`: a symbol table stands before it.
abbrev pub header_tests : Bool → List ℕ → Header → List (ℕ × Bool)
header_tests seen b f =
    (4, seen && (f.kind == symtab))
    ∷ (16, is_outside b f)
    ∷ (20, is_uneven f)
    ∷ (24, is_mislinked b f)
    ∷ (28, is_astray b f)
    ∷ (32, is_misaligned f)
    ∷ (36, is_missized f)
    ∷ []

-- The headers and what they link to are sound.
pub record IsTabled (b : List ℕ) : Type 0 where
  pub long : 52 ≤ length b
  pub listed : 0 < header_count b → HasHeaders b
  pub section_names : 0 < header_count b → IsKind b (half_at b 50) strtab
  pub inside : (h : ℕ) → IsHeader b h → (header b h).kind ≢ nobits → (header b h).offset + (header b h).size ≤ length b
  pub one_symbol_table : (h k : ℕ) → IsKind b h symtab → IsKind b k symtab → h ≡ k
  pub symbol_entries : (h : ℕ) → IsKind b h symtab → ((header b h).entry ≡ 16) × ((header b h).size % 16 ≡ 0) × IsKind b (header b h).link strtab
  pub reloc_entries : (h : ℕ) → IsKind b h rel → ((header b h).entry ≡ 8) × ((header b h).size % 8 ≡ 0) × IsKind b (header b h).link symtab
  pub targets : (h : ℕ) → IsKind b h rel → IsTarget b (header b h).info
