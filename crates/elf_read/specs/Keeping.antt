-- What is kept of a file, as tables over the numbers of headers and of symbols.
use Rattle.std.specs.Prelude.{◌≡◌, ◌≢◌, ◌%◌, ◌<◌, ◌⊎◌, ℕ, ◌+◌, ◌-◌, ◌/◌, ◌&&◌, ◌==◌, ◌||◌, not, if◌then◌else◌, Bool, true, false, List, ◌∷◌, [], length, map, take, slice_index, count_by, nat_lt}
use Rattle.std.specs.List.{slice_index_or}
use Rattle.elf_model.specs.declared.refusals.Limit.{Limit}
use Rattle.elf_model.specs.Constants.{symtab, rel, nobits}
use Rattle.elf_model.specs.Fields.{half_at, word_at}
use Rattle.elf_model.specs.Objects.{is_alloc, is_exec, is_writable, is_memory_kind}
use Rattle.elf_model.specs.Files.{header, header_count, is_table, is_dropped, is_refused_kind, headers, is_kept, is_kept_symbol, symbol_places, symbol_table}
use Rattle.elf_read.specs.Faults.{IsSymbolAt, IsRelocAt, IsKeptSymbol, names_no_section, is_code_header, is_map}

-- for each header whether its section is kept; the null header is not
abbrev pub kept_flags : List ℕ → List Bool
kept_flags b = false ∷ map (is_kept b) (headers b)

-- for each symbol of the file whether it is kept; the null symbol is not
abbrev pub symbol_flags : List ℕ → List Bool
symbol_flags b = false ∷ map (is_kept_symbol b) (symbol_places b (symbol_table b))

abbrev pub flag_at : List Bool → ℕ → Bool
flag_at flags k = slice_index_or flags k false

-- how many flags are set before each
pub record AreCounts (flags : List Bool) (counts : List ℕ) : Type 0 where
  pub long : length counts ≡ length flags
  pub each : (k : ℕ) → k < length flags → slice_index counts k ≡ count_by (λ (x : Bool). x) (take k flags)

-- each symbol names a section, or none
abbrev pub HasHomes : List ℕ → Type 0
HasHomes b = (t k e : ℕ) → IsSymbolAt b t k e → (names_no_section (half_at b (e + 14)) ≡ true) ⊎ (half_at b (e + 14) < header_count b)

-- what a header adds to what the limit is about
abbrev pub is_kept_relocs : List ℕ → ℕ → Bool
is_kept_relocs b h = ((header b h).kind == rel) && is_kept b (header b h).info

abbrev pub relocs_at : List ℕ → ℕ → ℕ
relocs_at b h = if is_kept_relocs b h then (header b h).size / 8 else 0

abbrev pub code_at : List ℕ → ℕ → ℕ
code_at b h = if is_code_header b h then (header b h).size else 0

abbrev pub symbols_at : List ℕ → ℕ → ℕ
symbols_at b h = if (header b h).kind == symtab then (header b h).size / 16 - 1 else 0

-- A section header's fields of a kind that isn't handled, by their offset from its start; `input`: the
-- limit is that of `harden`.
abbrev pub kind_tests : List ℕ → Bool → ℕ → List (ℕ × Bool)
kind_tests b input h =
    (0, input && is_map b h)
    ∷ (4, is_refused_kind (header b h).kind || (is_alloc (header b h).flags && (not (is_memory_kind (header b h).kind) && (is_table (header b h).kind || not (is_dropped b h)))))
    ∷ (8, is_exec (header b h).flags && (is_writable (header b h).flags || ((header b h).kind == nobits)))
    ∷ []

-- symbols, or the sums of relocations and of code, pass the limit
abbrev pub passes : Limit → ℕ → ℕ → ℕ → Bool
passes l symbols relocs code = nat_lt l.symbols symbols || (nat_lt l.relocs relocs || nat_lt l.code code)

-- each relocation of a kept section names a symbol that stays, if it needs one
abbrev pub HasSymbols : List ℕ → Type 0
HasSymbols b = (h j r : ℕ) → IsRelocAt b h j r → word_at b (r + 4) % 256 ≢ 0 → IsKeptSymbol b (word_at b (r + 4) / 256)

abbrev pub is_some_reloc : List ℕ → ℕ × ℕ → Bool
is_some_reloc b e = not (word_at b (e.1 + 4) % 256 == 0)
