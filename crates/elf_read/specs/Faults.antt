-- Each fault of a file, with its place: the number of a section header, and the offset of a field in the file.
use Rattle.std.specs.Prelude.{◌≡◌, ◌≢◌, ◌<◌, ◌≤◌, ◌⊎◌, ℕ, ◌+◌, ◌-◌, ◌*◌, ◌/◌, ◌%◌, ◌^◌, ◌==◌, ◌&&◌, ◌||◌, not, Bool, true, false, List, [], ◌∷◌, length, take, filter, sum_by, if◌then◌else◌, ⊤}
use Rattle.elf_model.specs.declared.refusals.Refusal.{Refusal}
use Rattle.elf_model.specs.declared.refusals.Refusal.TheVariants.{NotElf, NotArmRel, BadTable, BadName, BadSymbol, BadReloc, TooMany, SectionKind}
use Rattle.elf_model.specs.declared.refusals.Limit.{Limit}
use Rattle.elf_model.specs.declared.refusals.TheConstants.Limit.{INPUT}
use Rattle.elf_model.specs.declared.refusals.Spot.{Spot}
use Rattle.elf_model.specs.declared.refusals.Deny.{Deny}
use Rattle.elf_model.specs.declared.refusals.Deny.TheVariants.{NoMemory, Refused}
use Rattle.elf_model.specs.Constants.{symtab, strtab, rel, nobits, undefined_index, absolute_index, local, func}
use Rattle.elf_model.specs.Refusals.{number_of}
use Rattle.elf_model.specs.Fields.{byte_at, half_at, word_at, same_name}
use Rattle.elf_model.specs.Objects.{is_alloc, is_writable, is_exec, is_code_kind, is_memory_kind, is_alignment, code_width}
use Rattle.elf_model.specs.Files.{from, header_count, header_place, header, headers, IsKind, EndsAt, section_name, is_table, is_refused_kind, is_dropped, is_kept}
use Rattle.elf_model.specs.Maps.{map_name}

pub record IsHeader (b : List ℕ) (h : ℕ) : Type 0 where
  pub behind_null : 0 < h
  pub there : h < header_count b

-- what relocations may be of: a section that is no table
pub record IsTarget (b : List ℕ) (h : ℕ) : Type 0 where
  pub listed : IsHeader b h
  pub no_table : is_table (header b h).kind ≡ false

-- symbol k of the symbol table t stands at e
pub record IsSymbolAt (b : List ℕ) (t k e : ℕ) : Type 0 where
  pub table : IsKind b t symtab
  pub behind_null : 0 < k
  pub there : k < (header b t).size / 16
  pub place : e ≡ (header b t).offset + 16 * k

-- relocation j of the relocation section h stands at r, and is of a section that is kept
pub record IsRelocAt (b : List ℕ) (h j r : ℕ) : Type 0 where
  pub table : IsKind b h rel
  pub of_kept : is_kept b (header b h).info ≡ true
  pub there : j < (header b h).size / 8
  pub place : r ≡ (header b h).offset + 8 * j

-- the section index of a symbol that names a section header
abbrev pub names_no_section : ℕ → Bool
names_no_section index = (index == undefined_index) || (index == absolute_index)

-- a symbol that stays: undefined, absolute, or in a section that is kept
pub record IsKeptSymbol (b : List ℕ) (k : ℕ) : Type 0 where
  pub table : ℕ
  pub e : ℕ
  pub stands : IsSymbolAt b table k e
  pub home : (names_no_section (half_at b (e + 14)) ≡ true) ⊎ (is_kept b (half_at b (e + 14)) ≡ true)

-- a symbol's value, bit 0 of a function's not counted
abbrev pub place_of : ℕ → ℕ → ℕ
place_of kind value = if kind == func then value - value % 2 else value

-- how many relocations, and how many bytes of code, the headers up to h have
abbrev pub relocs_up_to : List ℕ → ℕ → ℕ
relocs_up_to b h = sum_by (λ k. (header b k).size / 8) (filter (λ k. ((header b k).kind == rel) && is_kept b (header b k).info) (from 1 h))

abbrev pub is_code_header : List ℕ → ℕ → Bool
is_code_header b h = is_code_kind (header b h).kind (header b h).flags && is_kept b h

abbrev pub code_up_to : List ℕ → ℕ → ℕ
code_up_to b h = sum_by (λ k. (header b k).size) (filter (is_code_header b) (from 1 h))

-- a section of an address map; the names of relocation sections are not looked at
abbrev pub is_map : List ℕ → ℕ → Bool
is_map b h = not ((header b h).kind == rel) && same_name (section_name b h) map_name

-- A fault of a file under a limit: the refusal, the section header and the offset.
pub data Fault (b : List ℕ) (l : Limit) : Refusal → ℕ → ℕ → Type 0 where
  -- fewer bytes than a file header has, or another format
  too_short : length b < 52 → Fault b l NotElf 0 0
  other_magic : take 4 b ≢ 0x7F ∷ 0x45 ∷ 0x4C ∷ 0x46 ∷ [] → Fault b l NotElf 0 0
  -- no little-endian 32-bit relocatable file for Arm, version 5
  other_class : byte_at b 4 ≢ 1 → Fault b l NotArmRel 0 4
  other_order : byte_at b 5 ≢ 1 → Fault b l NotArmRel 0 5
  other_type : half_at b 16 ≢ 1 → Fault b l NotArmRel 0 16
  other_machine : half_at b 18 ≢ 40 → Fault b l NotArmRel 0 18
  other_version : word_at b 36 / 2 ^ 24 ≢ 5 → Fault b l NotArmRel 0 36
  -- the table of section headers
  headers_outside : 0 < header_count b → length b < word_at b 32 + 40 * header_count b → Fault b l BadTable 0 32
  other_header_size : 0 < header_count b → half_at b 46 ≢ 40 → Fault b l BadTable 0 46
  no_name_table : 0 < header_count b → (IsKind b (half_at b 50) strtab → ⊥) → Fault b l BadTable 0 50
  -- a section header
  second_symtab : (k h : ℕ) → k < h → IsKind b k symtab → IsKind b h symtab → Fault b l BadTable h (header_place b h + 4)
  outside : (h : ℕ) → IsHeader b h → (header b h).kind ≢ nobits → length b < (header b h).offset + (header b h).size → Fault b l BadTable h (header_place b h + 16)
  uneven_symtab : (h : ℕ) → IsKind b h symtab → (header b h).size % 16 ≢ 0 → Fault b l BadTable h (header_place b h + 20)
  uneven_rel : (h : ℕ) → IsKind b h rel → (header b h).size % 8 ≢ 0 → Fault b l BadTable h (header_place b h + 20)
  symtab_link : (h : ℕ) → IsKind b h symtab → (IsKind b (header b h).link strtab → ⊥) → Fault b l BadTable h (header_place b h + 24)
  rel_link : (h : ℕ) → IsKind b h rel → (IsKind b (header b h).link symtab → ⊥) → Fault b l BadTable h (header_place b h + 24)
  rel_target : (h : ℕ) → IsKind b h rel → (IsTarget b (header b h).info → ⊥) → Fault b l BadTable h (header_place b h + 28)
  bad_alignment : (h : ℕ) → IsHeader b h → (header b h).align ≢ 0 → is_alignment (header b h).align ≡ false → Fault b l BadTable h (header_place b h + 32)
  symtab_entry : (h : ℕ) → IsKind b h symtab → (header b h).entry ≢ 16 → Fault b l BadTable h (header_place b h + 36)
  rel_entry : (h : ℕ) → IsKind b h rel → (header b h).entry ≢ 8 → Fault b l BadTable h (header_place b h + 36)
  -- a name
  section_unnamed : (h : ℕ) → IsHeader b h → (header b h).kind ≢ rel → (EndsAt b (half_at b 50) (header b h).name → ⊥) → Fault b l BadName h (header_place b h)
  symbol_unnamed : (t k e : ℕ) → IsSymbolAt b t k e → (EndsAt b (header b t).link (word_at b e) → ⊥) → Fault b l BadName t e
  -- a symbol
  other_binding : (t k e : ℕ) → IsSymbolAt b t k e → 2 < byte_at b (e + 12) / 16 → Fault b l BadSymbol t (e + 12)
  other_symbol_type : (t k e : ℕ) → IsSymbolAt b t k e → 4 < byte_at b (e + 12) % 16 → Fault b l BadSymbol t (e + 12)
  late_local : (t j d k e : ℕ) → j < k → IsSymbolAt b t j d → IsSymbolAt b t k e → byte_at b (d + 12) / 16 ≢ local → byte_at b (e + 12) / 16 ≡ local → Fault b l BadSymbol t (e + 12)
  bad_index : (t k e : ℕ) → IsSymbolAt b t k e → names_no_section (half_at b (e + 14)) ≡ false → (header_count b ≤ half_at b (e + 14)) ⊎ (0xFF00 ≤ half_at b (e + 14)) → Fault b l BadSymbol t (e + 14)
  bad_value : (t k e : ℕ) → IsSymbolAt b t k e → names_no_section (half_at b (e + 14)) ≡ false → half_at b (e + 14) < header_count b → half_at b (e + 14) < 0xFF00 →
      (header b (half_at b (e + 14))).size < place_of (byte_at b (e + 12) % 16) (word_at b (e + 4)) → Fault b l BadSymbol t (e + 4)
  -- a relocation of a section that is kept
  bad_symbol : (h j r : ℕ) → IsRelocAt b h j r → word_at b (r + 4) % 256 ≢ 0 → (IsKeptSymbol b (word_at b (r + 4) / 256) → ⊥) → Fault b l BadReloc h (r + 4)
  bad_place : (h j r : ℕ) → IsRelocAt b h j r → (header b (header b h).info).size < word_at b r + code_width (word_at b (r + 4) % 256) → Fault b l BadReloc h r
  second_place : (g i q h j r : ℕ) → (g < h) ⊎ ((g ≡ h) × (i < j)) → IsRelocAt b g i q → IsRelocAt b h j r → (header b g).info ≡ (header b h).info → word_at b q ≡ word_at b r → Fault b l BadReloc h r
  nobits_target : (h : ℕ) → IsKind b h rel → is_kept b (header b h).info ≡ true → (header b (header b h).info).kind ≡ nobits → Fault b l BadReloc h (header_place b h + 28)
  -- more than the limit
  many_headers : l.sections < header_count b → Fault b l TooMany 0 48
  many_symbols : (t : ℕ) → IsKind b t symtab → l.symbols < (header b t).size / 16 - 1 → Fault b l TooMany t (header_place b t + 20)
  many_relocs : (h : ℕ) → IsKind b h rel → is_kept b (header b h).info ≡ true → l.relocs < relocs_up_to b h → Fault b l TooMany h (header_place b h + 20)
  much_code : (h : ℕ) → IsHeader b h → is_code_header b h ≡ true → l.code < code_up_to b h → Fault b l TooMany h (header_place b h + 20)
  -- a section of a kind that isn't handled; the limit of `harden` takes no map
  refused_kind : (h : ℕ) → IsHeader b h → is_refused_kind (header b h).kind ≡ true → Fault b l SectionKind h (header_place b h + 4)
  memory_kind : (h : ℕ) → IsHeader b h → is_alloc (header b h).flags ≡ true → is_memory_kind (header b h).kind ≡ false → ((is_table (header b h).kind ≡ true) ⊎ (is_dropped b h ≡ false)) → Fault b l SectionKind h (header_place b h + 4)
  writable_code : (h : ℕ) → IsHeader b h → is_exec (header b h).flags ≡ true → is_writable (header b h).flags ≡ true → Fault b l SectionKind h (header_place b h + 8)
  empty_code : (h : ℕ) → IsHeader b h → is_exec (header b h).flags ≡ true → (header b h).kind ≡ nobits → Fault b l SectionKind h (header_place b h + 8)
  own_map : (h : ℕ) → IsHeader b h → l ≡ INPUT → is_map b h ≡ true → Fault b l SectionKind h (header_place b h)

-- The lowest number comes first, then the lowest section, then the lowest offset.
abbrev pub ComesBefore : Refusal → ℕ → ℕ → Spot → Type 0
ComesBefore r section offset spot =
    (number_of r < number_of spot.refusal)
    ⊎ ((number_of r ≡ number_of spot.refusal) × ((section < spot.section) ⊎ ((section ≡ spot.section) × (offset < spot.offset))))

-- what a file is refused for
pub record IsFirstFault (b : List ℕ) (l : Limit) (spot : Spot) : Type 0 where
  pub file : spot.file ≡ 0
  pub fault : Fault b l spot.refusal spot.section spot.offset
  pub first : (r : Refusal) (section offset : ℕ) → Fault b l r section offset → ComesBefore r section offset spot → ⊥

abbrev pub IsFaultless : List ℕ → Limit → Type 0
IsFaultless b l = (r : Refusal) (section offset : ℕ) → Fault b l r section offset → ⊥

-- how many sections are left out
abbrev pub dropped_count : List ℕ → ℕ
dropped_count b = length (filter (λ h. not (is_table (header b h).kind) && is_dropped b h) (headers b))

-- What comes in an object's place; memory may run out at any time.
abbrev pub IsDeniedFor : List ℕ → Limit → Deny → Type 0
IsDeniedFor b l NoMemory = ⊤
IsDeniedFor b l (Refused spot) = IsFirstFault b l spot
