-- What the parts of a file that is being written hold.
use Rattle.std.specs.Prelude.{◌≡◌, ◌≤◌, ℕ, ◌+◌, ◌-◌, ◌==◌, List, [], ◌∷◌, ◌++◌, length, map, take, drop, filter, replicate, if◌then◌else◌, codes, All}
use Rattle.std.specs.List.{flat_map}
use Rattle.elf_model.specs.declared.objects.Reloc.{Reloc}
use Rattle.elf_model.specs.Constants.{rel}
use Rattle.elf_model.specs.Objects.{ObjectParts}
use Rattle.elf_model.specs.Canonical.{FileSection, different, string_table, laid, header_rows, reloc_row, section_header, own_section, reloc_section, relocated, file_header, round_up}
use Rattle.elf_model.specs.Fits.{RelocFits}
use Rattle.elf_write.specs.declared.names.Names.{Names}
use Rattle.elf_write.specs.declared.layout.Head.{Head}
use Rattle.elf_write.specs.declared.layout.Layout.{Layout}

-- the names with their offsets, of which the first has this one
abbrev pub placed : ℕ → List (List ℕ) → List (List ℕ × ℕ)
placed at [] = []
placed at (n ∷ names) = (n, at) ∷ placed (at + length n + 1) names

-- the names that are held, with their offsets
abbrev pub offsets_of : Names → List (List ℕ × ℕ)
offsets_of t = map (λ e. (e.0.items, e.1)) t.places.entries

-- what is held is the string table of these names
pub record IsTable (t : Names) (names : List (List ℕ)) : Type 0 where
  pub bytes : t.text.items ≡ string_table names
  pub offsets : offsets_of t ≡ placed 1 (different names)

-- the section of the file with this name, these numbers and these bytes
abbrev pub file_section : List ℕ → Head → List ℕ → FileSection
file_section name h bytes = record {
  name = name;
  kind = h.kind;
  flags = h.flags;
  size = h.size;
  link = h.link;
  info = h.info;
  align = h.align;
  entry = h.entry;
  bytes = bytes;
}

abbrev pub names_of : List FileSection → List (List ℕ)
names_of ss = map (λ (s : FileSection). s.name) ss

-- these sections were laid out, one behind the other
pub record IsLaid (l : Layout) (names : List (List ℕ)) (ss : List FileSection) : Type 0 where
  pub contents : l.contents.items ≡ laid 52 ss
  pub rows : l.rows.items ≡ header_rows names 52 ss
  pub aligned : All (λ (s : FileSection). 1 ≤ s.align) ss

-- and their names are those of the table
pub record IsWritten (l : Layout) (t : Names) (ss : List FileSection) : Type 0 where
  pub sections : IsLaid l (names_of ss) ss
  pub names : IsTable t (names_of ss)

-- the rows of the relocations of a section
abbrev pub reloc_table : List Reloc → ℕ → List ℕ
reloc_table relocs i = flat_map reloc_row (filter (λ (r : Reloc). r.section == i) relocs)

-- the numbers of a section of relocations: of the symbol table, of the section that they change, and of its bytes
abbrev pub rel_head : ℕ → ℕ → ℕ → Head
rel_head table i size = record { kind = rel; flags = 0; size = size; link = table; info = section_header i; align = 4; entry = 8 }

-- the section of relocations of a section with this name, where there are some
abbrev pub rel_sections : ℕ → ℕ → List ℕ → List ℕ → List FileSection
rel_sections table i name rows = if length rows == 0 then [] else file_section (codes ".rel" ++ name) (rel_head table i (length rows)) rows ∷ []

-- the sections before the tables
abbrev pub front_sections : ObjectParts → List FileSection
front_sections o = map own_section o.sections ++ map (reloc_section o) (relocated o 0 o.sections)

-- the numbers of the relocations before the last ones fit their fields
pub record FitBefore (all rest : List Reloc) : Type 0 where
  pub count : ℕ
  pub rest_is : drop count all ≡ rest
  pub fit : All RelocFits (take count all)

-- the file of these contents and rows of headers, by the number of the symbol table's header
abbrev pub whole_file : List ℕ → List ℕ → ℕ → ℕ → List ℕ
whole_file contents rows symtab flags =
    file_header (round_up (52 + length contents) 4) (symtab + 3) (symtab + 2) flags
    ++ contents ++ replicate (round_up (52 + length contents) 4 - (52 + length contents)) 0 ++ replicate 40 0 ++ rows
