-- The tables at the end of a file.
use Rattle.std.proofs.Common.{◌≡◌, ℕ, ◌+◌, ◌*◌, List, [], ◌∷◌, ◌++◌, length, replicate, sym, ap, ◌∙◌, subst, arith}
use Rattle.std.specs.Prelude.{count_by, ◌==◌, codes}
use Rattle.std.specs.List.{flat_map}
use Rattle.std.proofs.lemmas.List.{append_assoc, map-append}
use Rattle.elf_model.specs.declared.objects.Symbol.{Symbol}
use Rattle.elf_model.specs.Constants.{local}
use Rattle.elf_model.specs.Objects.{ObjectParts}
use Rattle.elf_model.specs.Canonical.{FileSection, file_sections, section_names, strings_section, string_table, name_offset, round_up, symbol_row, symbol_names, symtab_section, symtab_header, added, row_with, text_section}
use Rattle.elf_model.proofs.Written.{length-symbol_rows}
use Rattle.elf_model.proofs.Written.{names_of as names_are}
use Rattle.elf_write.specs.declared.layout.Head.{Head}
use Rattle.elf_write.specs.declared.layout.Layout.{Layout}
use Rattle.elf_write.specs.declared.names.Names.{Names}
use Rattle.elf_write.specs.Writing.{IsTable, IsLaid, IsWritten, names_of, front_sections, file_section}
use Rattle.elf_write.proofs.Laying.{one_laid}
use Rattle.elf_write.proofs.Rows.{names_in}

-- the numbers of the symbol table
abbrev pub symtab_head : ℕ → List Symbol → ℕ → Head
symtab_head table xs size = record { kind = 2; flags = 0; size = size; link = table + 1; info = 1 + count_by (λ (s : Symbol). s.bind == local) xs; align = 4; entry = 16 }

pub symtab_made : (o : ObjectParts) (xs : List Symbol) (table : ℕ) (rows : List ℕ) → o.symbols ≡ xs → table ≡ symtab_header o → rows ≡ replicate 16 0 ++ flat_map (symbol_row (names_in xs)) xs
    → file_section (codes ".symtab") (symtab_head table xs (length rows)) rows ≡ symtab_section o
symtab_made o xs table rows e t h =
    let held : rows ≡ replicate 16 0 ++ flat_map (symbol_row (symbol_names o)) o.symbols = h ∙ ap (λ (ys : List Symbol). replicate 16 0 ++ flat_map (symbol_row (names_in ys)) ys) (sym e) in
    let rows_long = length-symbol_rows (symbol_names o) o.symbols in
    let long : length rows ≡ 16 * (1 + length o.symbols) = ap length held ∙ omega (arith, rows_long) in
    ap (λ (n : ℕ). file_section (codes ".symtab") (symtab_head n xs (length rows)) rows) t
    ∙ ap (λ (ys : List Symbol). file_section (codes ".symtab") (symtab_head (symtab_header o) ys (length rows)) rows) (sym e)
    ∙ ap (λ (n : ℕ). file_section (codes ".symtab") (symtab_head (symtab_header o) o.symbols n) rows) long
    ∙ ap (λ (b : List ℕ). file_section (codes ".symtab") (symtab_head (symtab_header o) o.symbols (16 * (1 + length o.symbols))) b) held

-- a string table behind the sections that were laid out
pub strings_laid : (l m : Layout) (ss : List FileSection) (name bytes : List ℕ) (names : List (List ℕ)) (offset : ℕ) → IsLaid l (names_of ss) ss → bytes ≡ string_table names → offset ≡ name_offset (names_of ss ++ name ∷ []) name
    → m.contents.items ≡ l.contents.items ++ added (52 + length l.contents.items) (text_section [] bytes) → m.rows.items ≡ l.rows.items ++ row_with offset (round_up (52 + length l.contents.items) 1) (text_section [] bytes)
    → IsLaid m (names_of (ss ++ strings_section name names ∷ [])) (ss ++ strings_section name names ∷ [])
strings_laid l m ss name bytes names offset w e o contents rows =
    one_laid l m ss (strings_section name names) offset (omega arith) w o
    (contents ∙ ap (λ (b : List ℕ). l.contents.items ++ added (52 + length l.contents.items) (text_section name b)) e)
    (rows ∙ ap (λ (b : List ℕ). l.rows.items ++ row_with offset (round_up (52 + length l.contents.items) 1) (text_section name b)) e)

pub strings_written : (l m : Layout) (u : Names) (ss : List FileSection) (name bytes : List ℕ) (names : List (List ℕ)) (offset : ℕ) → IsLaid l (names_of ss) ss → bytes ≡ string_table names → offset ≡ name_offset (names_of ss ++ name ∷ []) name
    → IsTable u (names_of ss ++ name ∷ [])
    → m.contents.items ≡ l.contents.items ++ added (52 + length l.contents.items) (text_section [] bytes) → m.rows.items ≡ l.rows.items ++ row_with offset (round_up (52 + length l.contents.items) 1) (text_section [] bytes)
    → IsWritten m u (ss ++ strings_section name names ∷ [])
strings_written l m u ss name bytes names offset w e o n contents rows = record {
  sections = strings_laid l m ss name bytes names offset w e o contents rows;
  names = subst (IsTable u) (sym (map-append (λ (x : FileSection). x.name) ss (strings_section name names ∷ []))) n;
}

-- the sections but the last, whose bytes hold the names of all
abbrev pub all_but_last : ObjectParts → List FileSection
all_but_last o = (front_sections o ++ symtab_section o ∷ []) ++ strings_section (codes ".strtab") (symbol_names o) ∷ []

pub all_are : (o : ObjectParts) (s : FileSection) → all_but_last o ++ s ∷ [] ≡ front_sections o ++ symtab_section o ∷ strings_section (codes ".strtab") (symbol_names o) ∷ s ∷ []
all_are o s =
    append_assoc (front_sections o ++ symtab_section o ∷ []) (strings_section (codes ".strtab") (symbol_names o) ∷ []) (s ∷ [])
    ∙ append_assoc (front_sections o) (symtab_section o ∷ []) (strings_section (codes ".strtab") (symbol_names o) ∷ s ∷ [])

pub all_names : (o : ObjectParts) → names_of (all_but_last o) ++ codes ".shstrtab" ∷ [] ≡ section_names o
all_names o =
    let last : FileSection = strings_section (codes ".shstrtab") (section_names o) in
    sym (map-append (λ (x : FileSection). x.name) (all_but_last o) (last ∷ [])) ∙ ap names_of (all_are o last) ∙ sym (names_are o)

pub tables_laid : (o : ObjectParts) (l m : Layout) (bytes : List ℕ) (offset : ℕ) → IsLaid l (names_of (all_but_last o)) (all_but_last o) → bytes ≡ string_table (names_of (all_but_last o) ++ codes ".shstrtab" ∷ [])
    → offset ≡ name_offset (names_of (all_but_last o) ++ codes ".shstrtab" ∷ []) (codes ".shstrtab")
    → m.contents.items ≡ l.contents.items ++ added (52 + length l.contents.items) (text_section [] bytes) → m.rows.items ≡ l.rows.items ++ row_with offset (round_up (52 + length l.contents.items) 1) (text_section [] bytes)
    → IsLaid m (section_names o) (file_sections o)
tables_laid o l m bytes offset w e n contents rows =
    let last : FileSection = strings_section (codes ".shstrtab") (section_names o) in
    let laid = strings_laid l m (all_but_last o) (codes ".shstrtab") bytes (section_names o) offset w (e ∙ ap string_table (all_names o)) n contents rows in
    let both = subst (λ (ss : List FileSection). IsLaid m (names_of ss) ss) (all_are o last) laid in
    subst (λ (ns : List (List ℕ)). IsLaid m ns (file_sections o)) (sym (names_are o)) both
