use Rattle.std.proofs.Common.{◌≡◌, ◌++◌, ◌∷◌, [], ◌∙◌, ap, sym, List}
use Rattle.std.specs.Prelude.{codes}
use Rattle.elf_model.specs.declared.objects.Symbol.{Symbol}
use Rattle.elf_model.specs.Objects.{ObjectParts}
use Rattle.elf_model.specs.Canonical.{FileSection, symtab_section, symbol_names, string_table}
use Rattle.elf_write.specs.Writing.{IsWritten, front_sections, names_of}
use Rattle.elf_write.proofs.Rows.{names_in}
use Rattle.elf_write.proofs.Tables.{strings_written, all_but_last, tables_laid}
use Rattle.elf_write.proofs.sections.put_tables.Goals as goal

pub returns-clause-laid : goal.returns-clause-laid
returns-clause-laid c =
    let o : ObjectParts = c.args.o.now in
    let ss : List FileSection = front_sections o ++ symtab_section o ∷ [] in
    let first : IsWritten c.put_symbols.new.layout c.put_symbols.new.names ss = c.in_ok-held.ensures.written (front_sections o) o c.requires.front (sym c.symbols.ensures) c.requires.symtab in
    let text : c.text.result.now ≡ string_table (symbol_names o) = c.text.ensures (names_in c.symbols.result.now) c.in_ok-held.ensures.table ∙ ap (λ (xs : List Symbol). string_table (names_in xs)) c.symbols.ensures in
    let second : IsWritten c.put_strings.new.layout c.add.new.self (all_but_last o) =
    strings_written c.put_symbols.new.layout c.put_strings.new.layout c.add.new.self ss (codes ".strtab") c.text.result.now (symbol_names o) c.in_ok-name.name first.sections text
    (c.in_ok-name.ensures.offset (names_of ss) first.names) (c.in_ok-name.ensures.table (names_of ss) first.names) c.in_ok-put_strings.ensures.contents c.in_ok-put_strings.ensures.rows in
    let held = c.in_ok-last.ensures.table (names_of (all_but_last o)) second.names in
    tables_laid o c.put_strings.new.layout c.put_strings-2.new.layout c.text-2.result.now c.in_ok-last.last second.sections
    (c.text-2.ensures (names_of (all_but_last o) ++ codes ".shstrtab" ∷ []) held) (c.in_ok-last.ensures.offset (names_of (all_but_last o)) second.names) c.in_ok-put_strings-2.ensures.contents c.in_ok-put_strings-2.ensures.rows
