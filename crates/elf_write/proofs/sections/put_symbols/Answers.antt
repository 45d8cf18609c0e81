use Rattle.std.proofs.Common.{◌≡◌, ◌++◌, ◌∷◌, [], ◌∙◌, ◌+◌, ap, sym, ℕ, subst, length}
use Rattle.std.specs.Prelude.{codes}
use Rattle.elf_model.specs.Canonical.{FileSection}
use Rattle.elf_write.specs.declared.layout.Head.{Head}
use Rattle.elf_write.specs.Writing.{IsWritten, file_section}
use Rattle.elf_write.proofs.Tables.{symtab_head, symtab_made}
use Rattle.elf_write.proofs.sections.put_symbols.Goals as goal

pub returns-clause-written : goal.returns-clause-written
returns-clause-written c = λ ss o h e t.
    let rows : c.deref.result.now ≡ c.in_ok-rows.rows.items = c.deref.ensures.value in
    let size : length c.as_slice.result.now ≡ length c.deref.result.now = ap length (c.as_slice.ensures.value ∙ sym rows) in
    let head : Head = record c.table_head.result { link = c.args.symtab + 1; info = 1 + c.locals.result; entry = 16 } in
    let same : head ≡ symtab_head c.args.symtab c.args.symbols.now (length c.deref.result.now) =
    ap (λ (x : Head). record x { link = c.args.symtab + 1; info = 1 + c.locals.result; entry = 16 }) c.table_head.ensures
    ∙ ap (λ (n : ℕ). record (symtab_head c.args.symtab c.args.symbols.now n) { info = 1 + c.locals.result }) size
    ∙ ap (λ (n : ℕ). record (symtab_head c.args.symtab c.args.symbols.now (length c.deref.result.now)) { info = 1 + n }) c.locals.ensures in
    let made = symtab_made o c.args.symbols.now c.args.symtab c.deref.result.now e t (rows ∙ c.in_ok-rows.ensures.rows) in
    subst (λ (s : FileSection). IsWritten c.put_named.new.layout c.put_named.new.names (ss ++ s ∷ [])) (ap (λ (x : Head). file_section (codes ".symtab") x c.deref.result.now) same ∙ made) (c.in_ok-put_named.ensures ss h)
