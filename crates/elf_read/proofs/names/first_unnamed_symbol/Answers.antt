use Rattle.std.proofs.Common.{◌≡◌, ◌≤◌, ◌+◌, ◌*◌, ◌/◌, ℕ, ap, sym, ◌∙◌, arith, subst}
use Rattle.elf_model.specs.Constants.{strtab}
use Rattle.elf_model.specs.Fields.{word_at}
use Rattle.elf_model.specs.Files.{Header, header, IsKind}
use Rattle.elf_read.proofs.SymbolTable.{table_kind, table_none, symbol_here, some_headers}
use Rattle.elf_read.proofs.NameFaults.{symbols_more, first_symbol, all_symbols, ends_by, endless_by}
use Rattle.elf_read.proofs.names.first_unnamed_symbol.Goals as goal

pub returns-in_default : goal.returns-in_default
returns-in_default c = λ s o u. table_none c.args.bytes.now (sym c.in_default.is ∙ c.symtab_of.ensures) s u.stands.table

pub header_at-f-requires-clause-headers : goal.header_at-f-requires-clause-headers
header_at-f-requires-clause-headers c =
    some_headers c.args.bytes.now c.in-Some.t _ c.requires.tabled (table_kind c.args.bytes.now c.in-Some.t (sym c.in-Some.is ∙ c.symtab_of.ensures))

pub header_at-f-requires-clause-listed : goal.header_at-f-requires-clause-listed
header_at-f-requires-clause-listed c = (table_kind c.args.bytes.now c.in-Some.t (sym c.in-Some.is ∙ c.symtab_of.ensures)).1

pub word-requires : goal.word-requires
word-requires c =
    let here = symbol_here c.args.bytes.now c.in-Some.t c.loop-k.k _ c.requires.tabled (sym c.in-Some.is ∙ c.symtab_of.ensures) c.header_at-f.ensures c.loop-k-test.true in
    omega (arith, here.inside)

pub has_text-requires-clause-strings : goal.has_text-requires-clause-strings
has_text-requires-clause-strings c =
    let b = c.args.bytes.now in
    let here = symbol_here c.args.bytes.now c.in-Some.t c.loop-k.k _ c.requires.tabled (sym c.in-Some.is ∙ c.symtab_of.ensures) c.header_at-f.ensures c.loop-k-test.true in
    subst (λ (x : ℕ). IsKind b x strtab) (sym here.link) (c.requires.tabled.symbol_entries c.in-Some.t here.kind).2

pub overflow_cast-offset : goal.overflow_cast-offset
overflow_cast-offset c =
    let here = symbol_here c.args.bytes.now c.in-Some.t c.loop-k.k _ c.requires.tabled (sym c.in-Some.is ∙ c.symtab_of.ensures) c.header_at-f.ensures c.loop-k-test.true in
    omega (arith, here.inside)

pub returns-then-not-has_text : goal.returns-then-not-has_text
returns-then-not-has_text c =
    let b = c.args.bytes.now in
    let t = c.in-Some.t in
    let here = symbol_here c.args.bytes.now c.in-Some.t c.loop-k.k _ c.requires.tabled (sym c.in-Some.is ∙ c.symtab_of.ensures) c.header_at-f.ensures c.loop-k-test.true in
    first_symbol b t c.loop-k.k _ c.requires.tabled here.kind (omega arith) here.there here.place c.loop-k.invariant
    (endless_by b _ (header b t).link _ _ c.has_text.result c.has_text.ensures here.link c.word.ensures c.if-not-has_text.true)

pub loop-k-preserved : goal.loop-k-preserved
loop-k-preserved c =
    let b = c.args.bytes.now in
    let t = c.in-Some.t in
    let here = symbol_here c.args.bytes.now c.in-Some.t c.loop-k.k _ c.requires.tabled (sym c.in-Some.is ∙ c.symtab_of.ensures) c.header_at-f.ensures c.loop-k-test.true in
    let name : c.word.result ≡ word_at b ((header b t).offset + 16 * c.loop-k.k) = c.word.ensures ∙ ap (word_at b) here.place in
    symbols_more b t c.loop-k.k c.loop-k.invariant (ends_by b _ (header b t).link _ _ c.has_text.result c.has_text.ensures here.link name c.if-not-has_text.false)

pub returns : goal.returns
returns c =
    let b = c.args.bytes.now in
    let t = c.in-Some.t in
    let past : (header b t).size / 16 ≤ c.loop-k.k = subst (λ (x : Header). x.size / 16 ≤ c.loop-k.k) c.header_at-f.ensures c.loop-k-test.false in
    all_symbols b t c.requires.tabled (table_kind b t (sym c.in-Some.is ∙ c.symtab_of.ensures)) c.loop-k.k past c.loop-k.invariant
