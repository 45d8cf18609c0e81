use Rattle.std.proofs.Common.{◌≡◌, ◌≢◌, ◌<◌, ◌/◌, ℕ, sym, ap, ◌∙◌, subst, arith}
use Rattle.elf_model.specs.Constants.{symtab, strtab, nobits}
use Rattle.elf_model.specs.Files.{Header, header, header_count, symbol_of}
use Rattle.elf_read.specs.Faults.{IsHeader}
use Rattle.elf_read.proofs.KeptSymbols.{symbol_table_found}
use Rattle.elf_read.proofs.BuiltLists.{symbols_made}
use Rattle.elf_read.proofs.building.symbols.Goals as goal

pub push_symbols-requires-clause-inside : goal.push_symbols-requires-clause-inside
push_symbols-requires-clause-inside c =
    let b = c.args.bytes.now in
    let t = c.in-Some.t in
    let at = ap (λ (h : Header). h.offset) c.header_at-header.ensures in
    let size = ap (λ (h : Header). h.size) c.header_at-header.ensures in
    let table = symbol_table_found b t (sym c.in-Some.ensures) in
    let kind : (header b t).kind ≡ symtab = table.2 in
    let other : (header b t).kind ≢ nobits = λ e. absurd (omega (arith, kind, e)) in
    let inside = c.requires.tabled.inside t (record { behind_null = table.0; there = table.1 }) other in
    omega (arith, at, size, inside)

pub returns : goal.returns
returns c =
    let at = ap (λ (h : Header). h.offset) c.header_at-header.ensures in
    let many = ap (λ (h : Header). h.size / 16) c.header_at-header.ensures in
    symbols_made (symbol_of c.args.bytes.now) c.args.bytes.now c.in-Some.t _ _ _ _ c.in_ok-push_symbols.ensures c.new-symbols.ensures.items at many (sym c.in-Some.ensures)

pub header_at-header-requires-clause-headers : goal.header_at-header-requires-clause-headers
header_at-header-requires-clause-headers c =
    let table = symbol_table_found c.args.bytes.now c.in-Some.t (sym c.in-Some.ensures) in
    let many : c.in-Some.t < header_count c.args.bytes.now = table.1 in
    c.requires.tabled.listed (omega (arith, many))

pub header_at-header-requires-clause-listed : goal.header_at-header-requires-clause-listed
header_at-header-requires-clause-listed c = (symbol_table_found c.args.bytes.now c.in-Some.t (sym c.in-Some.ensures)).1

pub texts_of-requires-clause-listed : goal.texts_of-requires-clause-listed
texts_of-requires-clause-listed c =
    let link = ap (λ (h : Header). h.link) c.header_at-header.ensures in
    let strings = (c.requires.tabled.symbol_entries c.in-Some.t (symbol_table_found c.args.bytes.now c.in-Some.t (sym c.in-Some.ensures))).2 in
    subst (λ (k : ℕ). IsHeader c.args.bytes.now k) (sym link) (record { behind_null = strings.0; there = strings.1 })

pub texts_of-requires-clause-stored : goal.texts_of-requires-clause-stored
texts_of-requires-clause-stored c = λ e.
    let link = ap (λ (h : Header). h.link) c.header_at-header.ensures in
    let strings = (c.requires.tabled.symbol_entries c.in-Some.t (symbol_table_found c.args.bytes.now c.in-Some.t (sym c.in-Some.ensures))).2 in
    let kind : (header c.args.bytes.now (header c.args.bytes.now c.in-Some.t).link).kind ≡ strtab = strings.2 in
    let other : (header c.args.bytes.now (header c.args.bytes.now c.in-Some.t).link).kind ≡ nobits = ap (λ (k : ℕ). (header c.args.bytes.now k).kind) (sym link) ∙ e in
    absurd (omega (arith, kind, other))
