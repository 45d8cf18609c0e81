use Rattle.std.proofs.Common.{◌≡◌, ◌≢◌, ◌<◌, ◌/◌, sym, ap, arith}
use Rattle.elf_model.specs.Constants.{symtab, nobits}
use Rattle.elf_model.specs.Files.{Header, header, header_count}
use Rattle.elf_read.proofs.Flags.{symbol_flags_made}
use Rattle.elf_read.proofs.KeptSymbols.{symbol_table_found}
use Rattle.elf_read.proofs.keeping.symbol_flags.Goals as goal

pub push_symbol_flags-requires-clause-inside : goal.push_symbol_flags-requires-clause-inside
push_symbol_flags-requires-clause-inside c =
    let b = c.args.bytes.now in
    let t = c.in-Some.t in
    let at = ap (λ (h : Header). h.offset) c.header_at-header.ensures in
    let size = ap (λ (h : Header). h.size) c.header_at-header.ensures in
    let kind : (header b t).kind ≡ symtab = (symbol_table_found b t (sym c.in-Some.ensures)).2 in
    let other : (header b t).kind ≢ nobits = λ e. absurd (omega (arith, kind, e)) in
    let inside = c.requires.tabled.inside t (record { behind_null = (symbol_table_found b t (sym c.in-Some.ensures)).0; there = (symbol_table_found b t (sym c.in-Some.ensures)).1 }) other in
    omega (arith, at, size, inside)

pub returns : goal.returns
returns c =
    let at = ap (λ (h : Header). h.offset) c.header_at-header.ensures in
    let many = ap (λ (h : Header). h.size / 16) c.header_at-header.ensures in
    symbol_flags_made c.args.bytes.now c.in-Some.t _ _ _ _ _ c.in_ok-push_symbol_flags.ensures c.in_ok-push.ensures.items c.new-flags.ensures.items at many (sym c.in-Some.ensures)

pub header_at-header-requires-clause-headers : goal.header_at-header-requires-clause-headers
header_at-header-requires-clause-headers c =
    let table = symbol_table_found c.args.bytes.now c.in-Some.t (sym c.in-Some.ensures) in
    let many : c.in-Some.t < header_count c.args.bytes.now = table.1 in
    c.requires.tabled.listed (omega (arith, many))

pub header_at-header-requires-clause-listed : goal.header_at-header-requires-clause-listed
header_at-header-requires-clause-listed c = (symbol_table_found c.args.bytes.now c.in-Some.t (sym c.in-Some.ensures)).1
