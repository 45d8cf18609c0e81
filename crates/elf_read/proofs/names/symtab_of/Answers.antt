use Rattle.std.proofs.Common.{◌≡◌, ap, sym, ◌∙◌, arith}
use Rattle.elf_model.specs.Files.{header, IsKind}
use Rattle.elf_model.specs.Constants.{symtab}
use Rattle.elf_read.proofs.SymbolTable.{table_is, no_table, no_table_more}
use Rattle.elf_read.proofs.names.symtab_of.Goals as goal

pub returns-then-header_at-eq-SYMTAB : goal.returns-then-header_at-eq-SYMTAB
returns-then-header_at-eq-SYMTAB c =
    let kind : (header c.args.bytes.now c.loop-h.h).kind ≡ symtab = sym (ap (λ x. x.kind) c.header_at.ensures) ∙ c.if-header_at-eq-SYMTAB.true in
    let here : IsKind c.args.bytes.now c.loop-h.h symtab = (omega arith, omega arith, kind) in
    table_is c.args.bytes.now c.loop-h.h c.requires here

pub loop-h-preserved : goal.loop-h-preserved
loop-h-preserved c =
    no_table_more c.args.bytes.now c.loop-h.h c.loop-h.invariant (λ e. c.if-header_at-eq-SYMTAB.false (ap (λ x. x.kind) c.header_at.ensures ∙ e))

pub returns : goal.returns
returns c = no_table c.args.bytes.now (λ k low high. c.loop-h.invariant k low (omega arith))
