use Rattle.std.proofs.Common.{◌+◌, sym, ap, ◌∙◌, arith}
use Rattle.elf_model.specs.Fields.{word_at}
use Rattle.elf_read.specs.MapRows.{row_kind_of}
use Rattle.elf_read.proofs.RowBytes.{no_row, row_read, kind_back}
use Rattle.elf_read.proofs.maps.row_at.Goals as goal

pub returns-in_default : goal.returns-in_default
returns-in_default c = no_row c.args.bytes.now c.args.at (ap row_kind_of (sym c.word.ensures) ∙ sym c.row_kind_of.ensures ∙ c.in_default.is)

pub returns : goal.returns
returns c =
    let b = c.args.bytes.now in
    let kind = kind_back (word_at b (c.args.at + 12)) c.in-Some.kind (ap row_kind_of (sym c.word.ensures) ∙ sym c.row_kind_of.ensures ∙ c.in-Some.is) in
    row_read b c.args.at c.word-2.result c.word-3.result c.word-4.result c.in-Some.kind c.requires.inside (λ i. omega (arith, c.type_inv.bytes i)) kind c.word-2.ensures c.word-3.ensures c.word-4.ensures c.word-2.type_inv c.word-3.type_inv c.word-4.type_inv
