use Rattle.std.proofs.Common.{subst, arith}
use Rattle.elf_read.specs.Texts.{IsText, HasNoText, IsTextOrNone}
use Rattle.elf_read.proofs.Texts.{text_read, text_there}
use Rattle.elf_read.proofs.strings.name_of.Goals as goal

pub returns : goal.returns
returns c =
    let b = c.args.bytes.now in
    let table = c.contents-table.result.now in
    let text : IsText table c.args.at c.in-Some.n = subst (IsTextOrNone table c.args.at) c.in-Some.is c.text_len.ensures in
    text_read b c.args.table c.args.at c.in-Some.n _ table c.contents-table.ensures (omega arith) text

pub unreachable-requires : goal.unreachable-requires
unreachable-requires c =
    let table = c.contents-table.result.now in
    let none : HasNoText table c.args.at = subst (IsTextOrNone table c.args.at) c.in_default.is c.text_len.ensures in
    text_there c.args.bytes.now c.args.table c.args.at table c.requires.tabled c.requires.strings c.requires.ends c.contents-table.ensures none
