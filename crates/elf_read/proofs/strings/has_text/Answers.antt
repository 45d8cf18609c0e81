use Rattle.std.proofs.Common.{sym, subst}
use Rattle.std.specs.Prelude.{◌↔◌, IsTrue, Bool}
use Rattle.elf_model.specs.Files.{EndsAt}
use Rattle.elf_read.proofs.Texts.{text_decides}
use Rattle.elf_read.proofs.strings.has_text.Goals as goal

pub returns : goal.returns
returns c =
    let b = c.args.bytes.now in
    subst (λ (x : Bool). IsTrue x ↔ EndsAt b c.args.table c.args.at) (sym c.is_some.ensures)
    (text_decides b c.args.table c.args.at c.contents.result.now c.text_len.result c.requires.tabled c.requires.strings c.contents.ensures c.text_len.ensures)
