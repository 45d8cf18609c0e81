use Rattle.std.proofs.Common.{◌∙◌, ◌==◌, ap, arith, length, not}
use Rattle.std.specs.Prelude.{count_by}
use Rattle.elf_write.proofs.Relocated.{filled_are}
use Rattle.elf_write.proofs.Sound.{relocated_few}
use Rattle.elf_write.proofs.write.symtab_number.Goals as goal

pub returns-clause-number : goal.returns-clause-number
returns-clause-number c =
    let count = ap length c.sections.ensures in
    let full = c.filled.ensures ∙ ap (count_by (λ t. not (length t == 0))) c.requires.tables ∙ filled_are c.args.o.now 0 c.args.o.now.sections in
    omega (arith, count, full)

pub returns-clause-few : goal.returns-clause-few
returns-clause-few c =
    let count = ap length c.sections.ensures in
    let full = c.filled.ensures ∙ ap (count_by (λ t. not (length t == 0))) c.requires.tables ∙ filled_are c.args.o.now 0 c.args.o.now.sections in
    omega (arith, count, full, relocated_few c.args.o.now 0 c.args.o.now.sections, c.requires.few)
