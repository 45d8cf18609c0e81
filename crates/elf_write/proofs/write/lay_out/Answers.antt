use Rattle.std.proofs.Common.{sym, subst, List, ◌<◌}
use Rattle.std.specs.Prelude.{All}
use Rattle.elf_model.specs.declared.objects.Section.{Section}
use Rattle.elf_write.proofs.Sound.{all_aligned, all_small}
use Rattle.elf_write.proofs.write.lay_out.Goals as goal

pub put_own-requires-clause-aligned : goal.put_own-requires-clause-aligned
put_own-requires-clause-aligned c = subst (λ (ss : List Section). All (λ s. 0 < s.align) ss) (sym c.sections.ensures) (all_aligned c.args.o.now c.sound.ensures)

pub put_tables-requires-clause-small : goal.put_tables-requires-clause-small
put_tables-requires-clause-small c = all_small c.args.o.now c.sound.ensures
