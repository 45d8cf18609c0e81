use Rattle.elf_model.specs.declared.refusals.Refusal.TheVariants.{BadReloc}
use Rattle.elf_read.proofs.Formed.{has_symbols}
use Rattle.elf_read.proofs.whole.read_whole.Goals as goal

pub object-requires-clause-named : goal.object-requires-clause-named
object-requires-clause-named c = has_symbols c.args.bytes.now c.args.limit.now c.requires.tabled c.requires.homes (c.requires.faultless BadReloc)
