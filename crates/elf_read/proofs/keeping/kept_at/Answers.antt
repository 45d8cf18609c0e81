use Rattle.std.proofs.Common.{List, Bool, ap, ◌∙◌}
use Rattle.elf_read.specs.Keeping.{flag_at}
use Rattle.elf_read.proofs.Flags.{flag_is}
use Rattle.elf_read.proofs.keeping.kept_at.Goals as goal

pub returns : goal.returns
returns c = c.flag.ensures ∙ ap (λ (f : List Bool). flag_at f c.args.h) c.requires.kept ∙ flag_is c.args.bytes.now c.args.h c.requires.listed
