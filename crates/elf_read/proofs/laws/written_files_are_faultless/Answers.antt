use Rattle.elf_read.proofs.WrittenFile.{faultless}
use Rattle.elf_read.proofs.laws.written_files_are_faultless.Goals as goal

pub returns : goal.returns
returns c = faultless
