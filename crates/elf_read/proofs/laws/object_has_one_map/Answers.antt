use Rattle.elf_read.proofs.MapFaults.{one_map}
use Rattle.elf_read.proofs.laws.object_has_one_map.Goals as goal

pub returns : goal.returns
returns c = one_map
