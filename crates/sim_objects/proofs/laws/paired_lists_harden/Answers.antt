use Rattle.sim_objects.proofs.PairedLists.{paired_lists_harden}
use Rattle.sim_objects.proofs.laws.paired_lists_harden.Goals as goal

pub returns : goal.returns
returns c = paired_lists_harden
