use Rattle.sim_objects.proofs.PairedLists.{paired_lists_harden}
use Rattle.sim_objects.proofs.laws.paired_list_hardens.Goals as goal

pub returns : goal.returns
returns c =
    paired_lists_harden c.args.plain.now c.args.hard.now c.args.factor c.requires.low c.requires.high
    (record { objects = c.are_objects.ensures; forms = c.are_objects-2.ensures; bytes = c.have_bytes.ensures; pairs = c.requires.paired })
