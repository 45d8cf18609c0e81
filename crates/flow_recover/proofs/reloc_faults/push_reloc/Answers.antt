use Rattle.elf_model.specs.declared.refusals.Refusal.TheVariants.{IntoMiddle}
use Rattle.flow_recover.specs.Gains.{Gains}
use Rattle.flow_recover.specs.RelocFaults.{IsRelocSpot}
use Rattle.flow_recover.proofs.AnswerFacts.{if_done}
use Rattle.flow_recover.proofs.NodeFaultFacts.{Pushed}
use Rattle.flow_recover.proofs.RelocSpots.{reloc_spots}
use Rattle.flow_recover.proofs.reloc_faults.push_reloc.Goals as goal

pub returns : goal.returns
returns c = if_done c.push_if-2.result
    (Gains (Pushed c.makes_arm_address.result IntoMiddle c.args.r.now.section c.args.r.now.offset) c.push_if.new.spots.items c.push_if-2.new.spots.items)
    (Gains (IsRelocSpot c.args.o.now c.args.r.now) c.args.spots.now.items c.push_if-2.new.spots.items)
    c.push_if-2.ensures
    (reloc_spots c.args.o.now c.args.r.now c.is_right.result c.makes_arm_address.result c.is_right.ensures c.makes_arm_address.ensures
    c.args.spots.now.items c.push_if.new.spots.items c.push_if-2.new.spots.items c.in_ok-push_if.ensures)
