use Rattle.elf_model.specs.declared.refusals.Refusal.TheVariants.{FallsOff}
use Rattle.flow_recover.specs.Gains.{Gains}
use Rattle.flow_recover.specs.NodeFaults.{IsVisitSpot}
use Rattle.flow_recover.proofs.AnswerFacts.{if_done}
use Rattle.flow_recover.proofs.NodeFaultFacts.{Pushed, instr_spots}
use Rattle.flow_recover.proofs.flow_faults.push_visit.Goals as goal

pub returns : goal.returns
returns c = if_done c.push_if-5.result
    (Gains (Pushed c.is_cut.result FallsOff c.args.v.now.node.section c.args.v.now.node.offset) c.push_if-4.new.spots.items c.push_if-5.new.spots.items)
    (Gains (IsVisitSpot c.args.o.now c.args.v.now) c.args.spots.now.items c.push_if-5.new.spots.items)
    c.push_if-5.ensures
    (instr_spots c.args.o.now c.args.v.now.node c.args.v.now.instr c.is_adr.result c.is_absolute.result c.lacks_word.result c.runs_out.result c.is_cut.result
    c.is_adr.ensures c.is_absolute.ensures c.lacks_word.ensures c.runs_out.ensures c.is_cut.ensures
    c.args.spots.now.items c.push_if.new.spots.items c.push_if-2.new.spots.items c.push_if-3.new.spots.items c.push_if-4.new.spots.items c.push_if-5.new.spots.items
    c.in_ok-push_if.ensures c.in_ok-push_if-2.ensures c.in_ok-push_if-3.ensures c.in_ok-push_if-4.ensures)
