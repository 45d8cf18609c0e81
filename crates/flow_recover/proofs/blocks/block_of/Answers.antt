use Rattle.std.proofs.Common.{refl, sym}
use Rattle.reloc_places.specs.Starts.{bytes_of, IsCodeStart}
use Rattle.flow_recover.proofs.AnswerFacts.{same_option}
use Rattle.flow_recover.proofs.BlockFacts.{no_mask_block, no_end_block, this_block}
use Rattle.flow_recover.proofs.VisitFacts.{visit_instrs}
use Rattle.flow_recover.proofs.blocks.block_of.Goals as goal

pub returns-in-None-clause-exact : goal.returns-in-None-clause-exact
returns-in-None-clause-exact c = no_mask_block c.args.o.now c.args.v.now.node c.args.v.now.instr (visit_instrs c.args.o.now c.args.v.now c.requires.visit) (sym c.in-None.ensures)

pub returns-in-None-end_at-clause-exact : goal.returns-in-None-end_at-clause-exact
returns-in-None-end_at-clause-exact c = no_end_block c.args.o.now c.args.v.now.node (same_option (IsCodeStart c.args.o.now c.args.v.now.node.section (bytes_of c.args.o.now c.args.v.now.node.section) c.args.v.now.node.offset) _ _ c.in-None-end_at.ensures
    (c.requires.chart.starts c.args.v.now.node.section c.args.v.now.node.offset))

pub returns-in-Some-end_at-clause-exact : goal.returns-in-Some-end_at-clause-exact
returns-in-Some-end_at-clause-exact c = this_block c.args.o.now c.args.v.now.node c.args.v.now.instr c.in-Some.mask c.in-Some-end_at.end (visit_instrs c.args.o.now c.args.v.now c.requires.visit) (sym c.in-Some.ensures)
    (same_option (IsCodeStart c.args.o.now c.args.v.now.node.section (bytes_of c.args.o.now c.args.v.now.node.section) c.args.v.now.node.offset) _ _ c.in-Some-end_at.ensures (c.requires.chart.starts c.args.v.now.node.section c.args.v.now.node.offset))
    _ c.requires.visit.behind refl c.block_length.ensures
