use Rattle.std.proofs.Common.{◌≡◌}
use Rattle.flow_recover.specs.Gains.{PlacesGain}
use Rattle.flow_recover.specs.NodeFaults.{IsMember, IsBlockPlace}
use Rattle.flow_recover.proofs.AnswerFacts.{if_done}
use Rattle.flow_recover.proofs.BlockFacts.{no_places, block_grows}
use Rattle.flow_recover.proofs.blocks.note_block.Goals as goal

pub returns-in-None : goal.returns-in-None
returns-in-None c = no_places c.args.o.now c.args.v.now.node c.args.places.now c.in-None.ensures.exact

pub returns-in-Some : goal.returns-in-Some
returns-in-Some c = if_done c.note_members.result
    (PlacesGain (λ j x. (c.args.v.now.node.section ≡ j) × IsMember c.bytes_of.result.now c.in-Some.b x) c.args.places.now c.note_members.new.places)
    (PlacesGain (λ j x. IsBlockPlace c.args.o.now c.args.v.now.node (j, x)) c.args.places.now c.note_members.new.places)
    c.note_members.ensures
    (block_grows c.args.o.now c.args.v.now.node c.bytes_of.result.now c.in-Some.b c.args.places.now c.note_members.new.places c.in-Some.ensures.exact c.bytes_of.ensures)
