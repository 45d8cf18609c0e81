use Rattle.flow_recover.specs.declared.visits.Visit.{Visit}
use Rattle.flow_recover.specs.NodeFaults.{IsBlockPlace}
use Rattle.flow_recover.proofs.BlockFacts.{all_blocks}
use Rattle.flow_recover.proofs.GainFacts.{no_place, places_start, places_item, places_all}
use Rattle.flow_recover.proofs.VisitFacts.{visit_item}
use Rattle.flow_recover.proofs.blocks.block_places.Goals as goal

pub loop-v-init : goal.loop-v-init
loop-v-init c = places_start (λ (v : Visit). IsBlockPlace c.args.o.now v.node) c.args.visits.now c.new-places.result

pub note_block-requires-clause-visit : goal.note_block-requires-clause-visit
note_block-requires-clause-visit c = (visit_item c.args.o.now c.args.visits.now c.requires.visits c.loop-v.v-index c.v-item.result c.loop-v-test.true c.v-item.is).1

pub loop-v-preserved : goal.loop-v-preserved
loop-v-preserved c = places_item (λ (v : Visit). IsBlockPlace c.args.o.now v.node) c.args.visits.now c.loop-v.v-index c.v-item.result c.new-places.result c.loop-v.places c.note_block.new.places c.loop-v-test.true c.v-item.is c.loop-v.invariant c.in_ok-note_block.ensures

pub returns : goal.returns
returns c = all_blocks c.args.o.now c.args.visits.now c.requires.visits c.new-places.result c.loop-v.places (no_place c.new-places.result c.new-places.ensures.empty)
    (places_all (λ (v : Visit). IsBlockPlace c.args.o.now v.node) c.args.visits.now c.loop-v.v-index c.new-places.result c.loop-v.places c.loop-v-test.false c.loop-v.invariant)
