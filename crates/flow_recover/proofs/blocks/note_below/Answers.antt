use Rattle.flow_recover.proofs.GainFacts.{place_more}
use Rattle.flow_recover.proofs.BlockFacts.{below_more}
use Rattle.flow_recover.proofs.blocks.note_below.Goals as goal

pub returns-in_ok-insert : goal.returns-in_ok-insert
returns-in_ok-insert c = below_more c.args.places.now c.insert.new.self c.args.section c.args.at c.args.end c.if-at-end.true
    (place_more c.args.places.now c.insert.new.self c.args.section c.args.at c.in_ok-insert.ensures.updates.0)
