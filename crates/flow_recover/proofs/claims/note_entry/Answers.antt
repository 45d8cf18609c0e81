use Rattle.flow_recover.proofs.ClaimFacts.{entry_more, no_entry}
use Rattle.flow_recover.proofs.GainFacts.{place_more}
use Rattle.flow_recover.proofs.claims.note_entry.Goals as goal

pub returns-in_ok-insert : goal.returns-in_ok-insert
returns-in_ok-insert c = entry_more c.args.places.now c.insert.new.self c.args.c.now c.if-c.true
    (place_more c.args.places.now c.insert.new.self c.args.c.now.section c.args.c.now.offset c.in_ok-insert.ensures.updates.0)

pub returns-else-c : goal.returns-else-c
returns-else-c c = no_entry c.args.places.now c.args.c.now c.if-c.false
