use Rattle.flow_recover.specs.Claims.{EntersAt}
use Rattle.flow_recover.proofs.ClaimFacts.{all_entries}
use Rattle.flow_recover.proofs.GainFacts.{no_place, places_start, places_more, places_all}
use Rattle.flow_recover.proofs.claims.entry_places.Goals as goal

pub loop-c-init : goal.loop-c-init
loop-c-init c = places_start EntersAt c.args.claims.now c.new-places.result

pub loop-c-preserved : goal.loop-c-preserved
loop-c-preserved c = places_more EntersAt c.args.claims.now c.loop-c.c-index _ c.new-places.result c.loop-c.places c.note_entry.new.places c.loop-c-test.true c.loop-c.invariant c.in_ok-note_entry.ensures

pub returns : goal.returns
returns c = all_entries c.args.o.now c.args.claims.now c.new-places.result c.loop-c.places c.requires (no_place c.new-places.result c.new-places.ensures.empty)
    (places_all EntersAt c.args.claims.now c.loop-c.c-index c.new-places.result c.loop-c.places c.loop-c-test.false c.loop-c.invariant)
