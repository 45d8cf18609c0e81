use Rattle.std.proofs.Common.{arith}
use Rattle.flow_recover.specs.declared.visits.Visit.{Visit}
use Rattle.flow_recover.specs.Settled.{IsLoad}
use Rattle.flow_recover.proofs.GainFacts.{no_place, places_start, places_item, places_all}
use Rattle.flow_recover.proofs.LiteralFacts.{all_loaded}
use Rattle.flow_recover.proofs.VisitFacts.{visit_item}
use Rattle.flow_recover.proofs.literals.loaded_places.Goals as goal

pub loop-v-init : goal.loop-v-init
loop-v-init c = record {
  exact = places_start (λ (v : Visit). IsLoad c.args.o.now v.node) c.args.visits.now c.new-places.result;
  few = let none = c.new-places.ensures.len in omega arith;
}

pub note_load-requires : goal.note_load-requires
note_load-requires c = (visit_item c.args.o.now c.args.visits.now c.requires c.loop-v.v-index c.v-item.result c.loop-v-test.true c.v-item.is).1

pub loop-v-preserved : goal.loop-v-preserved
loop-v-preserved c = record {
  exact = places_item (λ (v : Visit). IsLoad c.args.o.now v.node) c.args.visits.now c.loop-v.v-index c.v-item.result c.new-places.result c.loop-v.places c.note_load.new.places c.loop-v-test.true c.v-item.is c.loop-v.invariant.exact c.in_ok-note_load.ensures.loads;
  few = let more = c.in_ok-note_load.ensures.len in let before = c.loop-v.invariant.few in omega arith;
}

pub returns-clause-exact : goal.returns-clause-exact
returns-clause-exact c = all_loaded c.args.o.now c.args.visits.now c.new-places.result c.loop-v.places c.requires (no_place c.new-places.result c.new-places.ensures.empty)
    (places_all (λ (v : Visit). IsLoad c.args.o.now v.node) c.args.visits.now c.loop-v.v-index c.new-places.result c.loop-v.places c.loop-v-test.false c.loop-v.invariant.exact)
