use Rattle.std.proofs.Common.{◌≤◌, take}
use Rattle.std.specs.BTreeSet.{btree_set_len}
use Rattle.flow_recover.specs.Gains.{PlacesGain, IsFrom}
use Rattle.flow_recover.specs.declared.visits.Visit.{Visit}
use Rattle.flow_recover.specs.Settled.{IsLoad}
use Rattle.flow_recover.proofs.literals.loaded_places.Given as goal

-- the places that the instructions so far name, at most one each
abbrev pub invariant-loop-v : goal.invariant-loop-v
invariant-loop-v l = record { exact : PlacesGain (λ j x. IsFrom (λ (v : Visit). IsLoad l.fn.o v.node) (take l.v-index l.visits) (j, x)) l.initial.places l.places; few : btree_set_len l.places ≤ l.v-index }
