use Rattle.std.proofs.Common.{take}
use Rattle.flow_recover.specs.Gains.{PlacesGain, IsFrom}
use Rattle.flow_recover.specs.Claims.{EntersAt}
use Rattle.flow_recover.proofs.claims.entry_places.Given as goal

abbrev pub invariant-loop-c : goal.invariant-loop-c
invariant-loop-c l = PlacesGain (λ j x. IsFrom EntersAt (take l.c-index l.claims) (j, x)) l.initial.places l.places
