use Rattle.sim_objects.proofs.Even.{places_are_even}
use Rattle.sim_objects.proofs.laws.places_are_even.Goals as goal

pub returns : goal.returns
returns c = places_are_even
