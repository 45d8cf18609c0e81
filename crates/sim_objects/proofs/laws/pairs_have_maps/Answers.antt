use Rattle.sim_objects.proofs.HavingMaps.{pairs_have_maps}
use Rattle.sim_objects.proofs.laws.pairs_have_maps.Goals as goal

pub returns : goal.returns
returns c = pairs_have_maps
