use Rattle.sim_objects.proofs.Mapping.{charts_follow_maps}
use Rattle.sim_objects.proofs.laws.charts_follow_maps.Goals as goal

pub returns : goal.returns
returns c = charts_follow_maps
