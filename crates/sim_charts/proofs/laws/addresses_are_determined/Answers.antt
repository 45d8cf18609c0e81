use Rattle.sim_charts.proofs.Addresses.{determined}
use Rattle.sim_charts.proofs.laws.addresses_are_determined.Goals as goal

pub returns : goal.returns
returns c = determined
