use Rattle.branch_layout.proofs.OnePlacing.{placings_are_one as one}
use Rattle.branch_layout.proofs.laws.placings_are_one.Goals as goal

pub returns : goal.returns
returns c = one
