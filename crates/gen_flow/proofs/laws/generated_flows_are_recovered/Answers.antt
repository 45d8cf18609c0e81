use Rattle.gen_flow.proofs.NoFaults.{flows_are_recovered}
use Rattle.gen_flow.proofs.laws.generated_flows_are_recovered.Goals as goal

pub returns : goal.returns
returns c = λ seed count spot limits. flows_are_recovered seed count spot limits
