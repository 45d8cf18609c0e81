use Rattle.gen_runs.proofs.Begun.{call_returns}
use Rattle.gen_runs.proofs.laws.generated_calls_return.Goals as goal

pub returns : goal.returns
returns c = λ seed count argument image few small known. call_returns seed count argument image few known
