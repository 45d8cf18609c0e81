use Rattle.sim_objects.proofs.Beginning.{calls_begin}
use Rattle.sim_objects.proofs.laws.calls_begin.Goals as goal

pub returns : goal.returns
returns c = calls_begin
