use Rattle.std.proofs.lemmas.Result.{IfErr-weaker}
use Rattle.liveness.specs.Faults.{IsLiveDenial}
use Rattle.point_units.proofs.FlowRows.{input_within}
use Rattle.harden_core.specs.Denials.{IsHardenDenial}
use Rattle.harden_core.proofs.PhaseFacts.{live_denied}
use Rattle.harden_core.proofs.phases.sets_of.Goals as goal

pub live-requires : goal.live-requires
live-requires c = c.recovered_flows_name_points.ensures c.args.o.now c.args.f.now (input_within c.args.o.now c.requires.within) c.requires.flow

pub returns-clause-refused : goal.returns-clause-refused
returns-clause-refused c = λ copies. IfErr-weaker c.live.result (IsLiveDenial c.args.f.now c.args.b.now) (IsHardenDenial c.args.o.now c.args.b.now copies) (live_denied c.args.o.now c.args.f.now c.args.b.now copies c.requires.flow) c.live.ensures.refused
