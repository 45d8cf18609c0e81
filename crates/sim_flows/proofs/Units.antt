-- A point of a flow with its unit is met.
use Rattle.std.proofs.Common.{arith}
use Rattle.sim_flows.specs.Units.{FlowsGiveUnits}
use Rattle.sim_flows.proofs.Living.{flows_give_lives, dead_is_spared}
use Rattle.sim_flows.proofs.Continuing.{flows_continue}
use Rattle.sim_flows.proofs.Meeting.{flows_meet}

pub flows_give_units : FlowsGiveUnits
flows_give_units chart plain hard c F may_skip o f b l start address flow names live keeps has_points placed j x p at there u = record {
  number = u.number;
  ends = u.ends;
  stands = u.stands;
  goes = flows_continue chart plain o f b start address flow has_points placed j x p at there u.stands;
  lives = flows_give_lives chart f b l address names live keeps has_points j x p at u.point;
  spares = dead_is_spared chart f b 4 address names (omega arith) keeps has_points j x p at u.point u.dead u.stack u.link;
  meets = flows_meet chart plain o f b address flow has_points j u.number x p u.ends at u.point u.linked;
  works = u.works;
  short = u.short;
}
