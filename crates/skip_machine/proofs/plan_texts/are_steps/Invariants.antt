use Rattle.std.proofs.Common.{◌↔◌, ◌<◌, length}
use Rattle.std.specs.Str.{IsUtf8}
use Rattle.skip_machine.proofs.Paces.{at_first}
use Rattle.skip_machine.proofs.PlanSteps.{ArePlanned}
use Rattle.skip_machine.proofs.plan_texts.are_steps.Given as goal

abbrev pub invariant-parts : goal.invariant-parts
invariant-parts l = record {
  same : ArePlanned l.copies at_first l.fn.text ↔ ArePlanned l.copies l.pace l.rest;
  text : IsUtf8 l.rest;
  run : l.pace.run < l.copies;
}

abbrev pub decreases-parts : goal.decreases-parts
decreases-parts l = length l.rest
