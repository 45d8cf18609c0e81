use Rattle.std.proofs.Common.{◌≡◌, ◌<◌, ◌^◌}
use Rattle.skip_machine.specs.Draws.{draws, IsDrawn}
use Rattle.skip_machine.proofs.DrawnPlans.{HasRow}
use Rattle.skip_machine.proofs.draws.drawn_steps.Given as goal

abbrev pub invariant-loop-step : goal.invariant-loop-step
invariant-loop-step l = record {
  number : l.x ≡ draws l.fn.seed l.step;
  word : l.x < 2 ^ 32;
  plan : IsDrawn l.fn.seed l.step l.fn.copies l.skipped.items;
  row : HasRow l.fn.copies l.skipped.items l.row l.step;
}
