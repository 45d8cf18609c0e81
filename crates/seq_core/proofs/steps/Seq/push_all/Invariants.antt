use Rattle.std.proofs.Common.{◌≡◌, ◌≤◌, ◌+◌, ◌++◌, length, take}
use Rattle.seq_core.proofs.steps.Seq.push_all.Given as goal

abbrev pub invariant-loop-step : goal.invariant-loop-step
invariant-loop-step l = record {
  steps : l.self.steps ≡ l.initial.self.steps ++ take l.step-index l.steps;
  landing : l.self.landing ≡ l.initial.self.landing + l.step-index;
  last : l.self.landing ≡ length l.self.steps;
  room : length l.self.steps + length l.steps ≤ 8 + l.step-index;
}
