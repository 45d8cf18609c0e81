use Rattle.std.proofs.Common.{◌≡◌, ◌≢◌, ◌<◌, true}
use Rattle.thumb_table.specs.Schedules.{is_in, exit}
use Rattle.skip_machine.proofs.Further.{Went}
use Rattle.skip_machine.proofs.machines.Machine.run.Given as goal

abbrev pub invariant-loop-i : goal.invariant-loop-i
invariant-loop-i l = record {
  went : Went (is_in l.plan) l.fn.self l.self l.i;
  not_returned : 0 < l.i → l.self.core.pc ≢ exit;
  running : l.self.running ≡ true;
}
