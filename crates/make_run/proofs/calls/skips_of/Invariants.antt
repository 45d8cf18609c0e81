use Rattle.std.proofs.Common.{◌≡◌, ◌≤◌, take}
use Rattle.std.specs.Prelude.{count_by}
use Rattle.std.specs.List.{range_with_len}
use Rattle.thumb_table.specs.Schedules.{is_in}
use Rattle.make_run.proofs.calls.skips_of.Given as goal

abbrev pub invariant-loop-i : goal.invariant-loop-i
invariant-loop-i l = record { counted : l.skips ≡ count_by (is_in l.plan) (take l.i (range_with_len 0 l.steps)); few : l.skips ≤ l.i }
