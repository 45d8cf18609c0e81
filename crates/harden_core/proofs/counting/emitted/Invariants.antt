use Rattle.std.proofs.Common.{◌≡◌, ◌≤◌, ◌*◌, take}
use Rattle.std.specs.List.{sum_by}
use Rattle.pair_parts.specs.Made.{count_of}
use Rattle.harden_core.proofs.counting.emitted.Given as goal

abbrev pub invariant-loop-u : goal.invariant-loop-u
invariant-loop-u l = record { summed : l.sum ≡ sum_by count_of (take l.u-index l.units); few : l.sum ≤ 32 * l.u-index }
