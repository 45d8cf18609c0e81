use Rattle.std.proofs.Common.{◌≡◌, ◌≤◌, take}
use Rattle.std.specs.Prelude.{count_by}
use Rattle.harden_core.specs.Hardening.{is_function_of}
use Rattle.harden_core.proofs.counting.function_count.Given as goal

abbrev pub invariant-loop-s : goal.invariant-loop-s
invariant-loop-s l = record { counted : l.count ≡ count_by (is_function_of l.fn.o) (take l.s-index l.fn.o.symbols); few : l.count ≤ l.s-index }
