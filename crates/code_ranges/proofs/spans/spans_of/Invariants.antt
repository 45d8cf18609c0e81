use Rattle.std.proofs.Common.{◌≡◌, ◌++◌, drop}
use Rattle.code_ranges.specs.Spans.{spans_from}
use Rattle.code_ranges.proofs.spans.spans_of.Given as goal

abbrev pub invariant-loop-k : goal.invariant-loop-k
invariant-loop-k l = l.spans.items ++ spans_from l.sections (drop l.k l.marks) ≡ spans_from l.sections l.marks
