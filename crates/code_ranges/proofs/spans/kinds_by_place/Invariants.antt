use Rattle.std.proofs.Common.{◌≡◌, ℕ, drop}
use Rattle.std.specs.Option.{option_or}
use Rattle.std.specs.BTreeMap.{get}
use Rattle.code_ranges.specs.Spans.{place_cmp, kind_at}
use Rattle.code_ranges.proofs.spans.kinds_by_place.Given as goal

abbrev pub invariant-loop-s : goal.invariant-loop-s
invariant-loop-s l = (j x : ℕ) → option_or (kind_at (drop l.s-index l.symbols) j x) (get place_cmp l.starts (j, x)) ≡ kind_at l.symbols j x
