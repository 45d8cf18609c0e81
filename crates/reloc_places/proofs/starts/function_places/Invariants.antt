use Rattle.std.proofs.Common.{◌≡◌, ℕ, drop}
use Rattle.std.specs.Prelude.{◌||◌}
use Rattle.std.specs.BTreeSet.{contains}
use Rattle.code_ranges.specs.Spans.{place_cmp}
use Rattle.reloc_places.specs.Starts.{is_function_at}
use Rattle.reloc_places.proofs.starts.function_places.Given as goal

abbrev pub invariant-loop-s : goal.invariant-loop-s
invariant-loop-s l = (j x : ℕ) → (contains place_cmp l.places (j, x) || is_function_at (drop l.s-index l.s-items) j x) ≡ is_function_at l.s-items j x
