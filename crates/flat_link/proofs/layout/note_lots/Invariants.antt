use Rattle.std.proofs.Common.{◌≡◌, ℕ, take, map}
use Rattle.std.specs.Prelude.{option_map}
use Rattle.std.specs.BTreeMap.{get}
use Rattle.std.specs.Option.{option_or}
use Rattle.code_ranges.specs.Spans.{place_cmp}
use Rattle.thumb_table.specs.Layouts.{part_of}
use Rattle.flat_link.specs.Lots.{placed_of}
use Rattle.flat_link.proofs.layout.note_lots.Given as goal

abbrev pub invariant-loop-l : goal.invariant-loop-l
invariant-loop-l l =
    (i j : ℕ) → option_map placed_of (get place_cmp l.table (i, j)) ≡ option_or (option_map placed_of (get place_cmp l.fn.table (i, j))) (part_of (map placed_of (take l.l-index l.lots)) i j)
