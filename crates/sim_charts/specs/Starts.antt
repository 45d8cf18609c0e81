-- Calls of an entry start alike.
use Rattle.std.specs.Prelude.{◌≡◌, ℕ, true, List, Some, get_or, IsTrue}
use Rattle.mark_word.specs.Words.{bare, is_cell}
use Rattle.thumb_table.specs.Parts.{Memory}
use Rattle.thumb_table.specs.Calls.{started}
use Rattle.sim_charts.specs.Charts.{Chart, Point}
use Rattle.sim_charts.specs.Boundaries.{at_transfer}
use Rattle.sim_charts.specs.Alike.{SameMemory}
use Rattle.sim_charts.specs.Simulates.{At}

-- With the same arguments, from memory that is the same, at a point out of IT blocks and at its place, where no more is
-- live than a caller gives.
abbrev pub CallsStartAlike : Type 0
CallsStartAlike =
    (chart : Chart) (p : Point) (memory other : Memory) (entry hard_entry : ℕ) (args : List ℕ) →
    chart (started memory entry args).pc ≡ Some p → p.it ≡ 0 → (started other hard_entry args).pc ≡ p.place → ((k : ℕ) → p.live k ≡ true → at_transfer k ≡ true) →
    SameMemory chart memory other → ((k : ℕ) → IsTrue (is_cell (get_or memory.cells k (bare 0)))) →
    At chart (started memory entry args) (started other hard_entry args)
