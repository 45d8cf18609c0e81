-- Where the points of two lists went, in a chart of them: what linking takes from one image to the other is there.
use Rattle.std.specs.Prelude.{◌≡◌, ℕ, ◌+◌, true, false, List, Some, slice_get}
use Rattle.reloc_places.specs.Relocations.{is_jump}
use Rattle.thumb_table.specs.declared.placements.Placement.{Placement}
use Rattle.thumb_table.specs.Parts.{Image}
use Rattle.thumb_table.specs.Layouts.{all_placed}
use Rattle.thumb_table.specs.Links.{Link, IsLink, leads_to_code, full}
use Rattle.flow_recover.specs.WholeFlows.{IsEntry}
use Rattle.sim_charts.specs.Charts.{Chart, Point}
use Rattle.sim_charts.specs.Alike.{EntryTo}
use Rattle.sim_objects.specs.Lists.{Pairing, plains, HaveImages}
use Rattle.sim_objects.specs.Charts.{start_at, IsChartOf}
use Rattle.sim_objects.specs.UnitLinks.{GoesTo}

-- the chart has a point there, whose unit stands at that place
abbrev pub Stays : Chart → ℕ → ℕ → Type 0
Stays chart a b = (p : Point) × (chart a ≡ Some p) × (b ≡ p.place)

-- and control may enter there
abbrev pub Enters : Chart → ℕ → Type 0
Enters chart a = (p : Point) × (chart a ≡ Some p) × (p.entry ≡ true)

-- A point's address and its unit's place are those of a point of the chart.
abbrev pub MovesAreCharted : Type 0
MovesAreCharted =
    (F c K : ℕ) (pairs : List (Pairing F c K)) (at : Placement) (chart : Chart) → IsChartOf F c K pairs at chart → (a b : ℕ) → GoesTo F c K pairs at a b → Stays chart a b

-- Where the flow of an object has an entry, the chart has.
abbrev pub EntriesAreCharted : Type 0
EntriesAreCharted =
    (F c K : ℕ) (pairs : List (Pairing F c K)) (at : Placement) (chart : Chart) → IsChartOf F c K pairs at chart
    → (i j x : ℕ) (q : Pairing F c K) → slice_get pairs i ≡ Some q → IsEntry q.plain j x → Enters chart (start_at (plains pairs) at i j + x)

-- An address of code that linking makes in the plain image is an entry's; what is taken for it in the hardened one is that of
-- the entry's unit.
abbrev pub LinksEnter : Type 0
LinksEnter =
    (F c K : ℕ) (pairs : List (Pairing F c K)) (at : Placement) (plain hard : Image) (chart : Chart) → HaveImages F c K pairs at plain hard → IsChartOf F c K pairs at chart
    → (l : Link) → IsLink (plains pairs) at l → is_jump l.reloc.kind ≡ false → leads_to_code (all_placed (plains pairs) at) l ≡ true
    → (a b : ℕ) → full (all_placed (plains pairs) at) l ≡ a + 1 → GoesTo F c K pairs at a b → EntryTo chart (a + 1) (b + 1)
