-- Lists of pairs with images have a chart.
use Rattle.std.specs.Prelude.{ℕ, List}
use Rattle.thumb_table.specs.declared.placements.Placement.{Placement}
use Rattle.thumb_table.specs.Parts.{Image}
use Rattle.sim_charts.specs.Charts.{Chart}
use Rattle.sim_objects.specs.Lists.{Pairing, HaveImages}
use Rattle.sim_objects.specs.Charts.{IsChartOf}

abbrev pub ListsHaveCharts : Type 0
ListsHaveCharts =
    (F c K : ℕ) (pairs : List (Pairing F c K)) (at : Placement) (plain hard : Image) → HaveImages F c K pairs at plain hard → (chart : Chart) × IsChartOf F c K pairs at chart
