-- The maps of the hardened objects take the addresses of a chart to where the chart does.
use Rattle.std.specs.Prelude.{ℕ, List, map}
use Rattle.elf_model.specs.declared.objects.MapRow.{MapRow}
use Rattle.thumb_table.specs.declared.placements.Placement.{Placement}
use Rattle.thumb_table.specs.Parts.{Image}
use Rattle.sim_charts.specs.Charts.{Chart}
use Rattle.sim_charts.specs.Words.{Taking}
use Rattle.sim_charts.specs.Maps.{FollowsMaps}
use Rattle.sim_relation.specs.AddressMaps.{TakesEntry, TakesReturn}
use Rattle.sim_objects.specs.Lists.{Pairing, HaveImages}
use Rattle.sim_objects.specs.Charts.{IsChartOf}

-- the rows of each hardened object
abbrev pub maps_of : {F c K : ℕ} → List (Pairing F c K) → List (List MapRow)
maps_of {F} {c} {K} pairs = map (λ (q : Pairing F c K). q.pair.form.rows) pairs

-- what maps take entries and return addresses to
abbrev pub by_maps : Image → Image → List (List MapRow) → Taking
by_maps plain hard maps = record { entry = TakesEntry plain hard maps; back = TakesReturn plain hard maps }

abbrev pub ChartsFollowMaps : Type 0
ChartsFollowMaps =
    (F c K : ℕ) (pairs : List (Pairing F c K)) (at : Placement) (plain hard : Image) (chart : Chart) → HaveImages F c K pairs at plain hard → IsChartOf F c K pairs at chart
    → FollowsMaps chart (by_maps plain hard (maps_of pairs))
