-- An ordinary step at a point of a chart is alike in both runs.
use Rattle.std.specs.Prelude.{◌≡◌, ◌≤◌, ℕ, Some}
use Rattle.thumb_instr.specs.Formed.{IsFormed}
use Rattle.thumb_instr.specs.Numbers.{renumbered}
use Rattle.thumb_table.specs.Parts.{CodeBytes}
use Rattle.seq_core.specs.Meanings.{Ends, meant}
use Rattle.sim_charts.specs.Charts.{Chart, Point}
use Rattle.sim_charts.specs.Addresses.{IsProperChart}
use Rattle.sim_charts.specs.Flows.{site_of}
use Rattle.sim_charts.specs.Twins.{Twin}
use Rattle.sim_steps.specs.Facts.{Meets}

-- what the unit's instruction makes of a hardened core is what the point's means there, with the hardened numbers
abbrev pub OrdinaryStepsAreAlike : Type 0
OrdinaryStepsAreAlike =
    (chart : Chart) (plain : CodeBytes) (K a n : ℕ) (p : Point) (ends : Ends) → IsProperChart chart → K ≤ 4 → chart a ≡ Some p → IsFormed p.instr →
    Meets chart plain a p n ends p.instr → Twin chart plain K p (site_of plain a p) (meant (renumbered n p.instr) ends)
