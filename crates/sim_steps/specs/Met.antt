-- Two images whose points meet what is asked of them.
use Rattle.std.specs.Prelude.{◌≡◌, ◌≤◌, ℕ, Bool, Some, None}
use Rattle.thumb_instr.specs.Numbers.{renumbered}
use Rattle.thumb_table.specs.Parts.{CodeBytes}
use Rattle.thumb_table.specs.Steps.{fetch}
use Rattle.thumb_table.specs.Schedules.{exit}
use Rattle.seq_core.specs.Does.{Works}
use Rattle.seq_core.specs.Meanings.{Ends, meant}
use Rattle.sim_charts.specs.Charts.{Chart, Point, unit_of}
use Rattle.sim_charts.specs.Addresses.{IsProperChart}
use Rattle.sim_charts.specs.Flows.{Stands, Continues, Lives, Spares}
use Rattle.sim_charts.specs.Linked.{Linked}
use Rattle.sim_steps.specs.Facts.{Meets}

-- A point stands in the plain image with what its flow, its liveness and the choice of scratch registers give; it meets
-- what is asked for with a number and ends of the hardened image; and its unit does what it means with these.
pub record MetUnit (chart : Chart) (plain hard : CodeBytes) (c K F : ℕ) (may_skip : ℕ → Bool) (a : ℕ) (p : Point) : Type 0 where
  pub number : ℕ
  pub ends : Ends
  pub stands : Stands plain a p
  pub goes : Continues chart plain a p
  pub lives : Lives chart K p
  pub spares : Spares chart K p
  pub meets : Meets chart plain a p number ends p.instr
  pub works : Works hard c may_skip (unit_of p (meant (renumbered number p.instr) ends))
  pub short : p.length ≤ F

pub record AreMetUnits (chart : Chart) (plain hard : CodeBytes) (c K F : ℕ) (may_skip : ℕ → Bool) : Type 0 where
  pub few : K ≤ 4
  pub proper : IsProperChart chart
  pub units : (a : ℕ) (p : Point) → chart a ≡ Some p → MetUnit chart plain hard c K F may_skip a p
  -- the end of the whole call is no place of code
  pub outside : fetch plain exit ≡ None
  pub hard_outside : fetch hard exit ≡ None

-- They are linked.
abbrev pub MetImagesAreLinked : Type 0
MetImagesAreLinked = (chart : Chart) (plain hard : CodeBytes) (c K F : ℕ) (may_skip : ℕ → Bool) → AreMetUnits chart plain hard c K F may_skip → Linked chart plain hard c K F may_skip
