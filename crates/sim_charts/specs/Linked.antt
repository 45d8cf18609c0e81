-- A plain image and a hardened one are linked, unit by unit.
use Rattle.std.specs.Prelude.{◌≡◌, ◌≢◌, ◌≤◌, ℕ, ◌+◌, Bool, Some, None}
use Rattle.thumb_table.specs.Parts.{CodeBytes}
use Rattle.thumb_table.specs.Steps.{fetch}
use Rattle.thumb_table.specs.Schedules.{exit}
use Rattle.sim_charts.specs.Charts.{Chart, Point, unit_of}
use Rattle.seq_core.specs.Does.{Effect, Works}
use Rattle.sim_charts.specs.Twins.{Twin}
use Rattle.sim_charts.specs.Flows.{Stands, Continues, Lives, Spares, site_of}

pub record PairedUnit (chart : Chart) (plain hard : CodeBytes) (c K F : ℕ) (may_skip : ℕ → Bool) (a : ℕ) (p : Point) : Type 0 where
  pub effect : Effect
  pub stands : Stands plain a p
  pub goes : Continues chart plain a p
  pub lives : Lives chart K p
  pub spares : Spares chart K p
  pub twin : Twin chart plain K p (site_of plain a p) effect
  pub works : Works hard c may_skip (unit_of p effect)
  pub short : p.length ≤ F

-- c copies, K results, units of at most F steps, and the places in the hardened code where steps may be skipped
pub record Linked (chart : Chart) (plain hard : CodeBytes) (c K F : ℕ) (may_skip : ℕ → Bool) : Type 0 where
  pub few : K ≤ 4
  pub units : (a : ℕ) (p : Point) → chart a ≡ Some p → PairedUnit chart plain hard c K F may_skip a p
  -- the end of the whole call is no place of code, and no call ends there
  pub outside : fetch plain exit ≡ None
  pub hard_outside : fetch hard exit ≡ None
  pub no_point : chart exit ≡ None
  pub low : (a : ℕ) (p : Point) → chart a ≡ Some p → (a + p.width ≢ exit) × (p.place ≢ exit)
