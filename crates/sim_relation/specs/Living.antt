-- What is live at a chart's point that has the liveness of an accepted object's flow.
use Rattle.std.specs.Prelude.{◌≡◌, ◌≤◌, ◌↔◌, ℕ, true, Some, Contains, slice_get}
use Rattle.elf_model.specs.Objects.{ObjectParts}
use Rattle.flow_recover.specs.declared.flows.Point.{Point}
use Rattle.flow_recover.specs.Flows.{FlowParts}
use Rattle.liveness.specs.declared.boundary.Boundary.{Boundary}
use Rattle.liveness.specs.Paths.{IsLiveBefore}
use Rattle.sim_charts.specs.Charts as charts
use Rattle.sim_charts.specs.Flows.{Lives}
use Rattle.sim_relation.specs.Accepted.{Accepted, boundaries}
use Rattle.sim_relation.specs.Spared.{Follows}

-- A chart's point is the flow's point n: it has its instruction and condition, goes on as it does, and has the same members live.
pub record IsPointOf (chart : charts.Chart) (f : FlowParts) (b : Boundary) (n : ℕ) (x : Point) (p : charts.Point) : Type 0 where
  pub instr : p.instr ≡ x.instr
  pub cond : charts.cond_of p ≡ x.cond
  pub follows : Follows chart f b x p
  pub live : (k : ℕ) → (p.live k ≡ true) ↔ IsLiveBefore f b k n
  pub entry : p.entry ≡ true → Contains f.entries n

abbrev pub AcceptedLive : Type 0
AcceptedLive =
    (o : ObjectParts) (f : FlowParts) (K : ℕ) → Accepted o f K → K ≤ 4
    → (chart : charts.Chart) (n : ℕ) (x : Point) (p : charts.Point) → slice_get f.points n ≡ Some x → IsPointOf chart f (boundaries K) n x p → Lives chart K p
