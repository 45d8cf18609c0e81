-- What a unit of a pair may lose is dead behind its point: so the chart's point spares what lives.
use Rattle.std.specs.Prelude.{◌≡◌, ℕ, Bool, true, Some, slice_get}
use Rattle.elf_model.specs.Objects.{ObjectParts}
use Rattle.flow_recover.specs.declared.flows.Point.{Point}
use Rattle.flow_recover.specs.Flows.{FlowParts}
use Rattle.liveness.specs.declared.boundary.Boundary.{Boundary}
use Rattle.liveness.specs.Paths.{Leads, IsLiveBefore}
use Rattle.hardened_form.specs.Places.{UnitPlace}
use Rattle.sim_charts.specs.Charts as charts
use Rattle.sim_charts.specs.Flows.{Spares}
use Rattle.sim_relation.specs.Accepted.{boundaries}
use Rattle.sim_relation.specs.Sequences.{Sequence}
use Rattle.sim_relation.specs.Pairs.{Paired}
use Rattle.sim_relation.specs.Charted.{Known, charted}

-- the way of an exit, where the point that a branch leads to stands at t
abbrev pub way_by : ℕ → charts.Way → charts.Way
way_by t (charts.Branch q) = charts.Branch t
way_by t exit = exit

-- A chart's point goes as the flow's does, and nothing lives behind it that does not behind the flow's.
pub record Follows (chart : charts.Chart) (f : FlowParts) (b : Boundary) (x : Point) (p : charts.Point) : Type 0 where
  pub target : ℕ
  pub way : p.way ≡ way_by target x.exit
  pub live : (k a : ℕ) (q : charts.Point) → charts.Leads p a → chart a ≡ Some q → q.live k ≡ true → (n : ℕ) × Leads x n × IsLiveBefore f b k n

abbrev pub PairsSpare : Type 0
PairsSpare =
    (o h : ObjectParts) (F c K : ℕ) (skipped : Point → Bool) (pair : Paired o h F c K skipped) (k : ℕ) (x : Point) (u : UnitPlace) (s : Sequence)
    → slice_get pair.flow.points k ≡ Some x → slice_get pair.certificate.places.units k ≡ Some u → slice_get pair.certificate.sequences k ≡ Some s
    → (start : ℕ) (known : Known) (chart : charts.Chart) → Follows chart pair.flow (boundaries K) x (charted start x u s known)
    → Spares chart K (charted start x u s known)
