-- How control goes on in the flow of an object, at the addresses of its points.
use Rattle.std.specs.Prelude.{◌≡◌, ℕ, ◌+◌, Some, None, if◌then◌else◌, map, slice_get}
use Rattle.elf_model.specs.Objects.{ObjectParts}
use Rattle.thumb_table.specs.Parts.{CodeBytes}
use Rattle.thumb_table.specs.Ordinary.{IsClear}
use Rattle.flow_recover.specs.declared.flows.Exit.TheVariants.{Call}
use Rattle.flow_recover.specs.declared.flows.Point.{Point as FlowPoint}
use Rattle.flow_recover.specs.Flows.{FlowParts}
use Rattle.flow_recover.specs.Points.{end_of, StopsBehindNops}
use Rattle.flow_recover.specs.WholeFlows.{IsFlow}
use Rattle.liveness.specs.declared.boundary.Boundary.{Boundary}
use Rattle.sim_charts.specs.Charts.{Chart, Point}
use Rattle.sim_charts.specs.Flows.{Stands, Continues}
use Rattle.sim_flows.specs.Points.{HasPoints}

-- control comes to the j-th point with the IT state of p
abbrev pub HasState : (o : ObjectParts) (f : FlowParts) → IsFlow o f → ℕ → Point → Type 0
HasState o f flow j p = slice_get (map (λ n. n.it) flow.nodes) j ≡ Some p.it

-- Where the points of a flow stand, and their units: sections start somewhere, a unit ends where that of the next point
-- begins, and a hardened call returns there. Where a call has no next point, and only NOPs stand behind it up to where code
-- stops, so it is in the image.
pub record ArePlaced (o : ObjectParts) (f : FlowParts) (flow : IsFlow o f) (chart : Chart) (plain : CodeBytes) (start address : ℕ → ℕ) : Type 0 where
  pub addresses : (j : ℕ) (x : FlowPoint) → slice_get f.points j ≡ Some x → address j ≡ start x.section + x.offset
  pub states : (j : ℕ) (x : FlowPoint) (p : Point) → slice_get f.points j ≡ Some x → chart (address j) ≡ Some p → HasState o f flow j p
  pub widths : (j : ℕ) (x : FlowPoint) (p : Point) → slice_get f.points j ≡ Some x → chart (address j) ≡ Some p → p.width ≡ (if x.wide then 4 else 2)
  pub ends : (j q : ℕ) (x : FlowPoint) (p r : Point) → slice_get f.points j ≡ Some x → chart (address j) ≡ Some p → x.next ≡ Some q → chart (address q) ≡ Some r → r.place ≡ p.end
  pub backs : (j q : ℕ) (x : FlowPoint) (p : Point) → slice_get f.points j ≡ Some x → chart (address j) ≡ Some p → x.exit ≡ Call → x.next ≡ Some q → p.back ≡ p.end
  pub stops : (j : ℕ) (x : FlowPoint) → slice_get f.points j ≡ Some x → x.exit ≡ Call → x.next ≡ None → StopsBehindNops o x.section (end_of x) → IsClear plain (start x.section + end_of x) → ⊥

-- Then control goes on as a chart asks, where the point's instruction stands in the image.
abbrev pub FlowsContinue : Type 0
FlowsContinue =
    (chart : Chart) (plain : CodeBytes) (o : ObjectParts) (f : FlowParts) (b : Boundary) (start address : ℕ → ℕ) (flow : IsFlow o f) →
    HasPoints chart f b address → ArePlaced o f flow chart plain start address →
    (j : ℕ) (x : FlowPoint) (p : Point) → slice_get f.points j ≡ Some x → chart (address j) ≡ Some p → Stands plain (address j) p → Continues chart plain (address j) p
