-- The points of one object's flow, as points of a chart: by the addresses at which they stand in an image.
use Rattle.std.specs.Prelude.{◌≡◌, ◌↔◌, ℕ, true, Option, Some, None, Contains, slice_get}
use Rattle.thumb_instr.specs.Operands.{has}
use Rattle.thumb_instr.specs.Formed.{IsFormed}
use Rattle.thumb_instr.specs.Numbers.{renumbered}
use Rattle.flow_recover.specs.declared.flows.Exit.{Exit}
use Rattle.flow_recover.specs.declared.flows.Exit.TheVariants.{Falls, Branch, Transfer, Call, Return, Stops}
use Rattle.flow_recover.specs.declared.flows.Point.{Point as FlowPoint}
use Rattle.flow_recover.specs.Flows.{FlowParts}
use Rattle.liveness.specs.declared.boundary.Boundary.{Boundary}
use Rattle.liveness.specs.Paths.{IsLiveBefore}
use Rattle.sim_charts.specs.Charts.{Chart, Point, cond_of}
use Rattle.sim_charts.specs.Boundaries.{at_call, at_return, at_transfer}

-- an exit and a next point, by addresses
abbrev pub exit_at : (ℕ → ℕ) → Exit → Exit
exit_at address Falls = Falls
exit_at address (Branch q) = Branch (address q)
exit_at address Transfer = Transfer
exit_at address Call = Call
exit_at address Return = Return
exit_at address Stops = Stops

abbrev pub next_at : (ℕ → ℕ) → Option ℕ → Option ℕ
next_at address None = None
next_at address (Some q) = Some (address q)

-- p is the point x of the flow, the j-th: its instruction but for the number, which linking may have set; its condition,
-- exit and next point; and what is live is what is live before it.
pub record IsPointOf (f : FlowParts) (b : Boundary) (address : ℕ → ℕ) (j : ℕ) (x : FlowPoint) (p : Point) : Type 0 where
  pub instr : (n : ℕ) → renumbered n p.instr ≡ renumbered n x.instr
  pub formed : IsFormed x.instr
  pub cond : cond_of p ≡ x.cond
  pub way : p.way ≡ exit_at address x.exit
  pub next : p.next ≡ next_at address x.next
  pub live : (k : ℕ) → (p.live k ≡ true) ↔ IsLiveBefore f b k j
  pub entry : p.entry ≡ true → Contains f.entries j

-- A chart has the points of a flow at their addresses.
abbrev pub HasPoints : Chart → FlowParts → Boundary → (ℕ → ℕ) → Type 0
HasPoints chart f b address = (j : ℕ) (x : FlowPoint) → slice_get f.points j ≡ Some x → (p : Point) × (chart (address j) ≡ Some p) × IsPointOf f b address j x p

-- the boundary sets are those of functions with K results
pub record KeepsResults (b : Boundary) (K : ℕ) : Type 0 where
  pub call : (k : ℕ) → at_call k ≡ true → has b.call.0 k ≡ true
  pub transfer : (k : ℕ) → at_transfer k ≡ true → has b.transfer.0 k ≡ true
  pub ret : (k : ℕ) → at_return K k ≡ true → has b.ret.0 k ≡ true
