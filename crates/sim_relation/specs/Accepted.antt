-- Which objects are accepted: one that has a flow, of which liveness refuses nothing where functions have K results, up to
-- four, and in which no more results of a call are used.
use Rattle.std.specs.Prelude.{◌≡◌, ◌<◌, ◌≤◌, ℕ, ◌+◌, ◌-◌, ◌^◌, Some, slice_get}
use Rattle.elf_model.specs.declared.refusals.Refusal.{Refusal}
use Rattle.elf_model.specs.Objects.{ObjectParts}
use Rattle.flow_recover.specs.declared.flows.Point.{Point}
use Rattle.flow_recover.specs.declared.flows.Exit.TheVariants.{Call}
use Rattle.flow_recover.specs.Flows.{FlowParts}
use Rattle.flow_recover.specs.WholeFlows.{IsFlow}
use Rattle.liveness.specs.declared.boundary.Boundary.{Boundary}
use Rattle.liveness.specs.Paths.{IsLiveBefore}
use Rattle.liveness.specs.Faults.{LiveFault}

-- What counts as used where control leaves, by bits: r0 to r11 and sp; at a transfer lr too; at a return r0 to r(K-1), r4
-- to r11 and sp.
abbrev pub boundaries : ℕ → Boundary
boundaries K = record { call = record { 0 = 0x2FFF }; transfer = record { 0 = 0x6FFF }; ret = record { 0 = 0x2FF0 + (2 ^ K - 1) } }

pub record Accepted (o : ObjectParts) (f : FlowParts) (K : ℕ) : Type 0 where
  pub flow : IsFlow o f
  pub live : (r : Refusal) (section offset : ℕ) → ¬ LiveFault f (boundaries K) r section offset
  -- none of rK to r3 is live behind a call
  pub results : (p q k : ℕ) (x : Point) → slice_get f.points p ≡ Some x → x.exit ≡ Call → x.next ≡ Some q → K ≤ k → k < 4 → ¬ IsLiveBefore f (boundaries K) k q
