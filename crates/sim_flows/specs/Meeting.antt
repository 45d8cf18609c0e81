-- What linking has to give of a point of a flow, so that an ordinary step there is alike in both runs.
use Rattle.std.specs.Prelude.{◌≡◌, ◌⊎◌, ℕ, ◌+◌, true, false, Some, slice_get}
use Rattle.elf_model.specs.Objects.{ObjectParts}
use Rattle.thumb_instr.specs.declared.instructions.Instr.TheVariants as instr
use Rattle.thumb_instr.specs.Fields.{HalfFields, LiteralFields, ZeroBranchFields}
use Rattle.thumb_table.specs.Parts.{CodeBytes}
use Rattle.thumb_table.specs.Values.{away}
use Rattle.thumb_table.specs.Effects.{mark_at}
use Rattle.flow_recover.specs.Aims.{has_offset, offset_of}
use Rattle.flow_recover.specs.declared.flows.Exit.TheVariants.{Branch, Transfer, Call}
use Rattle.flow_recover.specs.declared.flows.Point.{Point as FlowPoint}
use Rattle.flow_recover.specs.Flows.{FlowParts}
use Rattle.flow_recover.specs.WholeFlows.{IsFlow}
use Rattle.liveness.specs.declared.boundary.Boundary.{Boundary}
use Rattle.seq_core.specs.Meanings.{Ends}
use Rattle.sim_charts.specs.Charts.{Chart, Point, leaves}
use Rattle.sim_charts.specs.Alike.{SameWord}
use Rattle.sim_charts.specs.Flows.{site_of}
use Rattle.sim_steps.specs.Facts.{Meets, SameNumber, literal}
use Rattle.sim_flows.specs.Points.{HasPoints, IsPointOf}

-- where a branch or call at an address leads
abbrev pub target_at : ℕ → Point → ℕ
target_at a p = away (a + 4) (offset_of p.instr)

-- n is the number in the hardened image, `ends` is where the unit leads. What leads to a point of the section does so in
-- both images; what leads elsewhere or calls leads to an entry in both, and CBZ leads nowhere else. Numbers and words are
-- the same, or stand for each other.
pub record IsLinkedAt (chart : Chart) (code : CodeBytes) (address : ℕ → ℕ) (a : ℕ) (x : FlowPoint) (p : Point) (n : ℕ) (ends : Ends) : Type 0 where
  pub near : (m : ℕ) (q : Point) → x.exit ≡ Branch m → chart (address m) ≡ Some q → (target_at a p ≡ address m) × (ends.target ≡ q.place)
  pub far : has_offset p.instr ≡ true → (x.exit ≡ Transfer) ⊎ (x.exit ≡ Call) → (q : Point) × (chart (target_at a p) ≡ Some q) × (q.entry ≡ true) × (ends.target ≡ q.place)
  pub zero : (b : ZeroBranchFields) → p.instr ≡ instr.ZeroBranch b → leaves x.exit ≡ false
  pub back : x.exit ≡ Call → ends.back ≡ p.back
  pub half : (b : HalfFields) → p.instr ≡ instr.Half b → SameNumber chart b.top (mark_at code.marks a) b.imm n
  pub word : (b : LiteralFields) → p.instr ≡ instr.Literal b → SameWord chart (literal b (site_of code a p)) ends.word

-- Then the point meets what is asked for.
abbrev pub FlowsMeet : Type 0
FlowsMeet =
    (chart : Chart) (code : CodeBytes) (o : ObjectParts) (f : FlowParts) (b : Boundary) (address : ℕ → ℕ) (flow : IsFlow o f) → HasPoints chart f b address →
    (j n : ℕ) (x : FlowPoint) (p : Point) (ends : Ends) → slice_get f.points j ≡ Some x → IsPointOf f b address j x p → IsLinkedAt chart code address (address j) x p n ends →
    Meets chart code (address j) p n ends p.instr
