-- The chart of two lists: each point of each object at its address in the plain image, with its unit in the hardened one.
use Rattle.std.specs.Prelude.{◌≡◌, ◌↔◌, ℕ, ◌+◌, true, List, Option, Some, None, if◌then◌else◌, length, slice_get, Contains}
use Rattle.elf_model.specs.Objects.{ObjectParts}
use Rattle.mark_word.specs.declared.marks.Mark.{Mark}
use Rattle.thumb_table.specs.declared.placements.Placement.{Placement}
use Rattle.thumb_table.specs.Layouts.{all_placed, part_of, start_of}
use Rattle.flow_recover.specs.declared.flows.Point.{Point as FlowPoint}
use Rattle.flow_recover.specs.declared.flows.Exit.{Exit}
use Rattle.flow_recover.specs.declared.flows.Exit.TheVariants.{Falls, Branch, Transfer, Call, Return, Stops}
use Rattle.flow_recover.specs.Flows.{FlowParts}
use Rattle.liveness.specs.Paths.{IsLiveBefore}
use Rattle.hardened_form.specs.Places.{UnitPlace}
use Rattle.sim_images.specs.CodeLaws.{IsLinkedInstr}
use Rattle.sim_charts.specs.Charts.{Chart, Point}
use Rattle.sim_flows.specs.Points.{exit_at, next_at}
use Rattle.sim_flows.specs.Continuing.{HasState}
use Rattle.sim_relation.specs.Accepted.{boundaries}
use Rattle.sim_relation.specs.Sequences.{Sequence}
use Rattle.sim_relation.specs.Doing.{loses}
use Rattle.sim_objects.specs.Lists.{Pairing, plains, hards}

-- where section j of object i starts
abbrev pub start_at : List ObjectParts → Placement → ℕ → ℕ → ℕ
start_at objects at i j = start_of (part_of (all_placed objects at) i j)

-- where a point of a flow stands, for where sections start
abbrev pub point_at : (ℕ → ℕ) → Option FlowPoint → ℕ
point_at start None = 0
point_at start (Some x) = start x.section + x.offset

abbrev pub address_in : List ObjectParts → Placement → ℕ → FlowParts → ℕ → ℕ
address_in objects at i f n = point_at (start_at objects at i) (slice_get f.points n)

abbrev pub width_of : FlowPoint → ℕ
width_of x = if x.wide then 4 else 2

-- A hardened call returns to where its unit says, everything else goes on behind its unit.
abbrev pub back_of : Exit → UnitPlace → ℕ
back_of Falls u = u.end
back_of (Branch q) u = u.end
back_of Transfer u = u.end
back_of Call u = u.back
back_of Return u = u.end
back_of Stops u = u.end

-- p is point n of the flow of object i: as linked, in the IT state that control comes with, with what lives there, its ways
-- by addresses, and its unit.
pub record IsCharted (F c K : ℕ) (pairs : List (Pairing F c K)) (at : Placement) (i : ℕ) (q : Pairing F c K) (n : ℕ) (x : FlowPoint) (p : Point) : Type 0 where
  pub unit : UnitPlace
  pub sequence : Sequence
  pub mark : Mark
  pub placed : slice_get q.pair.certificate.places.units n ≡ Some unit
  pub done : slice_get q.pair.certificate.sequences n ≡ Some sequence
  pub instr : IsLinkedInstr (plains pairs) at i x.instr x.reloc p.instr mark
  pub width : p.width ≡ width_of x
  pub state : HasState q.plain q.pair.flow q.pair.accepted.flow n p
  pub way : p.way ≡ exit_at (address_in (plains pairs) at i q.pair.flow) x.exit
  pub next : p.next ≡ next_at (address_in (plains pairs) at i q.pair.flow) x.next
  pub entry : (p.entry ≡ true) ↔ Contains q.pair.flow.entries n
  pub live : (k : ℕ) → (p.live k ≡ true) ↔ IsLiveBefore q.pair.flow (boundaries K) k n
  pub place : p.place ≡ start_at (hards pairs) at i x.section + unit.start
  pub end : p.end ≡ start_at (hards pairs) at i x.section + unit.end
  pub back : p.back ≡ start_at (hards pairs) at i x.section + back_of x.exit unit
  pub length : p.length ≡ length sequence.steps
  pub loses : (k : ℕ) → p.loses k ≡ loses x.instr sequence.scratch k

-- p stands at a
pub record IsPointAt (F c K : ℕ) (pairs : List (Pairing F c K)) (at : Placement) (a : ℕ) (p : Point) : Type 0 where
  pub file : ℕ
  pub number : ℕ
  pub pairing : Pairing F c K
  pub point : FlowPoint
  pub is_pair : slice_get pairs file ≡ Some pairing
  pub is_point : slice_get pairing.pair.flow.points number ≡ Some point
  pub address : a ≡ address_in (plains pairs) at file pairing.pair.flow number
  pub is : IsCharted F c K pairs at file pairing number point p

-- It has each point of each object, and no other.
pub record IsChartOf (F c K : ℕ) (pairs : List (Pairing F c K)) (at : Placement) (chart : Chart) : Type 0 where
  pub each : (i n : ℕ) (q : Pairing F c K) (x : FlowPoint) → slice_get pairs i ≡ Some q → slice_get q.pair.flow.points n ≡ Some x
      → (p : Point) × (chart (address_in (plains pairs) at i q.pair.flow n) ≡ Some p) × IsCharted F c K pairs at i q n x p
  pub only : (a : ℕ) (p : Point) → chart a ≡ Some p → IsPointAt F c K pairs at a p
