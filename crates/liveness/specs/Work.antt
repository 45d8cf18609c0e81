-- What a worklist keeps while it settles points.
use Rattle.std.specs.Prelude.{◌≡◌, ◌≤◌, ◌+◌, ◌*◌, ℕ, zero, suc, ◌&&◌, not, true, List, Option, Some, None, if◌then◌else◌, length, slice_get, sum_by, Contains}
use Rattle.thumb_instr.specs.declared.register_sets.RegSet.{RegSet}
use Rattle.thumb_instr.specs.Operands.{has}
use Rattle.thumb_instr.specs.Sets.{is_member}
use Rattle.flow_recover.specs.declared.flows.Point.{Point}
use Rattle.flow_recover.specs.Flows.{FlowParts}
use Rattle.index_links.specs.Links.{Edge}
use Rattle.index_links.specs.Queues.{PendingParts}
use Rattle.liveness.specs.declared.boundary.Boundary.{Boundary}
use Rattle.liveness.specs.Paths.{IsLiveBefore}
use Rattle.liveness.specs.Sets.{LiveParts, holds_at, gains}
use Rattle.liveness.specs.Edges.{edges_of}

-- the sets hold live members only
abbrev pub AreSound : FlowParts → Boundary → List RegSet → Type 0
AreSound f b sets = (p k : ℕ) → holds_at sets p k ≡ true → IsLiveBefore f b k p

-- a turn at p would add nothing
abbrev pub IsStableAt : FlowParts → Boundary → List RegSet → ℕ → Type 0
IsStableAt f b sets p = (k : ℕ) (x : Point) → slice_get f.points p ≡ Some x → gains b sets x k ≡ true → holds_at sets p k ≡ true

abbrev pub AreStable : FlowParts → Boundary → List RegSet → Type 0
AreStable f b sets = (p : ℕ) → IsStableAt f b sets p

-- how many members below n a set lacks
unfoldable pub lacking_below : ℕ → RegSet → ℕ
lacking_below zero s = 0
lacking_below (suc n) s = (if is_member n && not (has s.0 n) then 1 else 0) + lacking_below n s

-- how many of the 19 members
abbrev pub lacking : Option RegSet → ℕ
lacking None = 0
lacking (Some s) = lacking_below 20 s

-- over each edge what the set of its target lacks: how often its source may still have to wait for it
abbrev pub lacking_over : List Edge → List RegSet → ℕ
lacking_over edges sets = sum_by (λ e. lacking (slice_get sets e.target)) edges

-- whoever does not wait is stable, and each turn is paid for by a wait at the start or by a member that an edge's
-- target has got
pub record IsWorking (f : FlowParts) (b : Boundary) (l : LiveParts) (w : PendingParts) : Type 0 where
  pub sized : length l.sets ≡ length f.points
  pub queue : w.size ≡ length f.points
  pub sound : AreSound f b l.sets
  pub stable : (p : ℕ) → ¬ Contains w.waiting p → IsStableAt f b l.sets p
  pub turns : l.turns + length w.waiting + lacking_over (edges_of f) l.sets ≤ length f.points + 19 * length (edges_of f)

pub record AreSettled (f : FlowParts) (b : Boundary) (l : LiveParts) : Type 0 where
  pub sized : length l.sets ≡ length f.points
  pub sound : AreSound f b l.sets
  pub stable : AreStable f b l.sets
  pub turns : l.turns ≤ length f.points + 19 * length (edges_of f)
