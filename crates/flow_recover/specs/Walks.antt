-- How the reached nodes are found: from the named places on, by the nodes that each one leads to. A start at which
-- control comes in with a clear IT state waits for its turn; the nodes of an IT block have theirs behind the IT.
use Rattle.std.specs.Prelude.{◌≡◌, ◌≤◌, ◌<◌, ◌^◌, ◌+◌, ◌↔◌, ◌⊎◌, ℕ, true, not, [], ◌∷◌, Option, Some, None, Contains, count_by, length, slice_get}
use Rattle.std.specs.BTreeSet.{contains}
use Rattle.std.specs.List.Sorted.{IsStrictlySortedBy}
use Rattle.elf_model.specs.Objects.{ObjectParts}
use Rattle.thumb_instr.specs.declared.instructions.Instr.{Instr}
use Rattle.flow_recover.specs.declared.nodes.Node.{Node}
use Rattle.flow_recover.specs.declared.aims.Aim.{Aim}
use Rattle.flow_recover.specs.declared.aims.Aim.TheVariants.{Near, Shared, Fixed, Far}
use Rattle.flow_recover.specs.declared.walks.Walk.{Walk}
use Rattle.code_ranges.specs.Spans.{place_cmp}
use Rattle.reloc_places.specs.Starts.{HasStart}
use Rattle.flow_recover.specs.Aims.{IsAim, IsNamed}
use Rattle.flow_recover.specs.Charts.{node_cmp}
use Rattle.flow_recover.specs.Reach.{node_at, LeadsOn, LeadsAway, IsReached}

-- a named place at which an instruction starts, with a clear IT state
pub record IsSeed (o : ObjectParts) (n : Node) : Type 0 where
  pub section : ℕ
  pub offset : ℕ
  pub named : IsNamed o n.section n.offset section offset
  pub start : HasStart o n.section n.offset
  pub clear : n.it ≡ 0

-- the offset of its own section to which an aim leads
abbrev pub offset_in : Aim → Option ℕ
offset_in (Near x) = Some x
offset_in (Shared x) = Some x
offset_in Fixed = None
offset_in Far = None

-- the node of its section to which an instruction leads, where one starts
pub record IsStartAimed (o : ObjectParts) (n : Node) (i : Instr) (m : Node) : Type 0 where
  pub offset : ℕ
  pub aim : IsAim o n.section n.offset i (Near offset) ⊎ IsAim o n.section n.offset i (Shared offset)
  pub is : m ≡ node_at n.section offset
  pub start : HasStart o n.section offset

-- what a node leads to
abbrev pub Leads : ObjectParts → Node → Node → Type 0
Leads o n m = LeadsOn o n m ⊎ LeadsAway o n m

-- the starts in order, with a mark and room in the queue for each
pub record IsShaped (w : Walk) : Type 0 where
  pub order : IsStrictlySortedBy place_cmp w.places.items
  pub few : length w.places.items < 2 ^ 32
  pub come : length w.come.items ≡ length w.places.items
  pub queue : w.pending.size ≡ length w.places.items

-- A node has had its turn, or waits for it, or has it next.
pub data IsKnown (w : Walk) (at : Option Node) (n : Node) : Type 0 where
  had : contains node_cmp w.nodes n ≡ true → IsKnown w at n
  waits : (i : ℕ) → Contains w.pending.waiting i → slice_get w.places.items i ≡ Some (n.section, n.offset) → n.it ≡ 0 → IsKnown w at n
  next : at ≡ Some n → IsKnown w at n

abbrev pub Keeps : Walk → Option Node → Walk → Option Node → Type 0
Keeps old before new after = (k : Node) → IsKnown old before k → IsKnown new after k

-- how many turns of starts are left at most: a start that waits, and one where control has not come in
abbrev pub turns_left : Walk → ℕ
turns_left w = count_by not w.come.items + length w.pending.waiting

-- what a walk keeps: it knows reached nodes alone, every start that is marked, and whatever those lead to that had
-- their turn
pub record IsWalk (o : ObjectParts) (w : Walk) (at : Option Node) : Type 0 where
  pub shape : IsShaped w
  pub starts : (j x : ℕ) → Contains w.places.items (j, x) ↔ HasStart o j x
  pub reached : (n : Node) → IsKnown w at n → IsReached o n
  pub marked : (i j x : ℕ) → slice_get w.come.items i ≡ Some true → slice_get w.places.items i ≡ Some (j, x) → IsKnown w at (node_at j x)
  pub closed : (n m : Node) → contains node_cmp w.nodes n ≡ true → Leads o n m → IsKnown w at m

-- the start of an index is marked, and waits if it was not
pub record IsPut (i : ℕ) (old new : Walk) : Type 0 where
  pub places : new.places ≡ old.places
  pub nodes : new.nodes ≡ old.nodes
  pub sized : length new.come.items ≡ length old.come.items
  pub queue : new.pending.size ≡ old.pending.size
  pub mark : slice_get new.come.items i ≡ Some true
  pub others : (k : ℕ) → ¬ (k ≡ i) → slice_get new.come.items k ≡ slice_get old.come.items k
  pub kept : (k : ℕ) → Contains old.pending.waiting k → Contains new.pending.waiting k
  pub only : (k : ℕ) → Contains new.pending.waiting k → Contains old.pending.waiting k ⊎ (k ≡ i)
  pub waits : (slice_get old.come.items i ≡ Some true) ⊎ Contains new.pending.waiting i
  pub few : turns_left new ≤ turns_left old

-- the start at a node, if there is one
pub data CameTo (n : Option Node) (old new : Walk) : Type 0 where
  nowhere : n ≡ None → new ≡ old → CameTo n old new
  no_start : (m : Node) → n ≡ Some m → ((i : ℕ) → ¬ (slice_get old.places.items i ≡ Some (m.section, m.offset))) → new ≡ old → CameTo n old new
  put_there : (m : Node) (i : ℕ) → n ≡ Some m → slice_get old.places.items i ≡ Some (m.section, m.offset) → IsPut i old new → CameTo n old new

-- control goes on from a node: what it leads to is known, but for one inside an IT block, which is next
pub record IsLed (o : ObjectParts) (n : Node) (old new : Walk) (next : Option Node) : Type 0 where
  pub walk : IsWalk o new (Some n)
  pub keeps : Keeps old (Some n) new (Some n)
  pub led : (m : Node) → Leads o n m → IsKnown new (Some n) m ⊎ (next ≡ Some m)
  pub on : (m : Node) → next ≡ Some m → LeadsOn o n m
  pub few : turns_left new ≤ turns_left old

-- a node has had its turn
pub record IsTurned (o : ObjectParts) (n : Node) (old new : Walk) (next : Option Node) : Type 0 where
  pub walk : IsWalk o new next
  pub keeps : Keeps old (Some n) new next
  pub low : n.offset < 2 ^ 24
  pub ahead : (m : Node) → next ≡ Some m → n.offset < m.offset
  pub few : turns_left new ≤ turns_left old

-- a node, and those behind it in its IT block
pub record IsWalkedOn (o : ObjectParts) (at : Option Node) (old new : Walk) (next : Option Node) : Type 0 where
  pub walk : IsWalk o new next
  pub keeps : Keeps old at new next
  pub few : turns_left new ≤ turns_left old

-- the start that has waited longest, or none; nothing else changes
pub data IsTaken (old new : Walk) (next : Option Node) : Type 0 where
  none_waits : next ≡ None → new ≡ old → old.pending.waiting ≡ [] → IsTaken old new next
  oldest : (i j x : ℕ) → next ≡ Some (node_at j x) → slice_get old.places.items i ≡ Some (j, x) → old.pending.waiting ≡ i ∷ new.pending.waiting
      → new.places ≡ old.places → new.come ≡ old.come → new.nodes ≡ old.nodes → new.pending.size ≡ old.pending.size → IsTaken old new next

-- nothing waits any more
pub record IsWalkedThrough (o : ObjectParts) (old new : Walk) : Type 0 where
  pub walk : IsWalk o new None
  pub keeps : Keeps old None new None
  pub none : new.pending.waiting ≡ []
