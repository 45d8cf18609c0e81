-- The flow of an object: a point for each instruction that control reaches.
use Rattle.std.specs.Prelude.{◌≡◌, ◌≤◌, ◌↔◌, ℕ, ◌==◌, Bool, true, false, List, Option, Some, None, Ok, if◌then◌else◌, length, map, slice_get, Contains}
use Rattle.std.specs.List.Sorted.{IsStrictlyIncreasing, IsStrictlySortedBy}
use Rattle.elf_model.specs.declared.refusals.Refusal.{Refusal}
use Rattle.elf_model.specs.Fields.{half_at}
use Rattle.elf_model.specs.Objects.{ObjectParts, code_size}
use Rattle.elf_model.specs.Ranges.{is_long}
use Rattle.thumb_instr.specs.declared.instructions.Instr.{Instr}
use Rattle.thumb_instr.specs.declared.instructions.Instr.TheVariants as instr
use Rattle.thumb_instr.specs.Fields.{LiteralFields}
use Rattle.thumb_instr.specs.Blocks.{block_condition}
use Rattle.flow_recover.specs.declared.nodes.Node.{Node}
use Rattle.flow_recover.specs.declared.aims.Aim.{Aim}
use Rattle.flow_recover.specs.declared.aims.Aim.TheVariants.{Near, Shared}
use Rattle.flow_recover.specs.declared.flows.Point.{Point}
use Rattle.flow_recover.specs.declared.flows.Exit.{Exit}
use Rattle.flow_recover.specs.declared.flows.Exit.TheVariants as exit
use Rattle.flow_recover.specs.declared.flows.PoolWord.{PoolWord}
use Rattle.flow_recover.specs.Flows.{FlowParts}
use Rattle.code_ranges.specs.CodeRanges.{AreRanges}
use Rattle.code_ranges.specs.Spans.{place_cmp}
use Rattle.reloc_places.specs.Starts.{bytes_of}
use Rattle.reloc_places.specs.Relocations.{reloc_at}
use Rattle.flow_recover.specs.Aims.{is_branch, has_offset, IsAim, IsNamed}
use Rattle.flow_recover.specs.Reach.{IsFound, GoesOn, EndsAt, node_behind, node_at, IsReached}
use Rattle.flow_recover.specs.FlowFaults.{IsReachedInstr, literal_place, FlowFault}

-- the exit of an instruction that is no branch
abbrev pub plain_exit : Instr → Exit
plain_exit (instr.Call i) = exit.Call
plain_exit (instr.CallReg i) = exit.Call
plain_exit (instr.Jump i) = if i.m == 14 then exit.Return else exit.Transfer
plain_exit (instr.Multi i) = if i.pc then exit.Return else exit.Falls
plain_exit (instr.Trap i) = exit.Stops
plain_exit _ = exit.Falls

abbrev pub is_near : Aim → Bool
is_near (Near x) = true
is_near _ = false

-- A branch to an offset of its section, by its number or by a local symbol, leads to a point; every other one is a transfer.
pub data IsExit (o : ObjectParts) (nodes : List Node) (n : Node) (i : Instr) (e : Exit) : Type 0 where
  plain : is_branch i ≡ false → e ≡ plain_exit i → IsExit o nodes n i e
  near : (x q : ℕ) → is_branch i ≡ true → IsAim o n.section n.offset i (Near x) → slice_get nodes q ≡ Some (node_at n.section x) → e ≡ exit.Branch q → IsExit o nodes n i e
  far : (a : Aim) → is_branch i ≡ true → IsAim o n.section n.offset i a → is_near a ≡ false → e ≡ exit.Transfer → IsExit o nodes n i e

-- the point to which one falls or a call returns
pub data IsNext (o : ObjectParts) (nodes : List Node) (n : Node) (i : Instr) (next : Option ℕ) : Type 0 where
  on : (q : ℕ) → GoesOn o n i → slice_get nodes q ≡ Some (node_behind o n i) → next ≡ Some q → IsNext o nodes n i next
  none : EndsAt o n i → next ≡ None → IsNext o nodes n i next

-- the word that a literal load names
pub data IsLoaded (words : List PoolWord) (n : Node) (i : Instr) (word : Option ℕ) : Type 0 where
  literal : (l : LiteralFields) (k : ℕ) (w : PoolWord) → i ≡ instr.Literal l → slice_get words k ≡ Some w → w.section ≡ n.section → literal_place n.offset l ≡ Some w.offset → word ≡ Some k → IsLoaded words n i word
  none : ((l : LiteralFields) → ¬ (i ≡ instr.Literal l)) → word ≡ None → IsLoaded words n i word

-- the point of a node, among all nodes
pub record IsPoint (o : ObjectParts) (nodes : List Node) (words : List PoolWord) (n : Node) (p : Point) : Type 0 where
  pub section : p.section ≡ n.section
  pub offset : p.offset ≡ n.offset
  pub wide : p.wide ≡ is_long (half_at (bytes_of o n.section) n.offset)
  pub instr : IsFound o n (Ok p.instr)
  pub cond : p.cond ≡ block_condition n.it
  pub exit : IsExit o nodes n p.instr p.exit
  pub next : IsNext o nodes n p.instr p.next
  pub reloc : p.reloc ≡ reloc_at o n.section n.offset
  pub word : IsLoaded words n p.instr p.word

-- a word that a reached literal load names
pub record IsPoolWord (o : ObjectParts) (w : PoolWord) : Type 0 where
  pub node : Node
  pub literal : LiteralFields
  pub loads : IsReachedInstr o node (instr.Literal literal)
  pub section : w.section ≡ node.section
  pub offset : literal_place node.offset literal ≡ Some w.offset
  pub reloc : w.reloc ≡ reloc_at o w.section w.offset

-- A call, or a branch by a symbol that other objects see, enters at an offset of its own section.
pub data Enters (o : ObjectParts) (n : Node) (i : Instr) (x : ℕ) : Type 0 where
  by_call : has_offset i ≡ true → is_branch i ≡ false → IsAim o n.section n.offset i (Near x) → Enters o n i x
  by_symbol : has_offset i ≡ true → IsAim o n.section n.offset i (Shared x) → Enters o n i x

-- where control enters: at what the object names, and where reached calls and transfers lead to in their own section
pub data IsEntry (o : ObjectParts) (j x : ℕ) : Type 0 where
  named : (section offset : ℕ) → IsNamed o j x section offset → IsEntry o j x
  entered : (n : Node) (i : Instr) → IsReachedInstr o n i → Enters o n i x → j ≡ n.section → IsEntry o j x

abbrev pub place_of_node : Node → ℕ × ℕ
place_of_node n = (n.section, n.offset)

abbrev pub place_of_word : PoolWord → ℕ × ℕ
place_of_word w = (w.section, w.offset)

-- the flow of an object without faults
pub record IsFlow (o : ObjectParts) (f : FlowParts) : Type 0 where
  -- each start that control reaches, under its one IT state, by section and offset
  pub nodes : List Node
  pub reached : (n : Node) → Contains nodes n ↔ IsReached o n
  pub order : IsStrictlySortedBy place_cmp (map place_of_node nodes)
  -- the points are those of these starts
  pub count : length f.points ≡ length nodes
  pub few : length f.points ≤ code_size o.sections
  pub points : (k : ℕ) (n : Node) (p : Point) → slice_get nodes k ≡ Some n → slice_get f.points k ≡ Some p → IsPoint o nodes f.words n p
  -- the words of code that they load, by section and offset
  pub words : (w : PoolWord) → Contains f.words w ↔ IsPoolWord o w
  pub words_order : IsStrictlySortedBy place_cmp (map place_of_word f.words)
  -- the points at which control enters, and there is one for each entry
  pub entries : (q : ℕ) → Contains f.entries q ↔ ((j x : ℕ) × (IsEntry o j x × (slice_get nodes q ≡ Some (node_at j x))))
  pub entries_order : IsStrictlyIncreasing f.entries
  pub entered : (j x : ℕ) → IsEntry o j x → Contains nodes (node_at j x)
  pub ranges : AreRanges o f.ranges
  pub no_fault : (r : Refusal) (section offset : ℕ) → ¬ FlowFault o r section offset
