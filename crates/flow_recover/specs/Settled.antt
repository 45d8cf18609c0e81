-- What the flow of an object without faults is made of.
use Rattle.std.specs.Prelude.{◌≡◌, ◌↔◌, ℕ, Bool, true, List, Some, Ok, Contains, length, slice_get}
use Rattle.std.specs.List.Sorted.{IsStrictlySortedBy, IsStrictlyIncreasing}
use Rattle.elf_model.specs.declared.refusals.Refusal.{Refusal}
use Rattle.elf_model.specs.Objects.{ObjectParts}
use Rattle.thumb_instr.specs.declared.instructions.Instr.{Instr}
use Rattle.thumb_instr.specs.declared.instructions.Instr.TheVariants as instr
use Rattle.thumb_instr.specs.Fields.{LiteralFields}
use Rattle.flow_recover.specs.declared.nodes.Node.{Node}
use Rattle.flow_recover.specs.declared.flows.Point.{Point}
use Rattle.flow_recover.specs.declared.flows.PoolWord.{PoolWord}
use Rattle.code_ranges.specs.Spans.{place_cmp}
use Rattle.reloc_places.specs.Relocations.{reloc_at}
use Rattle.flow_recover.specs.Reach.{IsFound, node_at, IsReached}
use Rattle.flow_recover.specs.FlowFaults.{literal_place, FlowFault}
use Rattle.flow_recover.specs.WholeFlows.{IsPoint}

-- nothing stands in the way of a flow
abbrev pub IsFaultless : ObjectParts → Type 0
IsFaultless o = (r : Refusal) (section offset : ℕ) → ¬ FlowFault o r section offset

-- the literal load at a node names the word at a place
pub record IsNamedBy (n : Node) (i : Instr) (p : ℕ × ℕ) : Type 0 where
  pub literal : LiteralFields
  pub is : i ≡ instr.Literal literal
  pub section : p.0 ≡ n.section
  pub offset : literal_place n.offset literal ≡ Some p.1

pub record IsLoad (o : ObjectParts) (n : Node) (p : ℕ × ℕ) : Type 0 where
  pub instr : Instr
  pub found : IsFound o n (Ok instr)
  pub names : IsNamedBy n instr p

-- a reached one does
pub record IsLoadedPlace (o : ObjectParts) (p : ℕ × ℕ) : Type 0 where
  pub node : Node
  pub reached : IsReached o node
  pub load : IsLoad o node p

-- the places of these words, in order
pub record ArePlaces (o : ObjectParts) (places : List (ℕ × ℕ)) : Type 0 where
  pub exact : (p : ℕ × ℕ) → Contains places p ↔ IsLoadedPlace o p
  pub order : IsStrictlySortedBy place_cmp places

abbrev pub word_at : ObjectParts → ℕ × ℕ → PoolWord
word_at o p = record { section = p.0; offset = p.1; reloc = reloc_at o p.0 p.1 }

-- a point for each node
pub record ArePointsOf (o : ObjectParts) (nodes : List Node) (words : List PoolWord) (points : List Point) : Type 0 where
  pub count : length points ≡ length nodes
  pub each : (k : ℕ) (n : Node) (p : Point) → slice_get nodes k ≡ Some n → slice_get points k ≡ Some p → IsPoint o nodes words n p

-- a node is one of some places, with a clear IT state
pub record IsAmong (is_in : ℕ → ℕ → Bool) (n : Node) : Type 0 where
  pub section : ℕ
  pub offset : ℕ
  pub entered : is_in section offset ≡ true
  pub is : n ≡ node_at section offset

-- the indexes of these nodes
pub record AreEntries (is_in : ℕ → ℕ → Bool) (nodes : List Node) (entries : List ℕ) : Type 0 where
  pub exact : (q : ℕ) → Contains entries q ↔ ((n : Node) × ((slice_get nodes q ≡ Some n) × IsAmong is_in n))
  pub order : IsStrictlyIncreasing entries
