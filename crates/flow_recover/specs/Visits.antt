-- What is known of the instructions that control reaches.
use Rattle.std.specs.Prelude.{◌≡◌, ◌<◌, ◌^◌, true, false, List, [], ◌∷◌, ◌++◌, Ok, Err, Contains, map}
use Rattle.elf_model.specs.declared.refusals.Spot.{Spot}
use Rattle.elf_model.specs.Objects.{ObjectParts}
use Rattle.thumb_instr.specs.declared.instructions.Instr.{Instr}
use Rattle.thumb_instr.specs.declared.refusals.BadInstr.{BadInstr}
use Rattle.flow_recover.specs.declared.nodes.Node.{Node}
use Rattle.flow_recover.specs.declared.visits.Visit.{Visit}
use Rattle.code_ranges.specs.Spots.{spot_of}
use Rattle.reloc_places.specs.Starts.{behind as behind_of}
use Rattle.flow_recover.specs.Aims.{IsAim}
use Rattle.flow_recover.specs.Reach.{IsFound, GoesOn, EndsAt, IsReached}
use Rattle.flow_recover.specs.FlowFaults.{IsReachedInstr, refusal_of}

-- the instruction that stands at a node, and what follows from it
pub record IsVisit (o : ObjectParts) (v : Visit) : Type 0 where
  pub found : IsFound o v.node (Ok v.instr)
  pub behind : v.behind ≡ behind_of o v.node.section v.node.offset
  pub low : v.node.offset < 2 ^ 24
  pub aim : IsAim o v.node.section v.node.offset v.instr v.aim
  pub goes : v.goes_on ≡ true → GoesOn o v.node v.instr
  pub ends : v.goes_on ≡ false → EndsAt o v.node v.instr

-- a visit of this node
pub record IsVisitAt (o : ObjectParts) (n : Node) (v : Visit) : Type 0 where
  pub node : v.node ≡ n
  pub is : IsVisit o v

abbrev pub visit_node : Visit → Node
visit_node v = v.node

-- the visits of all reached instructions
pub record AreVisits (o : ObjectParts) (visits : List Visit) : Type 0 where
  pub reached : (v : Visit) → Contains visits v → IsReached o v.node
  pub sound : (v : Visit) → Contains visits v → IsVisit o v
  pub whole : (n : Node) (i : Instr) → IsReachedInstr o n i → (v : Visit) × Contains visits v × (v.node ≡ n) × (v.instr ≡ i)

-- in the order of their nodes, if each of these is an instruction
pub record AreInOrder (o : ObjectParts) (nodes : List Node) (visits : List Visit) : Type 0 where
  pub order : ((n : Node) (b : BadInstr) → IsReached o n → ¬ IsFound o n (Err b)) → map visit_node visits ≡ nodes

-- what one node more adds: a visit, or the spot of halfwords that are no instruction
pub data Notes (o : ObjectParts) (n : Node) (old new : List Visit) (before after : List Spot) : Type 0 where
  good : (v : Visit) → IsVisitAt o n v → new ≡ old ++ v ∷ [] → after ≡ before → Notes o n old new before after
  bad : (b : BadInstr) → IsFound o n (Err b) → new ≡ old → after ≡ before ++ spot_of (refusal_of b) n.section n.offset ∷ [] → Notes o n old new before after
