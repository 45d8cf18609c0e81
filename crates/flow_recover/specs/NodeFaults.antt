-- What is found at one node at a time: IT blocks, claims, and what stands in the way of a flow.
use Rattle.std.specs.Prelude.{◌≡◌, ◌<◌, ◌⊎◌, ℕ, Bool, true, false, List, Ok, Err, Option, Some, None, Contains}
use Rattle.std.specs.List.{list_all}
use Rattle.elf_model.specs.declared.refusals.Refusal.TheVariants as refusal
use Rattle.elf_model.specs.declared.refusals.Spot.{Spot}
use Rattle.elf_model.specs.Objects.{ObjectParts}
use Rattle.elf_model.specs.Ranges.{is_whole}
use Rattle.thumb_instr.specs.declared.instructions.Instr.{Instr}
use Rattle.thumb_instr.specs.declared.instructions.Instr.TheVariants as instr
use Rattle.thumb_instr.specs.declared.refusals.BadInstr.{BadInstr}
use Rattle.thumb_instr.specs.Fields.{LiteralFields, ItFields}
use Rattle.flow_recover.specs.declared.aims.Aim.{Aim}
use Rattle.flow_recover.specs.declared.aims.Aim.TheVariants.{Near, Shared, Fixed, Far}
use Rattle.flow_recover.specs.declared.blocks.Block.{Block}
use Rattle.flow_recover.specs.declared.named.Claim.{Claim}
use Rattle.flow_recover.specs.declared.nodes.Node.{Node}
use Rattle.flow_recover.specs.declared.visits.Visit.{Visit}
use Rattle.code_ranges.specs.Spots.{spot_of}
use Rattle.reloc_places.specs.Starts.{bytes_of, HasStart, IsDataWord, behind, following}
use Rattle.flow_recover.specs.Aims.{has_offset, IsAim}
use Rattle.flow_recover.specs.Reach.{IsFound, may_fall, IsReached}
use Rattle.flow_recover.specs.FlowFaults.{block_length, literal_place, refusal_of, IsInBlock}

-- the mask of an IT
abbrev pub mask_of : Instr → Option ℕ
mask_of (instr.It i) = Some i.mask
mask_of _ = None

-- the block of an IT that stands at a node
pub record IsBlock (o : ObjectParts) (n : Node) (b : Block) : Type 0 where
  pub it : ItFields
  pub found : IsFound o n (Ok (instr.It it))
  pub start : b.start ≡ behind o n.section n.offset
  pub end : b.end ≡ found.end
  pub count : b.count ≡ block_length it.mask

-- this place, if it is before the end of its range
pub record IsBelow (section at end j x : ℕ) : Type 0 where
  pub same_section : section ≡ j
  pub same_offset : at ≡ x
  pub in_range : x < end

-- an instruction of a block, in its range
pub record IsMember (bytes : List ℕ) (b : Block) (x : ℕ) : Type 0 where
  pub follows : Contains (following bytes b.count b.start) x
  pub in_range : x < b.end

-- an instruction of the block of an IT that stands at a node
pub record IsBlockPlace (o : ObjectParts) (n : Node) (p : ℕ × ℕ) : Type 0 where
  pub block : Block
  pub is_block : IsBlock o n block
  pub section : n.section ≡ p.0
  pub member : IsMember (bytes_of o p.0) block p.1

-- the block goes past the end of its range
pub record IsCut (o : ObjectParts) (n : Node) : Type 0 where
  pub block : Block
  pub is_block : IsBlock o n block
  pub cut : list_all (is_whole (bytes_of o n.section) block.end) (following (bytes_of o n.section) block.count block.start) ≡ false

-- whether an aim is an absolute address
abbrev pub is_fixed : Aim → Bool
is_fixed (Near x) = false
is_fixed (Shared x) = false
is_fixed Fixed = true
is_fixed Far = false

-- what a node's instruction may be at fault for: it makes an address of pc; leads to an absolute address; loads what
-- is no word of data; or control goes on from it to where no code is
abbrev pub is_adr : Instr → Bool
is_adr (instr.Adr i) = true
is_adr _ = false

pub record IsAbsolute (o : ObjectParts) (n : Node) (i : Instr) : Type 0 where
  pub has : has_offset i ≡ true
  pub aim : IsAim o n.section n.offset i Fixed

abbrev pub literal_of : Instr → Option LiteralFields
literal_of (instr.Literal i) = Some i
literal_of _ = None

pub record LacksWord (o : ObjectParts) (n : Node) (i : Instr) : Type 0 where
  pub literal : LiteralFields
  pub is : i ≡ instr.Literal literal
  pub lacks : (w : ℕ) → literal_place n.offset literal ≡ Some w → ¬ IsDataWord o n.section w

pub record RunsOut (o : ObjectParts) (n : Node) (i : Instr) : Type 0 where
  pub falls : may_fall n i ≡ true
  pub no_code : ¬ HasStart o n.section (behind o n.section n.offset)

-- the spots of faults of a node's instruction, of halfwords that are none, and of a claim
pub data IsInstrSpot (o : ObjectParts) (n : Node) (i : Instr) (s : Spot) : Type 0 where
  adr : is_adr i ≡ true → s ≡ spot_of refusal.PcOperand n.section n.offset → IsInstrSpot o n i s
  absolute : IsAbsolute o n i → s ≡ spot_of refusal.IntoMiddle n.section n.offset → IsInstrSpot o n i s
  no_word : LacksWord o n i → s ≡ spot_of refusal.IntoMiddle n.section n.offset → IsInstrSpot o n i s
  no_code : RunsOut o n i → s ≡ spot_of refusal.FallsOff n.section n.offset → IsInstrSpot o n i s
  cut_block : IsCut o n → s ≡ spot_of refusal.FallsOff n.section n.offset → IsInstrSpot o n i s

abbrev pub IsVisitSpot : ObjectParts → Visit → Spot → Type 0
IsVisitSpot o v s = IsInstrSpot o v.node v.instr s

pub record IsBadSpot (o : ObjectParts) (n : Node) (s : Spot) : Type 0 where
  pub bad : BadInstr
  pub found : IsFound o n (Err bad)
  pub at : s ≡ spot_of (refusal_of bad) n.section n.offset

pub record IsReachedBad (o : ObjectParts) (s : Spot) : Type 0 where
  pub node : Node
  pub reached : IsReached o node
  pub bad : IsBadSpot o node s

abbrev pub IsWrongClaim : ObjectParts → Claim → Type 0
IsWrongClaim o c = (¬ HasStart o c.section c.offset) ⊎ IsInBlock o c.section c.offset

pub record IsClaimSpot (o : ObjectParts) (c : Claim) (s : Spot) : Type 0 where
  pub wrong : IsWrongClaim o c
  pub at : s ≡ spot_of refusal.IntoMiddle c.from_section c.from_offset
