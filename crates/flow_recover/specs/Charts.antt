-- The tables that a flow is found by, and what each step of finding it gives.
use Rattle.std.specs.Prelude.{◌≡◌, ◌↔◌, ℕ, true, List, Contains}
use Rattle.std.specs.declared.cmp.Ordering.{Ordering}
use Rattle.std.specs.Ordering.{nat_cmp, ordering_then}
use Rattle.std.specs.BTreeMap.{get}
use Rattle.std.specs.BTreeSet.{contains}
use Rattle.std.specs.List.Sorted.{IsStrictlySortedBy}
use Rattle.elf_model.specs.declared.refusals.Refusal.{Refusal}
use Rattle.elf_model.specs.declared.refusals.Spot.{Spot}
use Rattle.elf_model.specs.Objects.{ObjectParts}
use Rattle.flow_recover.specs.declared.charts.Chart.{Chart}
use Rattle.flow_recover.specs.declared.named.Claim.{Claim}
use Rattle.flow_recover.specs.declared.nodes.Node.{Node}
use Rattle.code_ranges.specs.Spans.{place_cmp}
use Rattle.code_ranges.specs.Spots.{spot_of}
use Rattle.reloc_places.specs.Tables.{AreStarts, AreWords, AreFunctions, AreRelocs}
use Rattle.flow_recover.specs.Aims.{IsNamed}
use Rattle.flow_recover.specs.Reach.{IsReached}
use Rattle.flow_recover.specs.FlowFaults.{FlowFault}

pub record IsChart (o : ObjectParts) (c : Chart) : Type 0 where
  pub starts : AreStarts o (λ j x. get place_cmp c.starts (j, x))
  pub words : AreWords o (λ j w. contains place_cmp c.words (j, w))
  pub functions : AreFunctions o (λ j x. contains place_cmp c.functions (j, x))
  pub relocs : AreRelocs o (λ j x. get place_cmp c.relocs (j, x))

-- the order of nodes: by section, by offset, then by state
abbrev pub node_cmp : Node → Node → Ordering
node_cmp a b = ordering_then (nat_cmp a.section b.section) (ordering_then (nat_cmp a.offset b.offset) (nat_cmp a.it b.it))

-- what the object names as places of control, and control enters there
abbrev pub AreNamed : ObjectParts → List Claim → Type 0
AreNamed o claims = (c : Claim) → Contains claims c ↔ (IsNamed o c.section c.offset c.from_section c.from_offset × (c.entry ≡ true))

-- the reached nodes in order
pub record AreNodes (o : ObjectParts) (nodes : List Node) : Type 0 where
  pub exact : (n : Node) → Contains nodes n ↔ IsReached o n
  pub order : IsStrictlySortedBy node_cmp nodes

-- all faults of a flow, in no order
pub record AreFaults (o : ObjectParts) (spots : List Spot) : Type 0 where
  pub sound : (s : Spot) → Contains spots s → (FlowFault o s.refusal s.section s.offset × (s.file ≡ 0))
  pub whole : (r : Refusal) (j x : ℕ) → FlowFault o r j x → Contains spots (spot_of r j x)
