-- Where reached instructions lead, and all places that control is sent to.
use Rattle.std.specs.Prelude.{◌≡◌, ℕ, Bool, true, false, not, List, Option, Some, None, Contains, if◌then◌else◌}
use Rattle.elf_model.specs.Objects.{ObjectParts}
use Rattle.flow_recover.specs.declared.aims.Aim.{Aim}
use Rattle.flow_recover.specs.declared.aims.Aim.TheVariants.{Near, Shared, Fixed, Far}
use Rattle.flow_recover.specs.declared.named.Claim.{Claim}
use Rattle.flow_recover.specs.declared.visits.Visit.{Visit}
use Rattle.flow_recover.specs.Aims.{is_branch, has_offset}
use Rattle.flow_recover.specs.Walks.{offset_in}
use Rattle.flow_recover.specs.FlowFaults.{IsClaim}
use Rattle.flow_recover.specs.WholeFlows.{IsEntry}

-- control enters where a call leads, and a branch by a symbol that other objects see
abbrev pub enters_by : Bool → Aim → Bool
enters_by branch (Near x) = not branch
enters_by branch (Shared x) = true
enters_by branch Fixed = false
enters_by branch Far = false

-- where an instruction leads, if to an offset of its own section
abbrev pub claim_to : Visit → Option ℕ → Option Claim
claim_to v None = None
claim_to v (Some x) = Some (record { section = v.node.section; offset = x; from_section = v.node.section; from_offset = v.node.offset; entry = enters_by (is_branch v.instr) v.aim })

unfoldable pub claim_at : Visit → Option Claim
claim_at v = if has_offset v.instr then claim_to v (offset_in v.aim) else None

-- all places that control is sent to, with those at which it enters
abbrev pub claim_of : ℕ → ℕ → ℕ → ℕ → Bool → Claim
claim_of j x section offset entry = record { section = j; offset = x; from_section = section; from_offset = offset; entry = entry }

pub record AreClaims (o : ObjectParts) (claims : List Claim) : Type 0 where
  pub sound : (c : Claim) → Contains claims c → IsClaim o c.section c.offset c.from_section c.from_offset
  pub whole : (j x section offset : ℕ) → IsClaim o j x section offset → (entry : Bool) × Contains claims (claim_of j x section offset entry)
  pub enters : (c : Claim) → Contains claims c → c.entry ≡ true → IsEntry o c.section c.offset
  pub entered : (j x : ℕ) → IsEntry o j x → (section offset : ℕ) × Contains claims (claim_of j x section offset true)

-- what an entry among them enters
pub record EntersAt (c : Claim) (p : ℕ × ℕ) : Type 0 where
  pub entry : c.entry ≡ true
  pub section : c.section ≡ p.0
  pub offset : c.offset ≡ p.1
