-- The law that numbers lead to goals, by what the machine makes of them.
use Rattle.std.specs.Prelude.{◌≡◌, ◌≤◌, ℕ, ◌+◌, ◌*◌, ◌/◌, ◌%◌, ◌^◌, Bool, true, false, ⊤}
use Rattle.thumb_instr.specs.declared.instructions.Instr.{Instr}
use Rattle.thumb_instr.specs.declared.instructions.Instr.TheVariants as instr
use Rattle.thumb_table.specs.States.{Site}
use Rattle.thumb_table.specs.Values.{away, moved}
use Rattle.seq_core.specs.declared.steps.Goal.{Goal}
use Rattle.seq_core.specs.Denoted.{Spots, spot_of, Reached}
use Rattle.branch_layout.specs.Goals.{aimed, Reaches}

-- The number of an instruction at an address leads to another: ADR makes it with bit 0 set.
abbrev pub Leads : ℕ → Instr → ℕ → Type 0
Leads a (instr.Branch i) t = away (a + 4) i.offset ≡ t
Leads a (instr.ZeroBranch i) t = away (a + 4) i.offset ≡ t
Leads a (instr.Call i) t = away (a + 4) i.offset ≡ t
Leads a (instr.Adr i) t = moved i.up ((a + 4) / 4 * 4) i.imm ≡ t + 1
Leads a (instr.Literal i) t = moved i.up ((a + 4) / 4 * 4) i.imm ≡ t
Leads a i t = ⊤

-- A section starts at a multiple of 4, and its code is below the end of all addresses; two offsets are in it.
pub record IsRoom (section at to : ℕ) : Type 0 where
  pub aligned : section % 4 ≡ 0
  pub end : section + 2 ^ 20 ≤ 2 ^ 32
  pub low : at ≤ 524288
  pub low_goal : to ≤ 524288

-- wherever the section starts
abbrev pub NumbersLead : Type 0
NumbersLead = (i : Instr) (section at to : ℕ) → IsRoom section at to → Reaches at to i → Leads (section + at) (aimed at to i) (section + to)

-- the instructions of sequences that lead to places in code
abbrev pub leads_to_code : Instr → Bool
leads_to_code (instr.Branch i) = true
leads_to_code (instr.ZeroBranch i) = true
leads_to_code (instr.Adr i) = true
leads_to_code i = false

-- So what stands there reaches its goal as the laws of sequences ask.
abbrev pub CopiesReach : Type 0
CopiesReach = (i : Instr) (site : Site) (p : Spots) (g : Goal) (section at to : ℕ) → leads_to_code i ≡ true → IsRoom section at to → Reaches at to i →
    site.address ≡ section + at → spot_of p g ≡ section + to → Reached site p g i (aimed at to i)
