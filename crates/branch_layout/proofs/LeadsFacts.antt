-- Numbers lead to goals.
use Rattle.std.proofs.Common.{ℤ, ◌-◌, ◌%◌, ◌≡◌, ◌≤◌, ◌<◌, ℕ, ◌+◌, ◌*◌, ◌/◌, ◌^◌, Bool, true, false, refl, sym, ap, ◌∙◌, arith}
use Rattle.std.specs.Prelude.{nat_le, if◌then◌else◌}
use Rattle.std.proofs.lemmas.Bool.{leb-true, leb-false}
use Rattle.thumb_instr.specs.declared.instructions.Instr.TheVariants as instr
use Rattle.thumb_instr.specs.Fields.{LiteralFields}
use Rattle.thumb_table.specs.Values.{away, moved}
use Rattle.branch_layout.specs.Goals.{base_of, offset_to, aimed}
use Rattle.branch_layout.specs.Leads.{Leads, IsRoom, NumbersLead, CopiesReach}
use Rattle.branch_layout.proofs.CodeFacts.{IsDifference, difference}
use Rattle.branch_layout.proofs.CodeFacts.IsDifference.{upwards, downwards}

module _ (section at to : ℕ) (room : IsRoom section at to) where
  branch_leads : away (section + at + 4) (offset_to at to) ≡ section + to
  branch_leads = go (offset_to at to) (difference (at + 4) to)
    where
      go : (z : ℤ) → IsDifference (at + 4) to z → away (section + at + 4) z ≡ section + to
      go z (upwards n e f) =
          let end = room.end in
          let low = room.low_goal in
          ap (away (section + at + 4)) e ∙ (let sum : (section + at + 4 + n) % 2 ^ 32 ≡ section + to = omega arith in sum)
      go z (downwards n e f) =
          let end = room.end in
          let low = room.low_goal in
          ap (away (section + at + 4)) e ∙ (let sum : (section + at + 4 + 2 ^ 32 - (n + 1)) % 2 ^ 32 ≡ section + to = omega arith in sum)

  base_is : (section + at + 4) / 4 * 4 ≡ section + base_of at
  base_is = let aligned = room.aligned in omega arith

  adr_leads : base_of at ≤ to + 1 → moved true ((section + at + 4) / 4 * 4) (to + 1 - base_of at) ≡ section + to + 1
  adr_leads le =
      let end = room.end in
      let low = room.low_goal in
      let base = base_is in
      let sum : ((section + at + 4) / 4 * 4 + (to + 1 - base_of at)) % 2 ^ 32 ≡ section + to + 1 = omega arith in
      sum

  literal_leads : (i : LiteralFields) → Leads (section + at) (aimed at to (instr.Literal i)) (section + to)
  literal_leads i = go (nat_le (base_of at) to) refl
    where
      go : (b : Bool) → nat_le (base_of at) to ≡ b
          → Leads (section + at) (if b then instr.Literal (record i { up = true; imm = to - base_of at }) else instr.Literal (record i { up = false; imm = base_of at - to })) (section + to)
      go true e =
          let le : base_of at ≤ to = leb-true (base_of at) to e in
          let end = room.end in
          let low = room.low_goal in
          let base = base_is in
          let sum : ((section + at + 4) / 4 * 4 + (to - base_of at)) % 2 ^ 32 ≡ section + to = omega arith in
          sum
      go false e =
          let lt : to < base_of at = leb-false (base_of at) to e in
          let end = room.end in
          let low = room.low_goal in
          let base = base_is in
          let sum : ((section + at + 4) / 4 * 4 + 2 ^ 32 - (base_of at - to)) % 2 ^ 32 ≡ section + to = omega arith in
          sum

pub numbers_lead : NumbersLead
numbers_lead (instr.Branch i) section at to room reach = branch_leads section at to room
numbers_lead (instr.ZeroBranch i) section at to room reach = branch_leads section at to room
numbers_lead (instr.Call i) section at to room reach = branch_leads section at to room
numbers_lead (instr.Adr i) section at to room reach = adr_leads section at to room reach.0
numbers_lead (instr.Literal i) section at to room reach = literal_leads section at to room i
numbers_lead i section at to room reach = tt

pub copies_reach : CopiesReach
copies_reach (instr.Branch i) site p g section at to leads room reach here there =
    (offset_to at to, refl, ap (λ (a : ℕ). away (a + 4) (offset_to at to)) here ∙ branch_leads section at to room ∙ sym there)
copies_reach (instr.ZeroBranch i) site p g section at to leads room reach here there =
    (offset_to at to, refl, ap (λ (a : ℕ). away (a + 4) (offset_to at to)) here ∙ branch_leads section at to room ∙ sym there)
copies_reach (instr.Adr i) site p g section at to leads room reach here there =
    (to + 1 - base_of at, refl, ap (λ (a : ℕ). moved true ((a + 4) / 4 * 4) (to + 1 - base_of at)) here ∙ adr_leads section at to room reach.0 ∙ ap (λ (t : ℕ). t + 1) (sym there))
copies_reach i site p g section at to leads room reach here there = absurd (cc)
