-- Where offsets lead from an address: an instruction's own one, and one that linking put there.
use Rattle.std.specs.Prelude.{◌≡◌, ◌<◌, ℕ, ℤ, pos, negsuc, ◌+◌, ◌-◌, ◌*◌, ◌/◌, ◌%◌, ◌^◌, nat_lt, nat_le, Bool, true, false, cond, Some, None, refl}
use Rattle.std.specs.Int.{w32, cast_unsigned}
use Rattle.std.proofs.Common.{arith, ap, ◌∙◌}
use Rattle.std.proofs.lemmas.Bool.{ltb-true, leb-true}
use Rattle.std.proofs.lemmas.Option.{none-some, same_Some}
use Rattle.thumb_instr.specs.declared.instructions.Instr.{Instr}
use Rattle.thumb_instr.specs.declared.instructions.Instr.TheVariants as instr
use Rattle.thumb_instr.specs.Meanings.{signed}
use Rattle.thumb_table.specs.Values.{moved, away}
use Rattle.flow_recover.specs.Aims.{offset_of, own_target}
use Rattle.sim_objects.proofs.Reaching.{is_narrow, leads_near}

pub narrow_offset : (i : Instr) → leads_near i ≡ true → is_narrow (offset_of i) ≡ true
narrow_offset (instr.Branch i) e = e
narrow_offset (instr.ZeroBranch i) e = e
narrow_offset (instr.Call i) e = e
narrow_offset i e = refl

-- to t of a section that starts at s
own_away : (s x t : ℕ) (z : ℤ) → is_narrow z ≡ true → t ≡ (x + 4 + cast_unsigned w32 z) % 2 ^ 32 → s + t < 2 ^ 32 → away (s + x + 4) z ≡ s + t
own_away s x t (pos n) narrow e low = omega (arith, e, low)
own_away s x t (negsuc n) narrow e low = let less = ltb-true n (2 ^ 32) narrow in omega (arith, e, low, less)

pub own_leads : (a s x t : ℕ) (i : Instr) → leads_near i ≡ true → a ≡ s + x → t ≡ own_target x i → s + t < 2 ^ 32 → away (a + 4) (offset_of i) ≡ s + t
own_leads a s x t i near from e low = ap (λ (n : ℕ). away (n + 4) (offset_of i)) from ∙ own_away s x t (offset_of i) (narrow_offset i near) e low

-- to the address from which the offset was counted
pub linked_away : (a sum n : ℕ) → a < 2 ^ 32 → sum < 2 ^ 32 → n ≡ (sum + 2 ^ 32 - a) % 2 ^ 32 → away (a + 4) (signed 32 n) ≡ (sum + 4) % 2 ^ 32
linked_away a sum n low small e = go (nat_lt n (2 ^ 31)) refl
  where
    go : (b : Bool) → nat_lt n (2 ^ 31) ≡ b → away (a + 4) (cond b (pos n) (negsuc (2 ^ 32 - 1 - n))) ≡ (sum + 4) % 2 ^ 32
    go true f = omega (arith, low, small, e)
    go false f = omega (arith, low, small, e)

-- the place of a literal
pub literal_is : (up : Bool) (a s x imm w : ℕ) → s % 4 ≡ 0 → a ≡ s + x → s + w < 2 ^ 32 → cond up (Some ((x + 4) / 4 * 4 + imm)) (cond (nat_le imm ((x + 4) / 4 * 4)) (Some ((x + 4) / 4 * 4 - imm)) None) ≡ Some w
    → moved up ((a + 4) / 4 * 4) imm ≡ s + w
literal_is true a s x imm w four from low e = let same = same_Some ((x + 4) / 4 * 4 + imm) w e in omega (arith, four, from, low, same)
literal_is false a s x imm w four from low e = go (nat_le imm ((x + 4) / 4 * 4)) refl e
  where
    go : (b : Bool) → nat_le imm ((x + 4) / 4 * 4) ≡ b → cond b (Some ((x + 4) / 4 * 4 - imm)) None ≡ Some w → moved false ((a + 4) / 4 * 4) imm ≡ s + w
    go true f g = let same = same_Some ((x + 4) / 4 * 4 - imm) w g in let le = leb-true imm ((x + 4) / 4 * 4) f in omega (arith, four, from, low, same, le)
    go false f g = absurd (none-some w g)
