-- Branches, jumps and calls.
use Rattle.std.proofs.Common.{◌≡◌, ◌≢◌, ℕ, ◌+◌, ◌-◌, ◌%◌, ◌<◌, Bool, true, false, [], ◌∷◌, length, inl, inr, None, Ok, Err, refl, sym, ap, ◌∙◌, subst, arith, get_or-set_other}
use Rattle.std.specs.Prelude.{not, ◌==◌, if◌then◌else◌}
use Rattle.mark_word.specs.Words.{plain}
use Rattle.thumb_instr.specs.declared.conditions.Cond.TheVariants.{Al}
use Rattle.thumb_table.specs.declared.faults.FaultKind.TheVariants as fault
use Rattle.thumb_table.specs.Conditions.{holds}
use Rattle.thumb_table.specs.States.{Core, Change, Falls, Jumps, applied, read, unchanged}
use Rattle.thumb_table.specs.Effects.{change, value, branch_if, jump_to, writing}
use Rattle.thumb_table.specs.Steps.{goes_on}
use Rattle.seq_core.specs.Meanings.{meant, linking}
use Rattle.seq_core.specs.Does.{SameBut, Effect}
use Rattle.seq_core.specs.Sequences.{Settles, Leads, Reaches}
use Rattle.seq_core.specs.Groups.{nothing, only, done, no_ends, moving, branch_to, zero_to, link_to, jump_by, call_by, call_to}
use Rattle.seq_core.specs.Twice.{BranchCarries, TrapCarries}
use Rattle.seq_core.specs.Calls.{ZeroBranchCarries, RegisterJumpCarries, DirectCallCarries, RegisterCallCarries, LinkCallCarries}
use Rattle.seq_core.proofs.Tests.{same_number}
use Rattle.seq_core.proofs.Written.{ok_is}
use Rattle.seq_core.proofs.Meaning.{ok_never, jump_never}
use Rattle.seq_core.proofs.Again.{clear_after}
use Rattle.seq_core.proofs.Twice.{settles, same_self, twice_settles}
use Rattle.seq_core.proofs.Near.{Near, near_lost, near_applied, near_same, read_set}
use Rattle.seq_core.proofs.Through.{moving_away, move_low}
use Rattle.seq_core.proofs.Guard.{branched, left_alone, rests_settled, going, jumps_away, branch_passed, branch_taken}

-- control goes to t, and the core is h's
pub leads_by : (e : Effect) (y : Core) (h : Change) (t : ℕ) → e y ≡ Ok h → h.exit ≡ Jumps t → Leads e y t (applied h y)
leads_by e y h t m j = record { made = h; makes = m; jumps = j; comes = refl }

pub branch_is_done : BranchCarries
branch_is_done c t end = record {
  acts = λ y h b k m.
      let is : going t ≡ h = ok_is (going t) h (branch_to c t y) (branched c t y ∙ ap (λ b. Ok (branch_if b t)) k) m in
      subst (λ (h : Change). (z : Core) × Reaches Settles end (branch_to c t ∷ []) y h.exit z × SameBut nothing (applied h y) z) is (
        y,
        record { out = Jumps t; chain = inr (t, branch_taken c t y b.clear k, refl); there = refl },
        subst (λ x. SameBut nothing x y) (sym (left_alone y b.clear)) (same_self nothing y b.clear),
      );
  rests = λ y b k. record { out = Falls; chain = inl (y, branch_passed c t y b.clear k, (refl, refl)); there = refl };
  halts = λ y b k m. absurd (ok_never (branch_if (holds c y) t) (sym (branched c t y) ∙ m));
}

pub trap_is_done : TrapCarries
unfolding meant change
trap_is_done end = record { acts = λ y h b k m. absurd cc; rests = λ y b k. absurd cc; halts = λ y b k m. inl m }

-- a register's word
pub jump_made : (bits : ℕ) (g h : Change) → jump_to bits g ≡ Ok h → record g { exit = Jumps (bits - 1) } ≡ h
jump_made bits g h e = go (bits % 2 == 1) e
  where
    go : (b : Bool) → (if b then Ok (record g { exit = Jumps (bits - 1) }) else Err fault.BadJump) ≡ Ok h → record g { exit = Jumps (bits - 1) } ≡ h
    go true e = cc
    go false e = absurd cc

pub jumped_by : (m : ℕ) (y : Core) → jump_by m y ≡ jump_to (value y m) unchanged
unfolding meant change
jumped_by m y = refl

pub register_jump_is_done : RegisterJumpCarries
register_jump_is_done m end = record {
  acts = λ y h b k e.
      let is = jump_made (value y m) unchanged h (sym (jumped_by m y) ∙ e) in
      let j : h.exit ≡ Jumps (value y m - 1) = sym (ap (λ (h : Change). h.exit) is) in
      let i : h.it ≡ None = sym (ap (λ (h : Change). h.it) is) in
      (applied h y, record { out = Jumps (value y m - 1); chain = inr (value y m - 1, leads_by (jump_by m) y h (value y m - 1) e j, refl); there = ap (goes_on end) (sym j) }, same_self nothing (applied h y) (clear_after h y i b.clear));
  rests = λ y b k. absurd cc;
  halts = λ y b k e. absurd (jump_never (value y m) unchanged (sym (jumped_by m y) ∙ e));
}

-- a branch on zero
zero_test : Bool → ℕ → Core → Bool
zero_test nonzero n y = if nonzero then not (value y n == 0) else value y n == 0

zeroed : (nonzero : Bool) (n t : ℕ) (y : Core) → zero_to nonzero n t y ≡ Ok (branch_if (zero_test nonzero n y) t)
unfolding meant zero_test
zeroed nonzero n t y = refl

other_test : (nonzero : Bool) (n : ℕ) (y : Core) → zero_test (not nonzero) n y ≡ not (zero_test nonzero n y)
unfolding zero_test
other_test true n y = not_not (value y n == 0)
  where
    not_not : (b : Bool) → b ≡ not (not b)
    not_not true = refl
    not_not false = refl
other_test false n y = refl

pub zero_branch_is_done : ZeroBranchCarries
zero_branch_is_done nonzero n t end = record {
  acts = λ y h b k m.
      elim (zero_test nonzero n y) as (λ v. zero_test nonzero n y ≡ v → (z : Core) × Reaches Settles end (zero_to (not nonzero) n end ∷ branch_to Al t ∷ []) y h.exit z × SameBut nothing (applied h y) z) [
        | true ↦ λ e.
            let is : going t ≡ h = ok_is (going t) h (zero_to nonzero n t y) (zeroed nonzero n t y ∙ ap (λ b. Ok (branch_if b t)) e) m in
            let f : zero_to (not nonzero) n end y ≡ Ok unchanged = zeroed (not nonzero) n end y ∙ ap (λ b. Ok (branch_if b end)) (other_test nonzero n y ∙ ap not e) in
            subst (λ (h : Change). (z : Core) × Reaches Settles end (zero_to (not nonzero) n end ∷ branch_to Al t ∷ []) y h.exit z × SameBut nothing (applied h y) z) is (
              y,
              record { out = Jumps t; chain = inl (y, rests_settled (zero_to (not nonzero) n end) y b.clear f, inr (t, branch_taken Al t y b.clear refl, refl)); there = refl },
              subst (λ x. SameBut nothing x y) (sym (left_alone y b.clear)) (same_self nothing y b.clear),
            )
        | false ↦ λ e.
            let is : unchanged ≡ h = ok_is unchanged h (zero_to nonzero n t y) (zeroed nonzero n t y ∙ ap (λ b. Ok (branch_if b t)) e) m in
            let f : zero_to (not nonzero) n end y ≡ Ok (going end) = zeroed (not nonzero) n end y ∙ ap (λ b. Ok (branch_if b end)) (other_test nonzero n y ∙ ap not e) in
            subst (λ (h : Change). (z : Core) × Reaches Settles end (zero_to (not nonzero) n end ∷ branch_to Al t ∷ []) y h.exit z × SameBut nothing (applied h y) z) is (
              y,
              record { out = Jumps end; chain = inr (end, jumps_away (zero_to (not nonzero) n end) y end b.clear f, refl); there = refl },
              subst (λ x. SameBut nothing x y) (sym (left_alone y b.clear)) (same_self nothing y b.clear),
            )
      ] refl;
  rests = λ y b k. absurd cc;
  halts = λ y b k m. absurd (ok_never (branch_if (zero_test nonzero n y) t) (sym (zeroed nonzero n t y) ∙ m));
}

-- calls
pub linked : (back : ℕ) (y : Core) → y.it ≡ 0 → Settles (link_to back) y (applied (linking back) y)
linked back y it = settles (link_to back) y (linking back) it refl refl refl refl

called_to : (t back : ℕ) (y : Core) → call_to t back y ≡ Ok (record (linking back) { exit = Jumps t })
unfolding meant
called_to t back y = refl

pub direct_call_is_done : DirectCallCarries
direct_call_is_done t back end = record {
  acts = λ y h b k m.
      let g : Change = record (linking back) { exit = Jumps t } in
      let is : g ≡ h = ok_is g h (call_to t back y) (called_to t back y) m in
      let y1 : Core = applied (linking back) y in
      let s = linked back y b.clear in
      subst (λ (h : Change). (z : Core) × Reaches Settles end (link_to back ∷ branch_to Al t ∷ []) y h.exit z × SameBut nothing (applied h y) z) is (
        y1,
        record { out = Jumps t; chain = inl (y1, s, inr (t, branch_taken Al t y1 s.clear refl, refl)); there = refl },
        same_self nothing y1 s.clear,
      );
  rests = λ y b k. absurd cc;
  halts = λ y b k m. absurd (ok_never (record (linking back) { exit = Jumps t }) (sym (called_to t back y) ∙ m));
}

called_by : (m back : ℕ) (y : Core) → call_by m back y ≡ jump_to (value y m) (linking back)
unfolding meant
called_by m back y = refl

-- a jump by a register that holds what was called
jump_on : (m q back : ℕ) (y y1 : Core) (h : Change) → value y1 q ≡ value y m → call_by m back y ≡ Ok h → y1.it ≡ 0 → Leads (jump_by q) y1 (value y m - 1) y1
jump_on m q back y y1 h same e it = jumps_away (jump_by q) y1 (value y m - 1) it (jumped_by q y1 ∙ ap (λ v. jump_to v unchanged) same ∙ go (value y m) (sym (called_by m back y) ∙ e))
  where
    go : (v : ℕ) → jump_to v (linking back) ≡ Ok h → jump_to v unchanged ≡ Ok (going (v - 1))
    go v e = odd (v % 2 == 1) e
      where
        odd : (b : Bool) → (if b then Ok (record (linking back) { exit = Jumps (v - 1) }) else Err fault.BadJump) ≡ Ok h → (if b then Ok (going (v - 1)) else Err fault.BadJump) ≡ Ok (going (v - 1))
        odd true e = refl
        odd false e = absurd cc

pub register_call_is_done : RegisterCallCarries
register_call_is_done m back end ne = record {
  acts = λ y h b k e.
      let g : Change = record (linking back) { exit = Jumps (value y m - 1) } in
      let is : g ≡ h = jump_made (value y m) (linking back) h (sym (called_by m back y) ∙ e) in
      let y1 : Core = applied (linking back) y in
      let s = linked back y b.clear in
      let kept : value y1 m ≡ value y m = ap (λ w. w.bits) (get_or-set_other y.regs 14 m (plain (back + 1)) (plain 0) ne) in
      let leap = jump_on m m back y y1 h kept e s.clear in
      subst (λ (h : Change). (z : Core) × Reaches Settles end (link_to back ∷ jump_by m ∷ []) y h.exit z × SameBut nothing (applied h y) z) is (
        y1,
        record { out = Jumps (value y m - 1); chain = inl (y1, s, inr (value y m - 1, leap, refl)); there = refl },
        same_self nothing y1 s.clear,
      );
  rests = λ y b k. absurd cc;
  halts = λ y b k e. absurd (jump_never (value y m) (linking back) (sym (called_by m back y) ∙ e));
}

pub link_call_is_done : LinkCallCarries
link_call_is_done back q end lt = record {
  acts = λ y h b k e.
      let g : Change = record (linking back) { exit = Jumps (value y 14 - 1) } in
      let is : g ≡ h = jump_made (value y 14) (linking back) h (sym (called_by 14 back y) ∙ e) in
      let h1 : Change = writing ((q, read y 14) ∷ []) in
      let f1 : done (moving false q 14) y ≡ Ok h1 = move_low q 14 y lt in
      let s1 = twice_settles (moving false q 14) no_ends y h1 refl (moving_away q 14 lt (λ (e : 14 ≡ q). omega arith) (omega arith)) b.clear f1 in
      let y1 : Core = applied h1 y in
      let y2 : Core = applied (linking back) y1 in
      let s2 = linked back y1 s1.clear in
      let there : q < length y.regs = let c = b.count in omega arith in
      let ne : q ≢ 14 = λ (e : q ≡ 14). omega arith in
      let held : value y2 q ≡ value y 14 = ap (λ w. w.bits) (get_or-set_other y1.regs 14 q (plain (back + 1)) (plain 0) ne ∙ read_set y q (read y 14) there) in
      let leap = jump_on 14 q back y y2 h held e s2.clear in
      let n = near_applied (only q) g y y1 (near_lost (only q) y q (read y 14) (same_number q)) in
      let near : Near (only q) (applied g y) y2 = record { count = n.count; regs = n.regs; n = n.n; z = n.z; c = n.c; v = n.v; memory = n.memory } in
      subst (λ (h : Change). (z : Core) × Reaches Settles end (done (moving false q 14) ∷ link_to back ∷ jump_by q ∷ []) y h.exit z × SameBut (only q) (applied h y) z) is (
        y2,
        record { out = Jumps (value y 14 - 1); chain = inl (y1, s1, inl (y2, s2, inr (value y 14 - 1, leap, refl))); there = refl },
        near_same (only q) (applied g y) y2 near s2.clear,
      );
  rests = λ y b k. absurd cc;
  halts = λ y b k e. absurd (jump_never (value y 14) (linking back) (sym (called_by 14 back y) ∙ e));
}
