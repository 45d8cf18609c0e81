-- What a linked instruction means for its unit, and which of them always jump.
use Rattle.std.proofs.Common.{◌≡◌, ◌≢◌, All, zero, suc, get_or, ℕ, ◌+◌, ◌-◌, ◌%◌, Bool, true, false, List, [], ◌∷◌, ◌++◌, refl, sym, ap, ◌∙◌, arith, length, Option, Some, None, Ok, Err}
use Rattle.std.specs.Prelude.{◌==◌, if◌then◌else◌, slice_set}
use Rattle.std.proofs.lemmas.Option.{none-some}
use Rattle.mark_word.specs.Words.{Word, plain}
use Rattle.thumb_instr.specs.declared.conditions.Cond.{Cond}
use Rattle.thumb_instr.specs.declared.conditions.Cond.TheVariants.{Al}
use Rattle.thumb_instr.specs.declared.instructions.Instr.{Instr}
use Rattle.thumb_instr.specs.declared.instructions.Instr.TheVariants as instr
use Rattle.thumb_table.specs.declared.faults.FaultKind.TheVariants.{Trap, BadJump}
use Rattle.thumb_table.specs.States.{Core, Change, Exit, Falls, Jumps, Outcome, applied, unchanged, write_all}
use Rattle.thumb_table.specs.Effects.{value, jump_to}
use Rattle.reloc_places.specs.Relocations.{may_fail}
use Rattle.liveness.specs.Paths.{branch_cond}
use Rattle.seq_core.specs.Classes.{has_pc, branches_on_zero}
use Rattle.seq_core.specs.Does.{SameBut}
use Rattle.seq_core.specs.Meanings.{Ends, linking, meant}
use Rattle.seq_core.specs.Builders.{leaves_link}
use Rattle.seq_core.proofs.Again.{write_length, write_other}
use Rattle.seq_core.specs.Twice.{own_condition}
use Rattle.it_expand.specs.Expanded.{body_of}
use Rattle.sim_relation.specs.Doing.{with_number}
use Rattle.unit_work.proofs.Flowing.{calls_out}

-- TESTS

pub same_condition : (i : Instr) → own_condition i ≡ branch_cond i
same_condition (instr.Branch i) = refl
same_condition i = refl

pub never_fails : (c : Cond) → may_fail c ≡ false → c ≡ Al
never_fails Al e = refl
never_fails c e = absurd (cc)

pub calls_no_condition : (i : Instr) → calls_out i ≡ true → own_condition i ≡ Al
calls_no_condition (instr.Call i) e = refl
calls_no_condition (instr.CallReg i) e = refl
calls_no_condition i e = absurd (cc)

pub calls_no_zero : (i : Instr) → calls_out i ≡ true → branches_on_zero i ≡ true → ⊥
calls_no_zero (instr.Call i) e z = absurd (cc)
calls_no_zero (instr.CallReg i) e z = absurd (cc)
calls_no_zero i e z = absurd (cc)

-- EFFECTS

pub same_pc : (r : Option ℕ) (n : ℕ) (i : Instr) → has_pc (with_number r n i) ≡ has_pc i
same_pc None n i = refl
same_pc (Some k) n (instr.Half i) = refl
same_pc (Some k) n i = refl

abbrev ok : Change → Outcome
ok h = Ok h

abbrev bad_jump : Outcome
bad_jump = Err BadJump

ok_same : (g h : Change) → ok g ≡ Ok h → g ≡ h
ok_same g h e = cc

not_ok : (g : Change) → ok g ≡ Err Trap → ⊥
not_ok g e = absurd (cc)

not_bad : (h : Change) → bad_jump ≡ Ok h → ⊥
not_bad h e = absurd (cc)

jumped : (bits : ℕ) (g h : Change) → jump_to bits g ≡ Ok h → (t : ℕ) × (h.exit ≡ Jumps t)
jumped bits g h m = go (bits % 2 == 1) m
  where
    go : (b : Bool) → (if b then Ok (record g { exit = Jumps (bits - 1) }) else Err BadJump) ≡ Ok h → (t : ℕ) × (h.exit ≡ Jumps t)
    go true m = (bits - 1, ap (λ (f : Change). f.exit) (sym (ok_same (record g { exit = Jumps (bits - 1) }) h m)))
    go false m = absurd (not_bad h m)

-- a call always jumps
pub calls_jump : (r : Option ℕ) (n : ℕ) (i : Instr) (e : Ends) (y : Core) (h : Change) → calls_out i ≡ true → meant (with_number r n i) e y ≡ Ok h → (t : ℕ) × (h.exit ≡ Jumps t)
unfolding meant
calls_jump None n (instr.Call i) e y h c m = (e.target, ap (λ (g : Change). g.exit) (sym (ok_same (record (linking e.back) { exit = Jumps e.target }) h m)))
calls_jump (Some k) n (instr.Call i) e y h c m = (e.target, ap (λ (g : Change). g.exit) (sym (ok_same (record (linking e.back) { exit = Jumps e.target }) h m)))
calls_jump None n (instr.CallReg i) e y h c m = jumped (value y i.m) (linking e.back) h m
calls_jump (Some k) n (instr.CallReg i) e y h c m = jumped (value y i.m) (linking e.back) h m
calls_jump r n i e y h c m = absurd (cc)

pub it_means : (r : Option ℕ) (n : ℕ) (i : Instr) (e : Ends) (y : Core) → body_of i ≡ None → meant (with_number r n i) e y ≡ Ok unchanged
unfolding meant
it_means None n (instr.It i) e y b = refl
it_means (Some k) n (instr.It i) e y b = refl
it_means r n i e y b = absurd (none-some _ (sym b))

-- WHAT A RETURN LEAVES

pub same_exit : (h : Change) → (leaves_link h.exit h).exit ≡ h.exit
same_exit h = go h.exit refl
  where
    go : (e : Exit) → h.exit ≡ e → (leaves_link e h).exit ≡ h.exit
    go Falls e = refl
    go (Jumps t) e = refl

write_more : (ws vs : List (ℕ × Word)) (r : List Word) → write_all (ws ++ vs) r ≡ write_all vs (write_all ws r)
write_more [] vs r = refl
write_more (w ∷ ws) vs r = write_more ws vs (slice_set r w.0 w.1)

one_other : (k : ℕ) (w : ℕ × Word) → k ≢ w.0 → All (λ (v : ℕ × Word). k ≢ v.0) (w ∷ [])
one_other k w n zero d lt e = n e
one_other k w n (suc i) d lt e = absurd (omega arith)

pub less_lost : (lost more : ℕ → Bool) (y z : Core) → ((k : ℕ) → more k ≡ false → lost k ≡ false) → SameBut lost y z → SameBut more y z
less_lost lost more y z fewer same = record { count = same.count; members = λ k e. same.members k (fewer k e); memory = same.memory; clear = same.clear }

-- lr is lost, too
pub link_lost : (lost more : ℕ → Bool) (h : Change) (y z : Core) → ((k : ℕ) → more k ≡ false → (lost k ≡ false) × (k ≢ 14)) → SameBut lost (applied (leaves_link h.exit h) y) z → SameBut more (applied h y) z
link_lost lost more h y z fewer same = go h.exit same
  where
    go : (e : Exit) → SameBut lost (applied (leaves_link e h) y) z → SameBut more (applied h y) z
    go Falls s = less_lost lost more (applied h y) z (λ k e. (fewer k e).0) s
    go (Jumps t) s =
        let link : List (ℕ × Word) = (14, plain (t + 1)) ∷ [] in
        let all : write_all (h.regs ++ link) y.regs ≡ write_all link (write_all h.regs y.regs) = write_more h.regs link y.regs in
        let long : length (write_all (h.regs ++ link) y.regs) ≡ length y.regs = write_length (h.regs ++ link) y.regs in
        let plainly : length (write_all h.regs y.regs) ≡ length y.regs = write_length h.regs y.regs in
        record {
          count = s.count ∙ (long ∙ sym plainly);
          members = λ k e.
              let few = fewer k e in
              let kept = s.members k few.0 in
              let other : get_or (write_all (h.regs ++ link) y.regs) k (plain 0) ≡ get_or (write_all h.regs y.regs) k (plain 0) =
              ap (λ (r : List Word). get_or r k (plain 0)) all ∙ write_other link (write_all h.regs y.regs) k (one_other k (14, plain (t + 1)) few.1) in
              record { word = λ l. ap (λ (w : Word). w.bits) (sym other) ∙ kept.word l; n = kept.n; z = kept.z; c = kept.c; v = kept.v };
          memory = s.memory;
          clear = s.clear;
        }
