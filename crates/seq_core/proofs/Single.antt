-- Sequences of single copies.
use Rattle.std.proofs.Common.{◌≡◌, ℕ, Bool, true, false, List, [], ◌∷◌, inl, inr, ⊎_elim, None, Ok, refl, ap, subst}
use Rattle.thumb_instr.specs.declared.instructions.Instr.{Instr}
use Rattle.thumb_instr.specs.declared.instructions.Instr.TheVariants.{Alu, Move, Test, ShiftBy, Wide, Half, Field, Unary, Mul, MulAcc, LongMul, Div, Access, Pair, Multi, Literal, Adr, Branch, ZeroBranch, Call, Jump, CallReg, It, Nothing, Trap}
use Rattle.thumb_table.specs.States.{Core, Change, Exit, Falls, Jumps, applied, unchanged}
use Rattle.thumb_table.specs.Conditions.{holds}
use Rattle.thumb_table.specs.Effects.{branch_if}
use Rattle.seq_core.specs.Does.{Effect}
use Rattle.seq_core.specs.Meanings.{Ends, meant, nowhere, linking}
use Rattle.seq_core.specs.Reading.{starts_block}
use Rattle.seq_core.specs.Sequences.{Settles, Moves, Chain, Trapped, Reaches}
use Rattle.seq_core.specs.Groups.{nothing}
use Rattle.seq_core.specs.Twice.{own_condition}
use Rattle.seq_core.specs.Single.{ItselfCarries, SettledCarries}
use Rattle.seq_core.proofs.Written.{ok_is}
use Rattle.seq_core.proofs.Quiet.{quiet, one_quiet, jump_quiet}
use Rattle.seq_core.proofs.Again.{clear_after}
use Rattle.seq_core.proofs.Twice.{same_self}
use Rattle.seq_core.proofs.Guard.{moves_of, left_alone}

-- ---- what settles

moved_chain : (es : List Effect) (x : Core) (out : Exit) (y : Core) → Chain Settles es x out y → Chain Moves es x out y
moved_chain [] x out y k = k
moved_chain (e ∷ es) x out y k = ⊎_elim
    (λ (f : (m : Core) × Settles e x m × Chain Settles es m out y). inl (f.0, moves_of e x f.0 f.1, moved_chain es f.0 out y f.2))
    (λ f. inr f)
    k

moved_trap : (es : List Effect) (x : Core) → Trapped Settles es x → Trapped Moves es x
moved_trap [] x t = t
moved_trap (e ∷ es) x t = ⊎_elim (λ f. inl f) (λ (f : Settles e x x × Trapped Settles es x). inr (moves_of e x x f.0, moved_trap es x f.1)) t

reaches_once : (end : ℕ) (es : List Effect) (y : Core) (exit : Exit) (z : Core) → Reaches Settles end es y exit z → Reaches Moves end es y exit z
reaches_once end es y exit z r = record { out = r.out; chain = moved_chain es y r.out z r.chain; there = r.there }

pub settled_carries : SettledCarries
settled_carries end taken effect loses groups s = record {
  acts = λ y h b t m. let a = s.acts y h b t m in (a.0, reaches_once end groups y h.exit a.0 a.1, a.2);
  rests = λ y b t. reaches_once end groups y Falls y (s.rests y b t);
  halts = λ y b t m. moved_trap groups y (s.halts y b t m);
}

-- ---- any instruction

branched_it : (b : Bool) (t : ℕ) → (branch_if b t).it ≡ None
branched_it true t = refl
branched_it false t = refl

meant_it : (i : Instr) (e : Ends) (x : Core) (h : Change) → starts_block i ≡ false → meant i e x ≡ Ok h → h.it ≡ None
unfolding meant
meant_it (Literal i) e x h g m = (one_quiet i.t e.word h m).it
meant_it (Branch i) e x h g m = subst (λ (h : Change). h.it ≡ None) (ok_is _ h _ refl m) (branched_it _ e.target)
meant_it (ZeroBranch i) e x h g m = subst (λ (h : Change). h.it ≡ None) (ok_is _ h _ refl m) (branched_it _ e.target)
meant_it (Call i) e x h g m = subst (λ (h : Change). h.it ≡ None) (ok_is _ h _ refl m) refl
meant_it (CallReg i) e x h g m = (jump_quiet (CallReg i) _ (linking e.back) h (record { memory = λ f. refl; it = refl }) refl m).it refl
meant_it (It i) e x h g m = absurd cc
meant_it (Alu i) e x h g m = (quiet (Alu i) nowhere x h m).it refl
meant_it (Move i) e x h g m = (quiet (Move i) nowhere x h m).it refl
meant_it (Test i) e x h g m = (quiet (Test i) nowhere x h m).it refl
meant_it (ShiftBy i) e x h g m = (quiet (ShiftBy i) nowhere x h m).it refl
meant_it (Wide i) e x h g m = (quiet (Wide i) nowhere x h m).it refl
meant_it (Half i) e x h g m = (quiet (Half i) nowhere x h m).it refl
meant_it (Field i) e x h g m = (quiet (Field i) nowhere x h m).it refl
meant_it (Unary i) e x h g m = (quiet (Unary i) nowhere x h m).it refl
meant_it (Mul i) e x h g m = (quiet (Mul i) nowhere x h m).it refl
meant_it (MulAcc i) e x h g m = (quiet (MulAcc i) nowhere x h m).it refl
meant_it (LongMul i) e x h g m = (quiet (LongMul i) nowhere x h m).it refl
meant_it (Div i) e x h g m = (quiet (Div i) nowhere x h m).it refl
meant_it (Access i) e x h g m = (quiet (Access i) nowhere x h m).it refl
meant_it (Pair i) e x h g m = (quiet (Pair i) nowhere x h m).it refl
meant_it (Multi i) e x h g m = (quiet (Multi i) nowhere x h m).it refl
meant_it (Adr i) e x h g m = (quiet (Adr i) nowhere x h m).it refl
meant_it (Jump i) e x h g m = (quiet (Jump i) nowhere x h m).it refl
meant_it (Nothing i) e x h g m = (quiet (Nothing i) nowhere x h m).it refl
meant_it (Trap i) e x h g m = (quiet (Trap i) nowhere x h m).it refl

-- where a change leads
one_chain : (f : Effect) (end : ℕ) (y : Core) (h : Change) (exit : Exit) → h.exit ≡ exit → f y ≡ Ok h → (applied h y).it ≡ 0 → Chain Moves (f ∷ []) y exit (applied h y)
one_chain f end y h Falls x m it = inl (applied h y, record { made = h; makes = m; falls = x; comes = refl; clear = it }, (refl, refl))
one_chain f end y h (Jumps t) x m it = inr (t, record { made = h; makes = m; jumps = x; comes = refl }, refl)

abbrev Rests : Instr → Ends → ℕ → Core → Type 0
Rests i e end y = Reaches Moves end (meant i e ∷ []) y Falls y

rests_by : (i : Instr) (e : Ends) (end : ℕ) (y : Core) → y.it ≡ 0 → holds (own_condition i) y ≡ false → Rests i e end y
unfolding meant
rests_by (Branch i) e end y it t = record {
  out = Falls;
  chain = inl (y, record { made = unchanged; makes = ap (λ b. Ok (branch_if b e.target)) t; falls = refl; comes = left_alone y it; clear = it }, (refl, refl));
  there = refl;
}
rests_by (Alu i) e end y it t = absurd cc
rests_by (Move i) e end y it t = absurd cc
rests_by (Test i) e end y it t = absurd cc
rests_by (ShiftBy i) e end y it t = absurd cc
rests_by (Wide i) e end y it t = absurd cc
rests_by (Half i) e end y it t = absurd cc
rests_by (Field i) e end y it t = absurd cc
rests_by (Unary i) e end y it t = absurd cc
rests_by (Mul i) e end y it t = absurd cc
rests_by (MulAcc i) e end y it t = absurd cc
rests_by (LongMul i) e end y it t = absurd cc
rests_by (Div i) e end y it t = absurd cc
rests_by (Access i) e end y it t = absurd cc
rests_by (Pair i) e end y it t = absurd cc
rests_by (Multi i) e end y it t = absurd cc
rests_by (Literal i) e end y it t = absurd cc
rests_by (Adr i) e end y it t = absurd cc
rests_by (ZeroBranch i) e end y it t = absurd cc
rests_by (Call i) e end y it t = absurd cc
rests_by (Jump i) e end y it t = absurd cc
rests_by (CallReg i) e end y it t = absurd cc
rests_by (It i) e end y it t = absurd cc
rests_by (Nothing i) e end y it t = absurd cc
rests_by (Trap i) e end y it t = absurd cc

pub itself_carries : ItselfCarries
itself_carries i e end g = record {
  acts = λ y h b t m.
      let it : (applied h y).it ≡ 0 = clear_after h y (meant_it i e y h g m) b.clear in
      (applied h y, record { out = h.exit; chain = one_chain (meant i e) end y h h.exit refl m it; there = refl }, same_self nothing (applied h y) it);
  rests = λ y b t. rests_by i e end y b.clear t;
  halts = λ y b t m. inl m;
}
