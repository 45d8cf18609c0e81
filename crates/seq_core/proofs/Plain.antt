-- Steps of instructions that name no place.
use Rattle.std.proofs.Common.{ℕ, ◌≡◌, Bool, true, false, List, [], ◌∷◌, refl, sym, subst, ap}
use Rattle.std.specs.Prelude.{map, if◌then◌else◌}
use Rattle.thumb_instr.specs.declared.instructions.Instr.{Instr}
use Rattle.thumb_instr.specs.declared.instructions.Instr.TheVariants.{Alu, Move, Test, ShiftBy, Wide, Half, Field, Unary, Mul, MulAcc, LongMul, Div, Access, Pair, Multi, Literal, Adr, Branch, ZeroBranch, Call, Jump, CallReg, It, Nothing, Trap}
use Rattle.thumb_table.specs.States.{Core}
use Rattle.seq_core.specs.declared.steps.Goal.TheVariants.{Nowhere}
use Rattle.seq_core.specs.Does.{Effect}
use Rattle.seq_core.specs.Meanings.{meant}
use Rattle.seq_core.specs.Sequences.{Carries, Settles}
use Rattle.seq_core.specs.Groups.{always, done, names_no_place}
use Rattle.seq_core.specs.Denoted.{Spots, denoted, groups_of}
use Rattle.seq_core.specs.Classes.{has_pc}
use Rattle.seq_core.specs.Built.{as_steps}
use Rattle.seq_core.specs.Builders.{MoreMayBeLost, NameNoPlace, PlainStepsDo, ends_of, meaning, own_test, returned}
use Rattle.seq_core.proofs.Doing.{steps_do}

pub lose_more : MoreMayBeLost
lose_more end t e lost more groups le carries = record {
  acts = λ y h b taken made. let r = carries.acts y h b taken made in (r.0, r.1, record { count = r.2.count; members = λ k kept. r.2.members k (le k kept); memory = r.2.memory; clear = r.2.clear });
  rests = carries.rests;
  halts = carries.halts;
}

denoted_plainly : (p : Spots) (i : Instr) → names_no_place i ≡ true → denoted p Nowhere i ≡ done i
denoted_plainly p (Alu i) e = refl
denoted_plainly p (Move i) e = refl
denoted_plainly p (Test i) e = refl
denoted_plainly p (ShiftBy i) e = refl
denoted_plainly p (Wide i) e = refl
denoted_plainly p (Half i) e = absurd cc
denoted_plainly p (Field i) e = refl
denoted_plainly p (Unary i) e = refl
denoted_plainly p (Mul i) e = refl
denoted_plainly p (MulAcc i) e = refl
denoted_plainly p (LongMul i) e = refl
denoted_plainly p (Div i) e = refl
denoted_plainly p (Access i) e = refl
denoted_plainly p (Pair i) e = refl
denoted_plainly p (Multi i) e = refl
denoted_plainly p (Literal i) e = absurd cc
denoted_plainly p (Adr i) e = absurd cc
denoted_plainly p (Branch i) e = absurd cc
denoted_plainly p (ZeroBranch i) e = absurd cc
denoted_plainly p (Call i) e = absurd cc
denoted_plainly p (Jump i) e = refl
denoted_plainly p (CallReg i) e = absurd cc
denoted_plainly p (It i) e = absurd cc
denoted_plainly p (Nothing i) e = refl
denoted_plainly p (Trap i) e = refl

groups_plainly : (p : Spots) (copies : ℕ) (instrs : List Instr) → NameNoPlace instrs → groups_of p (as_steps copies instrs) ≡ map done instrs
groups_plainly p copies [] all = refl
groups_plainly p copies (j ∷ js) all = let a = denoted_plainly p j all.0 in let b = groups_plainly p copies js all.1 in cc

tested_plainly : (i : Instr) → names_no_place i ≡ true → own_test i ≡ always
tested_plainly (Alu i) e = refl
tested_plainly (Move i) e = refl
tested_plainly (Test i) e = refl
tested_plainly (ShiftBy i) e = refl
tested_plainly (Wide i) e = refl
tested_plainly (Half i) e = absurd cc
tested_plainly (Field i) e = refl
tested_plainly (Unary i) e = refl
tested_plainly (Mul i) e = refl
tested_plainly (MulAcc i) e = refl
tested_plainly (LongMul i) e = refl
tested_plainly (Div i) e = refl
tested_plainly (Access i) e = refl
tested_plainly (Pair i) e = refl
tested_plainly (Multi i) e = refl
tested_plainly (Literal i) e = absurd cc
tested_plainly (Adr i) e = absurd cc
tested_plainly (Branch i) e = absurd cc
tested_plainly (ZeroBranch i) e = absurd cc
tested_plainly (Call i) e = absurd cc
tested_plainly (Jump i) e = refl
tested_plainly (CallReg i) e = absurd cc
tested_plainly (It i) e = absurd cc
tested_plainly (Nothing i) e = refl
tested_plainly (Trap i) e = refl

meant_plainly : (p : Spots) (i : Instr) → names_no_place i ≡ true → meant i (ends_of p) ≡ done i
unfolding meant
meant_plainly p (Alu i) e = refl
meant_plainly p (Move i) e = refl
meant_plainly p (Test i) e = refl
meant_plainly p (ShiftBy i) e = refl
meant_plainly p (Wide i) e = refl
meant_plainly p (Half i) e = absurd cc
meant_plainly p (Field i) e = refl
meant_plainly p (Unary i) e = refl
meant_plainly p (Mul i) e = refl
meant_plainly p (MulAcc i) e = refl
meant_plainly p (LongMul i) e = refl
meant_plainly p (Div i) e = refl
meant_plainly p (Access i) e = refl
meant_plainly p (Pair i) e = refl
meant_plainly p (Multi i) e = refl
meant_plainly p (Literal i) e = absurd cc
meant_plainly p (Adr i) e = absurd cc
meant_plainly p (Branch i) e = absurd cc
meant_plainly p (ZeroBranch i) e = absurd cc
meant_plainly p (Call i) e = absurd cc
meant_plainly p (Jump i) e = refl
meant_plainly p (CallReg i) e = absurd cc
meant_plainly p (It i) e = absurd cc
meant_plainly p (Nothing i) e = refl
meant_plainly p (Trap i) e = refl

means_plainly : (p : Spots) (i : Instr) → names_no_place i ≡ true → has_pc i ≡ false → meaning p i ≡ done i
means_plainly p i e f = subst (λ (w : Effect). meaning p i ≡ w) (meant_plainly p i e) (ap (λ (b : Bool). λ (y : Core). if b then returned (meant i (ends_of p) y) else meant i (ends_of p) y) f)

pub plain_steps_do : PlainStepsDo
plain_steps_do i copies instrs lost more e f all le carries =
    steps_do (own_test i) i more copies (as_steps copies instrs) (λ p. carried p)
  where
    carried : (p : Spots) → Carries Settles p.end (own_test i) (meaning p i) more (groups_of p (as_steps copies instrs))
    carried p =
        subst (λ (t : Core → Bool). Carries Settles p.end t (meaning p i) more (groups_of p (as_steps copies instrs))) (sym (tested_plainly i e))
        (subst (λ (w : Effect). Carries Settles p.end always w more (groups_of p (as_steps copies instrs))) (sym (means_plainly p i e f))
        (subst (λ (g : List Effect). Carries Settles p.end always (done i) more g) (sym (groups_plainly p copies instrs all))
        (lose_more p.end always (done i) lost more (map done instrs) le (carries p.end))))
