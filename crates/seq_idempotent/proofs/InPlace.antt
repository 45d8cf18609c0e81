-- What is idempotent stays as it is, with its numbers led to their goals.
use Rattle.std.proofs.Common.{ℕ, ◌≡◌, ◌≢◌, ◌≤◌, Bool, true, false, List, [], ◌∷◌, refl, sym, ap, subst, arith}
use Rattle.std.specs.Prelude.{◌==◌, if◌then◌else◌}
use Rattle.std.proofs.lemmas.Bool.Decides.{nat_tests}
use Rattle.thumb_instr.specs.declared.refusals.ItPlace.TheVariants.{Outside}
use Rattle.thumb_instr.specs.declared.instructions.Instr.{Instr}
use Rattle.thumb_instr.specs.declared.instructions.Instr.TheVariants.{Alu, Move, Test, ShiftBy, Wide, Half, Field, Unary, Mul, MulAcc, LongMul, Div, Access, Pair, Multi, Literal, Adr, Branch, ZeroBranch, Call, Jump, CallReg, It, Nothing, Trap}
use Rattle.thumb_instr.specs.Fields.{HalfFields}
use Rattle.thumb_instr.specs.Formed.{DecodesFormed}
use Rattle.thumb_instr.specs.Idempotence.{IsIdempotent}
use Rattle.thumb_table.specs.States.{Core}
use Rattle.seq_core.specs.declared.classes.Class.TheVariants as class
use Rattle.seq_core.specs.Accepted.{DecodesApart}
use Rattle.seq_core.specs.Classes.{has_pc}
use Rattle.seq_core.specs.Does.{Effect}
use Rattle.seq_core.specs.Meanings.{meant}
use Rattle.seq_core.specs.Sequences.{Carries, Settles}
use Rattle.seq_core.specs.Groups.{nothing}
use Rattle.seq_core.specs.Twice.{HalfCarries}
use Rattle.seq_core.specs.Decoded.{IdempotentDecodes}
use Rattle.seq_core.specs.Denoted.{Spots, denoted, groups_of}
use Rattle.seq_core.specs.Straight.{own_goal, twice_steps}
use Rattle.seq_core.specs.Builders.{CanBuild, ClassesTellMeanings, Do, HasRow, MoreMayBeLost, StepsDo, ends_of, loses, meaning, own_test, returned}

-- the laws that it stands on
pub record Laws : Type 0 where
  pub idempotent : IdempotentDecodes
  pub halves : HalfCarries
  pub formed : DecodesFormed
  pub apart : DecodesApart
  pub meanings : ClassesTellMeanings
  pub more : MoreMayBeLost
  pub steps : StepsDo

abbrev InPlace : Spots → Instr → Type 0
InPlace p i = Carries Settles p.end (own_test i) (meant i (ends_of p)) nothing (denoted p (own_goal i) i ∷ [])

not_apart : true ≡ false → ⊥
not_apart e = absurd cc

-- MOVW and MOVT, with their mark
halved : Laws → (p : Spots) (i : HalfFields) → HasRow (Half i) → InPlace p (Half i)
unfolding meant
halved laws p i row =
    let low : i.d ≤ 14 = (laws.formed Outside row.first row.second (Half i) row.stands).registers in
    let kept : (i.d == 13) ≡ false = (laws.apart Outside row.first row.second (Half i) row.stands).1 in
    let stack : i.d ≢ 13 = λ e. grind (arith, nat_tests) in
    laws.halves i.top i.d i.imm p.end p.mark (omega arith) stack

kept : Laws → (p : Spots) (i : Instr) → HasRow i → IsIdempotent i → Carries Settles p.end (own_test i) (meant i (ends_of p)) nothing (meant i (ends_of p) ∷ [])
kept laws p i row idempotent = laws.idempotent Outside row.first row.second i (ends_of p) p.end row.stands idempotent

base : Laws → (p : Spots) (i : Instr) → HasRow i → IsIdempotent i → InPlace p i
unfolding meant
base laws p (Alu i) row idempotent = kept laws p (Alu i) row idempotent
base laws p (Move i) row idempotent = kept laws p (Move i) row idempotent
base laws p (Test i) row idempotent = kept laws p (Test i) row idempotent
base laws p (ShiftBy i) row idempotent = kept laws p (ShiftBy i) row idempotent
base laws p (Wide i) row idempotent = kept laws p (Wide i) row idempotent
base laws p (Half i) row idempotent = halved laws p i row
base laws p (Field i) row idempotent = kept laws p (Field i) row idempotent
base laws p (Unary i) row idempotent = kept laws p (Unary i) row idempotent
base laws p (Mul i) row idempotent = kept laws p (Mul i) row idempotent
base laws p (MulAcc i) row idempotent = kept laws p (MulAcc i) row idempotent
base laws p (LongMul i) row idempotent = kept laws p (LongMul i) row idempotent
base laws p (Div i) row idempotent = kept laws p (Div i) row idempotent
base laws p (Access i) row idempotent = kept laws p (Access i) row idempotent
base laws p (Pair i) row idempotent = kept laws p (Pair i) row idempotent
base laws p (Multi i) row idempotent = kept laws p (Multi i) row idempotent
base laws p (Literal i) row idempotent = kept laws p (Literal i) row idempotent
base laws p (Adr i) row idempotent = absurd (not_apart idempotent.1)
base laws p (Branch i) row idempotent = kept laws p (Branch i) row idempotent
base laws p (ZeroBranch i) row idempotent = absurd (not_apart idempotent.1)
base laws p (Call i) row idempotent = absurd (not_apart idempotent.1)
base laws p (Jump i) row idempotent = absurd (not_apart idempotent.1)
base laws p (CallReg i) row idempotent = absurd (not_apart idempotent.1)
base laws p (It i) row idempotent = absurd (not_apart idempotent.1)
base laws p (Nothing i) row idempotent = kept laws p (Nothing i) row idempotent
base laws p (Trap i) row idempotent = kept laws p (Trap i) row idempotent

means : (p : Spots) (i : Instr) → has_pc i ≡ false → meaning p i ≡ meant i (ends_of p)
means p i e = ap (λ (b : Bool). λ (y : Core). if b then returned (meant i (ends_of p) y) else meant i (ends_of p) y) e

pub twice_does : Laws → (i : Instr) (scratch : List ℕ) (copies : ℕ) → CanBuild class.Twice i scratch copies → Do (own_test i) i (loses i scratch) copies (twice_steps copies i)
twice_does laws i scratch copies can = laws.steps (own_test i) i (loses i scratch) copies (twice_steps copies i) (λ p. carried p)
  where
    carried : (p : Spots) → Carries Settles p.end (own_test i) (meaning p i) (loses i scratch) (groups_of p (twice_steps copies i))
    carried p =
        subst (λ (e : Effect). Carries Settles p.end (own_test i) e (loses i scratch) (groups_of p (twice_steps copies i))) (sym (means p i ((laws.meanings class.Twice i can.of).0 (λ e. cc))))
        (laws.more p.end (own_test i) (meant i (ends_of p)) nothing (loses i scratch) (groups_of p (twice_steps copies i)) (λ k h. refl) (base laws p i can.row can.of))
