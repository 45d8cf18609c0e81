-- Calls, jumps and branches are done by their steps.
use Rattle.std.proofs.Common.{◌≡◌, ◌≢◌, ◌<◌, ◌≤◌, ℕ, Bool, true, false, List, [], ◌∷◌, length, refl, sym, ◌∙◌, subst, arith}
use Rattle.std.specs.Prelude.{not, ◌==◌, ◌||◌}
use Rattle.std.proofs.Math.Path.{fun_ext}
use Rattle.std.proofs.lemmas.Bool.{eqb-true, eq-eqb, true≢false}
use Rattle.std.proofs.lemmas.Bool.Decides.{nat_tests}
use Rattle.thumb_instr.specs.declared.instructions.Instr.{Instr}
use Rattle.thumb_instr.specs.declared.instructions.Instr.TheVariants as instr
use Rattle.thumb_instr.specs.Fields.{CallFields, CallRegFields, JumpFields, ZeroBranchFields}
use Rattle.thumb_instr.specs.Formed.{DecodesFormed}
use Rattle.thumb_instr.specs.declared.refusals.ItPlace.TheVariants.{Outside}
use Rattle.seq_core.specs.declared.classes.Class.TheVariants as class
use Rattle.seq_core.specs.declared.steps.Goal.TheVariants.{Nowhere}
use Rattle.seq_core.specs.Accepted.{DecodesTestLow}
use Rattle.seq_core.specs.Classes.{IsOf}
use Rattle.seq_core.specs.Meanings.{meant}
use Rattle.seq_core.specs.Does.{Effect}
use Rattle.seq_core.specs.Sequences.{Carries, Settles}
use Rattle.seq_core.specs.Groups.{always, only, call_by, link_to, jump_by, done, moving}
use Rattle.seq_core.specs.Calls.{DirectCallCarries, RegisterCallCarries, LinkCallCarries, RegisterJumpCarries, ZeroBranchCarries}
use Rattle.seq_core.specs.Denoted.{Spots, groups_of}
use Rattle.mark_word.specs.Formulas.{one_if}
use Rattle.seq_core.specs.Replaced.{called, register_called, leading, zero_branched}
use Rattle.seq_core.specs.Builders.{AreCoded, AreFree, CanBuild, Do, StepsDo, HasRow, loses, meaning, own_test}
use Rattle.seq_calls.proofs.Coded.{link_row, branch_row, jump_row, copy_row, zero_row}

-- BL
direct_carries : DirectCallCarries → (a : CallFields) (p : Spots) (copies : ℕ) →
    Carries Settles p.end (own_test (instr.Call a)) (meaning p (instr.Call a)) (loses (instr.Call a) []) (groups_of p (called copies))
unfolding meant
direct_carries law a p copies = law p.target p.back p.end

pub direct_call_does : DirectCallCarries → StepsDo → (i : Instr) (scratch : List ℕ) (copies : ℕ) → IsOf class.DirectCall i → length scratch ≡ 0 →
    Do (own_test i) i (loses i scratch) copies (called copies)
direct_call_does law does (instr.Call a) [] copies of few = does (own_test (instr.Call a)) (instr.Call a) (loses (instr.Call a) []) copies (called copies) (λ p. direct_carries law a p copies)
direct_call_does law does (instr.Call a) (q ∷ qs) copies of few = absurd (omega arith)
direct_call_does law does i scratch copies of few = absurd cc

pub call_coded : (copies : ℕ) → AreCoded (called copies)
call_coded copies = (link_row, (branch_row, tt))

-- BX
jump_carries : RegisterJumpCarries → (a : JumpFields) (p : Spots) (copies : ℕ) →
    Carries Settles p.end (own_test (instr.Jump a)) (meaning p (instr.Jump a)) (loses (instr.Jump a) []) (groups_of p (leading copies Nowhere (instr.Jump a) ∷ []))
unfolding meant
jump_carries law a p copies = law a.m p.end

pub register_jump_does : RegisterJumpCarries → StepsDo → (i : Instr) (scratch : List ℕ) (copies : ℕ) → IsOf class.RegisterJump i → length scratch ≡ 0 →
    Do (own_test i) i (loses i scratch) copies (leading copies Nowhere i ∷ [])
register_jump_does law does (instr.Jump a) [] copies of few =
    does (own_test (instr.Jump a)) (instr.Jump a) (loses (instr.Jump a) []) copies (leading copies Nowhere (instr.Jump a) ∷ []) (λ p. jump_carries law a p copies)
register_jump_does law does (instr.Jump a) (q ∷ qs) copies of few = absurd (omega arith)
register_jump_does law does i scratch copies of few = absurd cc

-- CBZ and CBNZ
zero_carries : ZeroBranchCarries → (a : ZeroBranchFields) (p : Spots) (copies : ℕ) →
    Carries Settles p.end (own_test (instr.ZeroBranch a)) (meaning p (instr.ZeroBranch a)) (loses (instr.ZeroBranch a) []) (groups_of p (zero_branched copies (instr.ZeroBranch a)))
unfolding meant
zero_carries law a p copies = law a.nonzero a.n p.target p.end

pub zero_branch_does : ZeroBranchCarries → StepsDo → (i : Instr) (scratch : List ℕ) (copies : ℕ) → IsOf class.ZeroBranch i → length scratch ≡ 0 →
    Do (own_test i) i (loses i scratch) copies (zero_branched copies i)
zero_branch_does law does (instr.ZeroBranch a) [] copies of few =
    does (own_test (instr.ZeroBranch a)) (instr.ZeroBranch a) (loses (instr.ZeroBranch a) []) copies (zero_branched copies (instr.ZeroBranch a)) (λ p. zero_carries law a p copies)
zero_branch_does law does (instr.ZeroBranch a) (q ∷ qs) copies of few = absurd (omega arith)
zero_branch_does law does i scratch copies of few = absurd cc

pub zero_branch_coded : DecodesTestLow → (i : Instr) (copies : ℕ) → IsOf class.ZeroBranch i → HasRow i → AreCoded (zero_branched copies i)
zero_branch_coded low (instr.ZeroBranch a) copies of r =
    let t = low Outside r.first r.second (instr.ZeroBranch a) r.stands in
    let small : a.n < 8 = grind (arith, nat_tests) in
    (zero_row (not a.nonzero) a.n small, (branch_row, tt))
zero_branch_coded low i copies of r = absurd cc

-- BLX
lost_one : (q : ℕ) → only q ≡ (λ k. ((q == k) || false) || false)
lost_one q = fun_ext (λ k. same (q == k) (k == q) (turned q k))
  where
    same : (a b : Bool) → a ≡ b → b ≡ ((a || false) || false)
    same true b e = sym e
    same false b e = sym e

    turned : (a b : ℕ) → (a == b) ≡ (b == a)
    turned a b = grind (arith, nat_tests)

register_carries : RegisterCallCarries → (a : CallRegFields) (p : Spots) (copies : ℕ) → a.m ≢ 14 →
    Carries Settles p.end (own_test (instr.CallReg a)) (meaning p (instr.CallReg a)) (loses (instr.CallReg a) []) (groups_of p (register_called copies (instr.CallReg a) []))
unfolding meant
register_carries law a p copies ne = law a.m p.back p.end ne

link_carries : LinkCallCarries → (a : CallRegFields) (q : ℕ) (p : Spots) (copies : ℕ) → a.m ≡ 14 → q < 13 →
    Carries Settles p.end (own_test (instr.CallReg a)) (meaning p (instr.CallReg a)) (loses (instr.CallReg a) (q ∷ [])) (groups_of p (register_called copies (instr.CallReg a) (q ∷ [])))
unfolding meant
link_carries law a q p copies e low =
    let groups : List Effect = done (moving false q 14) ∷ link_to p.back ∷ jump_by q ∷ [] in
    subst (λ lost. Carries Settles p.end always (call_by a.m p.back) lost groups) (lost_one q)
    (subst (λ m. Carries Settles p.end always (call_by m p.back) (only q) groups) (sym e) (law p.back q p.end low))

module _ (law : RegisterCallCarries) (link_law : LinkCallCarries) (does : StepsDo) (a : CallRegFields) (copies : ℕ) where
  abbrev call : Instr
  call = instr.CallReg a

  by_link : (b : Bool) → (a.m == 14) ≡ b → (scratch : List ℕ) → length scratch ≡ one_if b → AreFree call scratch → Do (own_test call) call (loses call scratch) copies (register_called copies call scratch)
  by_link false k [] few free =
      let ne : a.m ≢ 14 = λ e. true≢false (sym (eq-eqb a.m 14 e) ∙ k) in
      does (own_test call) call (loses call []) copies (register_called copies call []) (λ p. register_carries law a p copies ne)
  by_link true k (q ∷ []) few free = does (own_test call) call (loses call (q ∷ [])) copies (register_called copies call (q ∷ [])) (λ p. link_carries link_law a q p copies (eqb-true a.m 14 k) free.0.low)
  by_link false k (q ∷ qs) few free = absurd (omega arith)
  by_link true k [] few free = absurd (omega arith)
  by_link true k (q ∷ r ∷ qs) few free = absurd (omega arith)

pub register_call_does : RegisterCallCarries → LinkCallCarries → StepsDo → (i : Instr) (scratch : List ℕ) (copies : ℕ) → CanBuild class.RegisterCall i scratch copies →
    Do (own_test i) i (loses i scratch) copies (register_called copies i scratch)
register_call_does law link_law does (instr.CallReg a) scratch copies g = by_link law link_law does a copies (a.m == 14) refl scratch g.enough g.free
register_call_does law link_law does i scratch copies g = let of = g.of in absurd cc

pub register_call_coded : DecodesFormed → (i : Instr) (scratch : List ℕ) (copies : ℕ) → IsOf class.RegisterCall i → HasRow i → AreFree i scratch → AreCoded (register_called copies i scratch)
register_call_coded formed (instr.CallReg a) [] copies of r free = (link_row, (jump_row a.m (formed Outside r.first r.second (instr.CallReg a) r.stands).registers, tt))
register_call_coded formed (instr.CallReg a) (q ∷ qs) copies of r free =
    let low : q < 13 = free.0.low in
    let high : q ≤ 14 = omega arith in
    (copy_row q low, (link_row, (jump_row q high, tt)))
register_call_coded formed i scratch copies of r free = absurd cc
