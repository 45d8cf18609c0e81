-- What the steps are by which an instruction is replaced.
use Rattle.std.proofs.Common.{◌≡◌, ℕ, List, [], ◌∷◌, Bool, true, false, refl, Option, Some, None}
use Rattle.std.specs.Prelude.{if◌then◌else◌, not, ⊤}
use Rattle.thumb_instr.specs.declared.operations.AluOp.TheVariants as alu
use Rattle.thumb_instr.specs.declared.places.Place.{Place}
use Rattle.thumb_instr.specs.declared.places.Place.TheVariants as place
use Rattle.thumb_instr.specs.declared.places.PairIndex.{PairIndex}
use Rattle.thumb_instr.specs.declared.places.PairIndex.TheVariants as index
use Rattle.thumb_instr.specs.declared.register_sets.RegSet.{RegSet}
use Rattle.thumb_instr.specs.declared.instructions.Instr.{Instr}
use Rattle.thumb_instr.specs.declared.instructions.Instr.TheVariants as instr
use Rattle.thumb_instr.specs.Idempotence.{IsIdempotent}
use Rattle.thumb_instr.specs.Meanings.{constant_of}
use Rattle.thumb_table.specs.Effects.{registers, transfer_size}
use Rattle.thumb_instr.specs.Sets.{reads_of, writes_of, keeps_bits}
use Rattle.seq_core.specs.declared.classes.Class.{Class}
use Rattle.seq_core.specs.declared.classes.Class.TheVariants as class
use Rattle.seq_core.specs.declared.steps.Step.{Step}
use Rattle.seq_core.specs.declared.steps.Goal.TheVariants.{Nowhere, End}
use Rattle.seq_core.specs.Accepted.{operand_names_stack}
use Rattle.seq_core.specs.Classes.{IsOf, branches_on_zero}
use Rattle.seq_core.specs.Groups.{moving}
use Rattle.seq_core.specs.Twice.{inserting}
use Rattle.seq_core.specs.Through.{register_sum}
use Rattle.seq_core.specs.Bases.{summing, access_at, pair_at}
use Rattle.seq_core.specs.Sent.{destination, sent}
use Rattle.seq_core.specs.Stacks.{transfer_at}
use Rattle.seq_core.specs.Straight.{own_goal, flagged, around, around_pair, written_back}
use Rattle.seq_core.specs.Built.{placed, through_one, through_two, as_steps}
use Rattle.seq_core.specs.Replaced.{copy_loading, base_copied, long_summed, moved_list, popped, with_link, jumping, stack_stepped, leading, links, branches, register_called, zero_branched, replaced}
use Rattle.emit_object.specs.UnitCopies.{is_half}

-- A step that stands for an instruction is no call of its own, nor IT, and MOVW or MOVT only where that is.
abbrev pub suits : Instr → Instr → Bool
suits i (instr.Half j) = is_half i
suits i (instr.Call j) = false
suits i (instr.CallReg j) = false
suits i (instr.It j) = false
suits i j = true

pub record IsMade (copies : ℕ) (i : Instr) (s : Step) : Type 0 where
  pub many : s.copies ≡ copies
  pub suits : suits i s.instr ≡ true
  pub end : s.goal ≡ End → branches_on_zero i ≡ true

abbrev pub AreMade : ℕ → Instr → List Step → Type 0
AreMade copies i [] = ⊤
AreMade copies i (s ∷ ss) = IsMade copies i s × AreMade copies i ss

abbrev AllSuit : Instr → List Instr → Type 0
AllSuit i [] = ⊤
AllSuit i (j ∷ js) = (suits i j ≡ true) × AllSuit i js

-- STEPS THAT LEAD NOWHERE

nowhere_made : (copies : ℕ) (i j : Instr) → suits i j ≡ true → IsMade copies i (leading copies Nowhere j)
nowhere_made copies i j s = record { many = refl; suits = s; end = λ e. absurd (cc) }

plains_made : (copies : ℕ) (i : Instr) (js : List Instr) → AllSuit i js → AreMade copies i (as_steps copies js)
plains_made copies i [] all = tt
plains_made copies i (j ∷ js) all = (nowhere_made copies i j all.0, plains_made copies i js all.1)

placed_suit : (i : Instr) (d : Option ℕ) (q : ℕ) → AllSuit i (placed d q)
placed_suit i None q = tt
placed_suit i (Some d) q = (refl, tt)

sent_suits : (i : Instr) (q : ℕ) → suits i i ≡ true → suits i (sent i q) ≡ true
sent_suits (instr.Alu i) q s = refl
sent_suits (instr.Move i) q s = refl
sent_suits (instr.ShiftBy i) q s = refl
sent_suits (instr.Wide i) q s = refl
sent_suits (instr.Half i) q s = refl
sent_suits (instr.Field i) q s = refl
sent_suits (instr.Unary i) q s = refl
sent_suits (instr.Mul i) q s = refl
sent_suits (instr.MulAcc i) q s = refl
sent_suits (instr.LongMul i) q s = refl
sent_suits (instr.Div i) q s = refl
sent_suits (instr.Access i) q s = refl
sent_suits (instr.Literal i) q s = refl
sent_suits (instr.Adr i) q s = refl
sent_suits i q s = s

-- what goes through a scratch register is no call
through_suits : (i : Instr) → IsOf class.Through i → suits i i ≡ true
unfolding reads_of writes_of
through_suits (instr.Call i) of = absurd (let e = of.2 class.DirectCall in cc)
through_suits (instr.CallReg i) of = absurd (let e = of.2 class.RegisterCall in cc)
through_suits (instr.It i) of = absurd (of.0 (λ k. refl))
through_suits i of = refl

if_suit : (i : Instr) (b : Bool) (xs ys : List Instr) → AllSuit i xs → AllSuit i ys → AllSuit i (if b then xs else ys)
if_suit i true xs ys one two = one
if_suit i false xs ys one two = two

one_suits : (i : Instr) (q : ℕ) → suits i i ≡ true → AllSuit i (through_one i q)
one_suits (instr.Alu i) q s =
    if_suit (instr.Alu i) (operand_names_stack i.x) (register_sum alu.Add false q 13 i.d ∷ moving false i.d q ∷ []) (sent (instr.Alu i) q ∷ moving false i.d q ∷ []) (refl, (refl, tt)) (refl, (refl, tt))
one_suits (instr.Field i) q s =
    if_suit (instr.Field i) (keeps_bits i.op) (moving false q i.d ∷ inserting i.d q i.lsb i.width ∷ []) (sent (instr.Field i) q ∷ moving false i.d q ∷ []) (refl, (refl, tt)) (refl, (refl, tt))
one_suits (instr.LongMul i) q s =
    if_suit (instr.LongMul i) (reads_of (instr.LongMul i) i.lo) (instr.LongMul (record i { lo = q }) ∷ moving false i.lo q ∷ []) (instr.LongMul (record i { hi = q }) ∷ moving false i.hi q ∷ []) (refl, (refl, tt)) (refl, (refl, tt))
one_suits i q s = (sent_suits i q s, placed_suit i (destination i) q)

two_suit : (i : Instr) (a b : ℕ) → AllSuit i (through_two i a b)
two_suit (instr.LongMul i) a b = (refl, (refl, (refl, tt)))
two_suit i a b = tt

flagged_suit : (i : Instr) (q : ℕ) → AllSuit i (flagged i q)
flagged_suit (instr.Mul i) q = (refl, (refl, tt))
flagged_suit i q = tt

around_suit : (i : Instr) (p : Place) (q n : ℕ) (at : Instr) → suits i at ≡ true → AllSuit i (around p q n at)
around_suit i (place.Offset up imm) q n at s = tt
around_suit i (place.Pre up imm) q n at s = (refl, (refl, (s, tt)))
around_suit i (place.Post up imm) q n at s = (s, (refl, (refl, tt)))
around_suit i (place.Index m shift) q n at s = tt

around_pair_suit : (i : Instr) (p : PairIndex) (up : Bool) (imm q n : ℕ) (at : Instr) → suits i at ≡ true → AllSuit i (around_pair p up imm q n at)
around_pair_suit i index.Offset up imm q n at s = tt
around_pair_suit i index.Pre up imm q n at s = (refl, (refl, (s, tt)))
around_pair_suit i index.Post up imm q n at s = (s, (refl, (refl, tt)))

written_suit : (i : Instr) (q : ℕ) → AllSuit i (written_back i q)
written_suit (instr.Access i) q = around_suit (instr.Access i) i.place q i.n (access_at i.op i.t i.n) refl
written_suit (instr.Pair i) q = around_pair_suit (instr.Pair i) i.index i.up i.imm q i.n (pair_at i.load i.t i.u i.n) refl
written_suit i q = tt

copy_suits : (i : Instr) (down : Bool) (q : ℕ) (list : RegSet) (rs : List ℕ) → suits i (copy_loading down q list rs) ≡ true
copy_suits i down q list [] = refl
copy_suits i down q list (t ∷ []) = refl
copy_suits i down q list (t ∷ u ∷ rs) = refl

base_suit : (i : Instr) (q : ℕ) → AllSuit i (base_copied i q)
base_suit (instr.Pair i) q = (refl, (refl, tt))
base_suit (instr.Multi i) q = (refl, (copy_suits (instr.Multi i) i.down q i.list (registers i.list.0), tt))
base_suit i q = tt

long_suit : (i : Instr) (a b c : ℕ) → AllSuit i (long_summed i a b c)
long_suit (instr.LongMul i) a b c = (refl, (refl, (refl, (refl, (refl, tt)))))
long_suit i a b c = tt

transfer_suits : (i : Instr) (load : Bool) (n : ℕ) (list : RegSet) (rs : List ℕ) → suits i (transfer_at load n list rs) ≡ true
transfer_suits i true n list [] = refl
transfer_suits i true n list (t ∷ []) = refl
transfer_suits i true n list (t ∷ u ∷ rs) = refl
transfer_suits i false n list [] = refl
transfer_suits i false n list (t ∷ []) = refl
transfer_suits i false n list (t ∷ u ∷ rs) = refl

moved_suit : (i : Instr) (q : ℕ) → AllSuit i (moved_list i q)
moved_suit (instr.Multi i) q =
    let step : Instr = summing (not i.down) q i.n (constant_of (transfer_size i.list.0 false)) in
    let list : Instr = transfer_at i.load i.n i.list (registers i.list.0) in
    let s : suits (instr.Multi i) list ≡ true = transfer_suits (instr.Multi i) i.load i.n i.list (registers i.list.0) in
    if_suit (instr.Multi i) i.down (step ∷ moving false i.n q ∷ list ∷ []) (list ∷ step ∷ moving false i.n q ∷ []) (refl, (refl, (s, tt))) (s, (refl, (refl, tt)))
moved_suit i q = tt

popped_suit : (i : Instr) (q : ℕ) → AllSuit i (popped i q)
popped_suit (instr.Multi i) q = (transfer_suits (instr.Multi i) true 13 (with_link i.list) (registers (with_link i.list).0), (refl, (refl, (refl, tt))))
popped_suit i q = tt

stack_suit : (i : Instr) (q : ℕ) → IsOf class.SpStep i → AllSuit i (stack_stepped i q)
stack_suit (instr.Alu i) q of = (refl, (refl, tt))
stack_suit (instr.Wide i) q of = (refl, (refl, tt))
stack_suit i q of = absurd (cc)

-- STEPS THAT LEAD SOMEWHERE

idempotent_suits : (i : Instr) → IsIdempotent i → suits i i ≡ true
idempotent_suits (instr.Call i) of = absurd (let e = of.1 in cc)
idempotent_suits (instr.CallReg i) of = absurd (let e = of.1 in cc)
idempotent_suits (instr.It i) of = absurd (let e = of.1 in cc)
idempotent_suits i of = refl

own_not_end : (i : Instr) → own_goal i ≡ End → ⊥
own_not_end (instr.Branch i) e = absurd (cc)
own_not_end (instr.Literal i) e = absurd (cc)
own_not_end i e = absurd (cc)

links_made : (copies : ℕ) (i : Instr) → IsMade copies i (links copies)
links_made copies i = record { many = refl; suits = refl; end = λ e. absurd (cc) }

branches_made : (copies : ℕ) (i : Instr) → IsMade copies i (branches copies)
branches_made copies i = record { many = refl; suits = refl; end = λ e. absurd (cc) }

register_made : (copies : ℕ) (i : Instr) (qs : List ℕ) → AreMade copies i (register_called copies i qs)
register_made copies (instr.CallReg i) [] = (links_made copies (instr.CallReg i), (nowhere_made copies (instr.CallReg i) (jumping i.m) refl, tt))
register_made copies (instr.CallReg i) (r ∷ qs) =
    (nowhere_made copies (instr.CallReg i) (moving false r 14) refl, (links_made copies (instr.CallReg i), (nowhere_made copies (instr.CallReg i) (jumping r) refl, tt)))
register_made copies i qs = tt

zero_made : (copies : ℕ) (i : Instr) → AreMade copies i (zero_branched copies i)
zero_made copies (instr.ZeroBranch i) = (record { many = refl; suits = refl; end = λ e. refl }, (branches_made copies (instr.ZeroBranch i), tt))
zero_made copies i = tt

jump_suits : (i : Instr) → IsOf class.RegisterJump i → suits i i ≡ true
jump_suits (instr.Jump i) of = refl
jump_suits i of = absurd (cc)

pub all_made : (c : Class) (i : Instr) (qs : List ℕ) (copies : ℕ) → IsOf c i → AreMade copies i (replaced c copies i qs)
all_made class.Twice i qs copies of = (record { many = refl; suits = idempotent_suits i of; end = λ e. absurd (own_not_end i e) }, tt)
all_made class.Through i (r ∷ []) copies of = plains_made copies i (through_one i r) (one_suits i r (through_suits i of))
all_made class.Through i (a ∷ b ∷ []) copies of = plains_made copies i (through_two i a b) (two_suit i a b)
all_made class.ThroughFlags i (r ∷ []) copies of = plains_made copies i (flagged i r) (flagged_suit i r)
all_made class.WriteBack i (r ∷ []) copies of = plains_made copies i (written_back i r) (written_suit i r)
all_made class.BaseCopy i (r ∷ []) copies of = plains_made copies i (base_copied i r) (base_suit i r)
all_made class.LongSum i (a ∷ b ∷ d ∷ []) copies of = plains_made copies i (long_summed i a b d) (long_suit i a b d)
all_made class.Push i (r ∷ []) copies of = plains_made copies i (moved_list i r) (moved_suit i r)
all_made class.Pop i (r ∷ []) copies of = plains_made copies i (moved_list i r) (moved_suit i r)
all_made class.PopReturn i (r ∷ []) copies of = plains_made copies i (popped i r) (popped_suit i r)
all_made class.SpStep i (r ∷ []) copies of = plains_made copies i (stack_stepped i r) (stack_suit i r of)
all_made class.MultiBack i (r ∷ []) copies of = plains_made copies i (moved_list i r) (moved_suit i r)
all_made class.DirectCall i qs copies of = (links_made copies i, (branches_made copies i, tt))
all_made class.RegisterCall i qs copies of = register_made copies i qs
all_made class.RegisterJump i qs copies of = (nowhere_made copies i i (jump_suits i of), tt)
all_made class.ZeroBranch i qs copies of = zero_made copies i
all_made c i qs copies of = tt
