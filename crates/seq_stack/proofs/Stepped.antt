-- Sums that move sp.
use Rattle.std.proofs.Common.{◌≡◌, ℕ, ◌<◌, ◌≤◌, ◌==◌, ◌&&◌, Bool, true, false, [], ◌∷◌, Some, refl, ap, arith}
use Rattle.std.proofs.lemmas.Bool.Decides.{nat_tests}
use Rattle.thumb_instr.specs.declared.operations.AluOp.{AluOp}
use Rattle.thumb_instr.specs.declared.operations.AluOp.TheVariants.{Add, Sub}
use Rattle.thumb_instr.specs.declared.operands.Operand.{Operand}
use Rattle.thumb_instr.specs.declared.operands.Operand.TheVariants.{Imm, Reg}
use Rattle.thumb_instr.specs.declared.refusals.ItPlace.TheVariants.{Outside}
use Rattle.thumb_instr.specs.declared.instructions.Instr.{Instr}
use Rattle.thumb_instr.specs.declared.instructions.Instr.TheVariants as instr
use Rattle.thumb_instr.specs.Fields.{WideFields}
use Rattle.thumb_instr.specs.Sets.{reads_of, sets_flags_of}
use Rattle.thumb_instr.specs.DataRows.{has_odd_sp, is_rrx, names}
use Rattle.thumb_instr.specs.Formed.{DecodesFormed}
use Rattle.thumb_encode.specs.HasFull.{has_full}
use Rattle.seq_core.specs.Accepted.{DecodesKeepFlags, DecodesUseStack, takes_stack_once}
use Rattle.seq_core.specs.Classes.{has_pc, steps_stack}
use Rattle.seq_core.specs.Groups.{IsFree, names_no_place, only}
use Rattle.seq_core.specs.Sent.{destination, sent}
use Rattle.seq_core.specs.Through.{has_one}
use Rattle.seq_core.specs.Decoded.{ThroughDecodes}
use Rattle.seq_core.specs.Replaced.{stack_stepped}
use Rattle.seq_core.specs.Builders.{FullCodesAreRows, HasRow, PlainStepsDo, loses}
use Rattle.seq_core.specs.Coded.{MovesCoded}
use Rattle.seq_stack.specs.Done.{IsDoneBy, StackStepsWork}

-- the laws that it stands on
pub record Laws : Type 0 where
  pub formed : DecodesFormed
  pub stack : DecodesUseStack
  pub flags : DecodesKeepFlags
  pub through : ThroughDecodes
  pub plain : PlainStepsDo
  pub rows : FullCodesAreRows
  pub moves : MovesCoded

plain_move : (q : ℕ) → q < 13 → ((13 == 13) && (q == 13)) ≡ false
plain_move q lt = grind (arith, nat_tests)

-- a sum with sp in place of its destination
abbrev sum_of : AluOp → Bool → ℕ → ℕ → Operand → Instr
sum_of op s d n x = instr.Alu (record { op = op; s = s; d = d; n = n; x = x })

-- what rows give of a sum that moves sp
record Told (op : AluOp) (s : Bool) (d n : ℕ) (x : Operand) : Type 0 where
  to : d ≡ 13
  once : names 13 x ≡ false
  flags : (s && is_rrx x) ≡ false

told : (op : AluOp) (s : Bool) (d n : ℕ) (x : Operand) → steps_stack (sum_of op s d n x) ≡ true → takes_stack_once (sum_of op s d n x) ≡ true → (reads_of (sum_of op s d n x) 18 && sets_flags_of (sum_of op s d n x) 18) ≡ false → Told op s d n x
unfolding reads_of sets_flags_of names is_rrx
told Add s d n (Imm i) e o f = record { to = grind (arith, nat_tests); once = refl; flags = grind arith }
told Sub s d n (Imm i) e o f = record { to = grind (arith, nat_tests); once = refl; flags = grind arith }
told Add s d n (Reg m kind amount) e o f = record { to = grind (arith, nat_tests); once = grind (arith, nat_tests); flags = grind (arith, nat_tests) }
told Sub s d n (Reg m kind amount) e o f = record { to = grind (arith, nat_tests); once = grind (arith, nat_tests); flags = grind (arith, nat_tests) }
told op s d n x e o f = absurd cc

sum_full : (op : AluOp) (s : Bool) (d n q : ℕ) (x : Operand) → q < 13 → steps_stack (sum_of op s d n x) ≡ true → names 13 x ≡ false → (s && is_rrx x) ≡ false → has_full (sum_of op s q n x) ≡ true
unfolding has_full has_odd_sp
sum_full Add s d n q x lt e o f = grind (arith, nat_tests)
sum_full Sub s d n q x lt e o f = grind (arith, nat_tests)
sum_full op s d n q x lt e o f = absurd cc

module _ (laws : Laws) (i : Instr) (q : ℕ) (row : HasRow i) (free : IsFree i q) where
  -- what has one destination, which is sp, and loses no flag
  stepped : has_one i ≡ true → destination i ≡ Some 13 → names_no_place i ≡ true → names_no_place (sent i q) ≡ true → has_pc i ≡ false → ((k : ℕ) → loses i (q ∷ []) k ≡ false → only q k ≡ false) → HasRow (sent i q) → IsDoneBy i q (stack_stepped i q)
  stepped one to plain sent_plain no_pc lost coded = record {
    does = λ copies. laws.plain i copies (stack_stepped i q) (only q) (loses i (q ∷ [])) plain no_pc (sent_plain, (refl, tt)) lost (λ end. laws.through Outside row.first row.second i 13 q end row.stands one to free);
    coded = λ copies. (coded, (laws.moves 13 q (omega arith) (let low : q < 13 = free.low in omega arith) (plain_move q free.low), tt));
  }

alu_works : Laws → (op : AluOp) (s : Bool) (d n : ℕ) (x : Operand) (q : ℕ) → HasRow (sum_of op s d n x) → steps_stack (sum_of op s d n x) ≡ true → IsFree (sum_of op s d n x) q → IsDoneBy (sum_of op s d n x) q (stack_stepped (sum_of op s d n x) q)
alu_works laws op s d n x q row e free =
    let i : Instr = sum_of op s d n x in
    let f = laws.formed Outside row.first row.second i row.stands in
    let t = told op s d n x e (laws.stack Outside row.first row.second i row.stands).1 (laws.flags Outside row.first row.second i row.stands 18) in
    let low : q < 13 = free.low in
    let small : q ≤ 14 = omega arith in
    stepped laws i q row free refl (ap (λ (r : ℕ). Some r) t.to) refl refl refl (λ k h. grind (arith, nat_tests))
    (laws.rows (sum_of op s q n x) (small, f.registers.1, f.registers.2) f.fields (sum_full op s d n q x low e t.once t.flags))

wide_full : (i : WideFields) (q : ℕ) → q < 13 → has_full (instr.Wide (record i { d = q })) ≡ true
unfolding has_full
wide_full i q lt = grind (arith, nat_tests)

wide_works : Laws → (i : WideFields) (q : ℕ) → HasRow (instr.Wide i) → steps_stack (instr.Wide i) ≡ true → IsFree (instr.Wide i) q → IsDoneBy (instr.Wide i) q (stack_stepped (instr.Wide i) q)
wide_works laws i q row e free =
    let f = laws.formed Outside row.first row.second (instr.Wide i) row.stands in
    let to : i.d ≡ 13 = grind (arith, nat_tests) in
    let low : q < 13 = free.low in
    let small : q ≤ 14 = omega arith in
    stepped laws (instr.Wide i) q row free refl (ap (λ (r : ℕ). Some r) to) refl refl refl (λ k h. grind (arith, nat_tests))
    (laws.rows (instr.Wide (record i { d = q })) (small, f.registers.1) f.fields (wide_full i q low))

pub stack_steps_work : Laws → StackStepsWork
stack_steps_work laws (instr.Alu i) q row e free = alu_works laws i.op i.s i.d i.n i.x q row e free
stack_steps_work laws (instr.Wide i) q row e free = wide_works laws i q row e free
stack_steps_work laws i q row e free = absurd cc
