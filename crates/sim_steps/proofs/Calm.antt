-- Only UDF traps.
use Rattle.std.proofs.Common.{◌≡◌, ℕ, ◌-◌, Bool, true, false, Ok, Err}
use Rattle.std.specs.Prelude.{if◌then◌else◌, ◌%◌, ◌==◌}
use Rattle.std.specs.List.{list_any}
use Rattle.thumb_instr.specs.declared.instructions.Instr.{Instr}
use Rattle.thumb_instr.specs.declared.instructions.Instr.TheVariants.{Alu, Move, Test, ShiftBy, Wide, Half, Field, Unary, Mul, MulAcc, LongMul, Div, Access, Pair, Multi, Literal, Adr, Branch, ZeroBranch, Call, Jump, CallReg, It, Nothing, Trap}
use Rattle.thumb_table.specs.declared.faults.FaultKind.{FaultKind}
use Rattle.thumb_table.specs.declared.faults.FaultKind.TheVariants as fault
use Rattle.thumb_table.specs.States.{Core, Site, Change, Outcome, Jumps, upright, is_askew}
use Rattle.thumb_table.specs.Effects.{change, jump_to, jump_if, and_next}

-- not a trap
abbrev IsCalm : Outcome → Type 0
IsCalm o = o ≡ Err fault.Trap → ⊥

abbrev err : FaultKind → Outcome
err k = Err k

abbrev ok : Change → Outcome
ok h = Ok h

ok_calm : (h : Change) → IsCalm (ok h)
ok_calm h e = cc

stack_calm : IsCalm (err fault.BadStack)
stack_calm e = cc

address_calm : IsCalm (err fault.BadAddress)
address_calm e = cc

unaligned_calm : IsCalm (err fault.Unaligned)
unaligned_calm e = cc

jump_calm : IsCalm (err fault.BadJump)
jump_calm e = cc

if_calm : (b : Bool) (o p : Outcome) → IsCalm o → IsCalm p → IsCalm (if b then o else p)
if_calm true o p c d = c
if_calm false o p c d = d

upright_calm : (h : Change) → IsCalm (upright h)
upright_calm h = if_calm (list_any is_askew h.regs) (err fault.BadStack) (ok h) stack_calm (ok_calm h)

jump_to_calm : (b : ℕ) (h : Change) → IsCalm (jump_to b h)
jump_to_calm b h = if_calm (b % 2 == 1) (ok (record h { exit = Jumps (b - 1) })) (err fault.BadJump) (ok_calm _) jump_calm

jump_if_calm : (pc : Bool) (b : ℕ) (h : Change) → IsCalm (jump_if pc b h)
jump_if_calm true b h = jump_to_calm b h
jump_if_calm false b h = ok_calm h

next_calm : (o : Outcome) (f : Change → Outcome) → IsCalm o → ((h : Change) → IsCalm (f h)) → IsCalm (and_next o f)
next_calm (Ok h) f c d = d h
next_calm (Err k) f c d = c

words_calm : (a b : Bool) (o : Outcome) → IsCalm o → IsCalm (if a then Err fault.BadAddress else if b then Err fault.Unaligned else o)
words_calm true b o c = address_calm
words_calm false true o c = unaligned_calm
words_calm false false o c = c

abbrev pub is_trap : Instr → Bool
is_trap (Trap i) = true
is_trap i = false

pub calm : (i : Instr) (s : Site) (x : Core) → is_trap i ≡ false → change i s x ≡ Err fault.Trap → ⊥
unfolding change
calm (Alu i) s x n = if_calm _ _ _ stack_calm (ok_calm _)
calm (Move i) s x n = if_calm _ _ _ stack_calm (ok_calm _)
calm (Test i) s x n = ok_calm _
calm (ShiftBy i) s x n = if_calm _ _ _ stack_calm (ok_calm _)
calm (Wide i) s x n = if_calm _ _ _ stack_calm (ok_calm _)
calm (Half i) s x n = if_calm _ _ _ stack_calm (ok_calm _)
calm (Field i) s x n = if_calm _ _ _ stack_calm (ok_calm _)
calm (Unary i) s x n = if_calm _ _ _ stack_calm (ok_calm _)
calm (Mul i) s x n = if_calm _ _ _ stack_calm (ok_calm _)
calm (MulAcc i) s x n = if_calm _ _ _ stack_calm (ok_calm _)
calm (LongMul i) s x n = if_calm _ _ _ stack_calm (ok_calm _)
calm (Div i) s x n = if_calm _ _ _ stack_calm (ok_calm _)
calm (Access i) s x n = if_calm _ _ _ (if_calm _ _ _ stack_calm (ok_calm _)) address_calm
calm (Pair i) s x n = words_calm _ _ _ (if_calm _ _ _ stack_calm (ok_calm _))
calm (Multi i) s x n = words_calm _ _ _ (next_calm _ _ (if_calm _ _ _ stack_calm (ok_calm _)) (λ h. jump_if_calm i.pc _ h))
calm (Literal i) s x n = if_calm _ _ _ (if_calm _ _ _ stack_calm (ok_calm _)) address_calm
calm (Adr i) s x n = if_calm _ _ _ stack_calm (ok_calm _)
calm (Branch i) s x n = ok_calm _
calm (ZeroBranch i) s x n = ok_calm _
calm (Call i) s x n = ok_calm _
calm (Jump i) s x n = if_calm _ _ _ (ok_calm _) jump_calm
calm (CallReg i) s x n = if_calm _ _ _ (ok_calm _) jump_calm
calm (It i) s x n = ok_calm _
calm (Nothing i) s x n = ok_calm _
calm (Trap i) s x n = absurd cc
