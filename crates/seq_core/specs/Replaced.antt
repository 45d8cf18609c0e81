-- THE SEQUENCES: the steps by which an instruction is replaced, by its class, with scratch registers in their order.
use Rattle.std.specs.Prelude.{ℕ, ◌+◌, ◌^◌, Bool, true, false, not, List, [], ◌∷◌, if◌then◌else◌, pos}
use Rattle.thumb_instr.specs.declared.conditions.Cond.TheVariants.{Al}
use Rattle.thumb_instr.specs.declared.operations.AluOp.TheVariants as alu
use Rattle.thumb_instr.specs.declared.operations.LongMulOp.{LongMulOp}
use Rattle.thumb_instr.specs.declared.operations.LongMulOp.TheVariants as product
use Rattle.thumb_instr.specs.declared.operations.AccessOp.TheVariants.{Ldr}
use Rattle.thumb_instr.specs.declared.register_sets.RegSet.{RegSet}
use Rattle.thumb_instr.specs.declared.instructions.Instr.{Instr}
use Rattle.thumb_instr.specs.declared.instructions.Instr.TheVariants as instr
use Rattle.thumb_instr.specs.Meanings.{constant_of}
use Rattle.thumb_table.specs.Effects.{registers, transfer_size}
use Rattle.seq_core.specs.declared.classes.Class.{Class}
use Rattle.seq_core.specs.declared.classes.Class.TheVariants.{Twice, Through, ThroughFlags, WriteBack, BaseCopy, LongSum, Push, Pop, PopReturn, SpStep, MultiBack, DirectCall, RegisterCall, RegisterJump, ZeroBranch}
use Rattle.seq_core.specs.declared.steps.Step.{Step}
use Rattle.seq_core.specs.declared.steps.Goal.{Goal}
use Rattle.seq_core.specs.declared.steps.Goal.TheVariants.{Nowhere, End, Landing, Target}
use Rattle.seq_core.specs.Groups.{moving, branching}
use Rattle.seq_core.specs.Sent.{sent}
use Rattle.seq_core.specs.Through.{long_product_to, register_sum}
use Rattle.seq_core.specs.Bases.{summing, access_at, loading, pair_loading}
use Rattle.seq_core.specs.Stacks.{transfer_at}
use Rattle.seq_core.specs.Built.{through_one, through_two, as_steps}
use Rattle.seq_core.specs.Straight.{twice_steps, flagged, written_back}

-- BaseCopy: the load from a copy of its base; of one register it is LDR
abbrev pub copy_loading : Bool → ℕ → RegSet → List ℕ → Instr
copy_loading down q list (t ∷ []) = access_at Ldr t q
copy_loading down q list rs = loading down q list

abbrev pub base_copied : Instr → ℕ → List Instr
base_copied (instr.Pair i) q = moving false q i.n ∷ pair_loading i.t i.u q i.up i.imm ∷ []
base_copied (instr.Multi i) q = moving false q i.n ∷ copy_loading i.down q i.list (registers i.list.0) ∷ []
base_copied i q = []

-- LongSum: a product without the sum, two sums with a carry between them, and two moves
abbrev pub without_sum : LongMulOp → LongMulOp
without_sum product.Smlal = product.Smull
without_sum product.Umlal = product.Umull
without_sum op = op

abbrev pub long_summed : Instr → ℕ → ℕ → ℕ → List Instr
long_summed (instr.LongMul i) a b c =
    long_product_to (without_sum i.op) a b i.n i.m ∷ register_sum alu.Add true c i.lo a ∷ register_sum alu.Adc false a i.hi b
    ∷ moving false i.lo c ∷ moving false i.hi a ∷ []
long_summed i a b c = []

-- Push, Pop and MultiBack: a list, whose base moves before it or behind it
abbrev pub moved_list : Instr → ℕ → List Instr
moved_list (instr.Multi i) q =
    let step : Instr = summing (not i.down) q i.n (constant_of (transfer_size i.list.0 false)) in
    let list : Instr = transfer_at i.load i.n i.list (registers i.list.0) in
    if i.down then step ∷ moving false i.n q ∷ list ∷ [] else list ∷ step ∷ moving false i.n q ∷ []
moved_list i q = []

-- PopReturn: the list with lr in place of pc, sp moves, and a jump to lr; a list with pc has no lr
abbrev pub with_link : RegSet → RegSet
with_link list = record { 0 = list.0 + 2 ^ 14 }

abbrev pub jumping : ℕ → Instr
jumping m = instr.Jump (record { m = m })

abbrev pub popped : Instr → ℕ → List Instr
popped (instr.Multi i) q =
    transfer_at true 13 (with_link i.list) (registers (with_link i.list).0) ∷ summing true q 13 (constant_of (transfer_size i.list.0 true)) ∷ moving false 13 q ∷ jumping 14 ∷ []
popped i q = []

-- SpStep: a sum with sp, by way of a scratch register
abbrev pub stack_stepped : Instr → ℕ → List Instr
stack_stepped i q = sent i q ∷ moving false 13 q ∷ []

-- a step whose number leads to a goal
abbrev pub leading : ℕ → Goal → Instr → Step
leading copies g i = record { instr = i; goal = g; copies = copies }

-- ADR of where a call comes back to, and a branch to the target
abbrev pub links : ℕ → Step
links copies = leading copies Landing (instr.Adr (record { d = 14; up = true; imm = 0 }))

abbrev pub branches : ℕ → Step
branches copies = leading copies Target (branching Al)

-- DirectCall
abbrev pub called : ℕ → List Step
called copies = links copies ∷ branches copies ∷ []

-- RegisterCall: BLX of lr jumps by a copy of it
abbrev pub register_called : ℕ → Instr → List ℕ → List Step
register_called copies (instr.CallReg i) [] = links copies ∷ leading copies Nowhere (jumping i.m) ∷ []
register_called copies (instr.CallReg i) (q ∷ qs) = leading copies Nowhere (moving false q 14) ∷ links copies ∷ leading copies Nowhere (jumping q) ∷ []
register_called copies i qs = []

-- ZeroBranch: its inverse passes by a branch
abbrev pub zero_branched : ℕ → Instr → List Step
zero_branched copies (instr.ZeroBranch i) = leading copies End (instr.ZeroBranch (record { nonzero = not i.nonzero; n = i.n; offset = pos 0 })) ∷ branches copies ∷ []
zero_branched copies i = []

abbrev pub replaced : Class → ℕ → Instr → List ℕ → List Step
replaced Twice copies i qs = twice_steps copies i
replaced Through copies i (q ∷ []) = as_steps copies (through_one i q)
replaced Through copies i (a ∷ b ∷ []) = as_steps copies (through_two i a b)
replaced ThroughFlags copies i (q ∷ []) = as_steps copies (flagged i q)
replaced WriteBack copies i (q ∷ []) = as_steps copies (written_back i q)
replaced BaseCopy copies i (q ∷ []) = as_steps copies (base_copied i q)
replaced LongSum copies i (a ∷ b ∷ c ∷ []) = as_steps copies (long_summed i a b c)
replaced Push copies i (q ∷ []) = as_steps copies (moved_list i q)
replaced Pop copies i (q ∷ []) = as_steps copies (moved_list i q)
replaced PopReturn copies i (q ∷ []) = as_steps copies (popped i q)
replaced SpStep copies i (q ∷ []) = as_steps copies (stack_stepped i q)
replaced MultiBack copies i (q ∷ []) = as_steps copies (moved_list i q)
replaced DirectCall copies i qs = called copies
replaced RegisterCall copies i qs = register_called copies i qs
replaced RegisterJump copies i qs = leading copies Nowhere i ∷ []
replaced ZeroBranch copies i qs = zero_branched copies i
replaced class copies i qs = []
