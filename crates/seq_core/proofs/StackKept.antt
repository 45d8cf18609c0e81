-- What goes through scratch registers leaves sp alone.
use Rattle.std.proofs.Common.{ℕ, ◌≡◌, Bool, true, false, refl, sym, ◌∙◌, ap, arith, ◌==◌, ◌||◌}
use Rattle.std.proofs.lemmas.Bool.Decides.{nat_tests}
use Rattle.std.proofs.lemmas.Bool.{true≢false}
use Rattle.mark_word.specs.declared.numbers.Shift.TheVariants.{Lsl, Lsr, Asr, Ror, Rrx}
use Rattle.thumb_instr.specs.declared.operands.Operand.TheVariants.{Imm, Reg}
use Rattle.thumb_instr.specs.declared.instructions.Instr.{Instr}
use Rattle.thumb_instr.specs.declared.instructions.Instr.TheVariants as instr
use Rattle.thumb_instr.specs.DataRows.{is_copy}
use Rattle.thumb_instr.specs.Sets.{moves_base, moves_pair_base, operand_reads_of, reads_of, writes_of}
use Rattle.thumb_instr.specs.Idempotence.{KeepsSources}
use Rattle.thumb_instr.specs.declared.operands.Operand.{Operand}
use Rattle.thumb_instr.specs.declared.operations.MoveOp.{MoveOp}
use Rattle.thumb_instr.specs.Fields.{AluFields, MoveFields, WideFields, AccessFields, PairFields, MultiFields}
use Rattle.seq_core.specs.declared.classes.Class.TheVariants.{Through, WriteBack, SpStep}
use Rattle.seq_core.specs.Classes.{IsOf, steps_stack}
use Rattle.seq_core.specs.Accepted.{ThroughKeepsStack, misplaces_stack, operand_names_stack}
use Rattle.seq_core.proofs.ClassesDecided.{mixes, no_true}
use Rattle.seq_core.proofs.NeedsFew.{stays}
use Rattle.seq_core.proofs.DecodesApart.{decodes_apart}

-- A copy reads its register alone.
copy_reads : (op : MoveOp) (s : Bool) (x : Operand) → is_copy op s x ≡ true → operand_names_stack x ≡ false → operand_reads_of x 13 ≡ false
unfolding is_copy
copy_reads op s (Imm i) c n = refl
copy_reads op s (Reg m Lsl amount) c n = grind (arith, nat_tests)
copy_reads op s (Reg m Lsr amount) c n = grind (arith, nat_tests)
copy_reads op s (Reg m Asr amount) c n = grind (arith, nat_tests)
copy_reads op s (Reg m Ror amount) c n = grind (arith, nat_tests)
copy_reads op s (Reg m Rrx amount) c n = grind (arith, nat_tests)

move_keeps : (i : MoveFields) → ¬ KeepsSources (instr.Move i) → misplaces_stack (instr.Move i) ≡ false → (13 == i.d) ≡ true → ⊥
unfolding reads_of writes_of
move_keeps i h m w =
    let to : i.d ≡ 13 = grind (arith, nat_tests) in
    let copy : is_copy i.op i.s i.x ≡ true = grind (arith, nat_tests) in
    let far : operand_names_stack i.x ≡ false = grind (arith, nat_tests) in
    let unread : operand_reads_of i.x 13 ≡ false = copy_reads i.op i.s i.x copy far in
    h (λ k. no_true (mixes (instr.Move i) k) (λ t.
    let same : k ≡ 13 = grind (arith, nat_tests) in
    let none : operand_reads_of i.x k ≡ false = ap (operand_reads_of i.x) same ∙ unread in
    grind (arith)))

alu_keeps : (i : AluFields) → steps_stack (instr.Alu i) ≡ false → misplaces_stack (instr.Alu i) ≡ false → (13 == i.d) ≡ true → ⊥
alu_keeps i other m w = grind (arith, nat_tests)

list_keeps : (i : MultiFields) → i.back ≡ false → misplaces_stack (instr.Multi i) ≡ false → writes_of (instr.Multi i) 13 ≡ true → ⊥
unfolding writes_of
list_keeps i stays m w = grind (arith, nat_tests)

access_keeps : (i : AccessFields) → moves_base i.place ≡ false → misplaces_stack (instr.Access i) ≡ false → writes_of (instr.Access i) 13 ≡ true → ⊥
unfolding writes_of
access_keeps i stays m w = grind (arith, nat_tests)

pair_keeps : (i : PairFields) → moves_pair_base i.index ≡ false → misplaces_stack (instr.Pair i) ≡ false → writes_of (instr.Pair i) 13 ≡ true → ⊥
unfolding writes_of
pair_keeps i stays m w = grind (arith, nat_tests)

-- a destination that may not be sp
lone_keeps : (d : ℕ) (other : Bool) → ((d == 13) || other) ≡ false → (13 == d) ≡ true → ⊥
lone_keeps d other m w = grind (arith, nat_tests)

wide_keeps : (i : WideFields) → steps_stack (instr.Wide i) ≡ false → misplaces_stack (instr.Wide i) ≡ false → (13 == i.d) ≡ true → ⊥
wide_keeps i other m w = grind (arith, nat_tests)

long_keeps : (lo hi : ℕ) (other : Bool) → ((lo == 13) || ((hi == 13) || other)) ≡ false → ((13 == lo) || (13 == hi)) ≡ true → ⊥
long_keeps lo hi other m w = grind (arith, nat_tests)

one_keeps : (d : ℕ) → (d == 13) ≡ false → (13 == d) ≡ true → ⊥
one_keeps d m w = grind (arith, nat_tests)

keeps_stack : (i : Instr) → IsOf Through i → misplaces_stack i ≡ false → writes_of i 13 ≡ true → ⊥
unfolding writes_of
keeps_stack (instr.Alu i) h m w = alu_keeps i (h.2 SpStep) m w
keeps_stack (instr.Move i) h m w = move_keeps i h.0 m w
keeps_stack (instr.ShiftBy i) h m w = lone_keeps i.d _ m w
keeps_stack (instr.Wide i) h m w = wide_keeps i (h.2 SpStep) m w
keeps_stack (instr.Half i) h m w = one_keeps i.d m w
keeps_stack (instr.Field i) h m w = lone_keeps i.d _ m w
keeps_stack (instr.Unary i) h m w = lone_keeps i.d _ m w
keeps_stack (instr.Mul i) h m w = lone_keeps i.d _ m w
keeps_stack (instr.MulAcc i) h m w = lone_keeps i.d _ m w
keeps_stack (instr.LongMul i) h m w = long_keeps i.lo i.hi _ m w
keeps_stack (instr.Div i) h m w = lone_keeps i.d _ m w
keeps_stack (instr.Access i) h m w = access_keeps i (h.2 WriteBack) m w
keeps_stack (instr.Pair i) h m w = pair_keeps i (h.2 WriteBack) m w
keeps_stack (instr.Multi i) h m w = list_keeps i (stays i h.2) m w
keeps_stack (instr.Literal i) h m w = one_keeps i.t m w
keeps_stack (instr.Adr i) h m w = one_keeps i.d m w
keeps_stack i h m w = true≢false (sym w)

pub through_keeps_stack : ThroughKeepsStack
through_keeps_stack place first second i e h = no_true (writes_of i 13) (keeps_stack i h (decodes_apart place first second i e).1)
