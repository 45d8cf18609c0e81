use Rattle.std.proofs.Common.{◌≡◌, ◌∙◌, false, sym, subst}
use Rattle.std.specs.Bool.{IsTrue}
use Rattle.std.specs.Prelude.{◌↔◌}
use Rattle.std.specs.List.{All}
use Rattle.thumb_instr.specs.declared.instructions.Instr.TheVariants as instr
use Rattle.thumb_instr.specs.Fields.{AluFields, MoveFields, ShiftByFields, WideFields, FieldFields, UnaryFields, MulFields, MulAccFields, LongMulFields, DivFields, AccessFields, PairFields, MultiFields}
use Rattle.thumb_table.specs.Ordinary.{IsPlain, is_zero_test, used}
use Rattle.thumb_table.specs.States.{read}
use Rattle.thumb_table.specs.CoreStates.{alone}
use Rattle.thumb_table.proofs.ordinary.uses_numbers.Goals as goal

pub returns-in-Alu : goal.returns-in-Alu
returns-in-Alu c = rw c.in-Alu.is
    (subst (λ (i : AluFields). IsTrue c.with_operand.result ↔ All (λ r. IsPlain (read (alone c.args.s.now) r).mark) (used (instr.Alu i))) c.i.view_is c.with_operand.ensures)

pub returns-else-is_zero_test : goal.returns-else-is_zero_test
returns-else-is_zero_test c =
    let i = c.i-in-Test.inside in
    let other : is_zero_test i.op i.x ≡ false = sym c.is_zero_test.ensures ∙ c.if-is_zero_test.false in
    rw (c.in-Test.is, ← c.i-in-Test.view_is, other) c.with_operand-else-is_zero_test.ensures

pub returns-in-LongMul : goal.returns-in-LongMul
returns-in-LongMul c = rw c.in-LongMul.is
    (subst (λ (i : LongMulFields). IsTrue c.with_sum.result ↔ All (λ r. IsPlain (read (alone c.args.s.now) r).mark) (used (instr.LongMul i))) c.i-in-LongMul.view_is c.with_sum.ensures)

pub returns-in-Access : goal.returns-in-Access
returns-in-Access c = rw c.in-Access.is
    (subst (λ (i : AccessFields). IsTrue c.in_access.result ↔ All (λ r. IsPlain (read (alone c.args.s.now) r).mark) (used (instr.Access i))) c.i-in-Access.view_is c.in_access.ensures)

pub returns-in-Move : goal.returns-in-Move
returns-in-Move c = rw c.in-Move.is
    (subst (λ (i : MoveFields). IsTrue c.in_move.result ↔ All (λ r. IsPlain (read (alone c.args.s.now) r).mark) (used (instr.Move i))) c.i-in-Move.view_is c.in_move.ensures)

pub returns-in-ShiftBy : goal.returns-in-ShiftBy
returns-in-ShiftBy c = rw c.in-ShiftBy.is
    (subst (λ (i : ShiftByFields). IsTrue c.two.result ↔ All (λ r. IsPlain (read (alone c.args.s.now) r).mark) (used (instr.ShiftBy i))) c.i-in-ShiftBy.view_is c.two.ensures)

pub returns-in-Wide : goal.returns-in-Wide
returns-in-Wide c = rw c.in-Wide.is
    (subst (λ (i : WideFields). IsTrue c.one.result ↔ All (λ r. IsPlain (read (alone c.args.s.now) r).mark) (used (instr.Wide i))) c.i-in-Wide.view_is c.one.ensures)

pub returns-in-Field : goal.returns-in-Field
returns-in-Field c = rw c.in-Field.is
    (subst (λ (i : FieldFields). IsTrue c.in_field.result ↔ All (λ r. IsPlain (read (alone c.args.s.now) r).mark) (used (instr.Field i))) c.i-in-Field.view_is c.in_field.ensures)

pub returns-in-Unary : goal.returns-in-Unary
returns-in-Unary c = rw c.in-Unary.is
    (subst (λ (i : UnaryFields). IsTrue c.one-in-Unary.result ↔ All (λ r. IsPlain (read (alone c.args.s.now) r).mark) (used (instr.Unary i))) c.i-in-Unary.view_is c.one-in-Unary.ensures)

pub returns-in-Mul : goal.returns-in-Mul
returns-in-Mul c = rw c.in-Mul.is
    (subst (λ (i : MulFields). IsTrue c.two-in-Mul.result ↔ All (λ r. IsPlain (read (alone c.args.s.now) r).mark) (used (instr.Mul i))) c.i-in-Mul.view_is c.two-in-Mul.ensures)

pub returns-in-MulAcc : goal.returns-in-MulAcc
returns-in-MulAcc c = rw c.in-MulAcc.is
    (subst (λ (i : MulAccFields). IsTrue c.three.result ↔ All (λ r. IsPlain (read (alone c.args.s.now) r).mark) (used (instr.MulAcc i))) c.i-in-MulAcc.view_is c.three.ensures)

pub returns-in-Div : goal.returns-in-Div
returns-in-Div c = rw c.in-Div.is
    (subst (λ (i : DivFields). IsTrue c.two-in-Div.result ↔ All (λ r. IsPlain (read (alone c.args.s.now) r).mark) (used (instr.Div i))) c.i-in-Div.view_is c.two-in-Div.ensures)

pub returns-in-Pair : goal.returns-in-Pair
returns-in-Pair c = rw c.in-Pair.is
    (subst (λ (i : PairFields). IsTrue c.one-in-Pair.result ↔ All (λ r. IsPlain (read (alone c.args.s.now) r).mark) (used (instr.Pair i))) c.i-in-Pair.view_is c.one-in-Pair.ensures)

pub returns-in-Multi : goal.returns-in-Multi
returns-in-Multi c = rw c.in-Multi.is
    (subst (λ (i : MultiFields). IsTrue c.one-in-Multi.result ↔ All (λ r. IsPlain (read (alone c.args.s.now) r).mark) (used (instr.Multi i))) c.i-in-Multi.view_is c.one-in-Multi.ensures)
