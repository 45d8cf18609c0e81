use Rattle.std.proofs.Common.{refl}
use Rattle.std.proofs.lemmas.Result.{IfErr-weaker, on_ok_weaker}
use Rattle.thumb_table.specs.Effects.{change}
use Rattle.thumb_table.specs.CoreStates.{site_of}
use Rattle.thumb_table.proofs.effects.carry_out.Goals as goal

pub returns-in-Alu-clause-done : goal.returns-in-Alu-clause-done
returns-in-Alu-clause-done c = rw c.in-Alu.is (on_ok_weaker c.apply_alu.result (λ makes width e. makes (site_of c.args.code.now c.args.s.now width) c.args.m.now) c.apply_alu.ensures.done)

pub returns-in-Alu-clause-fault : goal.returns-in-Alu-clause-fault
returns-in-Alu-clause-fault c = rw c.in-Alu.is (IfErr-weaker c.apply_alu.result _ _ (λ kind stops. (λ width e. stops.0 (site_of c.args.code.now c.args.s.now width) c.args.m.now, stops.1, refl)) c.apply_alu.ensures.fault)

pub returns-in-Move-clause-done : goal.returns-in-Move-clause-done
returns-in-Move-clause-done c = rw c.in-Move.is (on_ok_weaker c.apply_move.result (λ makes width e. makes (site_of c.args.code.now c.args.s.now width) c.args.m.now) c.apply_move.ensures.done)

pub returns-in-Move-clause-fault : goal.returns-in-Move-clause-fault
returns-in-Move-clause-fault c = rw c.in-Move.is (IfErr-weaker c.apply_move.result _ _ (λ kind stops. (λ width e. stops.0 (site_of c.args.code.now c.args.s.now width) c.args.m.now, stops.1, refl)) c.apply_move.ensures.fault)

pub returns-in-Test-clause-done : goal.returns-in-Test-clause-done
returns-in-Test-clause-done c = rw c.in-Test.is (on_ok_weaker c.apply_test.result (λ makes width e. makes (site_of c.args.code.now c.args.s.now width) c.args.m.now) c.apply_test.ensures.done)

pub returns-in-Test-clause-fault : goal.returns-in-Test-clause-fault
returns-in-Test-clause-fault c = rw c.in-Test.is (IfErr-weaker c.apply_test.result _ _ (λ kind stops. (λ width e. stops.0 (site_of c.args.code.now c.args.s.now width) c.args.m.now, stops.1, refl)) c.apply_test.ensures.fault)

pub returns-in-ShiftBy-clause-done : goal.returns-in-ShiftBy-clause-done
returns-in-ShiftBy-clause-done c = rw c.in-ShiftBy.is (on_ok_weaker c.apply_shift_by.result (λ makes width e. makes (site_of c.args.code.now c.args.s.now width) c.args.m.now) c.apply_shift_by.ensures.done)

pub returns-in-ShiftBy-clause-fault : goal.returns-in-ShiftBy-clause-fault
returns-in-ShiftBy-clause-fault c = rw c.in-ShiftBy.is (IfErr-weaker c.apply_shift_by.result _ _ (λ kind stops. (λ width e. stops.0 (site_of c.args.code.now c.args.s.now width) c.args.m.now, stops.1, refl)) c.apply_shift_by.ensures.fault)

pub returns-in-Wide-clause-done : goal.returns-in-Wide-clause-done
returns-in-Wide-clause-done c = rw c.in-Wide.is (on_ok_weaker c.apply_wide.result (λ makes width e. makes (site_of c.args.code.now c.args.s.now width) c.args.m.now) c.apply_wide.ensures.done)

pub returns-in-Wide-clause-fault : goal.returns-in-Wide-clause-fault
returns-in-Wide-clause-fault c = rw c.in-Wide.is (IfErr-weaker c.apply_wide.result _ _ (λ kind stops. (λ width e. stops.0 (site_of c.args.code.now c.args.s.now width) c.args.m.now, stops.1, refl)) c.apply_wide.ensures.fault)

pub returns-in-Half-clause-done : goal.returns-in-Half-clause-done
returns-in-Half-clause-done c = rw c.in-Half.is (on_ok_weaker c.apply_half.result (λ turns. turns c.args.m.now) c.apply_half.ensures.done)

pub returns-in-Half-clause-fault : goal.returns-in-Half-clause-fault
returns-in-Half-clause-fault c = rw c.in-Half.is (IfErr-weaker c.apply_half.result _ _ (λ kind fails. (fails.0 c.args.m.now, fails.1, refl)) c.apply_half.ensures.fault)

pub returns-in-Field-clause-done : goal.returns-in-Field-clause-done
returns-in-Field-clause-done c = rw c.in-Field.is (on_ok_weaker c.apply_field.result (λ makes width e. makes (site_of c.args.code.now c.args.s.now width) c.args.m.now) c.apply_field.ensures.done)

pub returns-in-Field-clause-fault : goal.returns-in-Field-clause-fault
returns-in-Field-clause-fault c = rw c.in-Field.is (IfErr-weaker c.apply_field.result _ _ (λ kind stops. (λ width e. stops.0 (site_of c.args.code.now c.args.s.now width) c.args.m.now, stops.1, refl)) c.apply_field.ensures.fault)

pub returns-in-Unary-clause-done : goal.returns-in-Unary-clause-done
returns-in-Unary-clause-done c = rw c.in-Unary.is (on_ok_weaker c.apply_unary.result (λ makes width e. makes (site_of c.args.code.now c.args.s.now width) c.args.m.now) c.apply_unary.ensures.done)

pub returns-in-Unary-clause-fault : goal.returns-in-Unary-clause-fault
returns-in-Unary-clause-fault c = rw c.in-Unary.is (IfErr-weaker c.apply_unary.result _ _ (λ kind stops. (λ width e. stops.0 (site_of c.args.code.now c.args.s.now width) c.args.m.now, stops.1, refl)) c.apply_unary.ensures.fault)

pub returns-in-Mul-clause-done : goal.returns-in-Mul-clause-done
returns-in-Mul-clause-done c = rw c.in-Mul.is (on_ok_weaker c.apply_mul.result (λ makes width e. makes (site_of c.args.code.now c.args.s.now width) c.args.m.now) c.apply_mul.ensures.done)

pub returns-in-Mul-clause-fault : goal.returns-in-Mul-clause-fault
returns-in-Mul-clause-fault c = rw c.in-Mul.is (IfErr-weaker c.apply_mul.result _ _ (λ kind stops. (λ width e. stops.0 (site_of c.args.code.now c.args.s.now width) c.args.m.now, stops.1, refl)) c.apply_mul.ensures.fault)

pub returns-in-MulAcc-clause-done : goal.returns-in-MulAcc-clause-done
returns-in-MulAcc-clause-done c = rw c.in-MulAcc.is (on_ok_weaker c.apply_mul_acc.result (λ makes width e. makes (site_of c.args.code.now c.args.s.now width) c.args.m.now) c.apply_mul_acc.ensures.done)

pub returns-in-MulAcc-clause-fault : goal.returns-in-MulAcc-clause-fault
returns-in-MulAcc-clause-fault c = rw c.in-MulAcc.is (IfErr-weaker c.apply_mul_acc.result _ _ (λ kind stops. (λ width e. stops.0 (site_of c.args.code.now c.args.s.now width) c.args.m.now, stops.1, refl)) c.apply_mul_acc.ensures.fault)

pub returns-in-LongMul-clause-done : goal.returns-in-LongMul-clause-done
returns-in-LongMul-clause-done c = rw c.in-LongMul.is (on_ok_weaker c.apply_long_mul.result (λ makes width e. makes (site_of c.args.code.now c.args.s.now width) c.args.m.now) c.apply_long_mul.ensures.done)

pub returns-in-LongMul-clause-fault : goal.returns-in-LongMul-clause-fault
returns-in-LongMul-clause-fault c = rw c.in-LongMul.is (IfErr-weaker c.apply_long_mul.result _ _ (λ kind stops. (λ width e. stops.0 (site_of c.args.code.now c.args.s.now width) c.args.m.now, stops.1, refl)) c.apply_long_mul.ensures.fault)

pub returns-in-Div-clause-done : goal.returns-in-Div-clause-done
returns-in-Div-clause-done c = rw c.in-Div.is (on_ok_weaker c.apply_div.result (λ makes width e. makes (site_of c.args.code.now c.args.s.now width) c.args.m.now) c.apply_div.ensures.done)

pub returns-in-Div-clause-fault : goal.returns-in-Div-clause-fault
returns-in-Div-clause-fault c = rw c.in-Div.is (IfErr-weaker c.apply_div.result _ _ (λ kind stops. (λ width e. stops.0 (site_of c.args.code.now c.args.s.now width) c.args.m.now, stops.1, refl)) c.apply_div.ensures.fault)

pub returns-in-Access-clause-done : goal.returns-in-Access-clause-done
returns-in-Access-clause-done c = rw c.in-Access.is (on_ok_weaker c.apply_access.result (λ turns. turns c.args.code.now) c.apply_access.ensures.done)

pub returns-in-Access-clause-fault : goal.returns-in-Access-clause-fault
returns-in-Access-clause-fault c = rw c.in-Access.is (IfErr-weaker c.apply_access.result _ _ (λ kind fails. (fails.0 c.args.code.now, fails.1, fails.2)) c.apply_access.ensures.fault)

pub returns-in-Pair-clause-done : goal.returns-in-Pair-clause-done
returns-in-Pair-clause-done c = rw c.in-Pair.is (on_ok_weaker c.apply_pair.result (λ turns. turns c.args.code.now) c.apply_pair.ensures.done)

pub returns-in-Pair-clause-fault : goal.returns-in-Pair-clause-fault
returns-in-Pair-clause-fault c = rw c.in-Pair.is (IfErr-weaker c.apply_pair.result _ _ (λ kind fails. (fails.0 c.args.code.now, fails.1, fails.2)) c.apply_pair.ensures.fault)

pub returns-in-Multi-clause-done : goal.returns-in-Multi-clause-done
returns-in-Multi-clause-done c = rw c.in-Multi.is (on_ok_weaker c.apply_multi.result (λ turns. turns c.args.code.now) c.apply_multi.ensures.done)

pub returns-in-Multi-clause-fault : goal.returns-in-Multi-clause-fault
returns-in-Multi-clause-fault c = rw c.in-Multi.is (IfErr-weaker c.apply_multi.result _ _ (λ kind fails. (fails.0 c.args.code.now, fails.1, fails.2)) c.apply_multi.ensures.fault)

pub returns-in-Literal-clause-done : goal.returns-in-Literal-clause-done
returns-in-Literal-clause-done c = rw c.in-Literal.is (on_ok_weaker c.apply_literal.result (λ turns. turns c.args.m.now) c.apply_literal.ensures.done)

pub returns-in-Literal-clause-fault : goal.returns-in-Literal-clause-fault
returns-in-Literal-clause-fault c = rw c.in-Literal.is (IfErr-weaker c.apply_literal.result _ _ (λ kind fails. (fails.0 c.args.m.now, fails.1, refl)) c.apply_literal.ensures.fault)

pub returns-in-Adr-clause-done : goal.returns-in-Adr-clause-done
returns-in-Adr-clause-done c = rw c.in-Adr.is (on_ok_weaker c.apply_adr.result (λ goes. goes c.args.code.now c.args.m.now) c.apply_adr.ensures.done)

pub returns-in-Adr-clause-fault : goal.returns-in-Adr-clause-fault
returns-in-Adr-clause-fault c = rw c.in-Adr.is (IfErr-weaker c.apply_adr.result _ _ (λ kind faults. (faults.0 c.args.code.now c.args.m.now, faults.1, refl)) c.apply_adr.ensures.fault)

pub returns-in-Branch-clause-done : goal.returns-in-Branch-clause-done
returns-in-Branch-clause-done c = rw c.in-Branch.is (c.apply_branch.ensures c.args.code.now c.args.m.now)

pub returns-in-ZeroBranch-clause-done : goal.returns-in-ZeroBranch-clause-done
returns-in-ZeroBranch-clause-done c = rw c.in-ZeroBranch.is (c.apply_zero_branch.ensures c.args.code.now c.args.m.now)

pub returns-in-Call-clause-done : goal.returns-in-Call-clause-done
returns-in-Call-clause-done c = rw c.in-Call.is (c.apply_call.ensures c.args.code.now c.args.m.now)

pub returns-in-Jump-clause-done : goal.returns-in-Jump-clause-done
returns-in-Jump-clause-done c = rw c.in-Jump.is (on_ok_weaker c.apply_jump.result (λ goes. goes c.args.code.now c.args.m.now) c.apply_jump.ensures.done)

pub returns-in-Jump-clause-fault : goal.returns-in-Jump-clause-fault
returns-in-Jump-clause-fault c = rw c.in-Jump.is (IfErr-weaker c.apply_jump.result _ _ (λ kind faults. (faults.0 c.args.code.now c.args.m.now, faults.1, refl)) c.apply_jump.ensures.fault)

pub returns-in-CallReg-clause-done : goal.returns-in-CallReg-clause-done
returns-in-CallReg-clause-done c = rw c.in-CallReg.is (on_ok_weaker c.apply_call_reg.result (λ goes. goes c.args.code.now c.args.m.now) c.apply_call_reg.ensures.done)

pub returns-in-CallReg-clause-fault : goal.returns-in-CallReg-clause-fault
returns-in-CallReg-clause-fault c = rw c.in-CallReg.is (IfErr-weaker c.apply_call_reg.result _ _ (λ kind faults. (faults.0 c.args.code.now c.args.m.now, faults.1, refl)) c.apply_call_reg.ensures.fault)

pub returns-in-It-clause-done : goal.returns-in-It-clause-done
returns-in-It-clause-done c = rw c.in-It.is (c.apply_it.ensures c.args.code.now c.args.m.now)

pub returns-in-Nothing-clause-done : goal.returns-in-Nothing-clause-done
returns-in-Nothing-clause-done c = rw c.in-Nothing.is (c.apply_nothing.ensures c.args.code.now c.args.m.now)

pub returns-in-Trap-clause-fault : goal.returns-in-Trap-clause-fault
unfolding change
returns-in-Trap-clause-fault c = rw c.in-Trap.is (λ width e. refl, refl, refl)
