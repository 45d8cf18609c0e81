-- Each operation refuses pc first.
use Rattle.std.proofs.Common.{sym}
use Rattle.thumb_instr.specs.declared.operations.AluOp.TheVariants.{And, Bic, Orr, Orn, Eor, Add, Adc, Sbc, Sub, Rsb}
use Rattle.thumb_instr.specs.declared.operations.MoveOp.TheVariants.{Mov, Mvn}
use Rattle.thumb_instr.specs.declared.operations.TestOp.TheVariants.{Tst, Teq, Cmn, Cmp}
use Rattle.thumb_instr.specs.DataRows.{data_processing}
use Rattle.thumb_decode.proofs.DataRows.{pc_alu, pc_or_move, pc_or_test}
use Rattle.thumb_decode.proofs.data_processing.with_pc.Goals as goal

pub returns-in-0 : goal.returns-in-0
unfolding data_processing
returns-in-0 c = λ s n d x h. rw c.in-0.is (sym (pc_or_test And Tst s n d x h))

pub returns-in-1 : goal.returns-in-1
unfolding data_processing
returns-in-1 c = λ s n d x h. rw c.in-1.is (sym (pc_alu Bic s n d x h))

pub returns-in-2 : goal.returns-in-2
unfolding data_processing
returns-in-2 c = λ s n d x h. rw c.in-2.is (sym (pc_or_move Orr Mov s n d x h))

pub returns-in-3 : goal.returns-in-3
unfolding data_processing
returns-in-3 c = λ s n d x h. rw c.in-3.is (sym (pc_or_move Orn Mvn s n d x h))

pub returns-in-4 : goal.returns-in-4
unfolding data_processing
returns-in-4 c = λ s n d x h. rw c.in-4.is (sym (pc_or_test Eor Teq s n d x h))

pub returns-in-8 : goal.returns-in-8
unfolding data_processing
returns-in-8 c = λ s n d x h. rw c.in-8.is (sym (pc_or_test Add Cmn s n d x h))

pub returns-in-10 : goal.returns-in-10
unfolding data_processing
returns-in-10 c = λ s n d x h. rw c.in-10.is (sym (pc_alu Adc s n d x h))

pub returns-in-11 : goal.returns-in-11
unfolding data_processing
returns-in-11 c = λ s n d x h. rw c.in-11.is (sym (pc_alu Sbc s n d x h))

pub returns-in-13 : goal.returns-in-13
unfolding data_processing
returns-in-13 c = λ s n d x h. rw c.in-13.is (sym (pc_or_test Sub Cmp s n d x h))

pub returns-in-14 : goal.returns-in-14
unfolding data_processing
returns-in-14 c = λ s n d x h. rw c.in-14.is (sym (pc_alu Rsb s n d x h))
