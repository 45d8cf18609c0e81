use Rattle.std.proofs.Common.{◌≡◌, ◌==◌, ◌&&◌, ◌||◌, not, true, false, sym, ◌∙◌}
use Rattle.thumb_instr.specs.Operands.{is_operand}
use Rattle.thumb_instr.specs.DataRows.{names, is_rrx, takes_sp}
use Rattle.thumb_decode.proofs.DataRows.{ok_register, some_test, test_row_is}
use Rattle.thumb_decode.proofs.data_processing.test_row.Goals as goal

pub returns-then-flags : goal.returns-then-flags
returns-then-flags c =
    let number = ok_register c.in_ok-n.n c.args.n c.in_ok-n.ensures in
    let made = some_test (is_operand c.args.x) c.in-Some.a (record { op = c.args.op; n = c.in_ok-n.n; x = c.args.x }) c.in-Some.ensures in
    let same : c.in_ok-n.n ≡ c.args.n = number.1 in
    let odd : (((c.args.n == 13) && not (takes_sp c.args.op)) || names 13 c.args.x) ≡ false = (let e = rw same at c.test_has_odd_sp.ensures in sym e ∙ c.if-test_has_odd_sp.false) in
    let flags : is_rrx c.args.x ≡ true = sym c.is_rrx-flags.ensures ∙ c.if-flags.true in
    let pc : ((c.args.n == 15) || names 15 c.args.x) ≡ false = (rw (number.0, c.without_pc.ensures)) in
    sym (test_row_is c.args.op c.args.n c.args.x false true true odd made.0 flags pc)

pub returns-else-flags : goal.returns-else-flags
returns-else-flags c =
    let number = ok_register c.in_ok-n.n c.args.n c.in_ok-n.ensures in
    let made = some_test (is_operand c.args.x) c.in-Some.a (record { op = c.args.op; n = c.in_ok-n.n; x = c.args.x }) c.in-Some.ensures in
    let same : c.in_ok-n.n ≡ c.args.n = number.1 in
    let odd : (((c.args.n == 13) && not (takes_sp c.args.op)) || names 13 c.args.x) ≡ false = (let e = rw same at c.test_has_odd_sp.ensures in sym e ∙ c.if-test_has_odd_sp.false) in
    let flags : is_rrx c.args.x ≡ false = sym c.is_rrx-flags.ensures ∙ c.if-flags.false in
    let pc : ((c.args.n == 15) || names 15 c.args.x) ≡ false = (rw (number.0, c.without_pc.ensures)) in
    (let e = made.1 in rw e (rw same)) ∙ sym (test_row_is c.args.op c.args.n c.args.x false true false odd made.0 flags pc)
