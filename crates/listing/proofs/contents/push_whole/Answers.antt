use Rattle.std.proofs.Common.{sym}
use Rattle.listing.proofs.Leading.{leads_instruction, leads_refused}
use Rattle.listing.proofs.contents.push_whole.Goals as goal

pub returns-in_ok-push_instr_line-in-Ok : goal.returns-in_ok-push_instr_line-in-Ok
returns-in_ok-push_instr_line-in-Ok c = λ o j end k l. rw c.state_behind.ensures
    (leads_instruction o j c.args.bytes.now c.args.at c.args.it end _ _ _ (sym c.in-Ok.ensures) c.in_ok-push_instr_line-in-Ok.ensures k l)

pub returns-in_ok-push_short_lines-in-Err : goal.returns-in_ok-push_short_lines-in-Err
returns-in_ok-push_short_lines-in-Err c = λ o j end k l. rw c.it_after.ensures
    (leads_refused o j c.args.bytes.now c.args.at c.args.it end _ _ _ (sym c.in-Err.ensures) c.in_ok-push_short_lines-in-Err.ensures k l)
