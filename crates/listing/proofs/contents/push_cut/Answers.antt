use Rattle.std.proofs.Common.{◌≡◌, ◌+◌, arith}
use Rattle.listing.proofs.Leading.{leads_cut, leads_cut_later}
use Rattle.listing.proofs.contents.push_cut.Goals as goal

pub returns-in_ok-push_byte_line : goal.returns-in_ok-push_byte_line
returns-in_ok-push_byte_line c =
    let e : c.args.at + 3 ≡ c.args.end = omega arith in
    λ o j k l. rw c.it_after.ensures (leads_cut_later o j c.args.bytes.now c.args.at c.args.it c.args.end _ _ _ e c.in_ok-push_short_line.ensures c.in_ok-push_byte_line.ensures k l)

pub returns-else-end-at-eq3 : goal.returns-else-end-at-eq3
returns-else-end-at-eq3 c =
    let e : c.args.at + 2 ≡ c.args.end = omega arith in
    λ o j k l. rw c.it_after-else-end-at-eq3.ensures (leads_cut o j c.args.bytes.now c.args.at c.args.it c.args.end _ _ e c.in_ok-push_short_line.ensures k l)
