use Rattle.std.proofs.Common.{◌≡◌, true}
use Rattle.thumb_table.proofs.proper.is_half_proper.Goals as goal

pub returns-else-not-i : goal.returns-else-not-i
returns-else-not-i c = λ width m.
    let top : c.args.i.now.top ≡ true = rw (← c.i.view_is) c.if-not-i.false in
    (λ t _. (c.completes.ensures width m).0 t, λ h. (c.completes.ensures width m).1 (h top))
