use Rattle.thumb_table.proofs.proper.is_move_proper.Goals as goal

pub returns-else-not-i : goal.returns-else-not-i
returns-else-not-i c = rw (← c.i.view_is) (λ t _. c.lacks_halves.ensures.0 t, λ all. c.lacks_halves.ensures.1 (all c.if-not-i.false))
