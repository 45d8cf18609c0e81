use Rattle.std.proofs.Common.{refl}
use Rattle.thumb_table.specs.Effects.{change}
use Rattle.thumb_table.proofs.branches.apply_it.Goals as goal

pub returns : goal.returns
unfolding change
returns c = λ code m width e. rw (c.it_state-s.ensures, ← c.i.view_is) refl
