use Rattle.std.proofs.Common.{refl}
use Rattle.thumb_table.specs.Effects.{change}
use Rattle.thumb_table.proofs.branches.apply_call.Goals as goal

pub returns : goal.returns
unfolding change
returns c = λ code m width e. rw (e, c.fall.ensures, c.return_word.ensures, c.call_target-target.ensures) refl
