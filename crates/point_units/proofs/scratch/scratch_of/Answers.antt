use Rattle.std.proofs.Common.{◌++◌, List, ℕ, ap, ◌∙◌}
use Rattle.thumb_instr.specs.Operands.{has}
use Rattle.liveness.specs.Spots.{picked}
use Rattle.point_units.specs.Scratch.{order}
use Rattle.point_units.specs.Spots.{free_in}
use Rattle.point_units.proofs.FreeFacts.{picked_is_scratch}
use Rattle.point_units.proofs.scratch.scratch_of.Goals as goal

pub returns : goal.returns
returns c = c.in_ok-push_free.ensures ∙ ap (λ (l : List ℕ). l ++ picked (free_in c.busy.result) order) c.new-free.ensures.items ∙ picked_is_scratch c.busy.result (has c.args.live.0) c.args.i.now c.busy.ensures
