use Rattle.std.proofs.Common.{inl, inr}
use Rattle.liveness.proofs.sets.successors.Goals as goal

pub next_set-requires : goal.next_set-requires
next_set-requires c = λ q e. c.requires q (inl e)

pub target_set-requires : goal.target_set-requires
target_set-requires c = λ q e. c.requires q (inr e)
