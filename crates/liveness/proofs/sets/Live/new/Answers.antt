use Rattle.std.proofs.Common.{◌∙◌, sym}
use Rattle.std.proofs.lemmas.Bool.{true≢false}
use Rattle.liveness.proofs.sets.Live.new.Goals as goal

pub invariant_of-result : goal.invariant_of-result
invariant_of-result c = λ p k h. absurd (true≢false (sym h ∙ c.in_ok-empty_sets.ensures.empty p k))
