-- Sequences as lists of steps.
use Rattle.std.specs.Prelude.{ℕ, List}
use Rattle.seq_core.specs.declared.steps.Step.{Step}

-- the steps in their order, and the index of the first from which a call that comes back goes on
pub record Series : Type 0 where
  pub steps : List Step
  pub landing : ℕ
