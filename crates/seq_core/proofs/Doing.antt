-- Steps that carry an instruction out do it wherever they stand.
use Rattle.std.proofs.Math.Nat.{mul-zero, mul-suc, add_comm}
use Rattle.std.proofs.Common.{ap, ◌∙◌}
use Rattle.std.specs.Prelude.{◌≡◌, ℕ, ◌+◌, ◌*◌, List, [], ◌∷◌, length}
use Rattle.seq_core.specs.declared.steps.Step.{Step}
use Rattle.seq_core.specs.Sequences.{steps_of}
use Rattle.seq_core.specs.Denoted.{Spots, groups_of}
use Rattle.seq_core.specs.Builders.{StepsDo, work}
use Rattle.seq_core.proofs.Denoted.{steps_work}

counted : (c : ℕ) (p : Spots) (ss : List Step) → c * length ss ≡ steps_of c (groups_of p ss)
counted c p [] = mul-zero c
counted c p (s ∷ ss) = mul-suc c (length ss) ∙ add_comm (c * length ss) c ∙ ap (λ n. c + n) (counted c p ss)

pub steps_do : StepsDo
steps_do test i lost copies steps carries = record {
  carries = carries;
  tolerates = λ code p place stand. steps_work code copies (work test p place (copies * length steps) i lost) p steps stand (counted copies p steps) (carries p);
}
