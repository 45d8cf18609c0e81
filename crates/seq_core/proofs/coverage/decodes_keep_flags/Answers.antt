use Rattle.seq_core.proofs.FlagsKept.{keeps_flags}
use Rattle.seq_core.proofs.coverage.decodes_keep_flags.Goals as goal

pub returns : goal.returns
returns c = λ place first second i e k. keeps_flags i (c.decodes_are_formed.ensures place first second i e).registers (c.decodes_use_carry_once.ensures place first second i e) k
