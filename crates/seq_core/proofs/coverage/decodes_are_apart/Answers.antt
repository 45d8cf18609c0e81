use Rattle.seq_core.proofs.DecodesApart.{decodes_apart, decodes_by_bytes, decodes_test_low}
use Rattle.seq_core.proofs.StackKept.{through_keeps_stack}
use Rattle.seq_core.proofs.coverage.decodes_are_apart.Goals as goal

pub returns-clause-apart : goal.returns-clause-apart
returns-clause-apart c = decodes_apart

pub returns-clause-through : goal.returns-clause-through
returns-clause-through c = through_keeps_stack

pub returns-clause-bytes : goal.returns-clause-bytes
returns-clause-bytes c = decodes_by_bytes

pub returns-clause-low : goal.returns-clause-low
returns-clause-low c = decodes_test_low
