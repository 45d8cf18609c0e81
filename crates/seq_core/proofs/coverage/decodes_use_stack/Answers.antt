use Rattle.seq_core.proofs.DecodesApart.{decodes_use_stack}
use Rattle.seq_core.proofs.coverage.decodes_use_stack.Goals as goal

pub returns : goal.returns
returns c = decodes_use_stack
