use Rattle.seq_core.proofs.DecodesApart.{decodes_reach}
use Rattle.seq_core.proofs.coverage.decodes_reach.Goals as goal

pub returns : goal.returns
returns c = decodes_reach
