use Rattle.seq_core.proofs.DecodesApart.{decodes_load_several}
use Rattle.seq_core.proofs.coverage.decodes_load_several.Goals as goal

pub returns : goal.returns
returns c = decodes_load_several
