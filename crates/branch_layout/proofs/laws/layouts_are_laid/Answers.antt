use Rattle.branch_layout.proofs.LaidFacts.{layouts_laid}
use Rattle.branch_layout.proofs.laws.layouts_are_laid.Goals as goal

pub returns : goal.returns
returns c = layouts_laid
