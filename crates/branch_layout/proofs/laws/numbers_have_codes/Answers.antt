use Rattle.branch_layout.proofs.CodeFacts.{have_codes}
use Rattle.branch_layout.proofs.laws.numbers_have_codes.Goals as goal

pub returns : goal.returns
returns c = have_codes c.full_codes_are_told.ensures c.decodes_are_formed.ensures c.decodes_are_apart.ensures.apart c.decodes_are_apart.ensures.low
