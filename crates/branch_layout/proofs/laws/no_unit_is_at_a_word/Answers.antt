use Rattle.branch_layout.proofs.ApartFacts.{none_at_word}
use Rattle.branch_layout.proofs.laws.no_unit_is_at_a_word.Goals as goal

pub returns : goal.returns
returns c = none_at_word
