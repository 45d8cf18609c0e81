use Rattle.branch_layout.proofs.CodingFacts.{all_coded}
use Rattle.branch_layout.proofs.laying.lay.Goals as goal

pub placed_units-requires-clause-coded : goal.placed_units-requires-clause-coded
placed_units-requires-clause-coded c = all_coded c.numbers_have_codes.ensures c.args.units.now c.args.words.now c.in_ok-placing.placing c.requires c.in_ok-placing.ensures.placing
