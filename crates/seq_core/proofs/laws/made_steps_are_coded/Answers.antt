use Rattle.seq_core.proofs.StepsCoded.{moves_coded, sums_coded, accesses_coded, transfers_coded, copies_coded}
use Rattle.seq_core.proofs.laws.made_steps_are_coded.Goals as goal

pub returns-clause-moves : goal.returns-clause-moves
returns-clause-moves c = moves_coded c.full_codes_are_told.ensures

pub returns-clause-sums : goal.returns-clause-sums
returns-clause-sums c = sums_coded c.full_codes_are_told.ensures

pub returns-clause-accesses : goal.returns-clause-accesses
returns-clause-accesses c = accesses_coded c.full_codes_are_told.ensures

pub returns-clause-transfers : goal.returns-clause-transfers
returns-clause-transfers c = transfers_coded c.full_codes_are_told.ensures

pub returns-clause-copies : goal.returns-clause-copies
returns-clause-copies c = copies_coded c.full_codes_are_told.ensures
