use Rattle.sim_answers.proofs.SymbolsStay.{symbols_stay}
use Rattle.sim_answers.proofs.laws.symbols_stay.Goals as goal

pub returns : goal.returns
returns c = symbols_stay
