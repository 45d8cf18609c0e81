use Rattle.seq_core.proofs.ClassesTell.{classes_tell}
use Rattle.seq_core.proofs.laws.classes_tell_meanings.Goals as goal

pub returns : goal.returns
returns c = classes_tell
