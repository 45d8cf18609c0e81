use Rattle.seq_core.proofs.ClassesCover.{classes_cover}
use Rattle.seq_core.proofs.ClassesApart.{no_class}
use Rattle.seq_core.proofs.coverage.instructions_have_one_class.Goals as goal

pub returns-clause-one : goal.returns-clause-one
returns-clause-one c = classes_cover

pub returns-clause-none : goal.returns-clause-none
returns-clause-none c = λ i d. no_class d i
