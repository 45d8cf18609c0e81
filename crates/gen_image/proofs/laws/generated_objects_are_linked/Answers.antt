use Rattle.gen_image.proofs.Sounding.{no_fault}
use Rattle.gen_image.proofs.laws.generated_objects_are_linked.Goals as goal

pub returns : goal.returns
returns c = λ seed count spot few refusal. no_fault seed count few spot refusal.fault
