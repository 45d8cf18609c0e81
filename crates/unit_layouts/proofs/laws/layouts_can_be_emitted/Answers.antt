use Rattle.unit_layouts.proofs.EmittedUnits.{can_emit}
use Rattle.unit_layouts.proofs.laws.layouts_can_be_emitted.Goals as goal

pub returns : goal.returns
returns c = λ o f b copies units l sound within flow least most are is. can_emit o f b copies units l within flow least most are is
