use Rattle.unit_layouts.proofs.LaidUnits.{can_lay}
use Rattle.unit_layouts.proofs.laws.units_can_be_laid.Goals as goal

pub returns : goal.returns
returns c = λ o f b copies units within flow least most are. can_lay o f b copies units flow are within least most
