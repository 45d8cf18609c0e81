use Rattle.reloc_places.proofs.DecodedPlaces.{long_alone}
use Rattle.reloc_places.proofs.laws.long_kinds_are_long.Goals as goal

pub returns : goal.returns
returns c = long_alone
