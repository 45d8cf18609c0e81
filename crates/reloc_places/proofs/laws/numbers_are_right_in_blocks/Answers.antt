use Rattle.reloc_places.proofs.DecodedPlaces.{number_alone}
use Rattle.reloc_places.proofs.laws.numbers_are_right_in_blocks.Goals as goal

pub returns : goal.returns
returns c = number_alone
