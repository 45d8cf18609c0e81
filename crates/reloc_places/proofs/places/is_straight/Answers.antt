use Rattle.reloc_places.proofs.RelocPlaces.{number_read}
use Rattle.reloc_places.proofs.places.is_straight.Goals as goal

pub addend-requires-clause-half : goal.addend-requires-clause-half
addend-requires-clause-half c = (number_read c.args.o.now c.args.r.now c.bytes_of.result.now c.sound.ensures c.requires.within c.requires.good c.requires.place c.bytes_of.ensures).half

pub addend-requires-clause-full : goal.addend-requires-clause-full
addend-requires-clause-full c = (number_read c.args.o.now c.args.r.now c.bytes_of.result.now c.sound.ensures c.requires.within c.requires.good c.requires.place c.bytes_of.ensures).full
