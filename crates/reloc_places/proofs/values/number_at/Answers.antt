use Rattle.reloc_places.proofs.RelocPlaces.{right_number}
use Rattle.reloc_places.proofs.values.number_at.Goals as goal

pub addend-requires-clause-half : goal.addend-requires-clause-half
addend-requires-clause-half c = (right_number c.args.o.now c.args.r.now c.bytes_of.result.now c.sound.ensures c.requires.within c.requires.right c.bytes_of.ensures).half

pub addend-requires-clause-full : goal.addend-requires-clause-full
addend-requires-clause-full c = (right_number c.args.o.now c.args.r.now c.bytes_of.result.now c.sound.ensures c.requires.within c.requires.right c.bytes_of.ensures).full

pub addend-requires-clause-word : goal.addend-requires-clause-word
addend-requires-clause-word c = (right_number c.args.o.now c.args.r.now c.bytes_of.result.now c.sound.ensures c.requires.within c.requires.right c.bytes_of.ensures).word
