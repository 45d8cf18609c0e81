use Rattle.std.proofs.Common.{arith}
use Rattle.flat_link.proofs.SecondFacts.{known_at}
use Rattle.flat_link.proofs.entries.entries_of.Goals as goal

pub address_of-address-requires-clause-known : goal.address_of-address-requires-clause-known
address_of-address-requires-clause-known c = known_at c.args.layout.now.objects.now c.args.all.now c.requires.all c.loop-known.known-index c.known-item.result (omega arith) c.known-item.is
