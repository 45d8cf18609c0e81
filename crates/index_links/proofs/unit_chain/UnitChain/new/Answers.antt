use Rattle.std.proofs.Common.{arith}
use Rattle.index_links.proofs.OrderFacts.{no_units}
use Rattle.index_links.proofs.unit_chain.UnitChain.new.Goals as goal

pub invariant_of-result : goal.invariant_of-result
invariant_of-result c = rw (c.new.ensures.items, c.new-2.ensures.items) (no_units, record { small = omega arith; room = omega arith }, record { small = omega arith; room = omega arith })
