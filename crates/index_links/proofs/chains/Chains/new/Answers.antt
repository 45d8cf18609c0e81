use Rattle.std.proofs.Common.{arith}
use Rattle.index_links.proofs.ChainFacts.{no_chains}
use Rattle.index_links.proofs.chains.Chains.new.Goals as goal

pub invariant_of-result : goal.invariant_of-result
invariant_of-result c =
    rw (c.new.ensures.items, c.new-2.ensures.items, c.in_ok-no_links.ensures, c.in_ok-no_links-2.ensures)
    (no_chains c.args.size, record { small = omega arith; room = omega arith }, record { small = omega arith; room = omega arith })
