use Rattle.std.proofs.Common.{arith}
use Rattle.index_links.proofs.QueueFacts.{empty_queue}
use Rattle.index_links.proofs.pending.Pending.new.Goals as goal

pub invariant_of-result : goal.invariant_of-result
invariant_of-result c =
    rw (c.in_ok-queue.ensures.items, c.in_ok-waits.ensures.items_if_clones_equal (λ y h. h)) (empty_queue c.args.size _ (let e = c.in_ok-queue.ensures.capacity in omega arith))
