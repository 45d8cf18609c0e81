-- The order of nodes is total, and tells them apart.
use Rattle.std.proofs.Common.{ℕ, ap}
use Rattle.std.specs.Cmp.{IsTotalOrder}
use Rattle.std.specs.Ordering.{nat_cmp, ordering_then}
use Rattle.std.proofs.lemmas.Cmp.{nat_cmp_total, on_total, then_total}
use Rattle.std.proofs.lemmas.Map.Lookups.{CmpEqualImpliesEq, exact_unsigned, exact_pairs}
use Rattle.flow_recover.specs.declared.nodes.Node.{Node}
use Rattle.flow_recover.specs.Charts.{node_cmp}

pub node_total : IsTotalOrder node_cmp
node_total = then_total (on_total (λ (n : Node). n.section) nat_cmp_total) (then_total (on_total (λ (n : Node). n.offset) nat_cmp_total) (on_total (λ (n : Node). n.it) nat_cmp_total))

abbrev key_of : Node → ℕ × (ℕ × ℕ)
key_of n = (n.section, (n.offset, n.it))

abbrev node_of : ℕ × (ℕ × ℕ) → Node
node_of k = record { section = k.0; offset = k.1.0; it = k.1.1 }

pub node_exact : CmpEqualImpliesEq node_cmp
node_exact x y e =
    ap node_of (exact_pairs nat_cmp (λ (p q : ℕ × ℕ). ordering_then (nat_cmp p.0 q.0) (nat_cmp p.1 q.1)) exact_unsigned (exact_pairs nat_cmp nat_cmp exact_unsigned exact_unsigned) (key_of x) (key_of y) e)
