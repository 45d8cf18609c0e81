use Rattle.std.proofs.Common.{subst}
use Rattle.index_links.specs.Links.{EdgeParts, Leaves, IsFirstFrom}
use Rattle.index_links.proofs.PairFacts.{first_leaves}
use Rattle.index_links.proofs.edge_lists.EdgeLists.first_out.Goals as goal

pub returns : goal.returns
returns c =
    let i = c.self.inside in
    let first = first_leaves i.out.heads i.into.heads c.self.invariant.links c.args.p 0 c.first.result c.first.ensures in
    subst (λ (l : EdgeParts). IsFirstFrom (Leaves l.edges c.args.p) 0 c.first.result) c.self.view_is first
