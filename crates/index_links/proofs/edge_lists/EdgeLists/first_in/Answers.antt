use Rattle.std.proofs.Common.{subst}
use Rattle.index_links.specs.Links.{EdgeParts, Enters, IsFirstFrom}
use Rattle.index_links.proofs.PairFacts.{first_enters}
use Rattle.index_links.proofs.edge_lists.EdgeLists.first_in.Goals as goal

pub returns : goal.returns
returns c =
    let i = c.self.inside in
    let first = first_enters i.out.heads i.into.heads c.self.invariant.links c.args.p 0 c.first.result c.first.ensures in
    subst (λ (l : EdgeParts). IsFirstFrom (Enters l.edges c.args.p) 0 c.first.result) c.self.view_is first
