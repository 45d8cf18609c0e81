use Rattle.std.proofs.Common.{◌≡◌, ◌-◌, ◌∙◌, ◌++◌, ◌∷◌, [], List, ap, length, arith}
use Rattle.index_links.specs.Links.{Edge, EdgeParts}
use Rattle.index_links.specs.Chains.{ChainParts, pairs}
use Rattle.index_links.proofs.PairFacts.{length_pairs, pairs_push}
use Rattle.index_links.proofs.edge_lists.EdgeLists.add.Goals as goal

pub returns-clause-index : goal.returns-clause-index
returns-clause-index c =
    let i = c.self.inside in
    let n = length_pairs i.out.heads i.into.heads c.self.invariant.links in
    let same = c.self.invariant.links in
    let edges = ap (λ (l : EdgeParts). length l.edges) c.self.view_is in
    let index = c.add.ensures.index in
    omega arith

pub returns-clause-edges : goal.returns-clause-edges
returns-clause-edges c =
    let i = c.self.inside in
    let both : record { edges = pairs (i.out.heads ++ c.args.from ∷ []) (i.into.heads ++ c.args.to ∷ []); points = i.out.size; spare = i.into.spare - 1 } ≡ record { edges = pairs i.out.heads i.into.heads ++ record { source = c.args.from; target = c.args.to } ∷ []; points = i.out.size; spare = i.into.spare - 1 } =
    ap (λ (l : List Edge). record { edges = l; points = i.out.size; spare = i.into.spare - 1 }) (pairs_push i.out.heads i.into.heads c.args.from c.args.to c.self.invariant.links) in
    let now = ap (λ (o : ChainParts). record { edges = pairs o.heads c.add.new.self.heads; points = o.size; spare = c.add.new.self.spare }) c.add-edge.ensures.links in
    let then = ap (λ (o : ChainParts). record { edges = pairs (i.out.heads ++ c.args.from ∷ []) o.heads; points = i.out.size; spare = o.spare }) c.add.ensures.links in
    let with_view = ap (λ (l : EdgeParts). record { edges = l.edges ++ record { source = c.args.from; target = c.args.to } ∷ []; points = l.points; spare = l.spare - 1 }) c.self.view_is in
    now ∙ then ∙ both ∙ with_view
