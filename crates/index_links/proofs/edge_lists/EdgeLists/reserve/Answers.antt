use Rattle.std.proofs.Common.{ap, length, arith}
use Rattle.index_links.specs.Links.{EdgeParts}
use Rattle.index_links.proofs.PairFacts.{length_pairs}
use Rattle.index_links.proofs.edge_lists.EdgeLists.reserve.Goals as goal

pub reserve-requires : goal.reserve-requires
reserve-requires c =
    let i = c.self.inside in
    let n = length_pairs i.out.heads i.into.heads c.self.invariant.links in
    let edges = ap (λ (l : EdgeParts). length l.edges) c.self.view_is in
    let low = c.requires in
    omega arith

pub reserve-requires-2 : goal.reserve-requires-2
reserve-requires-2 c =
    let i = c.self.inside in
    let n = length_pairs i.out.heads i.into.heads c.self.invariant.links in
    let same = c.self.invariant.links in
    let edges = ap (λ (l : EdgeParts). length l.edges) c.self.view_is in
    let low = c.requires in
    omega arith
