use Rattle.std.proofs.Common.{◌≡◌, ◌∙◌, Some, sym, ap, length, arith}
use Rattle.std.specs.Prelude.{slice_get}
use Rattle.std.proofs.lemmas.Option.{same_Some}
use Rattle.index_links.specs.Links.{EdgeParts}
use Rattle.index_links.specs.Chains.{pairs}
use Rattle.index_links.proofs.PairFacts.{length_pairs, target_at}
use Rattle.index_links.proofs.edge_lists.EdgeLists.target.Goals as goal

pub head-requires : goal.head-requires
head-requires c =
    let i = c.self.inside in
    let n = length_pairs i.out.heads i.into.heads c.self.invariant.links in
    let same = c.self.invariant.links in
    let edges = ap (λ (l : EdgeParts). length l.edges) c.self.view_is in
    let low = c.requires in
    omega arith

pub returns-clause-target : goal.returns-clause-target
returns-clause-target c = λ x at.
    let i = c.self.inside in
    let here : slice_get (pairs i.out.heads i.into.heads) c.args.e ≡ Some x = ap (λ (l : EdgeParts). slice_get l.edges c.args.e) c.self.view_is ∙ at in
    same_Some c.head.result x.target (sym c.head.ensures.head ∙ target_at i.out.heads i.into.heads c.args.e x here)
