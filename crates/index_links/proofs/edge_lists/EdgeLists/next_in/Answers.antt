use Rattle.std.proofs.Common.{◌≡◌, ◌+◌, ◌∙◌, Some, ap, subst, length, arith}
use Rattle.std.specs.Prelude.{slice_get}
use Rattle.index_links.specs.Links.{EdgeParts, Enters, IsFirstFrom}
use Rattle.index_links.specs.Chains.{pairs}
use Rattle.index_links.proofs.PairFacts.{length_pairs, target_at, first_enters}
use Rattle.index_links.proofs.edge_lists.EdgeLists.next_in.Goals as goal

pub next-requires : goal.next-requires
next-requires c =
    let i = c.self.inside in
    let n = length_pairs i.out.heads i.into.heads c.self.invariant.links in
    let same = c.self.invariant.links in
    let edges = ap (λ (l : EdgeParts). length l.edges) c.self.view_is in
    let low = c.requires in
    omega arith

pub returns : goal.returns
returns c = λ x at.
    let i = c.self.inside in
    let here : slice_get (pairs i.out.heads i.into.heads) c.args.e ≡ Some x = ap (λ (l : EdgeParts). slice_get l.edges c.args.e) c.self.view_is ∙ at in
    let next = first_enters i.out.heads i.into.heads c.self.invariant.links x.target (c.args.e + 1) c.next.result (c.next.ensures x.target (target_at i.out.heads i.into.heads c.args.e x here)) in
    subst (λ (l : EdgeParts). IsFirstFrom (Enters l.edges x.target) (c.args.e + 1) c.next.result) c.self.view_is next
