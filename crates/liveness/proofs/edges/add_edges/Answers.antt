use Rattle.std.proofs.Common.{◌<◌, ◌++◌, ◌∙◌, ℕ, List, map, inl, inr, sym, ap, subst, append_assoc}
use Rattle.std.specs.Option.{option_to_list}
use Rattle.std.proofs.lemmas.List.{map-append}
use Rattle.index_links.specs.Links.{Edge}
use Rattle.liveness.specs.Edges.{branch_target}
use Rattle.liveness.proofs.EdgeFacts.{branch_of}
use Rattle.liveness.proofs.edges.add_edges.Goals as goal

pub add_edge-requires-clause-target : goal.add_edge-requires-clause-target
add_edge-requires-clause-target c = λ q e. c.requires.targets q (inl e)

pub add_edge-requires-2-clause-target : goal.add_edge-requires-2-clause-target
add_edge-requires-2-clause-target c = λ q e. subst (λ (n : ℕ). q < n) (sym c.add_edge.ensures.points) (c.requires.targets q (inr (branch_of c.args.x.now.next c.args.x.now.exit q (sym c.branch_target.ensures ∙ e))))

pub returns-clause-edges : goal.returns-clause-edges
returns-clause-edges c =
    let made : ℕ → Edge = λ q. record { source = c.args.p; target = q } in
    let next = option_to_list c.args.x.now.next in
    let branch = option_to_list (branch_target c.args.x.now.next c.args.x.now.exit) in
    c.add_edge-2.ensures.edges
    ∙ ap (λ o. c.add_edge.new.edges.edges ++ map made (option_to_list o)) c.branch_target.ensures
    ∙ ap (λ (l : List Edge). l ++ map made branch) c.add_edge.ensures.edges
    ∙ append_assoc c.args.edges.now.edges (map made next) (map made branch)
    ∙ ap (λ (l : List Edge). c.args.edges.now.edges ++ l) (sym (map-append made next branch))
