use Rattle.std.proofs.Common.{◌≡◌, ◌++◌, ◌∷◌, [], sym, subst, List, ℕ, ap, ◌∙◌}
use Rattle.branch_layout.specs.Placings.{Stretch, Placing}
use Rattle.branch_layout.specs.Standing.{StandingParts, Finishes}
use Rattle.branch_layout.proofs.StandingFacts.{finished}
use Rattle.branch_layout.proofs.standing.Standing.finish.Goals as goal

pub returns : goal.returns
returns c =
    let units : c.placing.inside.units.items ≡ c.args.self.placing.units = (let v = ap (λ (p : Placing). p.units) c.placing.view_is in let w = ap (λ (s : StandingParts). s.placing.units) c.self.view_is in cc) in
    let words : c.placing.inside.words.items ≡ c.args.self.placing.words = (let v = ap (λ (p : Placing). p.words) c.placing.view_is in let w = ap (λ (s : StandingParts). s.placing.words) c.self.view_is in cc) in
    let sizes : c.placing.inside.sizes.items ≡ c.args.self.placing.sizes = (let v = ap (λ (p : Placing). p.sizes) c.placing.view_is in let w = ap (λ (s : StandingParts). s.placing.sizes) c.self.view_is in cc) in
    let end : c.self.inside.end ≡ c.args.self.end = ap (λ (s : StandingParts). s.end) c.self.view_is in
    let pushed : c.push.new.self.items ≡ c.args.self.placing.sizes ++ c.args.self.end ∷ [] = c.in_ok-push.ensures.items ∙ ap (λ (l : List ℕ). l ++ c.self.inside.end ∷ []) sizes ∙ ap (λ (n : ℕ). c.args.self.placing.sizes ++ n ∷ []) end in
    let one : Placing = record { units = c.placing.inside.units.items; words = c.placing.inside.words.items; sizes = c.push.new.self.items } in
    let same : one ≡ record c.args.self.placing { sizes = c.args.self.placing.sizes ++ c.args.self.end ∷ [] } =
    ap (λ (l : List Stretch). record one { units = l }) units ∙ ap (λ (l : List ℕ). record one { units = c.args.self.placing.units; words = l }) words
    ∙ ap (λ (l : List ℕ). record c.args.self.placing { sizes = l }) pushed in
    subst (Finishes c.args.self) (sym same) (finished c.args.self)
