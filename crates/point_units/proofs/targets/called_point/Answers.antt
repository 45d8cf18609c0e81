use Rattle.std.proofs.Common.{◌↔◌, ◌≡◌, ℕ, Some, sym, ◌∙◌, subst}
use Rattle.flow_recover.specs.Points.{IsPointAt}
use Rattle.point_units.proofs.TargetFacts.{call_leads}
use Rattle.point_units.proofs.targets.called_point.Goals as goal

pub returns-then-has_offset : goal.returns-then-has_offset
returns-then-has_offset c = λ q.
    let f = c.args.f.now in
    let x = c.args.x.now in
    call_leads f x q c.point_at.result c.requires.call c.in-None.is (sym c.has_offset.ensures ∙ c.if-has_offset.true)
    (subst (λ (t : ℕ). (c.point_at.result ≡ Some q) ↔ IsPointAt f x.section t q) c.own_target.ensures (c.point_at.ensures q))
