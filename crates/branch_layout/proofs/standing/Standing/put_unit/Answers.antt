use Rattle.std.proofs.Common.{◌≡◌, ◌≤◌, ◌+◌, ℕ, sym, subst, ap, ◌∙◌, ◌++◌, ◌∷◌, []}
use Rattle.branch_layout.specs.Standing.{StandingParts, StandsUsed}
use Rattle.branch_layout.proofs.StandingFacts.{unit_stands}
use Rattle.branch_layout.proofs.standing.Standing.put_unit.Goals as goal

pub returns : goal.returns
returns c =
    let end : c.self.inside.end ≡ c.open.new.self.end = ap (λ (s : StandingParts). s.end) c.self.view_is in
    let start : c.in_ok-stretch.stretch.place.start ≡ c.open.new.self.end = c.in_ok-stretch.ensures.start ∙ end in
    let small : c.in_ok-stretch.stretch.place.end ≤ c.open.new.self.end + 128 = subst (λ (n : ℕ). c.in_ok-stretch.stretch.place.end ≤ n + 128) end c.in_ok-stretch.ensures.small in
    λ units words st a b.
    subst (StandsUsed (units ++ c.args.unit.now ∷ []) words) (sym c.in_ok-push_unit.ensures)
    (unit_stands units words c.open.new.self (c.in_ok-open.ensures.stands units words st) c.args.unit.now c.in_ok-stretch.stretch c.in_ok-stretch.ensures.is c.in_ok-stretch.ensures.long start small (sym c.in_ok-open.ensures.section) a b)
