use Rattle.std.proofs.Common.{◌≡◌, ◌+◌, ◌*◌, ◌/◌, ℕ, sym, subst, ap, ◌++◌, ◌∷◌, []}
use Rattle.branch_layout.specs.Standing.{StandingParts, StandsUsed}
use Rattle.branch_layout.proofs.StandingFacts.{word_stands}
use Rattle.branch_layout.proofs.standing.Standing.put_word.Goals as goal

pub returns : goal.returns
returns c =
    let end : c.self.inside.end ≡ c.open.new.self.end = ap (λ (s : StandingParts). s.end) c.self.view_is in
    λ units words st a b.
    subst (StandsUsed units (words ++ c.args.word.now ∷ [])) (sym c.in_ok-push_word.ensures)
    (word_stands units words c.open.new.self (c.in_ok-open.ensures.stands units words st) c.args.word.now ((c.self.inside.end + 3) / 4 * 4) (ap (λ (n : ℕ). (n + 3) / 4 * 4) end) (sym c.in_ok-open.ensures.section) a b)
