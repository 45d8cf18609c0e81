use Rattle.std.proofs.Common.{◌≡◌, ◌<◌, ◌+◌, ◌++◌, ◌∷◌, [], length, sym, subst, ap, arith}
use Rattle.std.proofs.lemmas.List.{length-append}
use Rattle.branch_layout.specs.Standing.{StandingParts, Stands}
use Rattle.branch_layout.proofs.StandingFacts.{closes}
use Rattle.branch_layout.proofs.standing.Standing.open.Goals as goal

pub loop-self-preserved : goal.loop-self-preserved
loop-self-preserved c =
    let test : c.section.result < c.args.section = c.loop-self-test.true in
    let count : c.section.result ≡ length c.loop-self.self.placing.sizes = c.section.ensures in
    let fits = c.ranges.section in
    let more : length (c.loop-self.self.placing.sizes ++ c.loop-self.self.end ∷ []) ≡ length c.loop-self.self.placing.sizes + 1 = length-append c.loop-self.self.placing.sizes (c.loop-self.self.end ∷ []) in
    let long : length c.close.new.self.placing.sizes ≡ length (c.loop-self.self.placing.sizes ++ c.loop-self.self.end ∷ []) = ap (λ (s : StandingParts). length s.placing.sizes) c.in_ok-close.ensures in
    let end : c.close.new.self.end ≡ 0 = ap (λ (s : StandingParts). s.end) c.in_ok-close.ensures in
    record {
      stands = λ units words st. subst (Stands units words) (sym c.in_ok-close.ensures) (closes units words c.loop-self.self (c.loop-self.invariant.stands units words st) (omega arith));
      low = omega arith;
      end = omega arith;
    }
