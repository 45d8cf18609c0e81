use Rattle.std.proofs.Common.{◌≡◌, ◌≤◌, ◌+◌, ◌-◌, ℕ, length, sym, subst, ap, arith}
use Rattle.branch_layout.specs.Standing.{StandingParts, StandsAt, IsPlaced}
use Rattle.branch_layout.proofs.PutFacts.{none_put, none_to_put}
use Rattle.branch_layout.proofs.standing.place.Goals as goal

pub loop-count-init : goal.loop-count-init
loop-count-init c = record {
  low = omega arith;
  stands = subst (StandsAt c.args.units.now c.args.words.now 0 0) (sym c.new-standing.ensures) (none_put c.args.units.now c.args.words.now);
}

pub loop-count-preserved : goal.loop-count-preserved
loop-count-preserved c =
    let low : c.loop-count.i ≤ c.loop-count.count = c.loop-count.invariant.low in
    let to : c.in_ok-i.i ≤ c.loop-count.i + 1 = c.in_ok-i.ensures.to in
    let left : c.loop-count.i + (c.loop-count.count - c.loop-count.i) + 1 - c.in_ok-i.i ≡ c.loop-count.count + 1 - c.in_ok-i.i = omega arith in
    record {
      low = omega arith;
      stands = subst (λ (n : ℕ). StandsAt c.args.units.now c.args.words.now c.in_ok-i.i n c.put_next.new.self) left c.in_ok-i.ensures.stands;
    }

pub returns-else-units-words-gt0 : goal.returns-else-units-words-gt0
returns-else-units-words-gt0 c =
    let same : c.loop-count.standing.placing ≡ c.standing-else-units-words-gt0.inside.placing = sym (ap (λ (s : StandingParts). s.placing) c.standing-else-units-words-gt0.view_is) in
    let none : length c.args.units.now + length c.args.words.now ≡ 0 = let t = c.if-units-words-gt0.false in omega arith in
    let low : c.loop-count.i ≤ c.loop-count.count = c.loop-count.invariant.low in
    let end = c.loop-count-test.false in
    let most = c.loop-count.auto.count-end in
    let all : c.loop-count.i + (c.loop-count.count - c.loop-count.i) ≡ length c.args.units.now + length c.args.words.now = omega arith in
    subst (IsPlaced c.args.units.now c.args.words.now) same
    (none_to_put c.args.units.now c.args.words.now c.loop-count.i (c.loop-count.count - c.loop-count.i) c.loop-count.standing c.loop-count.invariant.stands all none)
