use Rattle.std.proofs.Common.{◌+◌, take, map, sym, ap, ◌∙◌, subst, arith, Option, Some}
use Rattle.std.proofs.lemmas.Bool.{both_ways}
use Rattle.flat_link.specs.declared.known.Known.{Known}
use Rattle.flat_link.specs.Known.{defined_of, IsFirstSecond}
use Rattle.flat_link.proofs.SecondFacts.{known_at, step_yes, step_no, at_end}
use Rattle.flat_link.proofs.seconds.second_of.Goals as goal
use Rattle.flat_link.proofs.seconds.second_of.Goals.{then-is_second, else-is_second}

pub is_second-requires-clause-known : goal.is_second-requires-clause-known
is_second-requires-clause-known c = known_at c.args.names.now.objects.now c.args.all.now c.requires.all c.loop-known.known-index c.known-item.result (omega arith) c.known-item.is

pub loop-known-preserved : goal.loop-known-preserved
loop-known-preserved c =
    let objects = c.args.names.now.objects.now in
    let next = λ (o : Option Known). IsFirstSecond objects (map defined_of (take (c.loop-known.known-index + 1) c.args.all.now)) o in
    elim c.if-is_second.branch [
      | then-is_second w ↦
          subst next (sym (w.first-is ∙ ap (λ (k : Known). Some k) w.lower.ensures))
          (step_yes objects c.args.all.now c.requires.all c.loop-known.known-index c.known-item.result (omega arith) c.known-item.is c.loop-known.first (c.is_second.ensures.0 w.if-is_second.true) c.loop-known.invariant)
      | else-is_second w ↦
          subst next (sym w.first-is)
          (step_no objects c.args.all.now c.requires.all c.loop-known.known-index c.known-item.result (omega arith) c.known-item.is c.loop-known.first
          (λ s. absurd (both_ways c.is_second.result w.if-is_second.false (c.is_second.ensures.1 s))) c.loop-known.invariant)
    ]

pub returns : goal.returns
returns c = at_end c.args.names.now.objects.now c.args.all.now c.requires.all c.loop-known.known-index c.loop-known.first (omega arith) c.loop-known.invariant
