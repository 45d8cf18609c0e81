use Rattle.std.proofs.Common.{Some, None, arith, rules, subst, sym, ◌<◌}
use Rattle.std.proofs.lemmas.Bool.{false≢true}
use Rattle.std.proofs.lemmas.Str.Pattern.{split_parts}
use Rattle.skip_machine.specs.declared.plan_texts.Pace.{Pace}
use Rattle.skip_machine.proofs.PlanSteps.{ArePlanned, step_on, step_back, no_step, last_test, plan_of, planned_of}
use Rattle.skip_machine.proofs.plan_texts.are_steps.Goals as goal

pub parts-preserved : goal.parts-preserved
parts-preserved c =
    let copies = c.args.copies in
    let pace = c.parts.pace in
    let rest = c.parts.rest.now in
    let part = c.in-Some.part.now in
    let later = c.in-Some.later.now in
    let cut = split_parts 44 rest (Some (c.in-Some.part, c.in-Some.later)) c.in-Some.ensures.cases (omega arith) in
    let n = c.in-Some-next_step.step in
    let step = c.in-Some-next_step.ensures in
    let is = c.behind-pace.ensures in
    record {
      same = (
        λ p. subst (λ (q : Pace). ArePlanned copies q later) (sym is) (step_on copies pace rest part later n cut.0 cut.1 step (c.parts.invariant.same.0 p)),
        λ p. c.parts.invariant.same.1 (step_back copies pace rest part later n cut.0 cut.1 step (subst (λ (q : Pace). ArePlanned copies q later) is p)),
      );
      text = search rules;
      run = subst (λ (q : Pace). q.run < copies) (sym is) step.few;
    }

pub returns-in-None : goal.returns-in-None
returns-in-None c =
    let copies = c.args.copies in
    let rest = c.parts.rest.now in
    let cut = split_parts 44 rest (Some (c.in-Some.part, c.in-Some.later)) c.in-Some.ensures.cases (omega arith) in (
      λ t. absurd (false≢true t),
      λ found. absurd (no_step copies c.parts.pace rest c.in-Some.part.now c.in-Some.later.now cut.0 cut.1 c.in-None.ensures
          (c.parts.invariant.same.0 (planned_of copies c.requires.low c.args.text.now c.requires.some found.0 found.1))),
    )

pub returns : goal.returns
returns c =
    let copies = c.args.copies in
    let rest = c.parts.rest.now in
    let lacks = split_parts 44 rest None c.in_default.ensures.cases (omega arith) in
    let last = last_test copies c.parts.pace rest lacks c.next_step-2.result c.next_step-2.ensures c.is_some.result c.is_some.ensures in (
      λ t. plan_of copies c.requires.low c.args.text.now (c.parts.invariant.same.1 (last.0 t)),
      λ found. last.1 (c.parts.invariant.same.0 (planned_of copies c.requires.low c.args.text.now c.requires.some found.0 found.1)),
    )
