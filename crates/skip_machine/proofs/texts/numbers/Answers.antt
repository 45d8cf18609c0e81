use Rattle.std.proofs.Common.{◌<◌, ◌^◌, [], Some, None, arith, rules}
use Rattle.std.proofs.lemmas.List.Elements.{All-push}
use Rattle.std.proofs.lemmas.Str.Pattern.{split_parts}
use Rattle.skip_machine.specs.Plans.{parts_of, IsNumber}
use Rattle.skip_machine.proofs.PlanTexts.{without_comma, stuck, pushed, cut, uncut, finished}
use Rattle.skip_machine.proofs.texts.numbers.Goals as goal

pub returns-in-None-number : goal.returns-in-None-number
returns-in-None-number c =
    let text = c.args.text.now in
    let read = c.parts.read.items in
    let rest = c.parts.rest.now in
    let lacks = split_parts 44 rest None c.in-None.ensures.cases (omega arith) in
    let none : IsNumber rest None = rw c.in-None-number.is at c.number.ensures in
    stuck text read rest [] (uncut text read rest c.parts.invariant.parts (without_comma rest lacks)) none

pub returns-in-Some-number : goal.returns-in-Some-number
returns-in-Some-number c =
    let text = c.args.text.now in
    let read = c.parts.read.items in
    let rest = c.parts.rest.now in
    let n = c.in-Some-number.n in
    let lacks = split_parts 44 rest None c.in-None.ensures.cases (omega arith) in
    let one : IsNumber rest (Some n) = rw c.in-Some-number.is at c.number.ensures in
    let whole = uncut text read rest c.parts.invariant.parts (without_comma rest lacks) in
    rw c.in_ok-push-in-Some-number.ensures.items (finished text read rest n whole one.0 one.1 c.parts.invariant.small)

pub returns-in-None-number-2 : goal.returns-in-None-number-2
returns-in-None-number-2 c =
    let text = c.args.text.now in
    let read = c.parts.read.items in
    let rest = c.parts.rest.now in
    let part = c.in-Some.part.now in
    let later = c.in-Some.later.now in
    let halves = split_parts 44 rest (Some (c.in-Some.part, c.in-Some.later)) c.in-Some.ensures.cases (omega arith) in
    let none : IsNumber part None = rw c.in-None-number-2.is at c.number-in-Some.ensures in
    stuck text read part (parts_of later) (cut text read rest part later c.parts.invariant.parts halves.0 (without_comma part halves.1)) none

pub parts-preserved : goal.parts-preserved
parts-preserved c =
    let text = c.args.text.now in
    let read = c.parts.read.items in
    let rest = c.parts.rest.now in
    let part = c.in-Some.part.now in
    let later = c.in-Some.later.now in
    let n = c.in-Some-number-2.n in
    let halves = split_parts 44 rest (Some (c.in-Some.part, c.in-Some.later)) c.in-Some.ensures.cases (omega arith) in
    let one : IsNumber part (Some n) = rw c.in-Some-number-2.is at c.number-in-Some.ensures in
    let whole = cut text read rest part later c.parts.invariant.parts halves.0 (without_comma part halves.1) in
    record {
      parts = rw c.in_ok-push-in-Some-number-2.ensures.items (pushed text read part n (parts_of later) whole one.0);
      small = rw c.in_ok-push-in-Some-number-2.ensures.items (All-push (λ n. n < 2 ^ 63) read n c.parts.invariant.small one.1);
      text = search rules;
    }
