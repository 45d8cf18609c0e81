use Rattle.std.proofs.Common.{◌≡◌, inl, inr, sym, ◌∙◌, arith, ap, Some}
use Rattle.thumb_encode.specs.Encoding.{row_number}
use Rattle.thumb_encode.specs.HalfCodes.{half_code, later_code}
use Rattle.thumb_encode.proofs.Standing.{no-half, early-half, late-half}
use Rattle.thumb_encode.proofs.encoding.encode_half.Goals as goal

pub returns-in-Some-clause-first : goal.returns-in-Some-clause-first
returns-in-Some-clause-first c = λ other is.
    let early : half_code c.args.i.now ≡ Some c.in-Some.h = sym c.half_candidate.ensures ∙ c.in-Some.ensures.gives.0 in
    elim (early-half c.args.i.now c.in-Some.h early other is) [
      | inl later ↦ omega (arith, later)
      | inr same ↦ omega (arith, ap row_number same)
    ]

pub returns-in-Some-clause-only : goal.returns-in-Some-clause-only
returns-in-Some-clause-only c = λ other is level.
    let early : half_code c.args.i.now ≡ Some c.in-Some.h = sym c.half_candidate.ensures ∙ c.in-Some.ensures.gives.0 in
    elim (early-half c.args.i.now c.in-Some.h early other is) [
      | inl later ↦ absurd (omega (arith, later))
      | inr same ↦ same
    ]

pub returns-in-Some-checked_half-clause-first : goal.returns-in-Some-checked_half-clause-first
returns-in-Some-checked_half-clause-first c = λ other is.
    let h = c.in-Some-checked_half.h in
    let late : later_code c.args.i.now ≡ Some h = sym c.later_half.ensures ∙ c.in-Some-checked_half.ensures.gives.0 in
    let same = late-half c.args.i.now h (λ k e stands. c.in-None.ensures.none k (c.half_candidate.ensures ∙ e) stands) late other is in
    omega (arith, ap row_number same)

pub returns-in-Some-checked_half-clause-only : goal.returns-in-Some-checked_half-clause-only
returns-in-Some-checked_half-clause-only c = λ other is level.
    let h = c.in-Some-checked_half.h in
    let late : later_code c.args.i.now ≡ Some h = sym c.later_half.ensures ∙ c.in-Some-checked_half.ensures.gives.0 in
    late-half c.args.i.now h (λ k e stands. c.in-None.ensures.none k (c.half_candidate.ensures ∙ e) stands) late other is

pub returns-in-None-checked_half-clause-none : goal.returns-in-None-checked_half-clause-none
returns-in-None-checked_half-clause-none c = no-half c.args.i.now
    (λ k e stands. c.in-None.ensures.none k (c.half_candidate.ensures ∙ e) stands)
    (λ k e stands. c.in-None-checked_half.ensures.none k (c.later_half.ensures ∙ e) stands)
