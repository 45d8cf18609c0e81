use Rattle.std.proofs.Common.{◌≡◌, refl, subst, sym, ◌∙◌, true, false, Some, None}
use Rattle.thumb_encode.specs.declared.codes.Code.{Code}
use Rattle.thumb_encode.specs.declared.codes.Code.TheVariants as code
use Rattle.thumb_encode.specs.Encoding.{StandsFor}
use Rattle.thumb_encode.specs.FullCodes.{full_code}
use Rattle.thumb_encode.proofs.TellsCodes.{has_code, no_code}
use Rattle.thumb_encode.proofs.Standing.{no-full, only-full}
use Rattle.thumb_encode.proofs.encoding.encode_full.Goals as goal

pub returns-then-is_full-clause-only : goal.returns-then-is_full-clause-only
returns-then-is_full-clause-only c =
    let candidate : full_code c.args.i.now ≡ Some c.in-Some.number = cc in only-full c.args.i.now c.in-Some.number candidate

pub returns-else-is_full-clause-none : goal.returns-else-is_full-clause-none
returns-else-is_full-clause-none c = λ k is.
    let candidate : full_code c.args.i.now ≡ Some c.in-Some.number = cc in
    let same = only-full c.args.i.now c.in-Some.number candidate k is in
    let stands = subst (λ (y : Code). StandsFor y c.args.i.now) same is.1 in
    let wrong : false ≡ true = sym c.if-is_full.false ∙ c.is_full.ensures.1 stands in absurd (cc)

pub returns-in-None-clause-none : goal.returns-in-None-clause-none
returns-in-None-clause-none c = let none : full_code c.args.i.now ≡ None = cc in no-full c.args.i.now none

pub returns-then-is_full-clause-told : goal.returns-then-is_full-clause-told
returns-then-is_full-clause-told c = has_code c.args.i.now _ _ (c.is_full.ensures.0 c.if-is_full.true)

pub returns-else-is_full-clause-told : goal.returns-else-is_full-clause-told
returns-else-is_full-clause-told c =
    no_code c.args.i.now c.given.ensures.registers c.given.ensures.fields (λ first second stands. returns-else-is_full-clause-none c (code.Full first second) (refl, stands))

pub returns-in-None-clause-told : goal.returns-in-None-clause-told
returns-in-None-clause-told c =
    no_code c.args.i.now c.given.ensures.registers c.given.ensures.fields (λ first second stands. returns-in-None-clause-none c (code.Full first second) (refl, stands))
