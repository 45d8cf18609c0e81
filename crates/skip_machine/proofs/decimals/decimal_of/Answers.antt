use Rattle.std.proofs.Common.{refl, sym, subst}
use Rattle.std.proofs.lemmas.Bool.{false≢true}
use Rattle.skip_machine.specs.Decimals.{IsPlain}
use Rattle.skip_machine.proofs.DecimalTexts.{only_plain, plain_is_read, decimal_is_read}
use Rattle.skip_machine.proofs.decimals.decimal_of.Goals as goal

pub returns-then-not-is_plain : goal.returns-then-not-is_plain
returns-then-not-is_plain c = only_plain c.args.text.now (λ plain. false≢true (c.if-not-is_plain.ensures.1 (subst IsPlain (sym c.as_bytes.ensures.value) plain)))

pub returns-in-Ok : goal.returns-in-Ok
returns-in-Ok c = plain_is_read c.args.text.now c.in-Ok.n (subst IsPlain c.as_bytes.ensures.value (c.if-not-is_plain.ensures.0 refl)) c.in-Ok.ensures.value.0.0 c.in-Ok.ensures.value.0.1

pub returns-in-Err : goal.returns-in-Err
returns-in-Err c = decimal_is_read c.args.text.now c.in-Err.field-0 c.parse.result c.in-Err.is c.parse.ensures.value.0
