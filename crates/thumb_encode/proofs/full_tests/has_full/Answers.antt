use Rattle.std.proofs.Common.{◌∙◌, sym}
use Rattle.thumb_encode.proofs.TellsCodes.{tells_codes}
use Rattle.thumb_encode.proofs.full_tests.has_full.Goals as goal

pub returns-clause-codes : goal.returns-clause-codes
returns-clause-codes c =
    let told = tells_codes c.args.i.now c.given.ensures.registers c.given.ensures.fields in
    (λ e. told.0 (sym c.test.ensures ∙ e), λ code. c.test.ensures ∙ told.1 code)
