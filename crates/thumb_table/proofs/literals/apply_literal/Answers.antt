use Rattle.std.proofs.Common.{◌≡◌, true, false, refl}
use Rattle.std.proofs.lemmas.Result.{IfErr-weaker, on_ok_weaker}
use Rattle.thumb_table.specs.Effects.{change, lies}
use Rattle.thumb_table.proofs.literals.apply_literal.Goals as goal

pub returns-then-not-holds-clause-fault : goal.returns-then-not-holds-clause-fault
unfolding change
returns-then-not-holds-clause-fault c =
    let out : lies c.args.code.now c.literal_address-address.result 4 ≡ false = rw (← c.holds.ensures) c.if-not-holds.true in
    (λ m width e. rw (← c.literal_address-address.ensures, out) refl, refl)

pub returns-clause-done : goal.returns-clause-done
unfolding change
returns-clause-done c =
    let lies : lies c.args.code.now c.literal_address-address.result 4 ≡ true = rw (← c.holds.ensures) c.if-not-holds.false in
    on_ok_weaker c.write_word.result (λ leads m width e. rw (← c.literal_address-address.ensures, lies, ← c.literal.ensures, ← c.i.view_is) (leads m)) c.write_word.ensures.done

pub returns-clause-fault : goal.returns-clause-fault
unfolding change
returns-clause-fault c =
    let lies : lies c.args.code.now c.literal_address-address.result 4 ≡ true = rw (← c.holds.ensures) c.if-not-holds.false in
    IfErr-weaker c.write_word.result _ _ (λ kind fails. (λ m width e. rw (← c.literal_address-address.ensures, lies, ← c.literal.ensures, ← c.i.view_is, fails.0) refl, fails.1)) c.write_word.ensures.fault
