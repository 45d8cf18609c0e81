use Rattle.std.proofs.Common.{sym, ◌∙◌}
use Rattle.std.proofs.lemmas.Bool.{true≢false}
use Rattle.std.proofs.lemmas.Option.{none-some}
use Rattle.emit_object.proofs.targets.given_by.Goals as goal

pub returns-then-stays : goal.returns-then-stays
returns-then-stays c = λ p. (λ h. record { lasts = c.stays.ensures.0 c.if-stays.true; turned = sym c.turned_place.ensures ∙ h }, λ g. c.turned_place.ensures ∙ g.turned)

pub returns-else-stays : goal.returns-else-stays
returns-else-stays c = λ p. (λ h. absurd (none-some p h), λ g. absurd (true≢false (sym (c.stays.ensures.1 g.lasts) ∙ c.if-stays.false)))
