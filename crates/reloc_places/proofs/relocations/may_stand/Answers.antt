use Rattle.std.proofs.Common.{sym, ◌∙◌, arith}
use Rattle.std.proofs.lemmas.Bool.{true≢false}
use Rattle.reloc_places.proofs.relocations.may_stand.Goals as goal

pub is_straight-requires-clause-place : goal.is_straight-requires-clause-place
is_straight-requires-clause-place c = c.is_place.ensures.0 c.if-is_place.true

pub returns-then-end-from : goal.returns-then-end-from
returns-then-end-from c = (
  λ h. record { place = c.is_place.ensures.0 c.if-is_place.true; alone = omega (arith, c.if-end-from.true, c.from.ensures); straight = c.is_straight.ensures.0 h },
  λ m. c.is_straight.ensures.1 m.straight,
)

pub returns-else-is_place : goal.returns-else-is_place
returns-else-is_place c = (λ h. absurd (true≢false (sym h)), λ m. absurd (true≢false (sym (c.is_place.ensures.1 m.place) ∙ c.if-is_place.false)))
