use Rattle.unit_work.proofs.Working.{units_work as work}
use Rattle.unit_work.proofs.laws.units_work.Goals as goal

pub returns : goal.returns
returns c = work (record {
  numbers = record { numbers = c.numbers_lead.ensures.numbers; copies = c.numbers_lead.ensures.copies };
  halves = record {
    idempotent = c.idempotent_decodes_in_place.ensures;
    halves = c.halves_in_place.ensures;
    formed = c.decodes_are_formed.ensures;
    apart = c.decodes_are_apart.ensures.apart;
    meanings = c.classes_tell_meanings.ensures;
    more = c.more_may_be_lost.ensures;
    steps = c.steps_do.ensures;
  };
  conditions = c.conditions_work.ensures.again;
  made = c.calls_without_next_are_dead_ends.ensures.made;
})
