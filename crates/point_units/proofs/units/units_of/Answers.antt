use Rattle.std.proofs.Common.{List, Some, sym, ◌∙◌, subst, get_or}
use Rattle.std.proofs.lemmas.Option.{slice_get-get_or}
use Rattle.elf_model.specs.declared.refusals.Spot.{Spot}
use Rattle.code_ranges.specs.Spots.{IsFirst}
use Rattle.emit_object.proofs.FlowGives.{readable}
use Rattle.point_units.proofs.FlowRows.{can_replace, input_within}
use Rattle.point_units.proofs.LackFacts.{refusal_is, all_suffice}
use Rattle.point_units.proofs.units.units_of.Goals as goal

pub returns-in-Some-clause-refused : goal.returns-in-Some-clause-refused
returns-in-Some-clause-refused c =
    refusal_is c.args.f.now c.args.b.now c.in_ok-spots.spots.items c.in-Some.spot c.in_ok-spots.ensures (subst (λ (l : List Spot). IsFirst l (Some c.in-Some.spot)) c.deref.ensures.value c.in-Some.ensures)

pub all_units-requires-clause-enough : goal.all_units-requires-clause-enough
all_units-requires-clause-enough c = all_suffice c.args.f.now c.args.b.now c.in_ok-spots.spots.items c.in_ok-spots.ensures (sym c.deref.ensures.value ∙ c.in-None.ensures)

pub returns-clause-enough : goal.returns-clause-enough
returns-clause-enough c = all_suffice c.args.f.now c.args.b.now c.in_ok-spots.spots.items c.in_ok-spots.ensures (sym c.deref.ensures.value ∙ c.in-None.ensures)

pub lacking_spots-requires-clause-flow : goal.lacking_spots-requires-clause-flow
lacking_spots-requires-clause-flow c = c.recovered_flows_name_points.ensures c.args.o.now c.args.f.now (input_within c.args.o.now c.requires.within) c.requires.flow

pub all_units-requires-clause-readable : goal.all_units-requires-clause-readable
all_units-requires-clause-readable c = readable c.args.o.now c.args.f.now c.sound.ensures c.requires.flow (input_within c.args.o.now c.requires.within)

pub all_units-requires-clause-rise : goal.all_units-requires-clause-rise
all_units-requires-clause-rise c = c.points_stand_apart.ensures.rise c.args.o.now c.args.f.now (input_within c.args.o.now c.requires.within) c.requires.flow

pub all_units-requires-clause-flow : goal.all_units-requires-clause-flow
all_units-requires-clause-flow c = c.recovered_flows_name_points.ensures c.args.o.now c.args.f.now (input_within c.args.o.now c.requires.within) c.requires.flow

pub all_units-requires-clause-can : goal.all_units-requires-clause-can
all_units-requires-clause-can c = λ k d low. can_replace c.full_codes_are_rows.ensures c.args.o.now c.args.f.now c.requires.flow k (get_or c.args.f.now.points k d) (slice_get-get_or c.args.f.now.points k d low)
