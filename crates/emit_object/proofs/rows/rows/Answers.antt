use Rattle.std.proofs.Common.{◌≡◌, ◌∙◌, sym, ap, subst, arith, List, ℕ, map, get_or, length, ◌<◌}
use Rattle.std.specs.Prelude.{slice_index, None}
use Rattle.std.specs.List.{zip}
use Rattle.seq_core.specs.Places.{PlacedParts}
use Rattle.hardened_form.specs.Places.{UnitPlace}
use Rattle.flow_recover.specs.declared.flows.Point.{Point}
use Rattle.branch_layout.specs.Laid.{laid_place as unit_place}
use Rattle.emit_object.specs.RowLists.{ordinals_from, rows_from, PointFits}
use Rattle.emit_object.proofs.RowPoints.{points_fit, are_rows}
use Rattle.emit_object.proofs.InsideFacts.{rows_few}
use Rattle.emit_object.proofs.rows.rows.Goals as goal

pub rows_in-requires-clause-points : goal.rows_in-requires-clause-points
rows_in-requires-clause-points c = λ k d low.
    let numbers = c.deref.ensures.value ∙ c.in_ok-numbers.ensures ∙ ap (ordinals_from 0) c.sections.ensures in
    let points : c.points.result.now ≡ c.args.f.now.points = c.points.ensures in
    subst (λ (l : List ℕ). PointFits l (get_or c.points.result.now k d)) (sym numbers)
    (subst (λ (l : List Point). PointFits (ordinals_from 0 c.args.o.now.sections) (get_or l k d)) (sym points)
    (points_fit c.args.o.now c.args.f.now c.sound.ensures c.requires.within c.requires.flow k d (subst (λ (l : List Point). k < length l) points low)))

pub returns-clause-few : goal.returns-clause-few
returns-clause-few c =
    let most = rows_few (λ j. slice_index c.deref.result.now j) c.points.result.now (map unit_place c.units.result.now) in
    let same = ap length c.in_ok-rows.ensures in
    let points = ap length c.points.ensures in
    omega arith

pub returns-clause-exact : goal.returns-clause-exact
returns-clause-exact c =
    let numbers : c.deref.result.now ≡ ordinals_from 0 c.args.o.now.sections = c.deref.ensures.value ∙ c.in_ok-numbers.ensures ∙ ap (ordinals_from 0) c.sections.ensures in
    let us : List UnitPlace = map unit_place c.args.l.now.units in
    are_rows c.args.o.now c.args.f.now c.sound.ensures c.requires.within c.requires.flow us c.args.l.now.words c.in_ok-rows.rows.items
    (c.in_ok-rows.ensures ∙ ap (λ (l : List ℕ). rows_from (λ j. slice_index l j) None (zip c.points.result.now (map unit_place c.units.result.now))) numbers
    ∙ ap (λ (l : List Point). rows_from (λ j. slice_index (ordinals_from 0 c.args.o.now.sections) j) None (zip l (map unit_place c.units.result.now))) c.points.ensures
    ∙ ap (λ (l : List PlacedParts). rows_from (λ j. slice_index (ordinals_from 0 c.args.o.now.sections) j) None (zip c.args.f.now.points (map unit_place l))) c.units.ensures)
