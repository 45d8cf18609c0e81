-- Points of a chart of lists and their units stand at even addresses.
use Rattle.std.specs.Prelude.{◌≡◌, ℕ, ◌+◌, ◌%◌, List, refl}
use Rattle.std.specs.List.{zip}
use Rattle.std.proofs.Common.{arith, ap, ◌∙◌}
use Rattle.elf_model.proofs.Elements.{contains_at}
use Rattle.thumb_table.specs.declared.placements.Placement.{Placement}
use Rattle.thumb_table.specs.Parts.{Image}
use Rattle.flow_recover.specs.declared.flows.Exit.{Exit}
use Rattle.flow_recover.specs.declared.flows.Exit.TheVariants.{Falls, Branch, Transfer, Call, Return, Stops}
use Rattle.flow_recover.specs.declared.flows.Point.{Point as FlowPoint}
use Rattle.hardened_form.specs.Places.{UnitPlace}
use Rattle.sim_charts.specs.Charts.{Point}
use Rattle.sim_relation.specs.Doing.{IsBack}
use Rattle.sim_objects.specs.Lists.{Pairing, plains, hards, HaveImages}
use Rattle.sim_objects.specs.Charts.{start_at, back_of, IsPointAt}
use Rattle.sim_objects.specs.Even.{PlacesAreEven}
use Rattle.sim_objects.proofs.EvenPlain.{point_even}
use Rattle.sim_objects.proofs.EvenUnits.{unit_even, unit_ends, at_zip}
use Rattle.sim_objects.proofs.Parts.{start_is, address_is, plain_there, in_plain, in_hard, done_is, plain_low, hard_low}

back_even : (x : FlowPoint) (u : UnitPlace) (e : Exit) → x.exit ≡ e → (e ≡ Call → IsBack x u) → u.end % 2 ≡ 0 → back_of e u % 2 ≡ 0
back_even x u Falls is back even = even
back_even x u (Branch q) is back even = even
back_even x u Transfer is back even = even
back_even x u Call is back even = (back refl).even
back_even x u Return is back even = even
back_even x u Stops is back even = even

module _ (F c K : ℕ) (pairs : List (Pairing F c K)) (at : Placement) (plain hard : Image) (images : HaveImages F c K pairs at plain hard) where
  even_there : (a : ℕ) (p : Point) → IsPointAt F c K pairs at a p → (a % 2 ≡ 0) × (p.place % 2 ≡ 0) × (p.back % 2 ≡ 0)
  even_there a p A =
      let is = A.is in
      let q = A.pairing in
      let x = A.point in
      let pa = in_plain F c K pairs at plain hard images A.file A.number q x A.is_pair A.is_point p.it is.state in
      let done = done_is F c K pairs at plain hard images A.file A.number q x A.is_pair A.is_point is.unit is.sequence is.placed is.done in
      let ha = in_hard F c K pairs at plain hard images A.file A.number q x A.is_pair A.is_point p.it is.unit.start is.state done.inside in
      let from : a ≡ pa.part.start + x.offset =
      A.address ∙ address_is F c K pairs at plain hard images A.file A.number q x A.is_pair A.is_point
      ∙ ap (λ (s : ℕ). s + x.offset) (start_is (plains pairs) at A.file x.section q.plain pa.part pa.here) in
      let fours = (plain_low F c K pairs at plain hard images A.file A.number q x A.is_pair A.is_point p.it is.state).0 in
      let offset = point_even (plains pairs) at plain images.objects images.image A.file q.plain q.pair.flow (plain_there F c K pairs at plain hard images A.file A.number q x A.is_pair A.is_point) q.pair.accepted.flow A.number x A.is_point in
      let start : start_at (hards pairs) at A.file x.section ≡ ha.part.start = start_is (hards pairs) at A.file x.section q.hard ha.part ha.here in
      let hard_fours = (hard_low F c K pairs at plain hard images A.file A.number q x A.is_pair A.is_point ha).0 in
      let listed = contains_at (zip q.pair.flow.points q.pair.certificate.places.units) A.number (x, is.unit) (at_zip q.pair.flow.points q.pair.certificate.places.units A.number x is.unit A.is_point is.placed) in
      let unit = unit_even q.plain q.hard F c K q.may_skip q.pair x is.unit ha.part.section listed ha.here.section ha.code in
      let end = unit_ends q.plain q.hard F c K q.may_skip q.pair A.number x is.unit A.is_point is.placed unit in
      let back = back_even x is.unit x.exit refl done.back end in
      let place = is.place in
      let returns = is.back in
      (omega (arith, from, fours, offset), omega (arith, place, start, hard_fours, unit), omega (arith, returns, start, hard_fours, back))

pub places_are_even : PlacesAreEven
places_are_even F c K pairs at plain hard chart images is a p there = even_there F c K pairs at plain hard images a p (is.only a p there)
