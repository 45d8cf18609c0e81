-- No two points of a chart of lists end at one address, and all lie low.
use Rattle.std.specs.Prelude.{◌≡◌, ◌<◌, ◌≤◌, ◌⊎◌, ℕ, ◌+◌, ◌-◌, Bool, true, false, cond, List, Some, slice_get, refl}
use Rattle.std.proofs.Common.{arith, inl, inr, ap, sym, ◌∙◌, subst}
use Rattle.std.proofs.lemmas.Option.{same_Some}
use Rattle.thumb_table.specs.declared.placements.Placement.{Placement}
use Rattle.thumb_table.specs.Parts.{Image}
use Rattle.flow_recover.specs.declared.flows.Point.{Point as FlowPoint}
use Rattle.flow_recover.specs.declared.flows.Exit.{Exit}
use Rattle.flow_recover.specs.declared.flows.Exit.TheVariants.{Falls, Branch, Transfer, Call, Return, Stops}
use Rattle.flow_recover.proofs.FlowPoints.{ends_apart}
use Rattle.hardened_form.specs.Places.{UnitPlace}
use Rattle.sim_charts.specs.Charts.{Point}
use Rattle.sim_images.proofs.ImageFacts.{parts_apart}
use Rattle.sim_relation.specs.Doing.{IsBack}
use Rattle.sim_objects.specs.Lists.{Pairing, plains, hards, HaveImages}
use Rattle.sim_objects.specs.Charts.{start_at, address_in, width_of, back_of, IsPointAt}
use Rattle.sim_objects.specs.Apart.{PointsEndApart, LiesLow, PointsLieLow}
use Rattle.sim_objects.proofs.Parts.{start_is, address_is, in_plain, in_hard, done_is, plain_low, hard_low}

pub widths : (x : FlowPoint) → (width_of x ≡ 2) ⊎ (width_of x ≡ 4)
widths x = go x.wide
  where
    go : (b : Bool) → (◌≡◌ {A = ℕ} (cond b 4 2) 2) ⊎ (◌≡◌ {A = ℕ} (cond b 4 2) 4)
    go true = inr refl
    go false = inl refl

pub some_width : (x : FlowPoint) → 0 < width_of x
some_width x = go x.wide
  where
    go : (b : Bool) → 0 < cond b 4 2
    go true = omega arith
    go false = omega arith

-- where a call returns to lies in its unit
back_low : (x : FlowPoint) (u : UnitPlace) (e : Exit) → x.exit ≡ e → (e ≡ Call → IsBack x u) → back_of e u ≤ u.end
back_low x u Falls is back = omega arith
back_low x u (Branch q) is back = omega arith
back_low x u Transfer is back = omega arith
back_low x u Call is back = (back refl).high
back_low x u Return is back = omega arith
back_low x u Stops is back = omega arith

module _ (F c K : ℕ) (pairs : List (Pairing F c K)) (at : Placement) (plain hard : Image) (images : HaveImages F c K pairs at plain hard) where
  same_end : (a b : ℕ) (p r : Point) → IsPointAt F c K pairs at a p → IsPointAt F c K pairs at b r → a + p.width ≡ b + r.width → a ≡ b
  same_end a b p r A B e =
      let pa = in_plain F c K pairs at plain hard images A.file A.number A.pairing A.point A.is_pair A.is_point p.it A.is.state in
      let pb = in_plain F c K pairs at plain hard images B.file B.number B.pairing B.point B.is_pair B.is_point r.it B.is.state in
      let aa : a ≡ pa.part.start + A.point.offset =
      A.address ∙ address_is F c K pairs at plain hard images A.file A.number A.pairing A.point A.is_pair A.is_point
      ∙ ap (λ (s : ℕ). s + A.point.offset) (start_is (plains pairs) at A.file A.point.section A.pairing.plain pa.part pa.here) in
      let bb : b ≡ pb.part.start + B.point.offset =
      B.address ∙ address_is F c K pairs at plain hard images B.file B.number B.pairing B.point B.is_pair B.is_point
      ∙ ap (λ (s : ℕ). s + B.point.offset) (start_is (plains pairs) at B.file B.point.section B.pairing.plain pb.part pb.here) in
      let wa = A.is.width in
      let wb = B.is.width in
      let ma = some_width A.point in
      let mb = some_width B.point in
      let ia = pa.inside in
      let ib = pb.inside in
      let together =
      parts_apart (plains pairs) at images.objects images.image.placement images.image.can A.file A.point.section B.file B.point.section A.pairing.plain B.pairing.plain pa.part pb.part pa.here pb.here
      (A.point.offset + width_of A.point - 1) (B.point.offset + width_of B.point - 1) (omega (arith, ma, ia)) (omega (arith, mb, ib)) (omega (arith, aa, bb, wa, wb, ma, mb, e)) in
      let pairing : A.pairing ≡ B.pairing = same_Some A.pairing B.pairing (sym A.is_pair ∙ ap (slice_get pairs) together.0 ∙ B.is_pair) in
      let there : slice_get A.pairing.pair.flow.points B.number ≡ Some B.point = subst (λ (z : Pairing F c K). slice_get z.pair.flow.points B.number ≡ Some B.point) (sym pairing) B.is_point in
      let ends : A.point.offset + width_of A.point ≡ B.point.offset + width_of B.point = let t = together.2 in omega (arith, t, ma, mb) in
      let number : A.number ≡ B.number =
      ends_apart A.pairing.plain A.pairing.pair.flow A.pairing.pair.accepted.flow A.number B.number A.point B.point A.is_point there together.1 ends in
      A.address ∙ ap (λ (k : ℕ). address_in (plains pairs) at k A.pairing.pair.flow A.number) together.0
      ∙ ap (λ (z : Pairing F c K). address_in (plains pairs) at B.file z.pair.flow A.number) pairing
      ∙ ap (λ (m : ℕ). address_in (plains pairs) at B.file B.pairing.pair.flow m) number ∙ sym B.address

  lies_low : (a : ℕ) (p : Point) → IsPointAt F c K pairs at a p → LiesLow a p
  lies_low a p A =
      let is = A.is in
      let pa = in_plain F c K pairs at plain hard images A.file A.number A.pairing A.point A.is_pair A.is_point p.it is.state in
      let done = done_is F c K pairs at plain hard images A.file A.number A.pairing A.point A.is_pair A.is_point is.unit is.sequence is.placed is.done in
      let ha = in_hard F c K pairs at plain hard images A.file A.number A.pairing A.point A.is_pair A.is_point p.it is.unit.start is.state done.inside in
      let aa : a ≡ pa.part.start + A.point.offset =
      A.address ∙ address_is F c K pairs at plain hard images A.file A.number A.pairing A.point A.is_pair A.is_point
      ∙ ap (λ (s : ℕ). s + A.point.offset) (start_is (plains pairs) at A.file A.point.section A.pairing.plain pa.part pa.here) in
      let start : start_at (hards pairs) at A.file A.point.section ≡ ha.part.start = start_is (hards pairs) at A.file A.point.section A.pairing.hard ha.part ha.here in
      let low = (plain_low F c K pairs at plain hard images A.file A.number A.pairing A.point A.is_pair A.is_point p.it is.state).1 in
      let high = (hard_low F c K pairs at plain hard images A.file A.number A.pairing A.point A.is_pair A.is_point ha).1 in
      let size = ha.size in
      let inside = done.inside in
      let within = done.within in
      let back = back_low A.point is.unit A.point.exit refl done.back in
      let w = is.width in
      let fits = pa.inside in
      let place = is.place in
      let behind = is.back in
      record {
        point = omega (arith, aa, w, fits, low);
        place = omega (arith, place, start, size, inside, high);
        back = omega (arith, behind, start, size, within, back, high);
        width = elim (widths A.point) [ inl t ↦ inl (w ∙ t) | inr t ↦ inr (w ∙ t) ];
      }

pub points_end_apart : PointsEndApart
points_end_apart F c K pairs at plain hard chart images is a b p r there here e = same_end F c K pairs at plain hard images a b p r (is.only a p there) (is.only b r here) e

pub points_lie_low : PointsLieLow
points_lie_low F c K pairs at plain hard chart images is a p there = lies_low F c K pairs at plain hard images a p (is.only a p there)
