-- Units that may not be skipped keep out of what may be.
use Rattle.std.specs.Prelude.{◌≡◌, ◌<◌, ◌≤◌, ℕ, ◌+◌, ◌-◌, List, Some, slice_get, refl}
use Rattle.std.proofs.Common.{arith, ap, sym, ◌∙◌, subst}
use Rattle.std.proofs.lemmas.Bool.{both_ways, false_from_ne_true}
use Rattle.std.proofs.lemmas.Option.{same_Some}
use Rattle.elf_model.proofs.Elements.{contains_at}
use Rattle.thumb_table.specs.declared.placements.Placement.{Placement}
use Rattle.thumb_table.specs.Parts.{Image}
use Rattle.flow_recover.specs.declared.flows.Point.{Point as FlowPoint}
use Rattle.hardened_form.specs.Places.{UnitPlace}
use Rattle.hardened_form.specs.Standing.{units}
use Rattle.sim_images.proofs.ImageFacts.{parts_apart}
use Rattle.sim_charts.specs.Charts.{Point}
use Rattle.sim_objects.specs.Lists.{Pairing, hards, HaveImages}
use Rattle.sim_objects.specs.Charts.{start_at, IsPointAt}
use Rattle.sim_objects.specs.Skipping.{UnitsKeepOut, AllMaySkip}
use Rattle.sim_objects.proofs.Parts.{start_is, in_hard, done_is, HardPart}
use Rattle.sim_objects.proofs.Kept.{get_zip, pairs_answer}
use Rattle.sim_objects.proofs.OneUnit.{one_whole}
use Rattle.sim_objects.proofs.Twins.{form}

module _ (F c K : ℕ) (pairs : List (Pairing F c K)) (at : Placement) (plain hard : Image) (images : HaveImages F c K pairs at plain hard) where
  -- where an address of a unit lies
  record InUnit (a : ℕ) (p : Point) (is : IsPointAt F c K pairs at a p) (y : ℕ) : Type 0 where
    part : HardPart (hards pairs) at is.file is.pairing.hard is.point.section
    offset : ℕ
    address : y ≡ part.part.start + offset
    low : is.is.unit.start ≤ offset
    high : offset < is.is.unit.end
    inside : offset < part.part.section.size

  in_unit : (a : ℕ) (p : Point) (is : IsPointAt F c K pairs at a p) (y : ℕ) → p.place ≤ y → y < p.end → InUnit a p is y
  in_unit a p is y low high =
      let q = is.pairing in
      let d = done_is F c K pairs at plain hard images is.file is.number q is.point is.is_pair is.is_point is.is.unit is.is.sequence is.is.placed is.is.done in
      let h = in_hard F c K pairs at plain hard images is.file is.number q is.point is.is_pair is.is_point p.it is.is.unit.start is.is.state d.inside in
      let from : start_at (hards pairs) at is.file is.point.section ≡ h.part.start = start_is (hards pairs) at is.file is.point.section q.hard h.part h.here in
      let place = is.is.place in
      let end = is.is.end in
      let within = d.within in
      let size = h.size in
      record {
        part = h;
        offset = y - h.part.start;
        address = omega (arith, low, place, from);
        low = omega (arith, low, place, from);
        high = omega (arith, low, place, high, end, from);
        inside = omega (arith, low, place, high, end, from, within, size);
      }

  -- units of one object
  same_point : (i n m : ℕ) (q : Pairing F c K) → slice_get pairs i ≡ Some q → (x z : FlowPoint) (u v : UnitPlace) → slice_get q.pair.flow.points n ≡ Some x → slice_get q.pair.flow.points m ≡ Some z
      → slice_get q.pair.certificate.places.units n ≡ Some u → slice_get q.pair.certificate.places.units m ≡ Some v → z.section ≡ x.section → HardPart (hards pairs) at i q.hard x.section
      → (a : ℕ) → u.start ≤ a → a < u.end → v.start ≤ a → a < v.end → x ≡ z
  same_point i n m q is_pair x z u v e f g k section h a low high from below =
      one_whole q.plain q.hard q.pair.flow q.pair.certificate.places q.pair.certificate.carriers (form F c K pairs at plain hard images (pairs_answer F c K pairs at plain hard images) i q is_pair)
      x.section h.part.section h.here.section h.code x z u v
      (contains_at (units q.pair.flow q.pair.certificate.places) n (x, u) (get_zip q.pair.flow.points q.pair.certificate.places.units n x u e g))
      (contains_at (units q.pair.flow q.pair.certificate.places) m (z, v) (get_zip q.pair.flow.points q.pair.certificate.places.units m z v f k)) refl section a low high from below

  -- one address, one answer
  allowed_alike : (a b : ℕ) (p r : Point) (A : IsPointAt F c K pairs at a p) (B : IsPointAt F c K pairs at b r) (y : ℕ) → p.place ≤ y → y < p.end → r.place ≤ y → y < r.end
      → A.pairing.may_skip A.point ≡ B.pairing.may_skip B.point
  allowed_alike a b p r A B y low high from below =
      let one = in_unit a p A y low high in
      let two = in_unit b r B y from below in
      let same = parts_apart (hards pairs) at images.forms images.hard_image.placement images.hard_image.can A.file A.point.section B.file B.point.section A.pairing.hard B.pairing.hard
      one.part.part two.part.part one.part.here two.part.here one.offset two.offset one.inside two.inside (sym one.address ∙ two.address) in
      let q : A.pairing ≡ B.pairing = same_Some A.pairing B.pairing (sym A.is_pair ∙ (ap (slice_get pairs) same.0 ∙ B.is_pair)) in
      let offset = same.2 in
      let first = two.low in
      let last = two.high in
      let point : A.point ≡ B.point =
      same_point A.file A.number B.number A.pairing A.is_pair A.point B.point A.is.unit B.is.unit A.is_point (subst (λ (z : Pairing F c K). slice_get z.pair.flow.points B.number ≡ Some B.point) (sym q) B.is_point)
      A.is.placed (subst (λ (z : Pairing F c K). slice_get z.pair.certificate.places.units B.number ≡ Some B.is.unit) (sym q) B.is.placed) (sym same.1) one.part one.offset one.low one.high
      (omega (arith, offset, first)) (omega (arith, offset, last)) in
      ap (λ (x : FlowPoint). A.pairing.may_skip x) point ∙ ap (λ (z : Pairing F c K). z.may_skip B.point) q

pub units_keep_out : UnitsKeepOut
units_keep_out F c K pairs at plain hard images may_skip within a p is kept y low high =
    false_from_ne_true (may_skip y) (λ yes.
    let s = within y yes in
    both_ways (is.pairing.may_skip is.point) kept (allowed_alike F c K pairs at plain hard images a s.address p s.point is s.is y low high s.behind_start s.before_end ∙ s.allowed))

pub all_may_skip : AllMaySkip
all_may_skip F c K pairs at all may_skip a p is kept y low high = absurd (both_ways (is.pairing.may_skip is.point) kept (all is.file is.pairing is.point is.is_pair))
