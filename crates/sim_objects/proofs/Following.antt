-- Where units go on in a chart of lists.
use Rattle.std.specs.Prelude.{◌≡◌, ℕ, ◌+◌, List, Some}
use Rattle.std.proofs.Common.{arith, ap, sym, ◌∙◌}
use Rattle.thumb_table.specs.declared.placements.Placement.{Placement}
use Rattle.flow_recover.specs.declared.flows.Exit.{Exit}
use Rattle.flow_recover.proofs.FlowPoints.{next_there}
use Rattle.sim_charts.specs.Charts.{Chart, Point}
use Rattle.sim_flows.proofs.Living.{next_leads, call_is}
use Rattle.sim_objects.specs.Lists.{Pairing, plains, hards}
use Rattle.sim_objects.specs.Charts.{start_at, point_at, address_in, width_of, back_of, IsPointAt, IsChartOf}
use Rattle.sim_objects.specs.Following.{GoesOn, UnitsFollow}

module _ (F c K : ℕ) (pairs : List (Pairing F c K)) (at : Placement) (chart : Chart) (is : IsChartOf F c K pairs at chart) where
  goes_on : (a b : ℕ) (p : Point) → IsPointAt F c K pairs at a p → p.next ≡ Some b → GoesOn chart a p b
  goes_on a b p A e =
      let q = A.pairing in
      let x = A.point in
      let m = next_leads (address_in (plains pairs) at A.file q.pair.flow) x.next b (sym A.is.next ∙ e) in
      let y = next_there q.plain q.pair.flow q.pair.accepted.flow A.number x A.is_point m.0 m.1 in
      let z = is.each A.file m.0 q y.point A.is_pair y.there in
      let done = q.pair.done A.number x A.is.unit A.is.sequence A.is_point A.is.placed A.is.done in
      let from : a ≡ start_at (plains pairs) at A.file x.section + x.offset = A.address ∙ ap (point_at (start_at (plains pairs) at A.file)) A.is_point in
      let to : b ≡ start_at (plains pairs) at A.file y.point.section + y.point.offset = sym m.2 ∙ ap (point_at (start_at (plains pairs) at A.file)) y.there in
      let old : start_at (plains pairs) at A.file y.point.section ≡ start_at (plains pairs) at A.file x.section = ap (start_at (plains pairs) at A.file) y.section in
      let new : start_at (hards pairs) at A.file y.point.section ≡ start_at (hards pairs) at A.file x.section = ap (start_at (hards pairs) at A.file) y.section in
      let offset : y.point.offset ≡ x.offset + width_of x = y.offset in
      let width = A.is.width in
      let ends = done.end m.0 z.2.unit m.1 z.2.placed in
      let mine = A.is.end in
      let its = z.2.place in
      record {
        point = z.0;
        there = ap chart (sym m.2) ∙ z.1;
        behind = omega (arith, from, to, old, offset, width);
        place = omega (arith, its, mine, new, ends);
        back = λ call.
            let exit = call_is (address_in (plains pairs) at A.file q.pair.flow) x.exit (sym A.is.way ∙ call) in
            A.is.back ∙ (ap (λ (w : Exit). start_at (hards pairs) at A.file x.section + back_of w A.is.unit) exit ∙ (ap (λ (k : ℕ). start_at (hards pairs) at A.file x.section + k) ((done.back exit).behind m.0 m.1) ∙ sym A.is.end));
      }

pub units_follow : UnitsFollow
units_follow F c K pairs at chart is a b p there e = goes_on F c K pairs at chart is a b p (is.only a p there) e
