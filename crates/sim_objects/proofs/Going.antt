-- Control goes on in a chart of lists as it does in the plain image.
use Rattle.std.specs.Prelude.{◌≡◌, ℕ, ◌+◌, Some, List, slice_get, refl}
use Rattle.std.proofs.Common.{ap, sym, ◌∙◌, subst}
use Rattle.thumb_table.specs.declared.placements.Placement.{Placement}
use Rattle.thumb_table.specs.Parts.{Image}
use Rattle.thumb_table.specs.Ordinary.{IsClear}
use Rattle.flow_recover.specs.declared.flows.Exit.{Exit}
use Rattle.flow_recover.specs.declared.flows.Point.{Point as FlowPoint}
use Rattle.flow_recover.specs.Points.{end_of}
use Rattle.sim_charts.specs.Charts.{Chart, Point}
use Rattle.sim_charts.specs.Flows.{Continues}
use Rattle.sim_flows.specs.Continuing.{ArePlaced}
use Rattle.sim_flows.specs.Points.{exit_at, next_at}
use Rattle.sim_flows.proofs.Continuing.{flows_continue}
use Rattle.sim_relation.specs.Accepted.{boundaries}
use Rattle.sim_objects.specs.Lists.{Pairing, plains, HaveImages}
use Rattle.sim_objects.specs.Charts.{start_at, address_in, IsCharted, IsChartOf}
use Rattle.sim_objects.specs.Going.{PointsGoOn, PairsAreLinked}
use Rattle.sim_objects.proofs.Parts.{in_plain, start_is}
use Rattle.sim_objects.proofs.Points.{charts_have_points, points_stand}
use Rattle.sim_objects.proofs.Following.{units_follow}
use Rattle.sim_objects.proofs.Moving.{one_point, address_there}
use Rattle.sim_objects.proofs.ImageStops.{stops_there}
use Rattle.sim_objects.proofs.Even.{places_are_even}
use Rattle.sim_objects.proofs.Meeting.{units_meet}
use Rattle.sim_objects.proofs.Together.{units_are_linked}
use Rattle.sim_objects.proofs.Linking.{lists_are_linked}

module _ (F c K : ℕ) (pairs : List (Pairing F c K)) (at : Placement) (plain hard : Image) (images : HaveImages F c K pairs at plain hard) (chart : Chart) (is : IsChartOf F c K pairs at chart)
    (i : ℕ) (q : Pairing F c K) (is_pair : slice_get pairs i ≡ Some q) where
  abbrev address : ℕ → ℕ
  address = address_in (plains pairs) at i q.pair.flow

  -- what the chart says of a point of the flow
  known : (j : ℕ) (x : FlowPoint) (p : Point) → slice_get q.pair.flow.points j ≡ Some x → chart (address j) ≡ Some p → IsCharted F c K pairs at i q j x p
  known j x p there here =
      let z = is.each i j q x is_pair there in
      subst (λ (r : Point). IsCharted F c K pairs at i q j x r) (one_point chart (address j) z.0 p z.1 here) z.2

  next_there : (j n : ℕ) (x : FlowPoint) (p : Point) → slice_get q.pair.flow.points j ≡ Some x → chart (address j) ≡ Some p → x.next ≡ Some n → p.next ≡ Some (address n)
  next_there j n x p there here e = (known j x p there here).next ∙ ap (λ (k : _). next_at address k) e

  placed : ArePlaced q.plain q.pair.flow q.pair.accepted.flow chart plain.code (start_at (plains pairs) at i) address
  placed = record {
    addresses = λ j x there. address_there (plains pairs) at i j x.section x.offset q.pair.flow (record { point = x; there = there; section = refl; offset = refl });
    states = λ j x p there here. (known j x p there here).state;
    widths = λ j x p there here. (known j x p there here).width;
    ends = λ j n x p r there here e next.
        let g = units_follow F c K pairs at chart is (address j) (address n) p here (next_there j n x p there here e) in
        ap (λ (z : Point). z.place) (one_point chart (address n) r g.point next g.there) ∙ g.place;
    backs = λ j n x p there here call e.
        let g = units_follow F c K pairs at chart is (address j) (address n) p here (next_there j n x p there here e) in
        g.back ((known j x p there here).way ∙ ap (λ (z : Exit). exit_at address z) call);
    stops = λ j x there call none behind clear.
        let z = is.each i j q x is_pair there in
        let pa = in_plain F c K pairs at plain hard images i j q x is_pair there z.0.it z.2.state in
        let start = start_is (plains pairs) at i x.section q.plain pa.part pa.here in
        stops_there (plains pairs) at plain images.objects images.image i x.section q.plain pa.part pa.here pa.code (end_of x) behind (subst (λ (k : ℕ). IsClear plain.code (k + end_of x)) start clear);
  }

pub points_go_on : PointsGoOn
points_go_on F c K pairs at plain hard chart images is a p there =
    let A = is.only a p there in
    let address = address_in (plains pairs) at A.file A.pairing.pair.flow in
    let here : chart (address A.number) ≡ Some p = ap chart (sym A.address) ∙ there in
    subst (λ (k : ℕ). Continues chart plain.code k p) (sym A.address)
    (flows_continue chart plain.code A.pairing.plain A.pairing.pair.flow (boundaries K) (start_at (plains pairs) at A.file) address A.pairing.pair.accepted.flow
    (charts_have_points F c K pairs at chart is A.file A.pairing A.is_pair) (placed F c K pairs at plain hard images chart is A.file A.pairing A.is_pair) A.number A.point p A.is_point here
    (points_stand F c K pairs at plain hard chart images is (address A.number) p here))

pub pairs_are_linked : PairsAreLinked
pairs_are_linked F c K pairs at plain hard chart may_skip few images is keeps =
    lists_are_linked F c K pairs at plain hard chart may_skip few images is
    (units_are_linked F c K pairs at plain hard chart may_skip images is
    (record {
      even = places_are_even F c K pairs at plain hard chart images is;
      goes = points_go_on F c K pairs at plain hard chart images is;
      meets = units_meet F c K pairs at plain hard chart images is;
    }) keeps)
