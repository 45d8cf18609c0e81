-- What is live at the points of a chart of lists, and what their units spare.
use Rattle.std.specs.Prelude.{◌≡◌, ℕ, ◌&&◌, ◌||◌, not, Bool, true, List, Some, slice_get, refl}
use Rattle.std.proofs.Common.{ap, sym, ◌∙◌, inl, inr}
use Rattle.thumb_instr.specs.declared.instructions.Instr.{Instr}
use Rattle.thumb_instr.specs.Numbers.{renumbered}
use Rattle.thumb_instr.specs.Sets.{reads_of, writes_of, sets_flags_of}
use Rattle.thumb_table.specs.declared.placements.Placement.{Placement}
use Rattle.flow_recover.specs.declared.flows.Point.{Point as FlowPoint}
use Rattle.flow_recover.specs.declared.flows.Exit.{Exit}
use Rattle.flow_recover.specs.declared.flows.Exit.TheVariants.{Falls, Branch, Transfer, Call, Return, Stops}
use Rattle.flow_recover.proofs.FlowPoints.{next_there, target_there}
use Rattle.liveness.specs.Paths as paths
use Rattle.liveness.specs.Paths.{IsLiveBefore}
use Rattle.sim_charts.specs.Charts as charts
use Rattle.sim_charts.specs.Charts.{Chart, Point, sets_of}
use Rattle.sim_charts.specs.Boundaries.{boundary}
use Rattle.sim_charts.specs.Flows.{Lives, Spares}
use Rattle.sim_flows.specs.Points.{exit_at}
use Rattle.sim_flows.proofs.Living.{next_leads, branch_leads, some_is}
use Rattle.sim_flows.proofs.Numbers.{same_reads, same_writes, same_flags, reads_same, writes_same, condition_same}
use Rattle.sim_relation.specs.Accepted.{boundaries}
use Rattle.sim_relation.specs.Spared.{way_by}
use Rattle.sim_relation.specs.Charted.{Known}
use Rattle.sim_relation.proofs.Living.{accepted_live}
use Rattle.sim_relation.proofs.Spared.{pairs_spare}
use Rattle.sim_objects.specs.Lists.{Pairing, plains}
use Rattle.sim_objects.specs.Charts.{address_in, IsCharted, IsChartOf}
use Rattle.sim_objects.specs.Living.{PointsLive, PointsSpare}
use Rattle.sim_objects.proofs.Parts.{plain_cond}
use Rattle.sim_objects.proofs.Points.{flow_point}

-- the address that a branch leads to
abbrev target_in : (ℕ → ℕ) → Exit → ℕ
target_in address Falls = 0
target_in address (Branch m) = address m
target_in address Transfer = 0
target_in address Call = 0
target_in address Return = 0
target_in address Stops = 0

way_is : (address : ℕ → ℕ) (e : Exit) → exit_at address e ≡ way_by (target_in address e) e
way_is address Falls = refl
way_is address (Branch m) = refl
way_is address Transfer = refl
way_is address Call = refl
way_is address Return = refl
way_is address Stops = refl

-- the point with the object's own number
abbrev own : FlowPoint → Point → Point
own x p = record p { instr = x.instr }

-- what two instructions name that are one but for their numbers
named_alike : (i j : Instr) → renumbered 0 i ≡ renumbered 0 j → (k : ℕ) → (reads_of i k || sets_of i k) ≡ (reads_of j k || sets_of j k)
named_alike i j e k =
    ap (λ (b : Bool). b || (writes_of i k || sets_flags_of i k)) (same_reads i j e k)
    ∙ (ap (λ (b : Bool). reads_of j k || (b || sets_flags_of i k)) (same_writes i j e k) ∙ ap (λ (b : Bool). reads_of j k || (writes_of j k || b)) (same_flags i j e k))

module _ (F c K : ℕ) (pairs : List (Pairing F c K)) (at : Placement) (chart : Chart) (is : IsChartOf F c K pairs at chart) where
  module _ (i n : ℕ) (q : Pairing F c K) (x : FlowPoint) (p : Point) (is_pair : slice_get pairs i ≡ Some q) (there : slice_get q.pair.flow.points n ≡ Some x) (point : IsCharted F c K pairs at i q n x p) where
    -- a point that it leads to
    leads_in : (a : ℕ) → charts.Leads p a → (m : ℕ) × (y : FlowPoint) × paths.Leads x m × (slice_get q.pair.flow.points m ≡ Some y) × (address_in (plains pairs) at i q.pair.flow m ≡ a)
    leads_in a (inl e) =
        let m = next_leads (address_in (plains pairs) at i q.pair.flow) x.next a (sym point.next ∙ e) in
        let y = next_there q.plain q.pair.flow q.pair.accepted.flow n x there m.0 m.1 in
        (m.0, y.point, inl m.1, y.there, m.2)
    leads_in a (inr e) =
        let m = branch_leads (address_in (plains pairs) at i q.pair.flow) x.exit a (sym point.way ∙ e) in
        let y = (target_there q.plain q.pair.flow q.pair.accepted.flow n x there m.0 m.1).2 in
        (m.0, y.point, inr m.1, y.there, m.2)

    live_in : (k a : ℕ) (r : Point) → charts.Leads p a → chart a ≡ Some r → r.live k ≡ true → (m : ℕ) × paths.Leads x m × IsLiveBefore q.pair.flow (boundaries K) k m
    live_in k a r lead at_a live =
        let m = leads_in a lead in
        let z = is.each i m.0 q m.1 is_pair m.3 in
        let same : r ≡ z.0 = some_is r z.0 (sym at_a ∙ (ap chart (sym m.4) ∙ z.1)) in
        (m.0, m.2, (z.2.live k).0 (ap (λ (w : Point). w.live k) (sym same) ∙ live))

    way_in : p.way ≡ way_by (target_in (address_in (plains pairs) at i q.pair.flow) x.exit) x.exit
    way_in = point.way ∙ way_is (address_in (plains pairs) at i q.pair.flow) x.exit

    cond_in : charts.cond_of p ≡ x.cond
    cond_in = sym (plain_cond q.plain q.pair.flow q.pair.accepted.flow n p.it x there point.state)

    number_in : renumbered 0 p.instr ≡ renumbered 0 x.instr
    number_in = (flow_point F c K pairs at i n q x p there point).instr 0

    own_live : Lives chart K (own x p)
    own_live =
        accepted_live q.plain q.pair.flow K q.pair.accepted q.pair.few chart n x (own x p) there
        (record {
          instr = refl;
          cond = cond_in;
          follows = record { target = target_in (address_in (plains pairs) at i q.pair.flow) x.exit; way = way_in; live = live_in };
          live = point.live;
          entry = point.entry.0;
        })

    lives_in : Lives chart K p
    lives_in =
        let reads : (k : ℕ) → charts.reads_at (own x p) k ≡ charts.reads_at p k = λ k. reads_same (own x p) x refl cond_in k ∙ sym (reads_same p x number_in cond_in k) in
        let writes : (k : ℕ) → charts.always_writes (own x p) k ≡ charts.always_writes p k = λ k. writes_same (own x p) x refl cond_in k ∙ sym (writes_same p x number_in cond_in k) in
        let condition : charts.has_condition (own x p) ≡ charts.has_condition p = condition_same (own x p) x refl cond_in ∙ sym (condition_same p x number_in cond_in) in
        record {
          used = λ k u.
              own_live.used k (ap (λ (b : Bool). b || (boundary K p.way k && not (charts.always_writes (own x p) k))) (reads k) ∙ (ap (λ (b : Bool). charts.reads_at p k || (boundary K p.way k && not b)) (writes k) ∙ u));
          passed = λ k b r passes lead at_b live unwritten. own_live.passed k b r (ap (λ (v : Bool). not (paths.leaves p.way) || v) condition ∙ passes) lead at_b live (writes k ∙ unwritten);
          entered = own_live.entered;
          returned = own_live.returned;
        }

    abbrev known : Known
    known = record { it = p.it; way = p.way; next = p.next; entry = p.entry; live = p.live }

    spares_in : Spares chart K p
    spares_in =
        let s =
        pairs_spare q.plain q.hard F c K q.may_skip q.pair n x point.unit point.sequence there point.placed point.done 0 known chart
        (record { target = target_in (address_in (plains pairs) at i q.pair.flow) x.exit; way = way_in; live = live_in }) in
        record {
          onward = λ k b r leaving lead at_b live. point.loses k ∙ s.onward k b r leaving lead at_b live;
          away = λ k leaving bound. point.loses k ∙ s.away k leaving bound;
          stack = point.loses 13 ∙ s.stack;
          link = λ named. point.loses 14 ∙ s.link (sym (named_alike p.instr x.instr number_in 14) ∙ named);
        }

pub points_live : PointsLive
points_live F c K pairs at chart is a p there =
    let A = is.only a p there in
    lives_in F c K pairs at chart is A.file A.number A.pairing A.point p A.is_pair A.is_point A.is

pub points_spare : PointsSpare
points_spare F c K pairs at chart is a p there =
    let A = is.only a p there in
    spares_in F c K pairs at chart is A.file A.number A.pairing A.point p A.is_pair A.is_point A.is
