-- A chart of lists with images: at each address the first point that stands there.
use Rattle.std.specs.Prelude.{◌≡◌, ◌<◌, ◌⊎◌, ◌↔◌, ℕ, zero, suc, ◌+◌, Bool, true, false, List, [], ◌∷◌, length, map, Option, Some, None, slice_get, Contains, refl}
use Rattle.std.proofs.Common.{arith, inl, inr, ap, sym, ◌∙◌, subst}
use Rattle.std.proofs.lemmas.Bool.{true≢false, cases_order}
use Rattle.std.proofs.lemmas.List.{length-map}
use Rattle.std.proofs.lemmas.Option.{none-some, same_Some, slice_get_within}
use Rattle.elf_model.proofs.Elements.{contains_cases, contains_none, contains_here, contains_later, element_at}
use Rattle.elf_model.proofs.Lists.{get_map}
use Rattle.thumb_table.specs.declared.placements.Placement.{Placement}
use Rattle.thumb_table.specs.Parts.{Image}
use Rattle.flow_recover.specs.declared.flows.Point.{Point as FlowPoint}
use Rattle.flow_recover.specs.Points.{place_of_point}
use Rattle.flow_recover.proofs.OneFlow.{point_once_at}
use Rattle.sim_charts.specs.Charts.{Chart, Point}
use Rattle.sim_images.specs.CodeLaws.{IsLinkedInstr}
use Rattle.sim_images.proofs.ImageFacts.{parts_apart}
use Rattle.sim_images.proofs.Sequences.{one_stands}
use Rattle.sim_flows.specs.Points.{exit_at, next_at}
use Rattle.sim_relation.specs.Accepted.{boundaries}
use Rattle.sim_relation.specs.Doing.{loses}
use Rattle.sim_objects.specs.Lists.{Pairing, plains, hards, HaveImages}
use Rattle.sim_objects.specs.Charts.{start_at, address_in, width_of, back_of, IsCharted, IsPointAt}
use Rattle.sim_objects.specs.Existing.{ListsHaveCharts}
use Rattle.sim_objects.proofs.Parts.{start_is, address_is, in_plain}
use Rattle.sim_objects.proofs.Apart.{some_width}
use Rattle.sim_objects.proofs.Told.{live_test}

-- the last of the first n that is there
abbrev or_else : {A : Type 0} → Option A → Option A → Option A
or_else None y = y
or_else (Some x) y = Some x

abbrev found_in : {A : Type 0} → (ℕ → Option A) → ℕ → Option A
found_in f zero = None
found_in f (suc n) = or_else (f n) (found_in f n)

or_some : {A : Type 0} (x y : Option A) (z : A) → y ≡ Some z → (w : A) × (or_else x y ≡ Some w)
or_some None y z e = (z, e)
or_some (Some x) y z e = (x, refl)

found_some : {A : Type 0} (f : ℕ → Option A) (n i : ℕ) (y : A) → i < n → f i ≡ Some y → (z : A) × (found_in f n ≡ Some z)
found_some f zero i y lt e = absurd (omega arith)
found_some f (suc n) i y lt e =
    elim (cases_order i n) [
      | inl s ↦ (y, ap (λ (o : Option _). or_else o (found_in f n)) (ap f (sym s) ∙ e))
      | inr (inl l) ↦ let r = found_some f n i y l e in or_some (f n) (found_in f n) r.0 r.1
      | inr (inr l) ↦ absurd (omega arith)
    ]

-- whether a number is in a list
in_list : (xs : List ℕ) (n : ℕ) → (b : Bool) × ((b ≡ true) ↔ Contains xs n)
in_list [] n = (false, (λ e. absurd (true≢false (sym e)), λ c. absurd (contains_none n c)))
in_list (x ∷ xs) n =
    elim (cases_order x n) [
      | inl e ↦ (true, (λ t. subst (λ (k : ℕ). Contains (x ∷ xs) k) e (contains_here x xs), λ c. refl))
      | inr o ↦
          let r = in_list xs n in
          let other : x ≡ n → ⊥ = λ e. elim o [ inl l ↦ omega arith | inr l ↦ omega arith ] in
          (r.0, (λ t. contains_later x xs n (r.1.0 t), λ c. elim (contains_cases x xs n c) [ inl e ↦ absurd (other e) | inr d ↦ r.1.1 d ]))
    ]

module _ (F c K : ℕ) (pairs : List (Pairing F c K)) (at : Placement) (plain hard : Image) (images : HaveImages F c K pairs at plain hard) where
  -- each point can be put in a chart
  charted : (i n : ℕ) (q : Pairing F c K) (x : FlowPoint) → slice_get pairs i ≡ Some q → slice_get q.pair.flow.points n ≡ Some x → (p : Point) × IsCharted F c K pairs at i q n x p
  charted i n q x is_pair is_point =
      let flow = q.pair.accepted.flow in
      let within = slice_get_within q.pair.flow.points n x is_point in
      let many = q.pair.form.tables.lists.items.units in
      let long = length-map q.pair.flow.points place_of_point in
      let sequences = q.pair.count in
      let unit = element_at q.pair.certificate.places.units n (omega (arith, within, many, long)) in
      let sequence = element_at q.pair.certificate.sequences n (omega (arith, within, sequences)) in
      let node = element_at flow.nodes n (subst (λ (k : ℕ). n < k) flow.count within) in
      let state : slice_get (map (λ z. z.it) flow.nodes) n ≡ Some node.0.it = get_map (λ z. z.it) flow.nodes n node.0 node.1 in
      let pa = in_plain F c K pairs at plain hard images i n q x is_pair is_point node.0.it state in
      let s = one_stands (plains pairs) at plain images.objects images.image i x.section q.plain pa.part pa.here x.offset pa.end node.0.it x.instr pa.start pa.instr in
      let entry = in_list q.pair.flow.entries n in
      let live : (k : ℕ) → _ = λ (k : ℕ). live_test q.pair.flow (boundaries K) k in
      let p : Point =
      record {
        instr = s.now;
        width = width_of x;
        it = node.0.it;
        way = exit_at (address_in (plains pairs) at i q.pair.flow) x.exit;
        next = next_at (address_in (plains pairs) at i q.pair.flow) x.next;
        entry = entry.0;
        live = λ k. (live k).0 n;
        place = start_at (hards pairs) at i x.section + unit.0.start;
        end = start_at (hards pairs) at i x.section + unit.0.end;
        back = start_at (hards pairs) at i x.section + back_of x.exit unit.0;
        length = length sequence.0.steps;
        loses = λ k. loses x.instr sequence.0.scratch k;
      } in (
        p,
        record {
          unit = unit.0;
          sequence = sequence.0;
          mark = s.mark;
          placed = unit.1;
          done = sequence.1;
          instr = subst (λ (r : Option ℕ). IsLinkedInstr (plains pairs) at i x.instr r s.now s.mark) (sym pa.reloc) s.is;
          width = refl;
          state = state;
          way = refl;
          next = refl;
          entry = entry.1;
          live = λ k. (live k).1 n;
          place = refl;
          end = refl;
          back = refl;
          length = refl;
          loses = λ k. refl;
        },
      )

  abbrev There : ℕ → Type 0
  There a = (p : Point) × IsPointAt F c K pairs at a p

  -- the point n of object i, if it stands at a
  with_address : (a i n : ℕ) (q : Pairing F c K) (x : FlowPoint) → slice_get pairs i ≡ Some q → slice_get q.pair.flow.points n ≡ Some x → a ≡ address_in (plains pairs) at i q.pair.flow n → There a
  with_address a i n q x is_pair is_point here =
      let z = charted i n q x is_pair is_point in
      (z.0, record { file = i; number = n; pairing = q; point = x; is_pair = is_pair; is_point = is_point; address = here; is = z.1 })

  -- the point n of object i at a, if it is there
  abbrev if_here : (a i n : ℕ) (q : Pairing F c K) (x : FlowPoint) → slice_get pairs i ≡ Some q → slice_get q.pair.flow.points n ≡ Some x
      → (a ≡ address_in (plains pairs) at i q.pair.flow n) ⊎ ((a < address_in (plains pairs) at i q.pair.flow n) ⊎ (address_in (plains pairs) at i q.pair.flow n < a)) → Option (There a)
  if_here a i n q x is_pair is_point (inl here) = Some (with_address a i n q x is_pair is_point here)
  if_here a i n q x is_pair is_point (inr away) = None

  abbrev seek_point : (a i n : ℕ) (q : Pairing F c K) → slice_get pairs i ≡ Some q → (o : Option FlowPoint) → slice_get q.pair.flow.points n ≡ o → Option (There a)
  seek_point a i n q is_pair None e = None
  seek_point a i n q is_pair (Some x) e = if_here a i n q x is_pair e (cases_order a (address_in (plains pairs) at i q.pair.flow n))

  abbrev seek_points : (a i : ℕ) (o : Option (Pairing F c K)) → slice_get pairs i ≡ o → Option (There a)
  seek_points a i None e = None
  seek_points a i (Some q) e = found_in (λ n. seek_point a i n q e (slice_get q.pair.flow.points n) refl) (length q.pair.flow.points)

  abbrev seek : (a : ℕ) → Option (There a)
  seek a = found_in (λ i. seek_points a i (slice_get pairs i) refl) (length pairs)

  here_found : (a i n : ℕ) (q : Pairing F c K) (x : FlowPoint) (is_pair : slice_get pairs i ≡ Some q) (is_point : slice_get q.pair.flow.points n ≡ Some x) → a ≡ address_in (plains pairs) at i q.pair.flow n
      → (s : (a ≡ address_in (plains pairs) at i q.pair.flow n) ⊎ ((a < address_in (plains pairs) at i q.pair.flow n) ⊎ (address_in (plains pairs) at i q.pair.flow n < a)))
      → (t : There a) × (if_here a i n q x is_pair is_point s ≡ Some t)
  here_found a i n q x is_pair is_point here (inl e) = (with_address a i n q x is_pair is_point e, refl)
  here_found a i n q x is_pair is_point here (inr (inl l)) = absurd (omega (arith, here, l))
  here_found a i n q x is_pair is_point here (inr (inr l)) = absurd (omega (arith, here, l))

  point_found : (a i n : ℕ) (q : Pairing F c K) (x : FlowPoint) (is_pair : slice_get pairs i ≡ Some q) → a ≡ address_in (plains pairs) at i q.pair.flow n
      → (o : Option FlowPoint) (e : slice_get q.pair.flow.points n ≡ o) → o ≡ Some x → (t : There a) × (seek_point a i n q is_pair o e ≡ Some t)
  point_found a i n q x is_pair here None e is = absurd (none-some x is)
  point_found a i n q x is_pair here (Some y) e is = here_found a i n q y is_pair e here (cases_order a (address_in (plains pairs) at i q.pair.flow n))

  points_found : (a i n : ℕ) (q : Pairing F c K) (x : FlowPoint) → slice_get q.pair.flow.points n ≡ Some x → a ≡ address_in (plains pairs) at i q.pair.flow n
      → (o : Option (Pairing F c K)) (e : slice_get pairs i ≡ o) → o ≡ Some q → (t : There a) × (seek_points a i o e ≡ Some t)
  points_found a i n q x is_point here None e is = absurd (none-some q is)
  points_found a i n q x is_point here (Some r) e is =
      let same : r ≡ q = same_Some r q is in
      let point : slice_get r.pair.flow.points n ≡ Some x = subst (λ (z : Pairing F c K). slice_get z.pair.flow.points n ≡ Some x) (sym same) is_point in
      let at_it : a ≡ address_in (plains pairs) at i r.pair.flow n = subst (λ (z : Pairing F c K). a ≡ address_in (plains pairs) at i z.pair.flow n) (sym same) here in
      let one = point_found a i n r x e at_it (slice_get r.pair.flow.points n) refl point in
      found_some (λ m. seek_point a i m r e (slice_get r.pair.flow.points m) refl) (length r.pair.flow.points) n one.0 (slice_get_within r.pair.flow.points n x point) one.1

  found_there : (a i n : ℕ) (q : Pairing F c K) (x : FlowPoint) → slice_get pairs i ≡ Some q → slice_get q.pair.flow.points n ≡ Some x → a ≡ address_in (plains pairs) at i q.pair.flow n
      → (t : There a) × (seek a ≡ Some t)
  found_there a i n q x is_pair is_point here =
      let one = points_found a i n q x is_point here (slice_get pairs i) refl is_pair in
      found_some (λ j. seek_points a j (slice_get pairs j) refl) (length pairs) i one.0 (slice_get_within pairs i q is_pair) one.1

  -- two points at one address are one
  one_place : (a : ℕ) (p r : Point) (A : IsPointAt F c K pairs at a p) (B : IsPointAt F c K pairs at a r) → (A.file ≡ B.file) × (A.pairing ≡ B.pairing) × (A.number ≡ B.number)
  one_place a p r A B =
      let pa = in_plain F c K pairs at plain hard images A.file A.number A.pairing A.point A.is_pair A.is_point p.it A.is.state in
      let pb = in_plain F c K pairs at plain hard images B.file B.number B.pairing B.point B.is_pair B.is_point r.it B.is.state in
      let aa : a ≡ pa.part.start + A.point.offset =
      A.address ∙ address_is F c K pairs at plain hard images A.file A.number A.pairing A.point A.is_pair A.is_point
      ∙ ap (λ (s : ℕ). s + A.point.offset) (start_is (plains pairs) at A.file A.point.section A.pairing.plain pa.part pa.here) in
      let bb : a ≡ pb.part.start + B.point.offset =
      B.address ∙ address_is F c K pairs at plain hard images B.file B.number B.pairing B.point B.is_pair B.is_point
      ∙ ap (λ (s : ℕ). s + B.point.offset) (start_is (plains pairs) at B.file B.point.section B.pairing.plain pb.part pb.here) in
      let ma = some_width A.point in
      let mb = some_width B.point in
      let ia = pa.inside in
      let ib = pb.inside in
      let together =
      parts_apart (plains pairs) at images.objects images.image.placement images.image.can A.file A.point.section B.file B.point.section A.pairing.plain B.pairing.plain pa.part pb.part pa.here pb.here
      A.point.offset B.point.offset (omega (arith, ma, ia)) (omega (arith, mb, ib)) (omega (arith, aa, bb)) in
      let pairing : A.pairing ≡ B.pairing = same_Some A.pairing B.pairing (sym A.is_pair ∙ ap (slice_get pairs) together.0 ∙ B.is_pair) in
      let there : slice_get A.pairing.pair.flow.points B.number ≡ Some B.point = subst (λ (z : Pairing F c K). slice_get z.pair.flow.points B.number ≡ Some B.point) (sym pairing) B.is_point in
      (together.0, pairing, point_once_at A.pairing.plain A.pairing.pair.flow A.pairing.pair.accepted.flow A.number B.number A.point B.point A.is_point there together.1 together.2)

  moved : (i j n m : ℕ) (q r : Pairing F c K) (x y : FlowPoint) (p : Point) → i ≡ j → q ≡ r → n ≡ m → x ≡ y → IsCharted F c K pairs at i q n x p → IsCharted F c K pairs at j r m y p
  moved i j n m q r x y p file pairing number point is =
      subst (λ (k : ℕ). IsCharted F c K pairs at k r m y p) file
      (subst (λ (z : Pairing F c K). IsCharted F c K pairs at i z m y p) pairing
      (subst (λ (k : ℕ). IsCharted F c K pairs at i q k y p) number (subst (λ (z : FlowPoint). IsCharted F c K pairs at i q n z p) point is)))

  abbrev point_in : (a : ℕ) → Option (There a) → Option Point
  point_in a None = None
  point_in a (Some t) = Some t.0

  made : Chart
  made a = point_in a (seek a)

  point_back : (a : ℕ) (o : Option (There a)) (p : Point) → point_in a o ≡ Some p → IsPointAt F c K pairs at a p
  point_back a None p e = absurd (none-some p e)
  point_back a (Some t) p e = subst (λ (r : Point). IsPointAt F c K pairs at a r) (same_Some t.0 p e) t.1

  made_each : (i n : ℕ) (q : Pairing F c K) (x : FlowPoint) → slice_get pairs i ≡ Some q → slice_get q.pair.flow.points n ≡ Some x
      → (p : Point) × (made (address_in (plains pairs) at i q.pair.flow n) ≡ Some p) × IsCharted F c K pairs at i q n x p
  unfolding made
  made_each i n q x is_pair is_point =
      let a = address_in (plains pairs) at i q.pair.flow n in
      let t = found_there a i n q x is_pair is_point refl in
      let mine = with_address a i n q x is_pair is_point refl in
      let A : IsPointAt F c K pairs at a t.0.0 = t.0.1 in
      let z = charted i n q x is_pair is_point in
      let B : IsPointAt F c K pairs at a z.0 = record { file = i; number = n; pairing = q; point = x; is_pair = is_pair; is_point = is_point; address = refl; is = z.1 } in
      let same = one_place a t.0.0 z.0 A B in
      let point : A.point ≡ x =
      same_Some A.point x (sym A.is_point ∙ (ap (λ (r : Pairing F c K). slice_get r.pair.flow.points A.number) same.1 ∙ (ap (λ (m : ℕ). slice_get q.pair.flow.points m) same.2 ∙ is_point))) in
      (t.0.0, ap (point_in a) t.1, moved A.file i A.number n A.pairing q A.point x t.0.0 same.0 same.1 same.2 point A.is)

  made_only : (a : ℕ) (p : Point) → made a ≡ Some p → IsPointAt F c K pairs at a p
  unfolding made
  made_only a p e = point_back a (seek a) p e

pub lists_have_charts : ListsHaveCharts
lists_have_charts F c K pairs at plain hard images =
    (made F c K pairs at plain hard images, record { each = made_each F c K pairs at plain hard images; only = made_only F c K pairs at plain hard images })
