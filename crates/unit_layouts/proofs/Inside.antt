-- Each unit of a flow's points begins before the end of its section.
use Rattle.std.proofs.Common.{◌≡◌, ◌<◌, ◌≤◌, ℕ, ◌+◌, ◌%◌, List, [], ◌∷◌, length, get_or, refl, sym, ap, ◌∙◌, subst, inl, inr, arith, Some, eq-eqb}
use Rattle.std.specs.Prelude.{slice_get, slice_index, Contains, IsTrue, ◌==◌, replicate}
use Rattle.std.specs.List.{zip}
use Rattle.std.specs.declared.cmp.Ordering.TheVariants.{Less}
use Rattle.std.proofs.lemmas.Bool.{cases_lt}
use Rattle.std.proofs.lemmas.List.{length-append, length-replicate}
use Rattle.std.proofs.lemmas.List.Sums.{sum_by-cons}
use Rattle.std.proofs.lemmas.Option.{same_Some, slice_get_within, get_or_from_slice_get}
use Rattle.std.proofs.lemmas.Slice.Zip.{AllZip-long}
use Rattle.elf_model.specs.declared.refusals.TheConstants.Limit.{INPUT}
use Rattle.elf_model.specs.Objects.{ObjectParts, is_within}
use Rattle.elf_model.proofs.Elements.{element_at, contains_at, contains_cases, contains_filter, contains_later, contains_none, filter_contains}
use Rattle.thumb_encode.specs.declared.codes.Width.{Width}
use Rattle.thumb_encode.specs.declared.codes.Width.TheVariants.{Half, Full}
use Rattle.code_ranges.specs.Spans.{place_cmp}
use Rattle.code_ranges.proofs.InOrder.{Rises, never_less, rises_keys}
use Rattle.code_ranges.proofs.PlaceOrder.{place_total}
use Rattle.flow_recover.specs.declared.flows.PoolWord.{PoolWord}
use Rattle.flow_recover.specs.Flows.{FlowParts}
use Rattle.flow_recover.specs.WholeFlows.{IsFlow}
use Rattle.flow_recover.proofs.FlowPoints.{points_rise}
use Rattle.hardened_form.specs.Items.{Item, old_place, item_of_unit, items_in, new_start, StandFrom}
use Rattle.liveness.specs.declared.boundary.Boundary.{Boundary}
use Rattle.seq_core.specs.declared.steps.Step.{Step}
use Rattle.seq_core.specs.declared.units.Unit.{Unit as SeqUnit}
use Rattle.seq_core.specs.Places.{PlacedParts, LayoutParts}
use Rattle.branch_layout.specs.Copies.{copies_of, bytes_of, length_of}
use Rattle.branch_layout.specs.Given.{CanLay}
use Rattle.branch_layout.specs.Layouts.{IsPlacedUnit, IsLayout}
use Rattle.branch_layout.specs.Leading.{AllLead}
use Rattle.branch_layout.specs.Placings.{Stretch, Placing, places_of, unit_point, IsStretch, IsPlacing}
use Rattle.branch_layout.proofs.LaidFacts.{layouts_laid}
use Rattle.branch_layout.proofs.OnePlacing.{unit_among}
use Rattle.branch_layout.proofs.WithinFacts.{IsEven, starts, stands_between, item_is_even, unit_within, all_zip_at, zip_at}
use Rattle.point_units.specs.Units.{AreUnits}
use Rattle.unit_layouts.proofs.Behind.{IsBehind, is_behind, less_at, rises_filter}
use Rattle.unit_layouts.proofs.FewWords.{input_any}
use Rattle.unit_layouts.proofs.LaidUnits.{point_of_unit, gives_of, can_lay}

-- WHAT HAS STEPS HAS BYTES

copies_some : (c : ℕ) (steps : List Step) → 1 ≤ c → ((k : ℕ) (s : Step) → slice_get steps k ≡ Some s → s.copies ≡ c) → 1 ≤ length steps → 1 ≤ length (copies_of steps)
copies_some c [] least same some = absurd (omega arith)
copies_some c (s ∷ steps) least same some =
    let many : s.copies ≡ c = same 0 s refl in
    let first : length (replicate s.copies s) ≡ s.copies = length-replicate s.copies s in
    let all : length (copies_of (s ∷ steps)) ≡ length (replicate s.copies s) + length (copies_of steps) = length-append (replicate s.copies s) (copies_of steps) in
    omega arith

bytes_some : (ws : List Width) → 1 ≤ length ws → 1 ≤ length_of ws
bytes_some [] some = absurd (omega arith)
bytes_some (Half ∷ ws) some = let sum : length_of (Half ∷ ws) ≡ 2 + length_of ws = sum_by-cons bytes_of Half ws in omega arith
bytes_some (Full ∷ ws) some = let sum : length_of (Full ∷ ws) ≡ 4 + length_of ws = sum_by-cons bytes_of Full ws in omega arith

has_bytes : (c : ℕ) (u : SeqUnit) (s : Stretch) → 1 ≤ c → AllLead c u.seq → 1 ≤ length u.seq.steps → IsStretch u s → s.place.start < s.place.end
has_bytes c u s least lead some is =
    let copies = copies_some c u.seq.steps least (λ k t e. (lead k t e).many) some in
    let count = is.count in
    let bytes = bytes_some s.widths (omega arith) in
    let end = is.end in
    omega arith

-- WHAT IS BEFORE ANOTHER STANDS BEFORE IT

abbrev Before : Item → Item → Type 0
Before a b = place_cmp (old_place a) (old_place b) ≡ Less

never_both : (a b : Item) → Before a b → Before b a → ⊥
never_both a b = never_less place_cmp place_total (old_place a) (old_place b)

in_order : (x : ℕ) (items : List Item) (size : ℕ) → ((it : Item) → Contains items it → IsEven it) → Rises Before items → StandFrom x items size → x % 2 ≡ 0 → (a b : Item) → Contains items a → Contains items b → Before a b → a.end ≤ b.new
in_order x [] size even rise s e a b h k before = absurd (contains_none a h)
in_order x (i ∷ items) size even rise s e a b h k before =
    let here = even i (contains_at (i ∷ items) 0 i refl) in
    let later : ((it : Item) → Contains items it → IsEven it) = λ it g. even it (contains_later i items it g) in
    let new : i.new ≡ new_start i.word x = s.0 in
    let start = starts i.word x e in
    let behind = here.end in
    let bytes = here.even in
    let two = start.1 in
    let even_end : i.end % 2 ≡ 0 = omega arith in
    elim (contains_cases i items a h) [
      | inl first ↦ elim (contains_cases i items b k) [
        | inl second ↦ absurd (let low : Before a a = subst (λ (z : Item). Before a z) (sym second ∙ first) before in never_both a a low low)
        | inr second ↦
            let low = (stands_between i.end items size later s.1 even_end b second).low in
            let m : i.end ≡ a.end = ap (λ (it : Item). it.end) first in
            omega arith
      ]
      | inr first ↦ elim (contains_cases i items b k) [
        | inl second ↦ absurd (never_both a i (subst (λ (z : Item). Before a z) (sym second) before) (rise.0 a first))
        | inr second ↦ in_order i.end items size later rise.1 s.1 even_end a b first second before
      ]
    ]

module _ (units : List SeqUnit) (words : List PoolWord) (p : Placing) (given : CanLay units words) (placing : IsPlacing units words p) where
  starts_before : (k m : ℕ) (u v : SeqUnit) (s r : Stretch) → slice_get units k ≡ Some u → slice_get units m ≡ Some v → slice_get p.units k ≡ Some s → slice_get p.units m ≡ Some r → v.section ≡ u.section → k < m → s.place.start ≤ r.place.start
  starts_before k m u v s r e f g h section l =
      let a : Item = item_of_unit (unit_point u, s.place) in
      let b : Item = item_of_unit (unit_point v, r.place) in
      let one = unit_among units words p placing k u s e g in
      let two = unit_among units words p placing m v r f h in
      let size = element_at p.sizes u.section (placing.sections.within a one) in
      let even_in : ((i : Item) → Contains (items_in placing.items u.section) i → IsEven i) = λ i c. item_is_even units words p placing i (contains_filter (λ (j : Item). j.section == u.section) placing.items i c).0 in
      let in_one = filter_contains (λ (i : Item). i.section == u.section) placing.items a one (eq-eqb u.section u.section refl) in
      let in_two = filter_contains (λ (i : Item). i.section == u.section) placing.items b two (eq-eqb v.section u.section section) in
      let rise = rises_filter Before never_both (λ (i : Item). i.section == u.section) placing.items (rises_keys old_place place_cmp placing.items placing.of.rise) in
      let less : Before a b =
      less_at (λ (y z : SeqUnit). place_cmp (unit_point y) (unit_point z) ≡ Less) (λ y z. never_less place_cmp place_total (unit_point y) (unit_point z)) units k m u v (rises_keys unit_point place_cmp units given.unit_order) e f l in
      let order : s.place.end ≤ r.place.start = in_order 0 (items_in placing.items u.section) size.0 even_in rise (placing.stand u.section size.0 size.1) refl a b in_one in_two less in
      let up = (unit_within units words p placing k u s e g).up in
      omega arith

  starts_at_most : (k m : ℕ) (u v : SeqUnit) (s r : Stretch) → slice_get units k ≡ Some u → slice_get units m ≡ Some v → slice_get p.units k ≡ Some s → slice_get p.units m ≡ Some r → v.section ≡ u.section → k ≤ m → s.place.start ≤ r.place.start
  starts_at_most k m u v s r e f g h section l = elim (cases_lt k m) [
    | inl less ↦ starts_before k m u v s r e f g h section less
    | inr more ↦
        let same : k ≡ m = omega arith in
        let one : s ≡ r = same_Some s r (sym g ∙ ap (slice_get p.units) same ∙ h) in
        let start : s.place.start ≡ r.place.start = ap (λ (z : Stretch). z.place.start) one in
        omega arith
  ]

module _ (o : ObjectParts) (f : FlowParts) (b : Boundary) (c : ℕ) (units : List SeqUnit) (l : LayoutParts) (within : IsTrue (is_within o INPUT)) (flow : IsFlow o f) (least : 2 ≤ c) (most : c ≤ 4) (are : AreUnits o f b c f.points units) (is : IsLayout units f.words l) where
  abbrev p : Placing
  p = is.placing

  -- a placed unit, with its unit and its stretch
  pub record HasUnit (k : ℕ) (u : PlacedParts) : Type 0 where
    pub unit : SeqUnit
    pub there : slice_get units k ≡ Some unit
    pub same : u.unit ≡ unit
    pub stretch : Stretch
    pub placed : slice_get p.units k ≡ Some stretch
    pub start : u.start ≡ stretch.place.start

  many : length p.units ≡ length units
  many = AllZip-long IsStretch units p.units is.places.placed.stretches

  pub unit_of_placed : (k : ℕ) (u : PlacedParts) → slice_get l.units k ≡ Some u → HasUnit k u
  unit_of_placed k u at =
      let laid = layouts_laid units f.words l is in
      let count : length l.units ≡ length units = laid.count in
      let low = slice_get_within l.units k u at in
      let m = many in
      let v = element_at units k (omega arith) in
      let s = element_at p.units k (omega arith) in
      let placed : IsPlacedUnit (places_of p) (v.0, s.0) u = all_zip_at (IsPlacedUnit (places_of p)) (zip units p.units) l.units k (v.0, s.0) u is.codes (zip_at units p.units k v.0 s.0 v.1 s.1) at in
      record { unit = v.0; there = v.1; same = placed.unit; stretch = s.0; placed = s.1; start = placed.start }

  pub begins_inside : (k : ℕ) (u : PlacedParts) → slice_get l.units k ≡ Some u → u.start < slice_index l.sizes u.unit.section
  begins_inside k u at =
      let h = unit_of_placed k u at in
      let x = point_of_unit o f b c units flow are k h.unit h.there in
      let y : IsBehind f k x.point = is_behind o f flow (points_rise o f flow (input_any o within)) k x.point x.there in
      let low = slice_get_within f.points y.index y.point y.there in
      let sized : length units ≡ length f.points = are.sized in
      let m = many in
      let v = element_at units y.index (omega arith) in
      let r = element_at p.units y.index (omega arith) in
      let w = are.each y.index y.point v.0 y.there v.1 in
      let section : v.0.section ≡ h.unit.section = w.section ∙ y.section ∙ sym x.is.section in
      let gives = gives_of o f b c units flow are y.index v.0 (record { point = y.point; there = y.there; is = w }) in
      let bytes = has_bytes c v.0 r.0 (omega arith) gives.lead (gives.some y.body) (all_zip_at IsStretch units p.units y.index v.0 r.0 is.places.placed.stretches v.1 r.1) in
      let order = starts_at_most units f.words p (can_lay o f b c units flow are within least most) is.places.placed k y.index h.unit v.0 h.stretch r.0 h.there v.1 h.placed r.1 section y.behind in
      let lies = unit_within units f.words p is.places.placed y.index v.0 r.0 v.1 r.1 in
      let high = lies.high in
      let at_size : get_or p.sizes v.0.section 0 ≡ lies.size = get_or_from_slice_get p.sizes v.0.section lies.size 0 lies.there in
      let size : slice_index l.sizes u.unit.section ≡ lies.size = ap (λ (ns : List ℕ). slice_index ns u.unit.section) is.sizes ∙ ap (λ (z : SeqUnit). slice_index p.sizes z.section) h.same ∙ ap (slice_index p.sizes) (sym section) ∙ at_size in
      let start = h.start in
      omega arith
