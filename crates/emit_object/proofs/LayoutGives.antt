-- What a layout that a hardened object can be made from gives: its units and words are those of the flow, in order, and low.
use Rattle.std.proofs.Common.{◌≡◌, ◌<◌, ◌≤◌, ℕ, ◌+◌, ◌^◌, true, List, [], ◌∷◌, ◌++◌, length, map, get_or, refl, sym, ap, ◌∙◌, subst, inl, inr, arith, Option, Some, None}
use Rattle.std.specs.Prelude.{slice_get, Contains, All, flat_map, ◌==◌, ◌&&◌, nat_lt}
use Rattle.std.specs.List.{zip}
use Rattle.std.proofs.lemmas.Bool.{and_parts, eqb-true, ltb-true, cases_Bool}
use Rattle.std.proofs.lemmas.List.{length-map}
use Rattle.std.proofs.lemmas.List.Elements.{Contains-append_cases}
use Rattle.std.proofs.lemmas.Option.{slice_get-get_or}
use Rattle.elf_model.specs.Objects.{ObjectParts}
use Rattle.elf_model.proofs.Elements.{place_of, contains_at, contains_map, contains_none, contains_here, contains_later}
use Rattle.code_ranges.proofs.InOrder.{same_at_each}
use Rattle.flow_recover.specs.declared.flows.Point.{Point}
use Rattle.flow_recover.specs.declared.flows.PoolWord.{PoolWord}
use Rattle.flow_recover.specs.Flows.{FlowParts}
use Rattle.flow_recover.specs.Points.{place_of_point}
use Rattle.seq_core.specs.Places.{PlacedParts, LayoutParts}
use Rattle.hardened_form.specs.Places.{UnitPlace, Places}
use Rattle.hardened_form.specs.Items.{Item, AreItems}
use Rattle.hardened_form.specs.Standing.{old_points, old_words}
use Rattle.hardened_form.specs.MappingSymbols.{pool_word_in, island_in, words_in, has_word, has_unit}
use Rattle.branch_layout.specs.Placings.{Stretch, Placing, IsPlacing, unit_point, place_of as stretch_place, places_of as placing_places}
use Rattle.branch_layout.specs.Laid.{laid_place, laid_places, IsLaid}
use Rattle.branch_layout.proofs.LaidFacts.{layouts_laid}
use Rattle.branch_layout.proofs.ApartFacts.{none_at_word}
use Rattle.branch_layout.proofs.GoalFacts.{size_low}
use Rattle.branch_layout.proofs.WithinFacts.{all_zip_at, IsWithin, unit_within, word_within}
use Rattle.emit_object.specs.Emitting.{unit_of, units_of, CanEmit}
use Rattle.emit_object.specs.FirstItems.{AreItemsOf}
use Rattle.emit_object.specs.Laid.{Matches, IsLow}
use Rattle.emit_object.specs.RowLists.{UnitFits}
use Rattle.emit_object.specs.WordPlaces.{pool_place, island_by, islands}
use Rattle.emit_object.proofs.MappingFacts.{any_is, pool_to, islands_to}
use Rattle.emit_object.proofs.MoveFacts.{map_at, at_map, zip_index}

-- units without words behind them
no_islands : (us : List PlacedParts) → ((u : PlacedParts) → Contains us u → u.island ≡ None) → islands us ≡ []
no_islands [] none = refl
no_islands (u ∷ us) none =
    ap (λ (i : Option ℕ). island_by u.unit.section i ++ islands us) (none u (contains_here u us)) ∙ no_islands us (λ v h. none v (contains_later u us v h))

module _ (o : ObjectParts) (f : FlowParts) (l : LayoutParts) (can : CanEmit o f l) where
  abbrev placing : Placing
  placing = can.layout.placing

  abbrev placed : IsPlacing (units_of l) f.words placing
  placed = can.layout.places.placed

  laid : IsLaid (units_of l) f.words l can.layout
  laid = layouts_laid (units_of l) f.words l can.layout

  -- its code
  record HasStretch (k : ℕ) (u : PlacedParts) : Type 0 where
    pub stretch : Stretch
    pub there : slice_get placing.units k ≡ Some stretch
    pub same : stretch.place ≡ laid_place u

  stretch_of : (k : ℕ) (u : PlacedParts) → slice_get l.units k ≡ Some u → HasStretch k u
  stretch_of k u e =
      let places : map laid_place l.units ≡ map stretch_place placing.units = ap (λ (p : Places). p.units) laid.places in
      let there = at_map stretch_place placing.units k (laid_place u) (ap (λ (ps : List UnitPlace). slice_get ps k) (sym places) ∙ map_at laid_place l.units k u e) in
      record { stretch = there.0; there = there.1.0; same = there.1.1 }

  pub no_island : (k : ℕ) (u : PlacedParts) → slice_get l.units k ≡ Some u → u.island ≡ None
  no_island k u e =
      let s = stretch_of k u e in
      let is = all_zip_at _ (units_of l) placing.units k (unit_of u) s.stretch placed.stretches (map_at unit_of l.units k u e) s.there in
      sym (ap (λ (p : UnitPlace). p.island) s.same) ∙ is.island

  pub without_islands : islands l.units ≡ []
  without_islands = no_islands l.units (λ u h. let at = place_of l.units u h in no_island at.0 u at.1)

  -- where it stands
  pub unit_stands : (k : ℕ) (u : PlacedParts) → slice_get l.units k ≡ Some u → IsWithin l.sizes u.unit.section u.start (u.start + u.length)
  unit_stands k u e =
      let s = stretch_of k u e in
      subst (λ (sizes : List ℕ). IsWithin sizes u.unit.section u.start (u.start + u.length)) (sym can.layout.sizes)
      (subst (λ (p : UnitPlace). IsWithin placing.sizes u.unit.section p.start p.end) s.same (unit_within (units_of l) f.words placing placed k (unit_of u) s.stretch (map_at unit_of l.units k u e) s.there))

  pub word_stands : (n : ℕ) (w : PoolWord) (y : ℕ) → slice_get f.words n ≡ Some w → slice_get l.words n ≡ Some y → IsWithin l.sizes w.section y (y + 4)
  word_stands n w y e g =
      subst (λ (sizes : List ℕ). IsWithin sizes w.section y (y + 4)) (sym can.layout.sizes)
      (word_within (units_of l) f.words placing placed n w y e (ap (λ (ys : List ℕ). slice_get ys n) (sym can.layout.new_words) ∙ g))

  pub ends_low : (j x y : ℕ) → IsWithin l.sizes j x y → y ≤ 524288
  ends_low j x y in_it =
      let size = size_low (units_of l) f.words placing can.layout.places j in_it.size (ap (λ (sizes : List ℕ). slice_get sizes j) (sym can.layout.sizes) ∙ in_it.there) in
      let high = in_it.high in
      omega arith

  pub are_low : All IsLow l.units
  are_low = λ k d low.
      let in_it = unit_stands k (get_or l.units k d) (slice_get-get_or l.units k d low) in
      let end = ends_low (get_or l.units k d).unit.section (get_or l.units k d).start ((get_or l.units k d).start + (get_or l.units k d).length) in_it in
      omega arith

  pub units_fit : All UnitFits l.units
  units_fit = λ k d low.
      let in_it = unit_stands k (get_or l.units k d) (slice_get-get_or l.units k d low) in
      let end = ends_low (get_or l.units k d).unit.section (get_or l.units k d).start ((get_or l.units k d).start + (get_or l.units k d).length) in_it in
      omega arith

  -- the words of a hardened object are those of its pool
  pub record IsPoolAt (j x : ℕ) : Type 0 where
    pub index : ℕ
    pub word : PoolWord
    pub there : slice_get f.words index ≡ Some word
    pub laid_at : slice_get l.words index ≡ Some x
    pub section : word.section ≡ j

  pool_at : (j x : ℕ) → Contains (map pool_place (zip f.words l.words)) (j, x) → IsPoolAt j x
  pool_at j x h =
      let e = contains_map pool_place (zip f.words l.words) (j, x) h in
      let k = zip_index f.words l.words e.0 e.1 in
      record { index = k.0; word = e.0.0; there = k.1.0; laid_at = k.1.1 ∙ ap (λ (p : ℕ × ℕ). Some p.1) e.2; section = ap (λ (p : ℕ × ℕ). p.0) e.2 }

  pub are_small : All (λ (w : ℕ × ℕ). w.1 + 4 < 2 ^ 32) (map pool_place (zip f.words l.words) ++ islands l.units)
  are_small = λ k d low.
      let w = get_or (map pool_place (zip f.words l.words) ++ islands l.units) k d in
      let here = contains_at (map pool_place (zip f.words l.words) ++ islands l.units) k w (slice_get-get_or (map pool_place (zip f.words l.words) ++ islands l.units) k d low) in
      elim (Contains-append_cases (map pool_place (zip f.words l.words)) (islands l.units) w here) [
        | inl a ↦
            let p = pool_at w.0 w.1 a in
            let end = ends_low p.word.section w.1 (w.1 + 4) (word_stands p.index p.word w.1 p.there p.laid_at) in
            omega arith
        | inr b ↦ absurd (contains_none w (subst (λ (ps : List (ℕ × ℕ)). Contains ps w) without_islands b))
      ]

  sections_alike : (k : ℕ) (x : Point) (u : PlacedParts) → slice_get f.points k ≡ Some x → slice_get l.units k ≡ Some u → u.unit.section ≡ x.section
  sections_alike k x u a b = let is = can.each k x u a b in is.section

  pub word_at : (j x : ℕ) → has_word f (laid_places l) j x ≡ true → IsPoolAt j x
  word_at j x has =
      let q = any_is (λ (w : ℕ). w == x) (words_in f (laid_places l) j) has in
      let same = eqb-true q.0 x q.1.1 in
      elim (Contains-append_cases (flat_map (pool_word_in j) (zip f.words l.words)) (flat_map (island_in j) (zip f.points (map laid_place l.units))) q.0 q.1.0) [
        | inl a ↦ pool_at j x (subst (λ (y : ℕ). Contains (map pool_place (zip f.words l.words)) (j, y)) same (pool_to j q.0 (zip f.words l.words) a))
        | inr b ↦ absurd (contains_none (j, q.0) (subst (λ (ps : List (ℕ × ℕ)). Contains ps (j, q.0)) without_islands (islands_to j q.0 f.points l.units sections_alike b)))
      ]

  -- a unit with bytes
  pub record BeginsThere (j x : ℕ) : Type 0 where
    pub index : ℕ
    pub point : Point
    pub unit : PlacedParts
    pub there : slice_get f.points index ≡ Some point
    pub laid_at : slice_get l.units index ≡ Some unit
    pub section : point.section ≡ j
    pub start : unit.start ≡ x
    pub bytes : unit.start < unit.start + unit.length

  pub begins_there : (j x : ℕ) → has_unit f (laid_places l) j x ≡ true → BeginsThere j x
  begins_there j x has =
      let q = any_is (λ (e : Point × UnitPlace). (e.0.section == j) && ((e.1.start == x) && nat_lt e.1.start e.1.end)) (zip f.points (map laid_place l.units)) has in
      let k = zip_index f.points (map laid_place l.units) q.0 q.1.0 in
      let u = at_map laid_place l.units k.0 q.0.1 k.1.1 in
      let a = and_parts (q.0.0.section == j) ((q.0.1.start == x) && nat_lt q.0.1.start q.0.1.end) q.1.1 in
      let b = and_parts (q.0.1.start == x) (nat_lt q.0.1.start q.0.1.end) a.1 in
      let start : u.0.start ≡ q.0.1.start = ap (λ (p : UnitPlace). p.start) u.1.1 in
      let end : u.0.start + u.0.length ≡ q.0.1.end = ap (λ (p : UnitPlace). p.end) u.1.1 in
      let low = ltb-true q.0.1.start q.0.1.end b.1 in
      record { index = k.0; point = q.0.0; unit = u.0; there = k.1.0; laid_at = u.1.0; section = eqb-true q.0.0.section j a.0; start = start ∙ eqb-true q.0.1.start x b.0; bytes = omega arith }

  not_at_word : (j x : ℕ) → BeginsThere j x → IsPoolAt j x → ⊥
  not_at_word j x u w =
      let s = stretch_of u.index u.unit u.laid_at in
      let at_start : s.stretch.place.start ≡ u.unit.start = ap (λ (p : UnitPlace). p.start) s.same in
      let at_end : s.stretch.place.end ≡ u.unit.start + u.unit.length = ap (λ (p : UnitPlace). p.end) s.same in
      let bytes = u.bytes in
      none_at_word (units_of l) f.words placing placed u.index (unit_of u.unit) s.stretch w.index w.word x (map_at unit_of l.units u.index u.unit u.laid_at) s.there w.there
      (ap (λ (ys : List ℕ). slice_get ys w.index) (sym can.layout.new_words) ∙ w.laid_at) (sections_alike u.index u.point u.unit u.there u.laid_at ∙ u.section ∙ sym w.section) (omega arith) (at_start ∙ u.start)

  pub matches : Matches f l
  matches = record {
    units = can.count;
    words = laid.pool;
    sections = sections_alike;
    apart = λ j x has. elim (cases_Bool (has_word f (laid_places l) j x)) [
      | inl word ↦ absurd (not_at_word j x (begins_there j x has) (word_at j x word))
      | inr none ↦ none
    ];
  }

  -- the items of its placing
  points_alike : map unit_point (units_of l) ≡ old_points f
  points_alike =
      let count = can.count in
      let a : length (map unit_point (units_of l)) ≡ length l.units = length-map (units_of l) unit_point ∙ length-map l.units unit_of in
      let b : length (old_points f) ≡ length f.points = length-map f.points place_of_point in
      same_at_each (map unit_point (units_of l)) (old_points f) (omega arith) (λ k p q e g.
      let v = at_map unit_point (units_of l) k p e in
      let u = at_map unit_of l.units k v.0 v.1.0 in
      let x = at_map place_of_point f.points k q g in
      let is = can.each k x.0 u.0 x.1.0 u.1.0 in
      sym v.1.1 ∙ ap unit_point (sym u.1.1) ∙ (λ i. (is.section i, is.old i)) ∙ x.1.1)

  abbrev pub items_of : List Item
  items_of = placed.items

  pub are_items : AreItemsOf f l items_of
  are_items =
      subst (λ (p : Places). AreItems (old_points f) (old_words f) p placed.items) (sym laid.places)
      (subst (λ (ps : List (ℕ × ℕ)). AreItems ps (old_words f) (placing_places placing) placed.items) points_alike placed.of)
