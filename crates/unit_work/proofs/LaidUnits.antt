-- What a layout gives of the copies of one unit.
use Rattle.std.proofs.Common.{◌≡◌, ◌≢◌, ◌≤◌, ◌<◌, ℕ, zero, suc, ◌+◌, List, [], ◌∷◌, length, map, take, refl, sym, ap, ◌∙◌, subst, arith, Option, Some, None}
use Rattle.std.specs.Prelude.{slice_get}
use Rattle.std.specs.Option.{option_map, option_and_then}
use Rattle.std.specs.List.{zip}
use Rattle.std.proofs.lemmas.Option.{none-some, same_Some, slice_get-map, slice_get_within}
use Rattle.std.proofs.lemmas.List.{length-map}
use Rattle.std.proofs.lemmas.List.Elements.{All-contains}
use Rattle.std.proofs.lemmas.Slice.Zip.{AllZip-long}
use Rattle.elf_model.specs.Objects.{ObjectParts}
use Rattle.elf_model.proofs.Elements.{contains_at, element_at}
use Rattle.thumb_encode.specs.declared.codes.Code.{Code}
use Rattle.thumb_encode.specs.declared.codes.Width.{Width}
use Rattle.thumb_encode.specs.Encoding.{width_of}
use Rattle.seq_core.specs.declared.steps.Step.{Step}
use Rattle.seq_core.specs.declared.steps.Goal.TheVariants.{Nowhere}
use Rattle.seq_core.specs.declared.units.Unit.{Unit as SeqUnit}
use Rattle.seq_core.specs.Places.{PlacedParts, LayoutParts}
use Rattle.flow_recover.specs.Flows.{FlowParts}
use Rattle.hardened_form.specs.Places.{UnitPlace, Places}
use Rattle.branch_layout.specs.Copies.{copies_of, length_of, bytes_before}
use Rattle.branch_layout.specs.Placings.{Stretch, Placing, place_of, places_of, landing_of, IsStretch, word_point}
use Rattle.branch_layout.specs.Goals.{ReachesGoal}
use Rattle.branch_layout.specs.Given.{CanAim, CanStand}
use Rattle.branch_layout.specs.Coding.{offset_of}
use Rattle.branch_layout.specs.Layouts.{IsPlacedUnit}
use Rattle.branch_layout.specs.Laid.{laid_place, laid_places, IsLaid}
use Rattle.branch_layout.proofs.StepCopies.{OfStep, of_step}
use Rattle.branch_layout.proofs.ReachFacts.{at_low}
use Rattle.branch_layout.proofs.WithinFacts.{all_zip_at, zip_at, word_within}
use Rattle.branch_layout.proofs.GoalFacts.{size_low, end_low, back_low}
use Rattle.branch_layout.proofs.CodingFacts.{goals_reached}
use Rattle.branch_layout.proofs.LaidFacts.{layouts_laid}
use Rattle.emit_object.specs.UnitCopies.{Copy, unit_copies}
use Rattle.emit_object.specs.Emitting.{unit_of, units_of, CanEmit}
use Rattle.unit_work.proofs.Stood.{IsCopyAt, copy_at}

pub and_then_some : {A B : Type 0} (f : A → Option B) (r : Option A) (y : B) → option_and_then f r ≡ Some y → (x : A) × (r ≡ Some x) × (f x ≡ Some y)
and_then_some f None y e = absurd (none-some y e)
and_then_some f (Some x) y e = (x, refl, e)

-- codes of the copies' widths
widths_are : (ts : List Step) (ws : List Width) (cs : List Code) → length ws ≡ length ts → length cs ≡ length ts
    → ((j : ℕ) (t : Step) (w : Width) (c : Code) → slice_get ts j ≡ Some t → slice_get ws j ≡ Some w → slice_get cs j ≡ Some c → width_of c ≡ w) → map width_of cs ≡ ws
widths_are [] [] [] m n each = refl
widths_are [] [] (c ∷ cs) m n each = absurd (omega arith)
widths_are [] (w ∷ ws) cs m n each = absurd (omega arith)
widths_are (t ∷ ts) [] cs m n each = absurd (omega arith)
widths_are (t ∷ ts) (w ∷ ws) [] m n each = absurd (omega arith)
widths_are (t ∷ ts) (w ∷ ws) (c ∷ cs) m n each =
    ap (λ (v : Width). v ∷ map width_of cs) (each 0 t w c refl refl refl)
    ∙ ap (λ (vs : List Width). w ∷ vs) (widths_are ts ws cs (omega arith) (omega arith) (λ j s v d. each (suc j) s v d))

module _ (o : ObjectParts) (f : FlowParts) (l : LayoutParts) (can : CanEmit o f l) where
  abbrev p : Placing
  p = can.layout.placing

  pub laid : IsLaid (units_of l) f.words l can.layout
  laid = layouts_laid (units_of l) f.words l can.layout

  many : length p.units ≡ length (units_of l)
  many = AllZip-long IsStretch (units_of l) p.units can.layout.places.placed.stretches

  same_units : map laid_place l.units ≡ map place_of p.units
  same_units = ap (λ (z : Places). z.units) laid.places

  -- each word is low
  pub word_low : (n to : ℕ) → slice_get (laid_places l).words n ≡ Some to → to ≤ 524288
  word_low n to e =
      let there : slice_get p.words n ≡ Some to = ap (λ (ws : List ℕ). slice_get ws n) (sym can.layout.new_words) ∙ e in
      let lt : n < length p.words = slice_get_within p.words n to there in
      let pool : length p.words ≡ length (map word_point f.words) = can.layout.places.placed.of.pool in
      let long : length (map word_point f.words) ≡ length f.words = length-map f.words word_point in
      let w = element_at f.words n (omega arith) in
      let in_it = word_within (units_of l) f.words p can.layout.places.placed n w.0 to w.1 there in
      let size = size_low (units_of l) f.words p can.layout.places w.0.section in_it.size in_it.there in
      let high = in_it.high in
      omega arith

  -- A UNIT

  module _ (k : ℕ) (u : PlacedParts) (there : slice_get l.units k ≡ Some u) (few : length u.unit.seq.steps ≤ 8) where
    unit_there : slice_get (units_of l) k ≡ Some u.unit
    unit_there = slice_get-map unit_of l.units k ∙ ap (option_map unit_of) there

    stretch : (s : Stretch) × (slice_get p.units k ≡ Some s)
    stretch = let lt : k < length (units_of l) = slice_get_within (units_of l) k u.unit unit_there in let m = many in element_at p.units k (omega arith)

    abbrev s : Stretch
    s = stretch.0

    is_stretch : IsStretch u.unit s
    is_stretch = all_zip_at IsStretch (units_of l) p.units k u.unit s can.layout.places.placed.stretches unit_there stretch.1

    placed : IsPlacedUnit (places_of p) (u.unit, s) u
    placed = all_zip_at (IsPlacedUnit (places_of p)) (zip (units_of l) p.units) l.units k (u.unit, s) u can.layout.codes (zip_at (units_of l) p.units k u.unit s unit_there stretch.1) there

    place : laid_place u ≡ s.place
    place =
        let left : slice_get (map laid_place l.units) k ≡ Some (laid_place u) = slice_get-map laid_place l.units k ∙ ap (option_map laid_place) there in
        let right : slice_get (map place_of p.units) k ≡ Some s.place = slice_get-map place_of p.units k ∙ ap (option_map place_of) stretch.1 in
        same_Some (laid_place u) s.place (sym left ∙ (ap (λ (z : List UnitPlace). slice_get z k) same_units ∙ right))

    pub coded : length u.codes ≡ length (copies_of u.unit.seq.steps)
    coded = placed.codes.count

    widths : map width_of u.codes ≡ s.widths
    widths = widths_are (copies_of u.unit.seq.steps) s.widths u.codes is_stretch.count coded (λ j t w c a b d. (placed.codes.each j t w c a b d).of.0)

    pub back_is : (laid_place u).back ≡ u.start + bytes_before (map width_of u.codes) (landing_of u.unit)
    back_is =
        ap (λ (q : UnitPlace). q.back) place ∙ (is_stretch.back ∙ (ap (λ (n : ℕ). n + bytes_before s.widths (landing_of u.unit)) (sym placed.start)
        ∙ ap (λ (ws : List Width). u.start + bytes_before ws (landing_of u.unit)) (sym widths)))

    pub end_is : (laid_place u).end ≡ u.start + length_of (map width_of u.codes)
    end_is =
        ap (λ (q : UnitPlace). q.end) place ∙ (is_stretch.end ∙ (ap (λ (n : ℕ). n + length_of s.widths) (sym placed.start)
        ∙ ap (λ (ws : List Width). u.start + length_of ws) (sym widths)))

    pub back_small : (laid_place u).back ≤ 524288
    back_small = subst (λ (q : UnitPlace). q.back ≤ 524288) (sym place) (back_low (units_of l) f.words p can.can can.layout.places k u.unit s unit_there stretch.1 few)

    -- a unit without a landing comes back to its end
    pub back_at_end : (n : ℕ) → u.unit.seq.landing ≡ n → length u.unit.seq.steps ≡ n → (laid_place u).back ≡ (laid_place u).end
    back_at_end n e g = go
      where
        all : (ss : List Step) (m : ℕ) → length ss ≡ m → take m ss ≡ ss
        all [] zero h = refl
        all [] (suc m) h = refl
        all (t ∷ ss) zero h = absurd (omega arith)
        all (t ∷ ss) (suc m) h = ap (λ (z : List Step). t ∷ z) (all ss m (omega arith))

        all_widths : (ws : List Width) (m : ℕ) → length ws ≡ m → take m ws ≡ ws
        all_widths [] zero h = refl
        all_widths [] (suc m) h = refl
        all_widths (w ∷ ws) zero h = absurd (omega arith)
        all_widths (w ∷ ws) (suc m) h = ap (λ (z : List Width). w ∷ z) (all_widths ws m (omega arith))

        whole : take u.unit.seq.landing u.unit.seq.steps ≡ u.unit.seq.steps
        whole = all u.unit.seq.steps u.unit.seq.landing (g ∙ sym e)

        go : (laid_place u).back ≡ (laid_place u).end
        go =
            let landing : landing_of u.unit ≡ length (copies_of u.unit.seq.steps) = ap (λ (z : List Step). length (copies_of z)) whole in
            let long : length (map width_of u.codes) ≡ length u.codes = length-map u.codes width_of in
            let count : length (map width_of u.codes) ≡ landing_of u.unit = long ∙ (coded ∙ sym landing) in
            back_is ∙ (ap (λ (ws : List Width). u.start + length_of ws) (all_widths (map width_of u.codes) (landing_of u.unit) count) ∙ sym end_is)

    -- A COPY

    module _ (j : ℕ) (y : Copy) (here : slice_get (unit_copies u) j ≡ Some y) where
      copy : IsCopyAt u.start (copies_of u.unit.seq.steps) u.codes j y
      copy = copy_at u.start (copies_of u.unit.seq.steps) u.codes j y here

      at_is : y.at ≡ offset_of s j
      at_is = copy.at ∙ (ap (λ (ws : List Width). u.start + bytes_before ws j) widths ∙ ap (λ (n : ℕ). n + bytes_before s.widths j) placed.start)

      pub at_small : y.at ≤ 524288
      at_small =
          let low = at_low u.unit s j y.at is_stretch at_is in
          let end = end_low (units_of l) f.words p can.can can.layout.places k u.unit s unit_there stretch.1 few in
          omega arith

      pub of : OfStep u.unit.seq.steps j y.step
      of = of_step u.unit.seq.steps j y.step copy.step

      stands : CanStand (units_of l) f.words u.unit
      stands = All-contains (λ (v : SeqUnit). CanStand (units_of l) f.words v) (units_of l) u.unit can.can.each (contains_at (units_of l) k u.unit unit_there)

      pub aims : CanAim (units_of l) f.words u.unit of.index y.step
      aims = stands.steps of.index y.step of.there

      pub reaches : y.step.goal ≢ Nowhere → ReachesGoal (laid_places l) u.unit (laid_place u) y.at y.step
      reaches n =
          let r : ReachesGoal (places_of p) u.unit s.place (offset_of s j) y.step = goals_reached (units_of l) f.words p can.can can.layout.places k u.unit s unit_there stretch.1 few j y.step copy.step n in
          subst (λ (z : Places). ReachesGoal z u.unit (laid_place u) y.at y.step) (sym laid.places)
          (subst (λ (q : UnitPlace). ReachesGoal (places_of p) u.unit q y.at y.step) (sym place) (subst (λ (a : ℕ). ReachesGoal (places_of p) u.unit s.place a y.step) (sym at_is) r))
