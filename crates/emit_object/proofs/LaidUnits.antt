-- The units of a layout: their points, their stretches, and the copies in them.
use Rattle.std.proofs.Common.{◌≡◌, ◌≤◌, ℕ, ◌+◌, ◌*◌, List, [], ◌∷◌, length, sym, ap, ◌∙◌, subst, arith, Some}
use Rattle.std.specs.Prelude.{slice_get, Contains}
use Rattle.std.specs.Option.{option_map}
use Rattle.std.specs.List.{zip}
use Rattle.std.proofs.lemmas.Option.{same_Some, slice_get_within, slice_get-map}
use Rattle.std.proofs.lemmas.List.Sums.{sum_by-cons}
use Rattle.std.proofs.lemmas.Slice.Zip.{AllZip-long}
use Rattle.elf_model.specs.Objects.{ObjectParts}
use Rattle.elf_model.proofs.Elements.{element_at}
use Rattle.thumb_encode.specs.declared.codes.Code.{Code}
use Rattle.thumb_encode.specs.declared.codes.Width.{Width}
use Rattle.thumb_encode.specs.Encoding.{width_of}
use Rattle.seq_core.specs.declared.steps.Step.{Step}
use Rattle.seq_core.specs.declared.units.Unit.{Unit as SeqUnit}
use Rattle.seq_core.specs.Places.{PlacedParts, LayoutParts}
use Rattle.flow_recover.specs.declared.flows.Point.{Point}
use Rattle.flow_recover.specs.declared.flows.PoolWord.{PoolWord}
use Rattle.flow_recover.specs.Flows.{FlowParts}
use Rattle.hardened_form.specs.Places.{UnitPlace, Places}
use Rattle.hardened_form.specs.Items.{Item, item_of_unit, item_of_word}
use Rattle.branch_layout.specs.Copies.{copies_of, bytes_of as bytes_of_width, length_of, bytes_before}
use Rattle.branch_layout.specs.Widths.{IsLong, AreLong}
use Rattle.branch_layout.specs.Goals.{placed_instr}
use Rattle.branch_layout.specs.Placings.{Stretch, Placing, place_of as stretch_place, places_of, IsStretch, IsPlacing, unit_point, word_point}
use Rattle.branch_layout.specs.Layouts.{IsFirstCode, IsPlacedUnit}
use Rattle.branch_layout.specs.Laid.{laid_place, laid_places, IsLaid}
use Rattle.branch_layout.proofs.LaidFacts.{layouts_laid}
use Rattle.branch_layout.proofs.WithinFacts.{all_zip_at, zip_at, bytes_most, unit_within, word_within, IsWithin}
use Rattle.branch_layout.proofs.GoalFacts.{size_low}
use Rattle.branch_layout.proofs.ReachFacts.{bytes_next}
use Rattle.branch_layout.proofs.StepCopies.{bytes_least}
use Rattle.branch_layout.proofs.OnePlacing.{unit_among, word_among}
use Rattle.emit_object.specs.UnitCopies.{Copy, unit_copies}
use Rattle.emit_object.specs.Emitting.{IsUnitAt, CanEmit, unit_of, units_of}
use Rattle.emit_object.specs.SmallUnits.{IsSmall}
use Rattle.emit_object.proofs.SitePlaces.{copy_at}

many_bytes : (ws : List Width) → 2 * length ws ≤ length_of ws
many_bytes [] = omega arith
many_bytes (w ∷ ws) =
    let rest = many_bytes ws in
    let least = bytes_least w in
    let e : length_of (w ∷ ws) ≡ bytes_of_width w + length_of ws = sum_by-cons bytes_of_width w ws in
    omega arith

module _ (o : ObjectParts) (f : FlowParts) (l : LayoutParts) (can : CanEmit o f l) where
  abbrev pub placing_of : Placing
  placing_of = can.layout.placing

  pub placed_is : IsPlacing (units_of l) f.words placing_of
  placed_is = can.layout.places.placed

  laid : IsLaid (units_of l) f.words l can.layout
  laid = layouts_laid (units_of l) f.words l can.layout

  pub pool_count : length l.words ≡ length f.words
  pool_count = laid.pool

  -- the place of a word in the layout and in the placing
  pub word_place : (k y : ℕ) → slice_get l.words k ≡ Some y → slice_get placing_of.words k ≡ Some y
  word_place k y e = ap (λ (p : Places). slice_get p.words k) (sym laid.places) ∙ e

  pub record HasPoint (k : ℕ) (u : PlacedParts) : Type 0 where
    pub point : Point
    pub there : slice_get f.points k ≡ Some point
    pub is : IsUnitAt point u.unit

  pub point_of : (k : ℕ) (u : PlacedParts) → slice_get l.units k ≡ Some u → HasPoint k u
  point_of k u e =
      let low = slice_get_within l.units k u e in
      let count = can.count in
      let x = element_at f.points k (omega arith) in
      record { point = x.0; there = x.1; is = can.each k x.0 u x.1 e }

  pub record HasStretch (k : ℕ) (u : PlacedParts) : Type 0 where
    pub stretch : Stretch
    pub unit : slice_get (units_of l) k ≡ Some u.unit
    pub placed : slice_get placing_of.units k ≡ Some stretch
    pub is : IsPlacedUnit (places_of placing_of) (u.unit, stretch) u
    pub stretches : IsStretch u.unit stretch
    pub long : AreLong (copies_of u.unit.seq.steps) stretch.widths

  pub stretch_of : (k : ℕ) (u : PlacedParts) → slice_get l.units k ≡ Some u → HasStretch k u
  stretch_of k u e =
      let there : slice_get (units_of l) k ≡ Some u.unit = slice_get-map unit_of l.units k ∙ ap (option_map unit_of) e in
      let many : length placing_of.units ≡ length (units_of l) = AllZip-long IsStretch (units_of l) placing_of.units placed_is.stretches in
      let low = slice_get_within (units_of l) k u.unit there in
      let s = element_at placing_of.units k (omega arith) in
      record {
        stretch = s.0;
        unit = there;
        placed = s.1;
        is = all_zip_at (IsPlacedUnit (places_of placing_of)) (zip (units_of l) placing_of.units) l.units k (u.unit, s.0) u can.layout.codes (zip_at (units_of l) placing_of.units k u.unit s.0 there s.1) e;
        stretches = all_zip_at IsStretch (units_of l) placing_of.units k u.unit s.0 placed_is.stretches there s.1;
        long = all_zip_at (λ (v : SeqUnit) (x : Stretch). AreLong (copies_of v.seq.steps) x.widths) (units_of l) placing_of.units k u.unit s.0 can.layout.places.long there s.1;
      }

  module _ (k : ℕ) (u : PlacedParts) (e : slice_get l.units k ≡ Some u) where
    abbrev pub has : HasStretch k u
    has = stretch_of k u e

    -- where it stands, by the layout and by its placing
    pub same_place : laid_place u ≡ has.stretch.place
    same_place =
        let one : slice_get (laid_places l).units k ≡ Some (laid_place u) = slice_get-map laid_place l.units k ∙ ap (option_map laid_place) e in
        let two : slice_get (places_of placing_of).units k ≡ Some has.stretch.place = slice_get-map stretch_place placing_of.units k ∙ ap (option_map stretch_place) has.placed in
        same_Some (laid_place u) has.stretch.place (sym one ∙ ap (λ (p : Places). slice_get p.units k) laid.places ∙ two)

    abbrev pub item : Item
    item = item_of_unit (unit_point u.unit, has.stretch.place)

    pub item_there : Contains placed_is.items item
    item_there = unit_among (units_of l) f.words placing_of placed_is k u.unit has.stretch has.unit has.placed

    pub item_start : item.new ≡ u.start
    item_start = sym has.is.start

    pub item_end : item.end ≡ u.start + u.length
    item_end = sym has.is.length

    pub inside : IsWithin placing_of.sizes u.unit.section has.stretch.place.start has.stretch.place.end
    inside = unit_within (units_of l) f.words placing_of placed_is k u.unit has.stretch has.unit has.placed

    pub end_low : u.start + u.length ≤ 524288
    end_low =
        let in_it = inside in
        let size = size_low (units_of l) f.words placing_of can.layout.places u.unit.section in_it.size in_it.there in
        let high = in_it.high in
        let end = item_end in
        omega arith

    pub end_is : u.start + u.length ≡ u.start + length_of has.stretch.widths
    end_is = has.is.length ∙ has.stretches.end ∙ ap (λ (n : ℕ). n + length_of has.stretch.widths) (sym has.is.start)

    pub codes_count : length u.codes ≡ length (copies_of u.unit.seq.steps)
    codes_count = has.is.codes.count

    pub small : IsSmall u
    small =
        let count = codes_count in
        let widths = has.stretches.count in
        let bytes = many_bytes has.stretch.widths in
        let end = end_is in
        let low = end_low in
        record { count = count; low = omega arith }

    -- a copy in it: its step, its code, where it stands
    pub record IsCopyIn (c : Copy) : Type 0 where
      pub index : ℕ
      pub step : slice_get (copies_of u.unit.seq.steps) index ≡ Some c.step
      pub low : u.start ≤ c.at
      pub high : c.at + bytes_of_width (width_of c.code) ≤ u.start + u.length
      pub first : IsFirstCode (placed_instr (laid_places l) u.unit (laid_place u) c.at c.step) (width_of c.code) c.code
      pub long : IsLong c.step.instr (width_of c.code)

    first_at : (n : ℕ) (t : Step) (w : Width) (x : Code) → slice_get (copies_of u.unit.seq.steps) n ≡ Some t → slice_get has.stretch.widths n ≡ Some w → slice_get u.codes n ≡ Some x
        → IsFirstCode (placed_instr (places_of placing_of) u.unit has.stretch.place (has.stretch.place.start + bytes_before has.stretch.widths n) t) w x
    first_at = has.is.codes.each

    wide : (n : ℕ) (w : Width) (x : Code) → slice_get has.stretch.widths n ≡ Some w → slice_get u.codes n ≡ Some x → width_of x ≡ w
    wide n w x g h =
        let low = slice_get_within u.codes n x h in
        let count = codes_count in
        let t = element_at (copies_of u.unit.seq.steps) n (omega arith) in
        (first_at n t.0 w x t.1 g h).of.0

    pub copy_in : (c : Copy) → Contains (unit_copies u) c → IsCopyIn c
    copy_in c h =
        let count = codes_count in
        let widths = has.stretches.count in
        let i = copy_at u.start (copies_of u.unit.seq.steps) u.codes has.stretch.widths (omega arith) wide c h in
        let at : has.stretch.place.start + bytes_before has.stretch.widths i.index ≡ c.at = ap (λ (n : ℕ). n + bytes_before has.stretch.widths i.index) (sym has.is.start) ∙ sym i.offset in
        let code = first_at i.index c.step (width_of c.code) c.code i.step i.width i.code in
        let next = bytes_next has.stretch.widths i.index (width_of c.code) i.width in
        let most = bytes_most has.stretch.widths (i.index + 1) in
        let end = end_is in
        let offset = i.offset in
        record {
          index = i.index;
          step = i.step;
          low = omega arith;
          high = omega arith;
          first =
              subst (λ (q : UnitPlace). IsFirstCode (placed_instr (laid_places l) u.unit q c.at c.step) (width_of c.code) c.code) (sym same_place)
              (subst (λ (p : Places). IsFirstCode (placed_instr p u.unit has.stretch.place c.at c.step) (width_of c.code) c.code) (sym laid.places)
              (subst (λ (n : ℕ). IsFirstCode (placed_instr (places_of placing_of) u.unit has.stretch.place n c.step) (width_of c.code) c.code) at code));
          long = all_zip_at (λ (x : Step) (v : Width). IsLong x.instr v) (copies_of u.unit.seq.steps) has.stretch.widths i.index c.step (width_of c.code) has.long i.step i.width;
        }

  -- a word
  module _ (k : ℕ) (w : PoolWord) (y : ℕ) (there : slice_get f.words k ≡ Some w) (e : slice_get l.words k ≡ Some y) where
    pub word_item_there : Contains placed_is.items (item_of_word (word_point w, y))
    word_item_there = word_among (units_of l) f.words placing_of placed_is k w y there (word_place k y e)

    pub word_inside : IsWithin placing_of.sizes w.section y (y + 4)
    word_inside = word_within (units_of l) f.words placing_of placed_is k w y there (word_place k y e)
