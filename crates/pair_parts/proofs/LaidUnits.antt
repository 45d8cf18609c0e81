-- The units of a layout as sequences of the hardened object.
use Rattle.std.proofs.Common.{◌≡◌, ◌<◌, ℕ, ◌+◌, List, [], ◌∷◌, length, map, refl, sym, ap, ◌∙◌, subst, arith, Option, Some}
use Rattle.std.specs.Prelude.{slice_get, Contains}
use Rattle.std.specs.Option.{option_map}
use Rattle.std.specs.List.{zip}
use Rattle.std.proofs.lemmas.Option.{same_Some, slice_get-map, slice_get_within}
use Rattle.std.proofs.lemmas.List.{length-map}
use Rattle.std.proofs.lemmas.List.Sums.{sum_by-cons}
use Rattle.std.proofs.lemmas.Slice.Zip.{AllZip-long}
use Rattle.elf_model.specs.Objects.{ObjectParts}
use Rattle.elf_model.proofs.Elements.{element_at, place_of, contains_here, contains_later}
use Rattle.code_ranges.proofs.InOrder.{same_at_each}
use Rattle.thumb_encode.specs.declared.codes.Code.{Code}
use Rattle.thumb_encode.specs.declared.codes.Width.{Width}
use Rattle.thumb_encode.specs.Encoding.{width_of, StandsFor}
use Rattle.reloc_places.specs.Starts.{bytes_of as bytes_in}
use Rattle.seq_core.specs.declared.steps.Step.{Step}
use Rattle.seq_core.specs.Places.{PlacedParts, LayoutParts}
use Rattle.flow_recover.specs.Flows.{FlowParts}
use Rattle.hardened_form.specs.Places.{UnitPlace, Places}
use Rattle.branch_layout.specs.Copies.{copies_of, bytes_of, length_of, bytes_before}
use Rattle.branch_layout.specs.Placings.{Stretch, Placing, place_of as stretch_place, places_of, IsStretch}
use Rattle.branch_layout.specs.Goals.{placed_instr}
use Rattle.branch_layout.specs.Layouts.{IsPlacedUnit}
use Rattle.branch_layout.specs.Laid.{laid_place, laid_places, IsLaid}
use Rattle.branch_layout.proofs.LaidFacts.{layouts_laid}
use Rattle.branch_layout.proofs.WithinFacts.{all_zip_at, map_at, zip_at}
use Rattle.emit_object.specs.UnitCopies.{Copy, copies_from, unit_copies, HaveCodes}
use Rattle.emit_object.specs.Emitting.{unit_of, units_of, CanEmit}
use Rattle.sim_relation.specs.Sequences.{AreSteps, EndsWith, IsSequence}
use Rattle.unit_work.specs.Work.{placed_step, sequence_of}
use Rattle.pair_parts.proofs.CopyFacts.{widths_of, copy_at, many_copies, IsInBytes, copy_in_bytes, copy_once, ReadsAs, reads_as}

-- the steps of copies that are read as their instructions
steps_from : (h : ObjectParts) (l : LayoutParts) (u : PlacedParts) (at : ℕ) (ts : List Step) (cs : List Code) → length cs ≡ length ts
    → ((c : Copy) → Contains (copies_from at ts cs) c → ReadsAs (bytes_in h u.unit.section) c.at c.code (placed_instr (laid_places l) u.unit (laid_place u) c.at c.step))
    → AreSteps h u.unit.section at (map (placed_step h l u) (copies_from at ts cs)) (at + length_of (widths_of cs))
steps_from h l u at [] [] many each = omega arith
steps_from h l u at [] (c ∷ cs) many each = absurd (omega arith)
steps_from h l u at (t ∷ ts) [] many each = absurd (omega arith)
steps_from h l u at (t ∷ ts) (c ∷ cs) many each =
    let first : Copy = record { at = at; step = t; code = c } in
    let next : ℕ = at + bytes_of (width_of c) in
    let is = each first (contains_here first (copies_from next ts cs)) in
    let sum : length_of (widths_of (c ∷ cs)) ≡ bytes_of (width_of c) + length_of (widths_of cs) = sum_by-cons bytes_of (width_of c) (widths_of cs) in
    let end : next + length_of (widths_of cs) ≡ at + length_of (widths_of (c ∷ cs)) = omega arith in (
      record { at = refl; width = is.width; instr = is.instr; reloc = refl },
      subst (AreSteps h u.unit.section next (map (placed_step h l u) (copies_from next ts cs))) end
          (steps_from h l u next ts cs (omega arith) (λ d k. each d (contains_later first (copies_from next ts cs) d k))),
    )

module _ (o : ObjectParts) (f : FlowParts) (l : LayoutParts) (can : CanEmit o f l) where
  abbrev pub placing : Placing
  placing = can.layout.placing

  pub laid : IsLaid (units_of l) f.words l can.layout
  laid = layouts_laid (units_of l) f.words l can.layout

  pub record IsLaidUnit (k : ℕ) (u : PlacedParts) : Type 0 where
    pub stretch : Stretch
    pub there : slice_get can.layout.placing.units k ≡ Some stretch
    pub is : IsStretch u.unit stretch
    pub placed : IsPlacedUnit (places_of can.layout.placing) (u.unit, stretch) u
    pub place : laid_place u ≡ stretch.place
    pub widths : stretch.widths ≡ widths_of u.codes

  module _ (k : ℕ) (u : PlacedParts) (e : slice_get l.units k ≡ Some u) where
    unit_there : slice_get (units_of l) k ≡ Some u.unit
    unit_there = slice_get-map unit_of l.units k ∙ ap (option_map unit_of) e

    stretch_at : (s : Stretch) × (slice_get placing.units k ≡ Some s)
    stretch_at =
        let many : length placing.units ≡ length (units_of l) = AllZip-long IsStretch (units_of l) placing.units can.layout.places.placed.stretches in
        let low : k < length (units_of l) = slice_get_within (units_of l) k u.unit unit_there in
        element_at placing.units k (omega arith)

    widths_are : (s : Stretch) → IsStretch u.unit s → IsPlacedUnit (places_of placing) (u.unit, s) u → s.widths ≡ widths_of u.codes
    widths_are s is placed = same_at_each s.widths (widths_of u.codes) (is.count ∙ sym placed.codes.count ∙ sym (length-map u.codes width_of)) same
      where
        same : (j : ℕ) (w v : Width) → slice_get s.widths j ≡ Some w → slice_get (widths_of u.codes) j ≡ Some v → w ≡ v
        same j w v a b =
            let c = map_at width_of u.codes j v b in
            let low : j < length u.codes = slice_get_within u.codes j c.0 c.1 in
            let count = placed.codes.count in
            let t = element_at (copies_of u.unit.seq.steps) j (omega arith) in
            sym (placed.codes.each j t.0 w c.0 t.1 a c.1).of.0 ∙ c.2

    pub laid_unit : IsLaidUnit k u
    laid_unit =
        let s = stretch_at in
        let is = all_zip_at IsStretch (units_of l) placing.units k u.unit s.0 can.layout.places.placed.stretches unit_there s.1 in
        let placed = all_zip_at (IsPlacedUnit (places_of placing)) (zip (units_of l) placing.units) l.units k (u.unit, s.0) u can.layout.codes (zip_at (units_of l) placing.units k u.unit s.0 unit_there s.1) e in
        let one : slice_get (laid_places l).units k ≡ Some (laid_place u) = slice_get-map laid_place l.units k ∙ ap (option_map laid_place) e in
        let two : slice_get (places_of placing).units k ≡ Some s.0.place = slice_get-map stretch_place placing.units k ∙ ap (option_map stretch_place) s.1 in
        record {
          stretch = s.0;
          there = s.1;
          is = is;
          placed = placed;
          place = same_Some (laid_place u) s.0.place (sym one ∙ ap (λ (p : Places). slice_get p.units k) laid.places ∙ two);
          widths = widths_are s.0 is placed;
        }

    pub many_codes : length u.codes ≡ length (copies_of u.unit.seq.steps)
    many_codes = laid_unit.placed.codes.count

    -- its copies end where it ends
    pub bytes_are : u.start + length_of (widths_of u.codes) ≡ u.start + u.length
    bytes_are =
        let is = laid_unit in
        let start : u.start ≡ is.stretch.place.start = ap (λ (q : UnitPlace). q.start) is.place in
        let bytes : length_of is.stretch.widths ≡ length_of (widths_of u.codes) = ap length_of is.widths in
        let end = is.is.end in
        let last = is.placed.length in
        omega arith

    pub copy_inside : (c : Copy) → Contains (unit_copies u) c → IsInBytes u.start (u.start + u.length) c
    copy_inside c h = subst (λ (n : ℕ). IsInBytes u.start n c) bytes_are (copy_in_bytes u.start (copies_of u.unit.seq.steps) u.codes c h)

    pub one_copy : (b c : Copy) → Contains (unit_copies u) b → Contains (unit_copies u) c → b.at ≡ c.at → b ≡ c
    one_copy b c h g same = copy_once u.start (copies_of u.unit.seq.steps) u.codes b c h g same

    -- each copy has a code of its instruction
    pub stands_for : (c : Copy) → Contains (unit_copies u) c → StandsFor c.code (placed_instr (laid_places l) u.unit (laid_place u) c.at c.step)
    stands_for c h =
        let is = laid_unit in
        let n = place_of (unit_copies u) c h in
        let at = copy_at u.start (copies_of u.unit.seq.steps) u.codes n.0 c n.1 in
        let width : slice_get is.stretch.widths n.0 ≡ Some (width_of c.code) = ap (λ (ws : List Width). slice_get ws n.0) is.widths ∙ slice_get-map width_of u.codes n.0 ∙ ap (option_map width_of) at.code in
        let code = is.placed.codes.each n.0 c.step (width_of c.code) c.code at.step width at.code in
        let place : is.stretch.place.start + bytes_before is.stretch.widths n.0 ≡ c.at =
        ap (λ (q : UnitPlace). q.start + bytes_before is.stretch.widths n.0) (sym is.place) ∙ ap (λ (ws : List Width). u.start + bytes_before ws n.0) is.widths ∙ sym at.at in
        subst (λ (p : Places). StandsFor c.code (placed_instr p u.unit (laid_place u) c.at c.step)) (sym laid.places)
        (subst (λ (q : UnitPlace). StandsFor c.code (placed_instr (places_of placing) u.unit q c.at c.step)) (sym is.place)
        (subst (λ (a : ℕ). StandsFor c.code (placed_instr (places_of placing) u.unit is.stretch.place a c.step)) place code.of.1))

    pub steps_stand : (h : ObjectParts) → HaveCodes h l → AreSteps h u.unit.section u.start (map (placed_step h l u) (unit_copies u)) (u.start + u.length)
    steps_stand h codes =
        subst (AreSteps h u.unit.section u.start (map (placed_step h l u) (unit_copies u))) bytes_are
        (steps_from h l u u.start (copies_of u.unit.seq.steps) u.codes many_codes
        (λ c within. reads_as (bytes_in h u.unit.section) c.at c.code (placed_instr (laid_places l) u.unit (laid_place u) c.at c.step) (codes k u c e within) (stands_for c within)))

    pub is_sequence : (h : ObjectParts) (scratch : List ℕ) → HaveCodes h l → IsSequence h u.unit.section (laid_place u) (sequence_of h l u scratch)
    is_sequence h scratch codes = record {
      steps = steps_stand h codes;
      island = subst (λ (i : Option ℕ). EndsWith (bytes_in h u.unit.section) (u.start + u.length) i (u.start + u.length)) (sym laid_unit.placed.island) refl;
    }

    pub short_sequence : (h : ObjectParts) (scratch : List ℕ) → length (sequence_of h l u scratch).steps ≡ length u.codes
    short_sequence h scratch = length-map (unit_copies u) (placed_step h l u) ∙ many_copies u.start (copies_of u.unit.seq.steps) u.codes many_codes
