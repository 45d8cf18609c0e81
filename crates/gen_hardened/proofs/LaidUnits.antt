-- The units of a generated object's points have a layout.
use Rattle.std.proofs.Common.{◌≡◌, ◌≤◌, ◌<◌, ℕ, ◌*◌, List, map, refl, sym, ap, ◌∙◌, subst, inl, inr, arith, Option, Some, None}
use Rattle.std.specs.Prelude.{slice_get, Contains}
use Rattle.std.specs.Option.{option_map, option_and_then}
use Rattle.std.specs.List.{zip}
use Rattle.std.proofs.lemmas.Option.{none-some, slice_get_within}
use Rattle.std.proofs.lemmas.List.Elements.{Contains-append_cases}
use Rattle.elf_model.specs.declared.refusals.Refusal.{Refusal}
use Rattle.elf_model.proofs.Elements.{contains_map, contains_at, element_at, place_of}
use Rattle.thumb_instr.specs.declared.instructions.Instr.TheVariants as instr
use Rattle.code_ranges.specs.Spans.{place_cmp}
use Rattle.code_ranges.proofs.InOrder.{rises_keys}
use Rattle.flow_recover.specs.declared.flows.Point.{Point}
use Rattle.flow_recover.specs.declared.flows.PoolWord.{PoolWord}
use Rattle.flow_recover.specs.Flows.{FlowParts}
use Rattle.flow_recover.specs.WholeFlows.{IsFlow}
use Rattle.flow_recover.specs.WholeFlows.IsLoaded.{literal, none as unloaded}
use Rattle.flow_recover.proofs.OneState.{one_instr}
use Rattle.hardened_form.specs.Places.{UnitPlace, Places}
use Rattle.hardened_form.specs.Items.{Item, item_of_unit, item_of_word, old_place}
use Rattle.seq_core.specs.declared.steps.Goal.{Goal}
use Rattle.seq_core.specs.declared.steps.Goal.TheVariants.{Nowhere, End, Landing, Target, Word}
use Rattle.seq_core.specs.declared.units.Unit.{Unit as SeqUnit}
use Rattle.sim_relation.specs.Accepted.{boundaries}
use Rattle.branch_layout.specs.Goals.{distance}
use Rattle.branch_layout.specs.Placings.{Stretch, Placing, place_of as stretch_place, places_of, IsStretch, IsPlacing, unit_point, word_point}
use Rattle.branch_layout.specs.Faults.{load_distance, LayFault}
use Rattle.branch_layout.specs.Faults.LayFault.{out_of_reach, too_big}
use Rattle.branch_layout.proofs.CopyFacts.{few_bytes}
use Rattle.branch_layout.proofs.WithinFacts.{all_zip_at, map_at, zip_parts}
use Rattle.point_units.specs.Units.{IsUnitOf, AreUnits}
use Rattle.gen_object.specs.Generated.{generated}
use Rattle.gen_flow.specs.GeneratedCode.{IsCount}
use Rattle.gen_flow.specs.GeneratedFlow.{IsGeneratedPoint, GeneratedPointsAreKnown}
use Rattle.gen_hardened.specs.GeneratedHardening.{GeneratedUnitsAreLaid}
use Rattle.gen_hardened.proofs.UnitCopies.{few_of}
use Rattle.gen_hardened.proofs.CodeSlots.{slot_of, Slot, IsSlotted, few_stand}

-- what names no word is at no distance from one
no_load : (p : Places) (u : SeqUnit) (at d : ℕ) (g : Goal) → u.word ≡ None → load_distance p u at g ≡ Some d → ⊥
no_load p u at d Nowhere none e = none-some d e
no_load p u at d End none e = none-some d e
no_load p u at d Landing none e = none-some d e
no_load p u at d Target none e = none-some d e
no_load p u at d Word none e = none-some d (ap (λ (w : Option ℕ). option_map (distance at) (option_and_then (λ k. slice_get p.words k) w)) (sym none) ∙ e)

module _ (known : GeneratedPointsAreKnown) (seed count : ℕ) (f : FlowParts) (few : IsCount count) (flow : IsFlow (generated seed count) f) where
  no_word : (w : PoolWord) → Contains f.words w → ⊥
  no_word w among =
      let is = (flow.words w).0 among in
      let at = place_of flow.nodes is.node ((flow.reached is.node).1 is.loads.reached) in
      let x = element_at f.points at.0 (subst (λ (m : ℕ). at.0 < m) (sym flow.count) (slice_get_within flow.nodes at.0 is.node at.1)) in
      let point = flow.points at.0 is.node x.0 at.1 x.1 in
      elim point.word [
        | literal l n v same there section place named ↦ none-some n (sym (known seed count f at.0 x.0 few flow x.1).word ∙ named)
        | unloaded free named ↦ free is.literal (one_instr (generated seed count) is.node x.0.instr (instr.Literal is.literal) point.instr is.loads.found)
      ]

  module _ (units : List SeqUnit) (are : AreUnits (generated seed count) f (boundaries 4) 2 f.points units) where
    -- the point of a unit
    record HasPoint (u : SeqUnit) : Type 0 where
      point : Point
      is : IsUnitOf (generated seed count) f (boundaries 4) 2 point u
      known_point : IsGeneratedPoint seed count point

    point_of : (k : ℕ) (u : SeqUnit) → slice_get units k ≡ Some u → HasPoint u
    point_of k u at =
        let low = slice_get_within units k u at in
        let long = are.sized in
        let x = element_at f.points k (omega arith) in
        record { point = x.0; is = are.each k x.0 u x.1 at; known_point = known seed count f k x.0 few flow x.1 }

    unit_slotted : (u : SeqUnit) (s : Stretch) → HasPoint u → IsStretch u s → IsSlotted count (item_of_unit (unit_point u, s.place))
    unit_slotted u s h stretch =
        let x : Point = h.point in
        let has = slot_of seed count x.offset x.instr h.known_point.stands in
        let copies = few_of (generated seed count) h.is.live x h.is.scratch has.copies h.known_point.cond h.known_point.exit has.short u.seq h.is.sequence in
        let bytes = few_bytes s.widths in
        let sized = stretch.count in
        let end = stretch.end in
        record {
          section = h.is.section ∙ h.known_point.section;
          unit = refl;
          before = has.before;
          bytes = 4 * has.copies;
          slot = subst (λ (n : ℕ). Slot count n has.before (4 * has.copies)) (sym h.is.old) has.slot;
          few = omega arith;
        }

    module _ (p : Placing) (placing : IsPlacing units f.words p) where
      item_slotted : (it : Item) → Contains placing.items it → IsSlotted count it
      item_slotted it among = elim (Contains-append_cases (map item_of_unit (zip (map unit_point units) (map stretch_place p.units))) (map item_of_word (zip (map word_point f.words) p.words)) it ((placing.of.same it).0 among)) [
        | inl left ↦
            let from = contains_map item_of_unit (zip (map unit_point units) (map stretch_place p.units)) it left in
            let z : (ℕ × ℕ) × UnitPlace = from.0 in
            let at = place_of (zip (map unit_point units) (map stretch_place p.units)) z from.1 in
            let parts = zip_parts (map unit_point units) (map stretch_place p.units) at.0 z at.1 in
            let u = map_at unit_point units at.0 z.0 parts.0 in
            let s = map_at stretch_place p.units at.0 z.1 parts.1 in
            let slotted = unit_slotted u.0 s.0 (point_of at.0 u.0 u.1) (all_zip_at IsStretch units p.units at.0 u.0 s.0 placing.stretches u.1 s.1) in
            subst (IsSlotted count) (ap (λ (q : ℕ × ℕ). item_of_unit (q, s.0.place)) u.2 ∙ ap (λ (q : UnitPlace). item_of_unit (z.0, q)) s.2 ∙ from.2) slotted
        | inr right ↦
            let from = contains_map item_of_word (zip (map word_point f.words) p.words) it right in
            let at = place_of (zip (map word_point f.words) p.words) from.0 from.1 in
            let parts = zip_parts (map word_point f.words) p.words at.0 from.0 at.1 in
            let w = map_at word_point f.words at.0 from.0.0 parts.0 in
            absurd (no_word w.0 (contains_at f.words at.0 w.0 w.1))
      ]

      few_sized : (j size : ℕ) → slice_get p.sizes j ≡ Some size → size ≤ 128 * count
      few_sized j size there = few_stand count j size placing.items (rises_keys old_place place_cmp placing.items placing.of.rise) item_slotted (placing.stand j size there)

      no_fault : (why : Refusal) (section offset : ℕ) → ¬ LayFault units p why section offset
      no_fault why section offset (out_of_reach k d far es eo ew) =
          let h = point_of k far.unit far.there in
          no_load (places_of p) far.unit _ d far.loads.step.goal (h.is.word ∙ h.known_point.word) far.loads.loads
      no_fault why section offset (too_big big eo ew) =
          let size = few_sized section big.size big.there in
          let over = big.big in
          let high = few.high in
          omega arith

pub units_are_laid : GeneratedPointsAreKnown → GeneratedUnitsAreLaid
units_are_laid known seed count f units spot few flow are refused =
    no_fault known seed count f few flow units are refused.placing refused.placed spot.refusal spot.section spot.offset refused.first.fault
