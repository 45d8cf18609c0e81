-- Layouts of units of a flow's points can be emitted.
use Rattle.std.proofs.Common.{◌≡◌, ◌≤◌, ℕ, true, List, sym, ap, ◌∙◌, subst, Some}
use Rattle.std.specs.Prelude.{slice_get, Contains, IsTrue, count_by}
use Rattle.std.proofs.lemmas.List.{length-map}
use Rattle.elf_model.specs.declared.objects.Reloc.{Reloc}
use Rattle.elf_model.specs.declared.refusals.TheConstants.Limit.{INPUT}
use Rattle.elf_model.specs.Objects.{ObjectParts, is_within}
use Rattle.code_ranges.proofs.InOrder.{same_at_each}
use Rattle.flow_recover.specs.declared.flows.Point.{Point}
use Rattle.flow_recover.specs.Flows.{FlowParts}
use Rattle.flow_recover.specs.WholeFlows.{IsFlow}
use Rattle.liveness.specs.declared.boundary.Boundary.{Boundary}
use Rattle.seq_core.specs.declared.steps.Step.{Step}
use Rattle.seq_core.specs.declared.units.Unit.{Unit as SeqUnit}
use Rattle.seq_core.specs.Places.{PlacedParts, LayoutParts}
use Rattle.branch_layout.specs.Given.{CanLay}
use Rattle.branch_layout.specs.Layouts.{IsLayout}
use Rattle.branch_layout.proofs.LaidFacts.{layouts_laid}
use Rattle.branch_layout.proofs.WithinFacts.{map_at}
use Rattle.emit_object.specs.Emitting.{unit_of, units_of, IsUnitAt, TakesReloc, CanEmit}
use Rattle.emit_object.specs.UnitCopies.{carries}
use Rattle.point_units.specs.Units.{AreUnits}
use Rattle.unit_layouts.proofs.CarriedFacts.{step_takes}
use Rattle.unit_layouts.proofs.Inside.{unit_of_placed, begins_inside}
use Rattle.unit_layouts.proofs.LaidUnits.{point_of_unit, gives_of, can_lay}
use Rattle.unit_layouts.proofs.RightInstrs.{point_fits}

module _ (o : ObjectParts) (f : FlowParts) (b : Boundary) (c : ℕ) (units : List SeqUnit) (l : LayoutParts) (within : IsTrue (is_within o INPUT)) (flow : IsFlow o f) (least : 2 ≤ c) (most : c ≤ 4) (are : AreUnits o f b c f.points units) (is : IsLayout units f.words l) where
  same_units : units_of l ≡ units
  same_units =
      let laid = layouts_laid units f.words l is in
      same_at_each (units_of l) units (length-map l.units unit_of ∙ laid.count) (λ k x y e g.
      let u = map_at unit_of l.units k x e in
      sym u.2 ∙ laid.same k y u.0 g u.1)

  at_point : (k : ℕ) (x : Point) (u : PlacedParts) → slice_get f.points k ≡ Some x → slice_get l.units k ≡ Some u → IsUnitAt x u.unit
  at_point k x u there at =
      let h = unit_of_placed o f b c units l within flow least most are is k u at in
      let w = are.each k x h.unit there h.there in
      subst (IsUnitAt x) (sym h.same) (record { section = w.section; old = w.old; word = w.word; reloc = w.reloc })

  takes : (k n : ℕ) (u : PlacedParts) (r : Reloc) (s : Step) → slice_get l.units k ≡ Some u → u.unit.reloc ≡ Some n → slice_get o.relocs n ≡ Some r → Contains u.unit.seq.steps s → carries s ≡ true → TakesReloc o r s
  takes k n u r s at reloc there among carry =
      let h = unit_of_placed o f b c units l within flow least most are is k u at in
      let x = point_of_unit o f b c units flow are k h.unit h.there in
      let of_point : x.point.reloc ≡ Some n = sym x.is.reloc ∙ ap (λ (v : SeqUnit). v.reloc) (sym h.same) ∙ reloc in
      let place = point_fits o f flow k x.point x.there n r of_point there in
      step_takes o x.point r place c h.unit.seq n (gives_of o f b c units flow are k h.unit x) of_point there s (subst (λ (v : SeqUnit). Contains v.seq.steps s) h.same among) carry

  one_carries : (k : ℕ) (u : PlacedParts) → slice_get l.units k ≡ Some u → count_by carries u.unit.seq.steps ≤ 1
  one_carries k u at =
      let h = unit_of_placed o f b c units l within flow least most are is k u at in
      subst (λ (v : SeqUnit). count_by carries v.seq.steps ≤ 1) (sym h.same) (gives_of o f b c units flow are k h.unit (point_of_unit o f b c units flow are k h.unit h.there)).one

  pub can_emit : CanEmit o f l × (units_of l ≡ units)
  can_emit = (
    record {
      can = subst (λ (us : List SeqUnit). CanLay us f.words) (sym same_units) (can_lay o f b c units flow are within least most);
      layout = subst (λ (us : List SeqUnit). IsLayout us f.words l) (sym same_units) is;
      count = (layouts_laid units f.words l is).count ∙ are.sized;
      each = at_point;
      relocs = takes;
      one = one_carries;
      inside = begins_inside o f b c units l within flow least most are is;
    },
    same_units,
  )
