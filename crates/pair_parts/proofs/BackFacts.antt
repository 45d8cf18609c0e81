-- Where a call in a unit comes back to.
use Rattle.std.proofs.Common.{◌≡◌, ℕ, ◌+◌, Bool, true, false, length, take, refl, ap, ◌∙◌, arith, Option, Some, None}
use Rattle.std.specs.Prelude.{slice_get, nat_lt, if◌then◌else◌, unwrap_or}
use Rattle.std.proofs.lemmas.Bool.{ltb-true}
use Rattle.elf_model.specs.Objects.{ObjectParts}
use Rattle.seq_core.specs.Places.{PlacedParts, LayoutParts}
use Rattle.flow_recover.specs.declared.flows.Point.{Point}
use Rattle.flow_recover.specs.Flows.{FlowParts}
use Rattle.flow_recover.specs.WholeFlows.{IsFlow}
use Rattle.liveness.specs.declared.boundary.Boundary.{Boundary}
use Rattle.hardened_form.specs.Places.{UnitPlace}
use Rattle.hardened_form.specs.HardenedForms.{IsHardenedForm}
use Rattle.branch_layout.specs.Placings.{landing_of}
use Rattle.branch_layout.specs.Laid.{laid_place, laid_places}
use Rattle.branch_layout.proofs.WithinFacts.{even_bytes, bytes_most}
use Rattle.emit_object.specs.UnitCopies.{all_carriers}
use Rattle.emit_object.specs.Emitting.{CanEmit}
use Rattle.point_units.specs.Units.{IsUnitOf}
use Rattle.sim_relation.specs.Doing.{IsBack}
use Rattle.pair_parts.proofs.LaidUnits.{laid_unit}
use Rattle.pair_parts.proofs.PlaceFacts.{code_section, between}
use Rattle.pair_parts.proofs.SequenceFacts.{comes_back_behind}

not_behind : (m n : ℕ) → m ≡ n → nat_lt m n ≡ false
not_behind m n e = go (nat_lt m n) refl
  where
    go : (b : Bool) → nat_lt m n ≡ b → b ≡ false
    go true t = let l = ltb-true m n t in absurd (omega arith)
    go false t = refl

pub is_back : (o h : ObjectParts) (f : FlowParts) (b : Boundary) (c : ℕ) (l : LayoutParts) (flow : IsFlow o f) (can : CanEmit o f l) (form : IsHardenedForm o h f (laid_places l) (all_carriers l))
    (k : ℕ) (x : Point) (u : PlacedParts) → slice_get f.points k ≡ Some x → slice_get l.units k ≡ Some u → IsUnitOf o f b c x u.unit → IsBack x (laid_place u)
is_back o h f b c l flow can form k x u e g is =
    let laid = laid_unit o f l can k u g in
    let t = code_section o h f l flow can form k x e in
    let even_start = (between o h f l flow can form k x u t.0 e g t.1 t.2).even in
    let start : u.start ≡ laid.stretch.place.start = ap (λ (q : UnitPlace). q.start) laid.place in
    let back : (laid_place u).back ≡ laid.stretch.place.back = ap (λ (q : UnitPlace). q.back) laid.place in
    let end : u.start + u.length ≡ laid.stretch.place.end = laid.placed.length in
    let back_is = laid.is.back in
    let end_is = laid.is.end in
    let even_part = even_bytes (take (landing_of u.unit) laid.stretch.widths) in
    let most = bytes_most laid.stretch.widths (landing_of u.unit) in
    record {
      even = omega arith;
      behind = λ q leads.
          let full = comes_back_behind o is.live c x is.scratch u.unit.seq is.sequence q leads in
          let none : u.landing ≡ None = laid.placed.landing ∙ ap (λ (z : Bool). if z then Some laid.stretch.place.back else None) (not_behind u.unit.seq.landing (length u.unit.seq.steps) full) in
          ap (λ (m : Option ℕ). unwrap_or m (u.start + u.length)) none;
      low = omega arith;
      high = omega arith;
    }
