-- The steps of a unit stand in a code, linked, each with its goal reached.
use Rattle.std.proofs.Common.{◌≡◌, ◌≤◌, ℕ, ◌+◌, ◌%◌, ◌^◌, List, map, take, refl, sym, ap, ◌∙◌, subst, arith, Option, Some, None}
use Rattle.std.specs.Prelude.{slice_get}
use Rattle.std.specs.Option.{option_map, option_and_then}
use Rattle.std.proofs.lemmas.Option.{none-some, same_Some, slice_get-map}
use Rattle.elf_model.specs.Objects.{ObjectParts}
use Rattle.elf_model.proofs.Elements.{contains_at}
use Rattle.thumb_table.specs.Parts.{CodeBytes}
use Rattle.reloc_places.specs.Relocations.{reloc_at}
use Rattle.flow_recover.specs.declared.flows.Point.{Point}
use Rattle.flow_recover.specs.Flows.{FlowParts}
use Rattle.flow_recover.specs.WholeFlows.{IsFlow}
use Rattle.liveness.specs.declared.boundary.Boundary.{Boundary}
use Rattle.seq_core.specs.declared.steps.Step.{Step}
use Rattle.seq_core.specs.Places.{PlacedParts, LayoutParts}
use Rattle.seq_core.specs.Denoted.{Spots, Reached, StepsStand}
use Rattle.hardened_form.specs.Places.{UnitPlace}
use Rattle.branch_layout.specs.Copies.{copies_of}
use Rattle.branch_layout.specs.Goals.{start_of, word_of}
use Rattle.branch_layout.specs.Laid.{laid_place, laid_places}
use Rattle.emit_object.specs.UnitCopies.{Copy, unit_copies}
use Rattle.emit_object.specs.Emitting.{CanEmit}
use Rattle.point_units.specs.Units.{LeadsTo, IsUnitOf}
use Rattle.point_units.specs.Units.LeadsTo.{by_branch, by_call}
use Rattle.sim_relation.specs.Standing.{Linking, StepStands, WordStands, Stands}
use Rattle.sim_relation.specs.Doing.{MayLink}
use Rattle.unit_work.specs.Work.{placed_step, sequence_of, AreOnCarriers}
use Rattle.unit_work.proofs.Linked.{linked_step}
use Rattle.unit_work.proofs.Stood.{Stood, AllCopies, bytes, each_copy, front_copies, steps_stand, after_steps, steps_end}
use Rattle.unit_work.proofs.Reaching.{spots, site, IsLinkedCopy, NumberLaws, copy_reached}
use Rattle.unit_work.proofs.Flowing.{branch_branches, own_aim}
use Rattle.unit_work.proofs.Fitting.{IsFit, AreFit, fit_at, fit_front}
use Rattle.unit_work.proofs.LaidUnits.{and_then_some, word_low, coded, back_is, back_small, at_small, of, aims, reaches}

map_some : {A B : Type 0} (f : A → B) (r : Option A) (y : B) → option_map f r ≡ Some y → (x : A) × (r ≡ Some x) × (f x ≡ y)
map_some f None y e = absurd (none-some y e)
map_some f (Some x) y e = (x, refl, same_Some (f x) y e)

module _ (laws : NumberLaws) (o h : ObjectParts) (f : FlowParts) (b : Boundary) (c : ℕ) (l : LayoutParts) (flow : IsFlow o f) (can : CanEmit o f l) (on : AreOnCarriers h l)
    (k : ℕ) (x : Point) (u : PlacedParts) (there : slice_get f.points k ≡ Some x) (laid : slice_get l.units k ≡ Some u) (is : IsUnitOf o f b c x u.unit)
    (code : CodeBytes) (start : ℕ) (link : Linking) (aligned : start % 4 ≡ 0) (end : start + 2 ^ 20 ≤ 2 ^ 32) (may : MayLink o f (laid_places l) start x link)
    (stands : Stands code start link (laid_places l) x (laid_place u) (sequence_of h l u is.scratch)) where
  -- the target is where its unit begins
  target_there : (to : ℕ) → u.unit.reloc ≡ None → option_and_then (start_of (laid_places l)) u.unit.target ≡ Some to → link.target ≡ start + to
  target_there to none e =
      let q = and_then_some (start_of (laid_places l)) u.unit.target to e in
      let v = map_some (λ (r : UnitPlace). r.start) (slice_get (laid_places l).units q.0) to q.2 in
      go q.0 v.0 v.1 ((is.target q.0).0 q.1) ∙ ap (λ (n : ℕ). start + n) v.2
    where
      bare : x.reloc ≡ None
      bare = sym is.reloc ∙ none

      go : (q : ℕ) (v : UnitPlace) → slice_get (laid_places l).units q ≡ Some v → LeadsTo f x q → link.target ≡ start + v.start
      go q v here (by_branch e) = may.target q v bare (branch_branches o f flow k x there q e) (own_aim o f flow k x there q e bare) here
      go q v here (by_call e r has point) = may.target q v r has point here

  word_there : (to : ℕ) → word_of (laid_places l) u.unit ≡ Some to → (to ≤ 524288) × WordStands code link (start + to)
  word_there to e =
      let w = and_then_some (λ n. slice_get (laid_places l).words n) u.unit.word to e in
      (word_low o f l can w.0 to w.2, stands.word w.0 to (sym is.word ∙ w.1) w.2)

  abbrev pub p : Spots
  p = spots start link x.reloc (laid_place u)

  abbrev link_step : Step → Step
  link_step = linked_step x.reloc link.number

  copy_stood : (j : ℕ) (y : Copy) → slice_get (unit_copies u) j ≡ Some y → (fit : IsFit c x.instr ((laid_place u).back ≡ (laid_place u).end) y.step) → Stood code p (start + y.at) (bytes y.code) (link_step y.step)
  copy_stood j y here fit =
      let step : slice_get (map (placed_step h l u) (unit_copies u)) j ≡ Some (placed_step h l u y) = slice_get-map (placed_step h l u) (unit_copies u) j ∙ ap (option_map (placed_step h l u)) here in
      let s : StepStands code start link (placed_step h l u y) = stands.steps j (placed_step h l u y) step in
      let copy : IsLinkedCopy code start link (laid_places l) u.unit (laid_place u) y.at y.step s.instr = record {
        reloc = reloc_at h u.unit.section y.at;
        carried = on k u y laid (contains_at (unit_copies u) j y here);
        linked = s.linked;
        marked = s.marked;
        goal = (aims o f l can k u laid is.short j y here).goal;
        reaches = reaches o f l can k u laid is.short j y here;
        low = at_small o f l can k u laid is.short j y here;
        back_low = back_small o f l can k u laid is.short;
        word = word_there;
        target = target_there;
        end = fit.end;
      } in
      record {
        fetched = s.fetched;
        there = s.there;
        width = s.width;
        instr = s.instr;
        means = s.means;
        reached = subst (λ (r : Option ℕ). Reached (site code (start + y.at) s.fetched.width) (spots start link r (laid_place u)) (linked_step r link.number y.step).goal (linked_step r link.number y.step).instr s.instr) is.reloc
            (copy_reached laws code start link aligned end (laid_places l) u.unit (laid_place u) y.at s.fetched.width y.step x.instr s.instr fit.suits copy);
      }

  abbrev pub first : List Step
  first = take u.unit.seq.landing u.unit.seq.steps

  pub unit_stands : AreFit c x.instr ((laid_place u).back ≡ (laid_place u).end) u.unit.seq.steps → StepsStand code c p (map link_step first) (start + u.start) (start + (laid_place u).back)
  unit_stands fits =
      let count = coded o f l can k u laid is.short in
      let all : AllCopies (λ at t d. Stood code p (start + at) (bytes d) (link_step t)) u.start (copies_of u.unit.seq.steps) u.codes =
      each_copy (λ at t d. Stood code p (start + at) (bytes d) (link_step t)) u.start (copies_of u.unit.seq.steps) u.codes (omega arith)
      (λ j y e. let o_f = of o f l can k u laid is.short j y e in copy_stood j y e (fit_at c x.instr ((laid_place u).back ≡ (laid_place u).end) u.unit.seq.steps fits o_f.index y.step o_f.there)) in
      let front = front_copies (λ at t d. Stood code p (start + at) (bytes d) (link_step t)) u.start u.unit.seq.landing u.unit.seq.steps u.codes all in
      let stand = steps_stand code p start c link_step (λ at t d. Stood code p (start + at) (bytes d) (link_step t)) (λ at t d s. s) first u.start u.codes
      (λ j s e. let m = (fit_at c x.instr ((laid_place u).back ≡ (laid_place u).end) first (fit_front c x.instr ((laid_place u).back ≡ (laid_place u).end) u.unit.seq.landing u.unit.seq.steps fits) j s e).many in (m, m)) front in
      let back : after_steps first u.start u.codes ≡ (laid_place u).back = steps_end first u.start u.codes ∙ sym (back_is o f l can k u laid is.short) in
      subst (λ (n : ℕ). StepsStand code c p (map link_step first) (start + u.start) (start + n)) back stand
