-- The unit of a point does the point's instruction.
use Rattle.std.proofs.Common.{◌≡◌, ◌≢◌, ◌≤◌, ℕ, ◌+◌, ◌*◌, ◌%◌, ◌^◌, List, [], ◌∷◌, map, take, length, Bool, true, false, refl, sym, ap, ◌∙◌, subst, arith, Option, Some, None, Ok, Err}
use Rattle.std.specs.Prelude.{slice_get, ◌&&◌, ◌||◌, ◌==◌, is_none, if◌then◌else◌}
use Rattle.std.proofs.lemmas.Bool.{and_parts, both_ways}
use Rattle.std.proofs.lemmas.Option.{none-some}
use Rattle.std.proofs.lemmas.List.{length-map}
use Rattle.elf_model.specs.Objects.{ObjectParts}
use Rattle.thumb_instr.specs.declared.conditions.Cond.{Cond}
use Rattle.thumb_instr.specs.declared.conditions.Cond.TheVariants.{Al}
use Rattle.thumb_instr.specs.declared.instructions.Instr.{Instr}
use Rattle.thumb_encode.specs.declared.codes.Code.{Code}
use Rattle.thumb_encode.specs.Encoding.{width_of}
use Rattle.thumb_table.specs.declared.faults.FaultKind.TheVariants.{Trap}
use Rattle.thumb_table.specs.Parts.{CodeBytes}
use Rattle.thumb_table.specs.States.{Core, Change, Outcome, applied}
use Rattle.thumb_table.specs.Steps.{goes_on}
use Rattle.thumb_table.specs.Conditions.{holds}
use Rattle.reloc_places.specs.Relocations.{may_fail}
use Rattle.flow_recover.specs.declared.flows.Point.{Point}
use Rattle.flow_recover.specs.declared.flows.Exit.{Exit as FlowExit}
use Rattle.flow_recover.specs.declared.flows.Exit.TheVariants as exit
use Rattle.flow_recover.specs.Flows.{FlowParts}
use Rattle.flow_recover.specs.WholeFlows.{IsFlow}
use Rattle.liveness.specs.declared.boundary.Boundary.{Boundary}
use Rattle.seq_core.specs.declared.steps.Step.{Step}
use Rattle.seq_core.specs.Series.{Series}
use Rattle.seq_core.specs.Places.{PlacedParts, LayoutParts}
use Rattle.seq_core.specs.Classes.{has_pc, branches_on_zero}
use Rattle.seq_core.specs.Does.{Task, SameBut, Tolerates}
use Rattle.seq_core.specs.Meanings.{meant}
use Rattle.seq_core.specs.Denoted.{Spots, StepsStand}
use Rattle.seq_core.specs.Guards.{ConditionCarries}
use Rattle.seq_core.specs.Sequences.{Settles}
use Rattle.seq_core.specs.Replaced.{replaced}
use Rattle.seq_core.specs.Builders.{Do, loses, leaves_link, returned, meaning, ends_of, own_test, work}
use Rattle.seq_core.specs.Twice.{own_condition}
use Rattle.seq_idempotent.proofs.InPlace.{Laws}
use Rattle.it_expand.specs.Expanded.{guard_of, body_of}
use Rattle.hardened_form.specs.Places.{UnitPlace}
use Rattle.branch_layout.specs.Copies.{copies_of, length_of}
use Rattle.branch_layout.specs.Laid.{laid_place, laid_places}
use Rattle.branch_layout.proofs.CopyFacts.{copies_before}
use Rattle.emit_object.specs.UnitCopies.{unit_copies}
use Rattle.point_units.specs.Units.{never_returns, is_call, landed, under, left_instr, IsReplaced, Works, IsSequenceOf, IsUnitOf}
use Rattle.point_units.specs.Units.IsSequenceOf.{of_it, of_instr}
use Rattle.sim_relation.specs.Standing.{Linking, Stands}
use Rattle.sim_relation.specs.Doing.{with_number, task_at, ends_at, linked_effect, MayLink}
use Rattle.unit_work.specs.Work.{placed_step, sequence_of, AreOnCarriers, IsLaidOf, UnitsWork}
use Rattle.unit_work.proofs.Linked.{linked_step}
use Rattle.unit_work.proofs.Covered.{Covers, tolerated}
use Rattle.unit_work.proofs.Empty.{nothing_tolerated}
use Rattle.unit_work.proofs.Stood.{copies_from_length}
use Rattle.unit_work.proofs.Reaching.{NumberLaws}
use Rattle.unit_work.proofs.Flowing.{calls_out, call_calls}
use Rattle.unit_work.proofs.Fitting.{AreFit, sequence_fit, fit_front, fit_copies, all_before}
use Rattle.unit_work.proofs.LinkedDo.{left_made, linked_do}
use Rattle.unit_work.proofs.LaidUnits.{coded, end_is, back_at_end}
use Rattle.unit_work.proofs.Meaning.{same_condition, never_fails, calls_no_condition, calls_no_zero, same_pc, calls_jump, it_means, same_exit, less_lost, link_lost}
use Rattle.unit_work.proofs.UnitStands.{p as unit_spots, unit_stands}

-- the laws that it stands on
pub record UnitLaws : Type 0 where
  pub numbers : NumberLaws
  pub halves : Laws
  pub conditions : ConditionCarries Settles
  pub made : (o : ObjectParts) (f : FlowParts) (p : ℕ) (x : Point) → IsFlow o f → slice_get f.points p ≡ Some x → x.exit ≡ exit.Call → x.next ≡ None → may_fail x.cond ≡ false

-- a call behind which there is nothing is one
call_is : (e : FlowExit) → is_call e ≡ true → e ≡ exit.Call
call_is exit.Call h = refl
call_is e h = absurd (cc)

none_is : (r : Option ℕ) → is_none r ≡ true → r ≡ None
none_is None h = refl
none_is (Some q) h = absurd (cc)

no_guard : (c : Cond) (d : Cond) → c ≡ Al → guard_of c ≡ Some d → ⊥
no_guard c d al e = none-some d (ap guard_of (sym al) ∙ e)

-- where a unit ends for the law of sequences, which goes up to where a call comes back to
pub data Ending (x : Point) (q : UnitPlace) : Type 0 where
  at_end : q.back ≡ q.end → Ending x q
  by_call : calls_out x.instr ≡ true → x.cond ≡ Al → Ending x q

module _ (laws : UnitLaws) (o h : ObjectParts) (f : FlowParts) (b : Boundary) (c : ℕ) (l : LayoutParts) (laid : IsLaidOf o f b c l) (on : AreOnCarriers h l)
    (k : ℕ) (x : Point) (u : PlacedParts) (there : slice_get f.points k ≡ Some x) (here : slice_get l.units k ≡ Some u) (is : IsUnitOf o f b c x u.unit)
    (code : CodeBytes) (start : ℕ) (link : Linking) (aligned : start % 4 ≡ 0) (end : start + 2 ^ 20 ≤ 2 ^ 32) (may : MayLink o f (laid_places l) start x link)
    (stands : Stands code start link (laid_places l) x (laid_place u) (sequence_of h l u is.scratch)) where
  abbrev q : UnitPlace
  q = laid_place u

  abbrev task : Task
  task = task_at start x q (sequence_of h l u is.scratch) (linked_effect start link x q)

  -- IT
  no_unit : body_of x.instr ≡ None → u.unit.seq ≡ record { steps = []; landing = 0 } → Tolerates code c task
  no_unit body none =
      let count : length u.codes ≡ 0 = coded o f l laid.can k u here is.short ∙ ap (λ (s : Series). length (copies_of s.steps)) none in
      let ends : q.end ≡ u.start + length_of (map width_of u.codes) = end_is o f l laid.can k u here is.short in
      let empty : q.end ≡ u.start = ends ∙ no_bytes u.codes count in
      nothing_tolerated code c task (ap (λ (n : ℕ). start + n) (sym empty)) (λ y. it_means x.reloc link.number x.instr (ends_at start link q) y body)
    where
      no_bytes : (cs : List Code) → length cs ≡ 0 → u.start + length_of (map width_of cs) ≡ u.start
      no_bytes [] e = omega arith
      no_bytes (d ∷ cs) e = absurd (omega arith)

  -- ALL ELSE

  module _ (rep : IsReplaced o is.live c x is.scratch u.unit.seq) (works : Works o c x is.scratch u.unit.seq) where
    ending : Ending x q
    ending = go (never_returns x) refl
      where
        go : (never : Bool) → never_returns x ≡ never → Ending x q
        go true e =
            let parts = and_parts (is_call x.exit) (is_none x.next) e in
            let call = call_is x.exit parts.0 in
            by_call (call_calls o f laid.flow k x there call) (never_fails x.cond (laws.made o f k x laid.flow there call (none_is x.next parts.1)))
        go false e =
            let made : u.unit.seq ≡ under (guard_of x.cond) c (landed false c (replaced rep.class c (left_instr o x) is.scratch)) =
            rep.sequence ∙ ap (λ (n : Bool). under (guard_of x.cond) c (landed n c (replaced rep.class c (left_instr o x) is.scratch))) e in
            let landing : u.unit.seq.landing ≡ length u.unit.seq.steps =
            ap (λ (s : Series). s.landing) made ∙ (all_before (guard_of x.cond) c (replaced rep.class c (left_instr o x) is.scratch) ∙ ap (λ (s : Series). length s.steps) (sym made)) in
            at_end (back_at_end o f l laid.can k u here is.short (length u.unit.seq.steps) landing refl)

    fits : AreFit c x.instr (q.back ≡ q.end) u.unit.seq.steps
    fits =
        subst (λ (s : Series). AreFit c x.instr (q.back ≡ q.end) s.steps) (sym rep.sequence)
        (sequence_fit c x.instr (q.back ≡ q.end) (guard_of x.cond) (never_returns x) (replaced rep.class c (left_instr o x) is.scratch) (left_made o x.reloc rep.class x.instr is.scratch c rep.of) (zeros ending) (guards ending))
      where
        zeros : Ending x q → branches_on_zero x.instr ≡ true → q.back ≡ q.end
        zeros (at_end e) z = e
        zeros (by_call calls al) z = absurd (calls_no_zero x.instr calls z)

        guards : Ending x q → (d : Cond) → guard_of x.cond ≡ Some d → q.back ≡ q.end
        guards (at_end e) d g = e
        guards (by_call calls al) d g = absurd (no_guard x.cond d al g)

    abbrev p : Spots
    p = unit_spots laws.numbers o h f b c l laid.flow laid.can on k x u there here is code start link aligned end may stands

    abbrev steps : List Step
    steps = map (linked_step x.reloc link.number) (take u.unit.seq.landing u.unit.seq.steps)

    stand : StepsStand code c p steps (start + u.start) p.end
    stand = unit_stands laws.numbers o h f b c l laid.flow laid.can on k x u there here is code start link aligned end may stands fits

    abbrev new : Instr
    new = with_number x.reloc link.number x.instr

    abbrev test : Core → Bool
    test y = holds x.cond y && own_test x.instr y

    does : Do test new (loses x.instr is.scratch) c steps
    does =
        linked_do laws.halves laws.conditions o link.number c laid.least laid.most is.live x.cond (never_returns x) rep.class is.scratch u.unit.seq code p (start + u.start) p.end
        x.reloc x.instr rep.of rep.first rep.sequence works stand

    abbrev done : Task
    done = work test p (start + u.start) (c * length steps) new (loses x.instr is.scratch)

    short : done.length ≤ task.length
    short =
        let front = take u.unit.seq.landing u.unit.seq.steps in
        let one : length steps ≡ length front = length-map front (linked_step x.reloc link.number) in
        let many : length (copies_of front) ≡ c * length front = fit_copies c x.instr (q.back ≡ q.end) front (fit_front c x.instr (q.back ≡ q.end) u.unit.seq.landing u.unit.seq.steps fits) in
        let some : length (copies_of front) ≤ length (copies_of u.unit.seq.steps) = copies_before u.unit.seq.steps u.unit.seq.landing in
        let count = coded o f l laid.can k u here is.short in
        let all : length (unit_copies u) ≡ length (copies_of u.unit.seq.steps) = copies_from_length u.start (copies_of u.unit.seq.steps) u.codes (omega arith) in
        let placed : length (map (placed_step h l u) (unit_copies u)) ≡ length (unit_copies u) = length-map (unit_copies u) (placed_step h l u) in
        let same : c * length steps ≡ c * length front = ap (λ (n : ℕ). c * n) one in
        omega arith

    same_taken : (y : Core) → task.taken y ≡ done.taken y
    same_taken y = ap (λ (d : Cond). holds x.cond y && holds d y) (sym (same_condition x.instr))

    always : calls_out x.instr ≡ true → x.cond ≡ Al → (y : Core) → done.taken y ≡ true
    always calls al y = ap (λ (d : Cond). holds d y && holds (own_condition x.instr) y) al ∙ ap (λ (d : Cond). holds d y) (calls_no_condition x.instr calls)

    -- where it leads to
    leads : (y : Core) (g : Change) → task.effect y ≡ Ok g → goes_on done.end g.exit ≡ goes_on task.end g.exit
    leads y g effect = go ending
      where
        go : Ending x q → goes_on done.end g.exit ≡ goes_on task.end g.exit
        go (at_end e) = ap (λ (n : ℕ). goes_on (start + n) g.exit) e
        go (by_call calls al) =
            let jump = calls_jump x.reloc link.number x.instr (ends_at start link q) y g calls effect in
            ap (goes_on done.end) jump.1 ∙ sym (ap (goes_on task.end) jump.1)

    abbrev Acted : Outcome → Change → Type 0
    Acted made g = (m : Change) × (made ≡ Ok m) × (goes_on done.end m.exit ≡ goes_on task.end g.exit)
        × ((y z : Core) → SameBut done.loses (applied m y) z → SameBut task.loses (applied g y) z)

    neither : (lost back : Bool) → (lost || back) ≡ false → (lost ≡ false) × (back ≡ false)
    neither true back e = absurd (cc)
    neither false back e = (refl, e)

    -- what a return may lose is lr
    not_link : (i : ℕ) → has_pc x.instr ≡ true → (has_pc x.instr && (i == 14)) ≡ false → i ≢ 14
    not_link i pc kept same = both_ways (has_pc x.instr && (i == 14)) kept (ap (λ (b : Bool). b && (i == 14)) pc ∙ ap (λ (j : ℕ). j == 14) same)

    acted : (y : Core) (g : Change) → task.effect y ≡ Ok g → Acted (meaning p new y) g
    acted y g effect = go (has_pc new) refl
      where
        go : (b : Bool) → has_pc new ≡ b → Acted (if b then returned (meant new (ends_of p) y) else meant new (ends_of p) y) g
        go false e = (g, effect, leads y g effect, λ w z. less_lost done.loses task.loses (applied g w) z (λ i m. (neither (done.loses i) (has_pc x.instr && (i == 14)) m).0))
        go true e = (
          leaves_link g.exit g,
          ap returned effect,
          ap (goes_on done.end) (same_exit g) ∙ leads y g effect,
          λ w z. link_lost done.loses task.loses g w z (λ i m.
              let parts = neither (done.loses i) (has_pc x.instr && (i == 14)) m in
              (parts.0, not_link i (sym (same_pc x.reloc link.number x.instr) ∙ e) parts.1)),
        )

    trapped : (y : Core) → task.effect y ≡ Err Trap → meaning p new y ≡ Err Trap
    trapped y effect = go (has_pc new)
      where
        go : (b : Bool) → (if b then returned (meant new (ends_of p) y) else meant new (ends_of p) y) ≡ Err Trap
        go true = ap returned effect
        go false = effect

    covers : Covers done task
    covers = record {
      place = refl;
      length = short;
      taken = same_taken;
      acts = λ y g taken effect. let a = acted y g effect in (a.0, a.1, a.2, λ z. a.3 y z);
      rests = λ y taken. rest y taken ending;
      halts = trapped;
    }
      where
        rest : (y : Core) → done.taken y ≡ false → Ending x q → done.end ≡ task.end
        rest y taken (at_end e) = ap (λ (n : ℕ). start + n) e
        rest y taken (by_call calls al) = absurd (let t = sym (always calls al y) ∙ taken in cc)

    unit_works : Tolerates code c task
    unit_works = tolerated code c done task covers (does.tolerates code p (start + u.start) stand)

  pub works_there : Tolerates code c task
  works_there = go is.sequence
    where
      go : IsSequenceOf o is.live c x is.scratch u.unit.seq → Tolerates code c task
      go (of_it body _ none) = no_unit body none
      go (of_instr _ rep works _) = unit_works rep works

pub units_work : UnitLaws → UnitsWork
units_work laws o h f b c l laid on sized k x u there here is code start link aligned room may stands =
    works_there laws o h f b c l laid on k x u there here is code start link aligned (let low : start ≤ 2147479552 = omega arith in omega arith) may stands
