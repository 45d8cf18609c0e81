-- Images are run with their stack, and the call of a generated object's image returns.
use Rattle.std.proofs.Common.{◌≡◌, ◌≤◌, ℕ, ◌+◌, ◌∷◌, [], true, false, Bool, List, length, refl, sym, ap, ◌∙◌, subst, arith}
use Rattle.std.specs.Prelude.{◌||◌}
use Rattle.std.proofs.lemmas.Bool.{eq-eqb}
use Rattle.std.proofs.lemmas.Option.{same_Some}
use Rattle.elf_model.specs.Objects.{ObjectParts}
use Rattle.elf_model.specs.Canonical.{round_up}
use Rattle.thumb_table.specs.declared.placements.Placement.{Placement}
use Rattle.thumb_table.specs.Parts.{Image}
use Rattle.thumb_table.specs.States.{State}
use Rattle.thumb_table.specs.Schedules.{is_in, Returns}
use Rattle.thumb_table.specs.Layouts.{data_bytes_of}
use Rattle.thumb_table.specs.Images.{IsImage}
use Rattle.thumb_table.specs.Calls.{start}
use Rattle.thumb_table.proofs.PlainImages.{has_room}
use Rattle.skip_machine.specs.Draws.{IsDrawn}
use Rattle.skip_machine.specs.Machines.{CanRun, Machine, state}
use Rattle.gen_object.specs.Generated.{generated}
use Rattle.gen_flow.specs.GeneratedCode.{IsCount}
use Rattle.gen_image.specs.GeneratedImages.{placement, IsGeneratedImage, GeneratedImagesAreKnown}
use Rattle.gen_runs.specs.GeneratedRuns.{steps_of, GeneratedCallsReturn, ReturnsOrdinarily}
use Rattle.make_run.specs.MakeSteps.{IsBegun, CanReturn, HasReturned, HasReturnedPlainly}
use Rattle.make_run.proofs.CallEnds.{one_count}

-- An image is run with the stack that it was placed with.
pub can_run : (objects : List ObjectParts) (at : Placement) (image : Image) → IsImage objects at image → CanRun image at.stack
can_run objects at image is =
    let bytes = data_bytes_of objects at in
    let base : image.memory.base ≡ at.base + at.room = is.memory.base in
    let size : length image.memory.cells ≡ length bytes = is.memory.size in
    let p = is.placement in
    let c = is.code_base in
    let r = is.room in
    let long = is.code.size in
    let low = (has_room objects at is.can).code in
    let fits = (has_room objects at is.can).memory in
    let ends = (has_room objects at is.can).last in
    record {
      base = omega arith;
      base_even = let e = p.base_even in let f = p.room_even in omega arith;
      code_fits = omega arith;
      stack_even = p.stack_even;
      stack_low = p.stack_low;
      data_fits = subst (λ n. round_up n 8 + at.stack ≤ 16777216) (sym size) fits;
      end_fits = omega arith;
      marks_rise = is.marks.rise;
      stops_rise = is.stops_rise;
    }

-- Of no steps none is drawn.
pub none_drawn : (seed copies : ℕ) (skips : List ℕ) → IsDrawn seed 0 copies skips → skips ≡ []
none_drawn seed copies [] drawn = refl
none_drawn seed copies (k ∷ ks) drawn =
    let first : is_in (k ∷ ks) k ≡ true = ap (λ (b : Bool). b || is_in ks k) (eq-eqb k k refl) in
    let below = ((drawn.drawn k).0 first).0 in
    absurd (omega arith)

module _ (known : GeneratedImagesAreKnown) (return : GeneratedCallsReturn) (seed count : ℕ) (image : Image) (few : IsCount count) (is : IsImage (generated seed count ∷ []) placement image) where
  there : IsGeneratedImage seed count image
  there = known seed count image few is

  call : ReturnsOrdinarily image 3 (steps_of count)
  call = return seed count 3 image few (omega arith) there

  begins : IsBegun image (start image 65536 0x8001 (3 ∷ []))
  begins = record { entry = 0x8001; entry_is = there.entry; start_is = refl }

  pub can_return : (plan : List ℕ) → plan ≡ [] → CanReturn image plan (steps_of count)
  can_return plan none =
      subst (λ (p : List ℕ). CanReturn image p (steps_of count)) (sym none)
      (record {
        begun = start image 65536 0x8001 (3 ∷ []);
        is = begins;
        ended = call.ended;
        returns = record { steps = steps_of count; within = omega arith; returns = call.returns };
      })

  pub has_returned : (plan : List ℕ) → plan ≡ [] → (m : Machine) → HasReturned image plan (steps_of count) m → HasReturnedPlainly image count m
  has_returned plan none m has =
      let start_at = start image 65536 0x8001 (3 ∷ []) in
      let place : has.is.entry ≡ 0x8001 = same_Some has.is.entry 0x8001 (sym has.is.entry_is ∙ there.entry) in
      let same : has.begun ≡ start_at = has.is.start_is ∙ ap (λ (a : ℕ). start image 65536 a (3 ∷ [])) place in
      let ends : Returns image.code (λ i. false) m.steps 0 start_at (state m) =
      subst (λ (s : State). Returns image.code (λ i. false) m.steps 0 s (state m)) same
      (subst (λ (p : List ℕ). Returns image.code (is_in p) m.steps 0 has.begun (state m)) none has.returns) in
      let count_is : m.steps ≡ steps_of count = one_count image.code (λ i. false) m.steps (steps_of count) start_at (state m) call.ended ends call.returns in
      record {
        begun = start_at;
        is = begins;
        steps = count_is;
        returns = subst (λ (n : ℕ). Returns image.code (λ i. false) n 0 start_at (state m)) count_is ends;
        ordinary = call.ordinary;
      }
