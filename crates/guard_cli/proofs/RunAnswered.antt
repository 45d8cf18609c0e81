-- A call that returns within its steps is not refused, and its run does not stop otherwise.
use Rattle.std.proofs.Common.{◌≡◌, ◌≢◌, ◌<◌, inl, inr, ℕ, zero, suc, ◌+◌, ◌-◌, ◌&&◌, Bool, true, false, List, [], Some, None, Result, Ok, Err, refl, sym, ap, ap₂, ◌∙◌, subst, arith}
use Rattle.std.specs.Option.{option_to_list}
use Rattle.std.proofs.lemmas.Bool.{cases_order}
use Rattle.elf_model.specs.declared.refusals.Spot.{Spot}
use Rattle.elf_model.specs.declared.refusals.TheConstants.Limit.{ANY}
use Rattle.elf_model.specs.Objects.{ObjectParts}
use Rattle.thumb_table.specs.declared.faults.FaultKind.{FaultKind}
use Rattle.thumb_table.specs.declared.placements.Placement.{Placement}
use Rattle.thumb_table.specs.Parts.{CodeBytes, Image}
use Rattle.thumb_table.specs.States.{State}
use Rattle.thumb_table.specs.Steps.{move}
use Rattle.thumb_table.specs.Schedules.{run, go_on, is_in, Returns, ReturnsWithin, Lasts}
use Rattle.thumb_table.specs.Images.{IsImage, entry_of}
use Rattle.thumb_table.specs.Calls.{start}
use Rattle.skip_machine.specs.declared.machines.Outcome.{Outcome}
use Rattle.skip_machine.specs.declared.machines.Outcome.TheVariants.{Returned, Fault, Unfinished}
use Rattle.skip_machine.specs.Draws.{skipped_before, IsDrawn}
use Rattle.skip_machine.specs.Runs.{RunEnds}
use Rattle.skip_machine.proofs.Walks.{run_more}
use Rattle.guard_words.specs.Words.{RunWords, Skips, listed, drawn}
use Rattle.guard_cli.specs.declared.run.Finished.{Finished}
use Rattle.guard_cli.specs.LinkWork.{AreOf}
use Rattle.guard_cli.specs.MachineRuns.{Call, call_of, AreSkippedOf, IsScheduleOf, IsRunRefusal, HasRun, CanReturn, HasRunBy, CanReturnBy, run_line, run_work}
use Rattle.guard_cli.specs.Steps.{IsFinishedBy, IsMadeAs, stopped_by}
use Rattle.guard_cli.proofs.Accepted.{same_objects, are_objects, image_is_accepted}
use Rattle.sim_images.proofs.OneImage.{one_image}

some_same : (x y : ℕ) → Some x ≡ Some y → x ≡ y
some_same x y e = cc

-- A fault ends every longer run.
broken_on : (code : CodeBytes) (skips : ℕ → Bool) (n k i : ℕ) (s : State) (kind : FaultKind) → run code skips n i s ≡ Err kind → run code skips (n + k) i s ≡ Err kind
broken_on code skips zero k i s kind e = absurd (cc)
broken_on code skips (suc n) k i s kind e =
    let same : suc n + k ≡ suc (n + k) = omega arith in
    subst (λ (m : ℕ). run code skips m i s ≡ Err kind) (sym same) (go (λ t h. broken_on code skips n k (suc i) t kind h) (move code (skips i) s) e)
  where
    go : ((t : State) → run code skips n (suc i) t ≡ Err kind → run code skips (n + k) (suc i) t ≡ Err kind) → (r : Result State FaultKind) → go_on r (run code skips n (suc i)) ≡ Err kind → go_on r (run code skips (n + k) (suc i)) ≡ Err kind
    go later (Ok t) h = later t h
    go later (Err other) h = h

ok_same : (x y : State) → (let r : Result State FaultKind = Ok x in r ≡ Ok y) → x ≡ y
ok_same x y e = cc

ok_no_err : (x : State) (k : FaultKind) → Ok x ≡ Err k → ⊥
ok_no_err x k e = cc

-- A call that returns has more steps than any run from its start that has not returned.
before_return : (code : CodeBytes) (skips : ℕ → Bool) (n m : ℕ) (s t u : State) → Returns code skips n 0 s t → Lasts code skips m 0 s u → m < n
before_return code skips n m s t u returns lasts =
    let some = returns.some in
    elim (cases_order n m) [
      | inl same ↦
          absurd (lasts.still (omega arith) (ap (λ (x : State). x.pc) (ok_same u t (sym lasts.goes.runs ∙ ap (λ (k : ℕ). run code skips k 0 s) (sym same) ∙ returns.goes.runs)) ∙ returns.over))
      | inr order ↦
          elim order [
            | inl less ↦ absurd (lasts.goes.on n t some less returns.goes.runs returns.over)
            | inr more ↦ more
          ]
    ]

-- A call that returns ends no other way.
pub returns_only : (code : CodeBytes) (skips : ℕ → Bool) (most : ℕ) (s t : State) → ReturnsWithin code skips most 0 s t
    → (outcome : Outcome) (m : ℕ) (u : State) → outcome ≢ Returned → RunEnds code skips most 0 s outcome m u → ⊥
returns_only code skips most s t r Returned m u other ends = other refl
returns_only code skips most s t r (Fault kind pc) m u other (before, breaks, at) =
    let less = before_return code skips r.steps m s t u r.returns breaks.lasts in
    let next : run code skips (suc m) 0 s ≡ Err kind = run_more code skips m 0 s u (Err kind) breaks.lasts.goes.runs breaks.faults in
    let k : suc m + (r.steps - suc m) ≡ r.steps = omega arith in
    let broken = broken_on code skips (suc m) (r.steps - suc m) 0 s kind next in
    let here : run code skips r.steps 0 s ≡ Err kind = subst (λ (j : ℕ). run code skips j 0 s ≡ Err kind) k broken in
    ok_no_err t kind (sym r.returns.goes.runs ∙ here)
returns_only code skips most s t r Unfinished m u other (all, lasts) =
    let less = before_return code skips r.steps m s t u r.returns lasts in
    let within = r.within in
    absurd (omega arith)

-- One schedule is skipped by words.
before_same : (a b : List ℕ) (c i : ℕ) → ((j : ℕ) → j < i → is_in a j ≡ is_in b j) → skipped_before a c i ≡ skipped_before b c i
before_same a b zero i same = refl
before_same a b (suc c) zero same = refl
before_same a b (suc c) (suc i) same = ap₂ (λ (x y : Bool). x && y) (same i (omega arith)) (before_same a b c i (λ j less. same j (omega arith)))

same_tests : (x y : Bool) → (x ≡ true → y ≡ true) → (y ≡ true → x ≡ true) → x ≡ y
same_tests true y to back = sym (to refl)
same_tests false true to back = back refl
same_tests false false to back = refl

drawn_to : (seed steps copies : ℕ) (a b : List ℕ) → IsDrawn seed steps copies a → IsDrawn seed steps copies b → (i : ℕ) → ((j : ℕ) → j < i → is_in a j ≡ is_in b j) → is_in a i ≡ true → is_in b i ≡ true
drawn_to seed steps copies a b x y i same set =
    let there = (x.drawn i).0 set in
    (y.drawn i).1 (there.0, there.1, sym (before_same a b (copies - 1) i same) ∙ there.2)

drawn_below : (seed steps copies : ℕ) (a b : List ℕ) → IsDrawn seed steps copies a → IsDrawn seed steps copies b → (n j : ℕ) → j < n → is_in a j ≡ is_in b j
drawn_below seed steps copies a b x y zero j less = absurd (omega arith)
drawn_below seed steps copies a b x y (suc n) j less =
    let same : (i : ℕ) → i < j → is_in a i ≡ is_in b i = λ i before. drawn_below seed steps copies a b x y n i (omega arith) in
    same_tests (is_in a j) (is_in b j) (drawn_to seed steps copies a b x y j same) (drawn_to seed steps copies b a y x j (λ i before. sym (same i before)))

same_skips : (most : ℕ) (skips : Skips) (a b : List ℕ) → AreSkippedOf most skips a → AreSkippedOf most skips b → is_in a ≡ is_in b
same_skips most (listed steps) a b x y = ap is_in (x ∙ sym y)
same_skips most (drawn seed) a b x y =
    let same : (j : ℕ) → is_in a j ≡ is_in b j = λ j. drawn_below seed most 2 a b x y (suc j) j (omega arith) in
    λ i j. same j i

-- Inputs whose call can be made are not refused.
pub call_is_accepted : (c : Call) (files : List (List ℕ)) (spot : Spot) → CanReturn c files → IsRunRefusal c.at c.entry files spot → ⊥
call_is_accepted c files spot (objects, image, are, linked, entry, entry_is, t, returns) (inl link) = image_is_accepted c.at files spot (objects, image, are, linked) link
call_is_accepted c files spot (objects, image, are, linked, entry, entry_is, t, returns) (inr (at, (others, its_image, its, its_linked, none))) =
    let same = same_objects files others objects its are in
    let here : IsImage objects c.at its_image = subst (λ (os : List ObjectParts). IsImage os c.at its_image) same its_linked in
    let one : its_image ≡ image = one_image objects c.at its_image image (are_objects ANY files objects are) here linked in
    no_some entry (sym none ∙ ap (λ (i : Image). entry_of i.entries c.entry) one ∙ entry_is)
  where
    no_some : (a : ℕ) → None ≡ Some a → ⊥
    no_some a e = cc

-- Their run returns, under each schedule that skips the same steps.
pub run_returns : (c d : Call) (files : List (List ℕ)) (outcome : Outcome) (line : List ℕ) → d ≡ record c { schedule = d.schedule } → is_in d.schedule ≡ is_in c.schedule
    → CanReturn c files → outcome ≢ Returned → HasRun d files outcome line → ⊥
run_returns c d files outcome line alike skips (objects, image, are, linked, entry, entry_is, t, returns) other has =
    let r = has.run_is in
    let at : d.at ≡ c.at = ap (λ (x : Call). x.at) alike in
    let named : d.entry ≡ c.entry = ap (λ (x : Call). x.entry) alike in
    let given : d.arguments ≡ c.arguments = ap (λ (x : Call). x.arguments) alike in
    let most : d.steps ≡ c.steps = ap (λ (x : Call). x.steps) alike in
    let same : r.call.objects ≡ objects = same_objects files r.call.objects objects r.call.inputs are in
    let here : IsImage objects c.at r.image =
    subst (λ (p : Placement). IsImage objects p r.image) at (subst (λ (os : List ObjectParts). IsImage os d.at r.image) same r.call.image_is) in
    let one : r.image ≡ image = one_image objects c.at r.image image (are_objects ANY files objects are) here linked in
    let place : r.call.entry ≡ entry =
    some_same r.call.entry entry (sym r.call.entry_is ∙ ap (λ (n : List ℕ). entry_of r.image.entries n) named ∙ ap (λ (i : Image). entry_of i.entries c.entry) one ∙ entry_is) in
    let begun : r.begun ≡ start image c.at.stack entry c.arguments =
    r.call.start_is ∙ ap (λ (i : Image). start i d.at.stack r.call.entry d.arguments) one ∙ ap (λ (a : ℕ). start image d.at.stack a d.arguments) place
    ∙ ap (λ (p : Placement). start image p.stack entry d.arguments) at ∙ ap (λ (l : List ℕ). start image c.at.stack entry l) given in
    let ends : RunEnds image.code (is_in c.schedule) c.steps 0 (start image c.at.stack entry c.arguments) outcome has.steps has.ended =
    subst (λ (k : ℕ → Bool). RunEnds image.code k c.steps 0 (start image c.at.stack entry c.arguments) outcome has.steps has.ended) skips
    (subst (λ (n : ℕ). RunEnds image.code (is_in d.schedule) n 0 (start image c.at.stack entry c.arguments) outcome has.steps has.ended) most
    (subst (λ (s : State). RunEnds image.code (is_in d.schedule) d.steps 0 s outcome has.steps has.ended) begun
    (subst (λ (i : Image). RunEnds i.code (is_in d.schedule) d.steps 0 r.begun outcome has.steps has.ended) one r.ends))) in
    returns_only image.code (is_in c.schedule) c.steps (start image c.at.stack entry c.arguments) t returns outcome has.steps has.ended other ends

-- The run that words name returns where it can.
pub words_return : (r : RunWords) (files : List (List ℕ)) (outcome : Outcome) (line : List ℕ) → CanReturnBy r files → outcome ≢ Returned → HasRunBy r files outcome line → ⊥
words_return r files outcome line (schedule, is, can) other (its, its_is, has) =
    run_returns (call_of r schedule) (call_of r its) files outcome line refl (same_skips r.steps r.skips its schedule its_is is) can other has

-- what was made of inputs whose function was run
pub record IsRunMade (r : RunWords) (files : List (List ℕ)) (f : Finished) (line : List ℕ) : Type 0 where
  pub objects : List ObjectParts
  pub image : Image
  pub inputs : AreOf files objects
  pub image_is : IsImage objects r.at image
  pub entry : ℕ
  pub entry_is : entry_of image.entries r.entry ≡ Some entry
  pub run_is : IsFinishedBy image (IsScheduleOf r) r.steps (start image r.at.stack entry (option_to_list r.argument)) f
  pub line_is : line ≡ run_line f.outcome f.steps f.r0 f.ordinary

has_run : (r : RunWords) (files : List (List ℕ)) (f : Finished) (line : List ℕ) → IsRunMade r files f line → HasRunBy r files f.outcome line
has_run r files f line made =
    let run = made.run_is.2 in
    let r0 = run.r0_is in (
      made.run_is.0,
      made.run_is.1,
      record {
        steps = f.steps;
        ended = run.ended;
        ordinary = f.ordinary;
        run_is = record {
          image = made.image;
          begun = start made.image r.at.stack made.entry (option_to_list r.argument);
          call = record { objects = made.objects; inputs = made.inputs; image_is = made.image_is; entry = made.entry; entry_is = made.entry_is; start_is = refl };
          ends = run.ends;
          ordinary_is = run.ordinary_is;
        };
        line_is = made.line_is ∙ ap (λ n. run_line f.outcome f.steps n f.ordinary) r0;
      },
    )

ended_so : (r : RunWords) (files : List (List ℕ)) (outcome : Outcome) (line : List ℕ) → HasRunBy r files outcome line → IsMadeAs (run_work r) files [] line (stopped_by outcome)
ended_so r files Returned line has = (refl, has)
ended_so r files (Fault kind pc) line has = (λ e. absurd (cc), has)
ended_so r files Unfinished line has = (λ e. absurd (cc), has)

pub run_made : (r : RunWords) (files : List (List ℕ)) (f : Finished) (line : List ℕ) → IsRunMade r files f line → IsMadeAs (run_work r) files [] line (stopped_by f.outcome)
run_made r files f line made = ended_so r files f.outcome line (has_run r files f line made)
