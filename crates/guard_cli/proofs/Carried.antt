-- What a step knows, carried to the whole command.
use Rattle.std.proofs.Common.{◌≡◌, ◌<◌, ◌≤◌, inl, inr, ℕ, List, [], ◌∷◌, length, Option, Some, None, IsTrue, refl, sym, ap, ◌∙◌, subst, arith}
use Rattle.std.proofs.lemmas.List.{length-take, take_all}
use Rattle.guard_io.specs.Outside.{Rose, IsLoaded}
use Rattle.skip_machine.specs.declared.machines.Outcome.{Outcome}
use Rattle.guard_cli.specs.declared.endings.Ending.{Ending}
use Rattle.guard_cli.specs.declared.endings.Ending.TheVariants.{Done, Refused, Usage, ReadFault, WriteFault, PrintFault, NoMemory, Stopped}
use Rattle.guard_cli.specs.declared.tasks.Made.{Made}
use Rattle.guard_cli.specs.Moments.{Files, Screen, SameBut, Untouched, IsSaved}
use Rattle.guard_cli.specs.Works.{Save, Work, AreLoaded}
use Rattle.guard_cli.specs.Endings.{AreSaved, FinishesAs, HasLoaded, IsDecided, EndsAs}
use Rattle.guard_cli.specs.Steps.{saves_of, IsMadeAs, IsMadeBy, IsSaving, IsSaying, MadeAsEndsAs, LoadsFailAs}

-- A file of which less was loaded than might have been was loaded whole.
pub loaded_whole : (content : Option (List ℕ)) (most : ℕ) (bytes : List ℕ) → IsLoaded content most bytes → length bytes < most → content ≡ Some bytes
loaded_whole None most bytes h short = absurd h
loaded_whole (Some file) most bytes h short =
    let n = ap length h ∙ length-take most file in
    let small : length file ≤ most = omega arith in
    ap Some (sym (h ∙ take_all most file small))

-- From files that no one has touched so far, the same holds as from the files before.
pub told_before : (old mid : Files) → Untouched old mid → IsTrue old.told → IsTrue mid.told
told_before old mid same told = same.told ∙ told

others_before : (name : List ℕ) (old mid new : Files) → Untouched old mid → SameBut name mid new → SameBut name old new
others_before name old mid new same others = record { told = others.told ∙ same.told; each = λ other apart. others.each other apart ∙ same.each other }

pub saved_before : (name bytes : List ℕ) (old mid new : Files) → Untouched old mid → IsSaved name bytes mid new → IsSaved name bytes old new
saved_before name bytes old mid new same saved = record { others = others_before name old mid new same saved.others; whole = λ told. saved.whole (told_before old mid same told) }

pub untouched_before : (old mid new : Files) → Untouched old mid → Untouched mid new → Untouched old new
untouched_before old mid new first second = record {
  told = second.told ∙ first.told;
  each = λ name. second.each name ∙ first.each name;
  saves = second.saves ∙ first.saves;
}

pub untouched_here : (files : Files) → Untouched files files
untouched_here files = record { told = refl; each = λ name. refl; saves = refl }

pub all_saved_before : (saves : List Save) (old mid new : Files) → Untouched old mid → AreSaved saves mid new → AreSaved saves old new
all_saved_before [] old mid new same saved = untouched_before old mid new same saved
all_saved_before (s ∷ saves) old mid new same (between, one, rest) = (between, saved_before s.name s.bytes old mid between same one, rest)

-- what is known of a moment before the saves
pub record IsBefore (old mid : Files) : Type 0 where
  pub same : Untouched old mid
  pub steady : IsTrue old.steady → IsTrue mid.steady

pub finishes_before : (saves : List Save) (report : List ℕ) (old mid new : Files) (screen after : Screen) (ending : Ending) → IsBefore old mid → FinishesAs saves report mid new screen after ending
    → FinishesAs saves report old new screen after ending
finishes_before saves report old mid new screen after Done b (saved, said) = (all_saved_before saves old mid new b.same saved, said)
finishes_before saves report old mid new screen after WriteFault b u = record {
  earlier = u.earlier;
  save = u.save;
  later = u.later;
  saves_are = u.saves_are;
  between = u.between;
  whole = all_saved_before u.earlier old mid u.between b.same u.whole;
  half = u.half;
  cause = subst (λ (count : ℕ). Rose count new.save_faults) b.same.saves u.cause;
  unsteady = λ steady. u.unsteady (b.steady steady);
  said = u.said;
}
finishes_before saves report old mid new screen after PrintFault b (saved, cut) = (all_saved_before saves old mid new b.same saved, cut)
finishes_before saves report old mid new screen after NoMemory b p =
    record { earlier = p.earlier; later = p.later; saves_are = p.saves_are; whole = all_saved_before p.earlier old mid new b.same p.whole; said = p.said }
finishes_before saves report old mid new screen after (Refused spot) b h = absurd h
finishes_before saves report old mid new screen after Usage b h = absurd h
finishes_before saves report old mid new screen after ReadFault b h = absurd h
finishes_before saves report old mid new screen after (Stopped outcome) b h = absurd h

-- What is promised of a work follows from what was made and saved.
abbrev pub KeepsItsPromise : Work → Type 0
KeepsItsPromise w =
    (loaded : List (List ℕ)) (saves : List Save) (report : List ℕ) (old new : Files) → w.Makes loaded saves report → IsTrue old.told → AreLoaded old.content w.inputs loaded → AreSaved saves old new
    → w.Promises loaded saves report old.content new.content

decided_of : (w : Work) (loaded : List (List ℕ)) (saves : List Save) (report : List ℕ) (old new : Files) (screen after : Screen) (ending : Ending) → KeepsItsPromise w → HasLoaded w old loaded
    → w.Makes loaded saves report → FinishesAs saves report old new screen after ending → IsDecided w old new screen after ending
decided_of w loaded saves report old new screen after ending keeps has made finished = record {
  loaded = loaded;
  saves = saves;
  report = report;
  inputs = has;
  made = made;
  finished = finished;
  promised = λ done told.
      let saved = subst (λ (e : Ending). FinishesAs saves report old new screen after e) done finished in
      keeps loaded saves report old new made told (has told) saved.0;
}

comes_finished : (w : Work) (saves : List Save) (report : List ℕ) (old new : Files) (screen after : Screen) (ending : Ending) → FinishesAs saves report old new screen after ending
    → IsDecided w old new screen after ending → EndsAs w old new screen after ending
comes_finished w saves report old new screen after Done f d = d
comes_finished w saves report old new screen after WriteFault f d = d
comes_finished w saves report old new screen after PrintFault f d = d
comes_finished w saves report old new screen after NoMemory f d = inr d
comes_finished w saves report old new screen after (Refused spot) f d = absurd f
comes_finished w saves report old new screen after Usage f d = absurd f
comes_finished w saves report old new screen after ReadFault f d = absurd f
comes_finished w saves report old new screen after (Stopped outcome) f d = absurd f

-- how a command ends that has made something of its inputs
pub made_comes : (w : Work) (loaded : List (List ℕ)) (saves : List Save) (report : List ℕ) (stopped : Option Outcome) (old mid new : Files) (screen after : Screen) (ending : Ending) → KeepsItsPromise w
    → HasLoaded w old loaded → IsBefore old mid → IsMadeAs w loaded saves report stopped → MadeAsEndsAs saves report stopped mid new screen after ending → EndsAs w old new screen after ending
made_comes w loaded saves report None old mid new screen after ending keeps has b made ends =
    let f = finishes_before saves report old mid new screen after ending b ends in
    comes_finished w saves report old new screen after ending f (decided_of w loaded saves report old new screen after ending keeps has made f)
made_comes w loaded saves report (Some outcome) old mid new screen after ending keeps has b (other, stops) (is, untouched, said) =
    subst (λ (e : Ending). EndsAs w old new screen after e) (sym is)
    (record { loaded = loaded; line = report; inputs = has; other = other; cause = stops; untouched = untouched_before old mid new b.same untouched; said = said })

-- how a command ends that could not load its inputs
pub unloaded_comes : (w : Work) (old new : Files) (screen after : Screen) (ending : Ending) → Untouched old new → LoadsFailAs w.inputs old new screen after ending → EndsAs w old new screen after ending
unloaded_comes w old new screen after ReadFault same h = h
unloaded_comes w old new screen after NoMemory same h = inl (same, h)
unloaded_comes w old new screen after Done same h = absurd h
unloaded_comes w old new screen after (Refused spot) same h = absurd h
unloaded_comes w old new screen after Usage same h = absurd h
unloaded_comes w old new screen after WriteFault same h = absurd h
unloaded_comes w old new screen after PrintFault same h = absurd h
unloaded_comes w old new screen after (Stopped outcome) same h = absurd h

-- what is made where one file is saved, and where none is
pub made_saving : (w : Work) (loaded : List (List ℕ)) (name bytes report : List ℕ) (made : Made) → IsSaving name bytes report made → w.Makes loaded (record { name = name; bytes = bytes } ∷ []) report → IsMadeBy w loaded made
made_saving w loaded name bytes report made s h =
    subst (λ (o : Option Outcome). IsMadeAs w loaded (saves_of made.outputs.items) made.report.items o) (sym s.ran_on)
    (subst (λ (r : List ℕ). w.Makes loaded (saves_of made.outputs.items) r) (sym s.report_is)
    (subst (λ (saves : List Save). w.Makes loaded saves report) (sym s.outputs) h))

pub made_saying : (w : Work) (loaded : List (List ℕ)) (report : List ℕ) (stopped : Option Outcome) (made : Made) → IsSaying report stopped made → IsMadeAs w loaded [] report stopped → IsMadeBy w loaded made
made_saying w loaded report stopped made s h =
    subst (λ (o : Option Outcome). IsMadeAs w loaded (saves_of made.outputs.items) made.report.items o) (sym s.stopped_is)
    (subst (λ (r : List ℕ). IsMadeAs w loaded (saves_of made.outputs.items) r stopped) (sym s.report_is)
    (subst (λ (saves : List Save). IsMadeAs w loaded saves report stopped) (sym s.outputs) h))
