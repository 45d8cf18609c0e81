-- Commands that are carried out, each by its cases.
use Rattle.std.proofs.Common.{◌≡◌, inl, ℕ, Bool, List, [], ◌∷◌, length, map, string_bytes, refl, sym, ap, ap₂, ◌∙◌, subst, arith}
use Rattle.std.specs.Prelude.{All}
use Rattle.std.proofs.lemmas.List.{length-map}
use Rattle.std.proofs.lemmas.List.Elements.{All-nil, All-cons, All-head, All-tail}
use Rattle.elf_model.specs.declared.refusals.Spot.{Spot}
use Rattle.guard_cli.specs.declared.endings.Ending.{Ending}
use Rattle.guard_cli.specs.declared.endings.Ending.TheVariants.{Done, Refused, Usage, ReadFault, WriteFault, PrintFault, NoMemory, Stopped}
use Rattle.guard_words.specs.declared.tasks.Task.{Task}
use Rattle.guard_words.specs.declared.tasks.Task.TheVariants as task
use Rattle.guard_cli.specs.Moments.{Files, Screen, Untouched}
use Rattle.guard_cli.specs.Works.{Input, Contents, AreLoaded, inputs_of, input_named}
use Rattle.guard_cli.specs.Endings.{HasLoaded, EndsAs, IsTurnedAwayAs}
use Rattle.guard_words.specs.Meanings.{Means}
use Rattle.guard_cli.specs.Steps.{work_by, names_by, limit_by, HasFewInputs, IsSound, AddsLoaded, LoadsFailAs}
use Rattle.guard_words.specs.Words.{Pair}
use Rattle.guard_words.specs.Tasks.{meaning_by, pairs_in}
use Rattle.guard_cli.proofs.Carried.{unloaded_comes}

pub sound_by : (words : List (List ℕ)) (t : Task) → Means words (meaning_by t) → IsSound t
sound_by words (task.Harden names) h = tt
sound_by words (task.Link c) h = h.placed.sound
sound_by words (task.Run c) h = (h.meant.placed.sound, h.meant.few_steps)
sound_by words (task.List input) h = tt
sound_by words (task.Make seed count) h = (h.count_is.some, h.count_is.few)

pub few_by : (words : List (List ℕ)) (t : Task) → Means words (meaning_by t) → HasFewInputs t
few_by words (task.Harden names) h = let count = length-map (pairs_in (map string_bytes names.now)) (λ (p : Pair). p.input) in omega (arith, count, h.few)
few_by words (task.Link c) h = h.few
few_by words (task.Run c) h = h.few
few_by words (task.List input) h = omega arith
few_by words (task.Make seed count) h = omega arith

pub its_inputs : (t : Task) → (work_by t).inputs ≡ inputs_of (limit_by t) (names_by t)
its_inputs (task.Harden names) = refl
its_inputs (task.Link c) = refl
its_inputs (task.Run c) = refl
its_inputs (task.List input) = refl
its_inputs (task.Make seed count) = refl

-- No command that is carried out is answered as misused.
pub not_misused : (t : Task) (old new : Files) (screen after : Screen) (ending : Ending) → EndsAs (work_by t) old new screen after ending → ending ≡ Usage → ⊥
not_misused t old new screen after ending h e = subst (λ (x : Ending). EndsAs (work_by t) old new screen after x) e h

names_there : (limit : ℕ) (P : List ℕ → Type 0) (names : List (List ℕ)) → All (λ (i : Input). P i.name) (inputs_of limit names) → All P names
names_there limit P [] all = All-nil P
names_there limit P (n ∷ names) all =
    All-cons P n names (All-head (λ (i : Input). P i.name) (record { name = n; limit = limit }) (inputs_of limit names) all)
    (names_there limit P names (All-tail (λ (i : Input). P i.name) (record { name = n; limit = limit }) (inputs_of limit names) all))

pub inputs_there : (t : Task) (P : List ℕ → Type 0) → All (λ (i : Input). P i.name) (work_by t).inputs → All P (names_by t)
inputs_there t P all = names_there (limit_by t) P (names_by t) (subst (All (λ (i : Input). P i.name)) (its_inputs t) all)

-- how a command ends that could not load its inputs
pub unloaded_ends : (t : Task) (limit : ℕ) (names : List (List ℕ)) (old new : Files) (screen after : Screen) (ending : Ending) → limit ≡ limit_by t → names ≡ names_by t → Untouched old new
    → LoadsFailAs (inputs_of limit names) old new screen after ending → EndsAs (work_by t) old new screen after ending
unloaded_ends t limit names old new screen after ending limited named same h =
    let inputs : inputs_of limit names ≡ (work_by t).inputs = ap₂ inputs_of limited named ∙ sym (its_inputs t) in
    unloaded_comes (work_by t) old new screen after ending same (subst (λ (l : List Input). LoadsFailAs l old new screen after ending) inputs h)

pub refused_comes : (t : Task) (spot : Spot) (loaded : List (List ℕ)) (old new : Files) (screen after : Screen) (ending : Ending) → HasLoaded (work_by t) old loaded → (work_by t).Refuses loaded spot
    → Untouched old new → IsTurnedAwayAs (input_named (work_by t).inputs spot.file) spot screen after ending → EndsAs (work_by t) old new screen after ending
refused_comes t spot loaded old new screen after (Refused told) has cause same (is, said) =
    subst (λ (s : Spot). EndsAs (work_by t) old new screen after (Refused s)) (sym is)
    (record { loaded = loaded; inputs = has; cause = cause; untouched = same; said = said })
refused_comes t spot loaded old new screen after NoMemory has cause same said = inl (same, said)
refused_comes t spot loaded old new screen after Done has cause same said = absurd said
refused_comes t spot loaded old new screen after Usage has cause same said = absurd said
refused_comes t spot loaded old new screen after ReadFault has cause same said = absurd said
refused_comes t spot loaded old new screen after WriteFault has cause same said = absurd said
refused_comes t spot loaded old new screen after PrintFault has cause same said = absurd said
refused_comes t spot loaded old new screen after (Stopped outcome) has cause same said = absurd said

-- what was loaded of the inputs of a command
pub has_loaded : (t : Task) (limit : ℕ) (names : List (List ℕ)) (old : Files) (loaded : List (List ℕ)) → limit ≡ limit_by t → names ≡ names_by t
    → AddsLoaded old.told old.content (inputs_of limit names) [] loaded → HasLoaded (work_by t) old loaded
has_loaded t limit names old loaded limited named adds = λ told.
    let inputs : inputs_of limit names ≡ (work_by t).inputs = ap₂ inputs_of limited named ∙ sym (its_inputs t) in
    subst (λ (l : List Input). AreLoaded old.content l loaded) inputs
    (subst (λ (more : List (List ℕ)). AreLoaded old.content (inputs_of limit names) more) (sym adds.adds) (adds.loaded told))

pub loaded_count : (t : Task) (limit : ℕ) (names : List (List ℕ)) (told : Bool) (content : Contents) (loaded : List (List ℕ)) → names ≡ names_by t
    → AddsLoaded told content (inputs_of limit names) [] loaded → length loaded ≡ length (names_by t)
loaded_count t limit names told content loaded named adds =
    ap length adds.adds ∙ adds.count ∙ length-map names (λ (name : List ℕ). record { name = name; limit = limit }) ∙ ap length named
