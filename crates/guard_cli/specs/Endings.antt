-- How a command ends: each ending with its cause, with what it leaves of the files, and with what it says.
use Rattle.std.specs.Prelude.{◌≡◌, ◌≢◌, ◌⊎◌, ℕ, List, [], ◌∷◌, ◌++◌, None, IsTrue}
use Rattle.guard_io.specs.Outside.{Rose}
use Rattle.elf_model.specs.declared.refusals.Spot.{Spot}
use Rattle.skip_machine.specs.declared.machines.Outcome.{Outcome}
use Rattle.skip_machine.specs.declared.machines.Outcome.TheVariants.{Returned}
use Rattle.guard_cli.specs.declared.endings.Ending.{Ending}
use Rattle.guard_cli.specs.declared.endings.Ending.TheVariants.{Done, Refused, Usage, ReadFault, WriteFault, PrintFault, NoMemory, Stopped}
use Rattle.guard_cli.specs.Moments.{Files, Screen, Untouched, IsSaved, IsHalfSaved, IsPut, IsCutOff, IsToldOf}
use Rattle.guard_cli.specs.Texts.{usage_line, no_memory_line, read_fault_line, write_fault_line, refused_line}
use Rattle.guard_cli.specs.Works.{Input, Save, Work, AreLoaded, input_named}

-- Words that are no command are answered before anything is loaded.
pub record IsMisused (old new : Files) (screen after : Screen) : Type 0 where
  pub untouched : Untouched old new
  pub loads : new.load_faults ≡ old.load_faults
  pub said : IsToldOf usage_line screen after

-- What a refusal of this input comes to: it is said, or there is no memory to say it.
abbrev pub IsTurnedAwayAs : List ℕ → Spot → Screen → Screen → Ending → Type 0
IsTurnedAwayAs name spot screen after (Refused told) = (told ≡ spot) × IsToldOf (refused_line name spot) screen after
IsTurnedAwayAs name spot screen after NoMemory = IsToldOf no_memory_line screen after
IsTurnedAwayAs name spot screen after _ = ⊥

-- The outputs were saved whole, one behind another.
abbrev pub AreSaved : List Save → Files → Files → Type 0
AreSaved [] old new = Untouched old new
AreSaved (s ∷ saves) old new = (between : Files) × IsSaved s.name s.bytes old between × AreSaved saves between new

-- One of the outputs could not be written, over a shelf that is not steady: it may hold a part. Those before it are whole,
-- and no later one was begun.
pub record IsUnsaved (saves : List Save) (old new : Files) (screen after : Screen) : Type 0 where
  pub earlier : List Save
  pub save : Save
  pub later : List Save
  pub saves_are : saves ≡ earlier ++ save ∷ later
  pub between : Files
  pub whole : AreSaved earlier old between
  pub half : IsHalfSaved save.name save.bytes between new
  pub cause : Rose old.save_faults new.save_faults
  pub unsteady : IsTrue old.steady → ⊥
  pub said : IsToldOf (write_fault_line save.name) screen after

-- Memory ran out before one of the saves or in it, or behind the last. The outputs before it are whole.
pub record IsPartlyDone (saves : List Save) (old new : Files) (screen after : Screen) : Type 0 where
  pub earlier : List Save
  pub later : List Save
  pub saves_are : saves ≡ earlier ++ later
  pub whole : AreSaved earlier old new
  pub said : IsToldOf no_memory_line screen after

-- how a command ends that has decided all its outputs and its report
abbrev pub FinishesAs : List Save → List ℕ → Files → Files → Screen → Screen → Ending → Type 0
FinishesAs saves report old new screen after Done = AreSaved saves old new × IsPut report screen after
FinishesAs saves report old new screen after WriteFault = IsUnsaved saves old new screen after
FinishesAs saves report old new screen after PrintFault = AreSaved saves old new × IsCutOff report screen after
FinishesAs saves report old new screen after NoMemory = IsPartlyDone saves old new screen after
FinishesAs saves report old new screen after _ = ⊥

-- what was loaded of the inputs of a work
abbrev pub HasLoaded : Work → Files → List (List ℕ) → Type 0
HasLoaded w files loaded = IsTrue files.told → AreLoaded files.content w.inputs loaded

-- All was decided before the first save.
pub record IsDecided (w : Work) (old new : Files) (screen after : Screen) (ending : Ending) : Type 0 where
  pub loaded : List (List ℕ)
  pub saves : List Save
  pub report : List ℕ
  pub inputs : HasLoaded w old loaded
  pub made : w.Makes loaded saves report
  pub finished : FinishesAs saves report old new screen after ending
  pub promised : ending ≡ Done → IsTrue old.told → w.Promises loaded saves report old.content new.content

-- What was loaded is refused, and nothing was touched.
pub record IsRefused (w : Work) (spot : Spot) (old new : Files) (screen after : Screen) : Type 0 where
  pub loaded : List (List ℕ)
  pub inputs : HasLoaded w old loaded
  pub cause : w.Refuses loaded spot
  pub untouched : Untouched old new
  pub said : IsToldOf (refused_line (input_named w.inputs spot.file) spot) screen after

-- One of the inputs could not be read. A steady shelf fails so only for want of the file.
pub record IsUnread (inputs : List Input) (old new : Files) (screen after : Screen) : Type 0 where
  pub earlier : List Input
  pub input : Input
  pub later : List Input
  pub inputs_are : inputs ≡ earlier ++ input ∷ later
  pub cause : Rose old.load_faults new.load_faults
  pub absent : IsTrue old.steady → old.content input.name ≡ None
  pub untouched : Untouched old new
  pub said : IsToldOf (read_fault_line input.name) screen after

-- A run did not return, and nothing was touched.
pub record IsStopped (w : Work) (outcome : Outcome) (old new : Files) (screen after : Screen) : Type 0 where
  pub loaded : List (List ℕ)
  pub line : List ℕ
  pub inputs : HasLoaded w old loaded
  pub other : outcome ≢ Returned
  pub cause : w.Stops loaded outcome line
  pub untouched : Untouched old new
  pub said : IsToldOf line screen after

-- how a command of this work ends: what each ending says
abbrev pub EndsAs : Work → Files → Files → Screen → Screen → Ending → Type 0
EndsAs w old new screen after (Refused spot) = IsRefused w spot old new screen after
EndsAs w old new screen after Usage = ⊥
EndsAs w old new screen after ReadFault = IsUnread w.inputs old new screen after
EndsAs w old new screen after NoMemory = (Untouched old new × IsToldOf no_memory_line screen after) ⊎ IsDecided w old new screen after NoMemory
EndsAs w old new screen after (Stopped outcome) = IsStopped w outcome old new screen after
EndsAs w old new screen after Done = IsDecided w old new screen after Done
EndsAs w old new screen after WriteFault = IsDecided w old new screen after WriteFault
EndsAs w old new screen after PrintFault = IsDecided w old new screen after PrintFault

-- Nothing but memory is in the way.
abbrev pub IsDoneOrNoMemory : Ending → Type 0
IsDoneOrNoMemory ending = (ending ≡ Done) ⊎ (ending ≡ NoMemory)
