-- What the steps of a command say.
use Rattle.std.specs.Prelude.{◌≡◌, ◌≢◌, ◌≤◌, ◌↔◌, ℕ, Bool, true, List, [], ◌∷◌, ◌++◌, length, map, Option, Some, None, ⊤, IsTrue, string_bytes, Vec}
use Rattle.std.specs.declared.alloc.Global.{Global}
use Rattle.elf_model.specs.declared.refusals.TheConstants.Limit.{INPUT, ANY}
use Rattle.thumb_table.specs.Parts.{Image}
use Rattle.thumb_table.specs.States.{State, read}
use Rattle.thumb_table.specs.Schedules.{is_in, OrdinaryRun}
use Rattle.thumb_table.specs.Layouts.{IsPlacement}
use Rattle.skip_machine.specs.declared.machines.Outcome.{Outcome}
use Rattle.skip_machine.specs.declared.machines.Outcome.TheVariants.{Returned}
use Rattle.skip_machine.specs.Runs.{RunEnds}
use Rattle.guard_cli.specs.declared.endings.Ending.{Ending}
use Rattle.guard_cli.specs.declared.endings.Ending.TheVariants.{Done, ReadFault, WriteFault, PrintFault, NoMemory, Stopped}
use Rattle.guard_cli.specs.declared.tasks.Made.{Made}
use Rattle.guard_cli.specs.declared.outputs.Output.{Output}
use Rattle.guard_words.specs.declared.tasks.Task.{Task}
use Rattle.guard_words.specs.declared.tasks.Task.TheVariants as task
use Rattle.guard_cli.specs.declared.run.Finished.{Finished}
use Rattle.guard_words.specs.Words.{Pair}
use Rattle.guard_words.specs.Tasks.{meaning_by, pairs_in}
use Rattle.guard_cli.specs.Texts.{no_memory_line, read_fault_line}
use Rattle.guard_cli.specs.Moments.{Files, Screen, Untouched, IsPut, IsCutOff, IsToldOf}
use Rattle.guard_cli.specs.Works.{Input, Save, Contents, Work, AreLoaded}
use Rattle.guard_cli.specs.Endings.{FinishesAs, IsUnsaved, IsPartlyDone, IsUnread}
use Rattle.guard_cli.specs.Meant.{work_of}
use Rattle.guard_io.specs.Outside.{Rose}

-- the work of a command that is carried out
abbrev pub work_by : Task → Work
work_by t = work_of (meaning_by t)

-- its inputs, and how many bytes each may have
abbrev pub names_by : Task → List (List ℕ)
names_by (task.Harden names) = map (λ (p : Pair). p.input) (pairs_in (map string_bytes names.now))
names_by (task.Link c) = map string_bytes c.inputs.now
names_by (task.Run c) = map string_bytes c.inputs.now
names_by (task.List input) = input.now ∷ []
names_by (task.Make seed count) = []

abbrev pub limit_by : Task → ℕ
limit_by (task.Harden names) = INPUT.file
limit_by (task.Link c) = ANY.file
limit_by (task.Run c) = ANY.file
limit_by (task.List input) = ANY.file
limit_by (task.Make seed count) = ANY.file

abbrev pub HasFewInputs : Task → Type 0
HasFewInputs t = length (names_by t) ≤ 16

-- numbers that the words of a command have
abbrev pub IsSound : Task → Type 0
IsSound (task.Harden names) = ⊤
IsSound (task.Link c) = IsPlacement c.at
IsSound (task.Run c) = IsPlacement c.at × (c.steps ≤ 10000000)
IsSound (task.List input) = ⊤
IsSound (task.Make seed count) = (1 ≤ count) × (count ≤ 4000)

-- what files hold
abbrev pub contents_of : List (Vec ℕ Global) → List (List ℕ)
contents_of files = map (λ (v : Vec ℕ Global). v.items) files

-- the outputs as the files that are saved
abbrev pub save_of : Output → Save
save_of o = record { name = string_bytes o.name; bytes = o.bytes.items }

abbrev pub saves_of : List Output → List Save
saves_of outputs = map save_of outputs

-- what is made of what was loaded
abbrev pub IsMadeAs : Work → List (List ℕ) → List Save → List ℕ → Option Outcome → Type 0
IsMadeAs w loaded saves report None = w.Makes loaded saves report
IsMadeAs w loaded saves report (Some outcome) = (outcome ≢ Returned) × w.Stops loaded outcome report

abbrev pub IsMadeBy : Work → List (List ℕ) → Made → Type 0
IsMadeBy w loaded made = IsMadeAs w loaded (saves_of made.outputs.items) made.report.items made.stopped

-- one file and a report
pub record IsSaving (name bytes report : List ℕ) (made : Made) : Type 0 where
  pub outputs : saves_of made.outputs.items ≡ record { name = name; bytes = bytes } ∷ []
  pub report_is : made.report.items ≡ report
  pub ran_on : made.stopped ≡ None

-- a report alone
pub record IsSaying (report : List ℕ) (stopped : Option Outcome) (made : Made) : Type 0 where
  pub outputs : saves_of made.outputs.items ≡ []
  pub report_is : made.report.items ≡ report
  pub stopped_is : made.stopped ≡ stopped

-- how a command ends that has made this
abbrev pub MadeAsEndsAs : List Save → List ℕ → Option Outcome → Files → Files → Screen → Screen → Ending → Type 0
MadeAsEndsAs saves report None old new screen after ending = FinishesAs saves report old new screen after ending
MadeAsEndsAs saves report (Some outcome) old new screen after ending = (ending ≡ Stopped outcome) × Untouched old new × IsToldOf report screen after

abbrev pub MadeEndsAs : Made → Files → Files → Screen → Screen → Ending → Type 0
MadeEndsAs made old new screen after ending = MadeAsEndsAs (saves_of made.outputs.items) made.report.items made.stopped old new screen after ending

-- how a command ends that has saved its outputs
abbrev pub ReportEndsAs : List ℕ → Screen → Screen → Ending → Type 0
ReportEndsAs report screen after Done = IsPut report screen after
ReportEndsAs report screen after PrintFault = IsCutOff report screen after
ReportEndsAs report screen after NoMemory = IsToldOf no_memory_line screen after
ReportEndsAs report screen after _ = ⊥

-- how a command ends that could not save one of its outputs
abbrev pub SaveFailsAs : List Save → Files → Files → Screen → Screen → Ending → Type 0
SaveFailsAs saves old new screen after WriteFault = IsUnsaved saves old new screen after
SaveFailsAs saves old new screen after NoMemory = IsPartlyDone saves old new screen after
SaveFailsAs saves old new screen after _ = ⊥

-- a file could not be read
pub record IsNotLoaded (name : List ℕ) (old new : Files) (screen after : Screen) : Type 0 where
  pub cause : Rose old.load_faults new.load_faults
  pub absent : IsTrue old.steady → old.content name ≡ None
  pub said : IsToldOf (read_fault_line name) screen after

-- how a command ends that could not load one of its inputs, and all of them
abbrev pub LoadFailsAs : List ℕ → Files → Files → Screen → Screen → Ending → Type 0
LoadFailsAs name old new screen after ReadFault = IsNotLoaded name old new screen after
LoadFailsAs name old new screen after NoMemory = IsToldOf no_memory_line screen after
LoadFailsAs name old new screen after _ = ⊥

abbrev pub LoadsFailAs : List Input → Files → Files → Screen → Screen → Ending → Type 0
LoadsFailAs inputs old new screen after ReadFault = IsUnread inputs old new screen after
LoadsFailAs inputs old new screen after NoMemory = IsToldOf no_memory_line screen after
LoadsFailAs inputs old new screen after _ = ⊥

-- More was loaded: the first bytes of each of these inputs.
pub record AddsLoaded (told : Bool) (content : Contents) (inputs : List Input) (old new : List (List ℕ)) : Type 0 where
  pub more : List (List ℕ)
  pub adds : new ≡ old ++ more
  pub count : length more ≡ length inputs
  pub loaded : IsTrue told → AreLoaded content inputs more

-- the end of a run that did not return
abbrev pub stopped_by : Outcome → Option Outcome
stopped_by Returned = None
stopped_by outcome = Some outcome

-- how a run on an image ended
pub record IsFinished (image : Image) (schedule : List ℕ) (most : ℕ) (begun : State) (f : Finished) : Type 0 where
  pub ended : State
  pub ends : RunEnds image.code (is_in schedule) most 0 begun f.outcome f.steps ended
  pub r0_is : f.r0 ≡ (read ended.core 0).bits
  pub ordinary_is : (f.ordinary ≡ true) ↔ OrdinaryRun image.code (is_in schedule) f.steps 0 begun

-- the same under one of some schedules
abbrev pub IsFinishedBy : Image → (List ℕ → Type 0) → ℕ → State → Finished → Type 0
IsFinishedBy image IsSchedule most begun f = (schedule : List ℕ) × IsSchedule schedule × IsFinished image schedule most begun f
