-- The work of `run`: which runs there are, and what is said of them.
use Rattle.std.specs.Prelude.{◌≡◌, ◌↔◌, ◌⊎◌, ℕ, Bool, true, List, [], Some, None, ⊤}
use Rattle.std.specs.Option.{option_to_list}
use Rattle.elf_model.specs.declared.refusals.Refusal.TheVariants.{NoEntry}
use Rattle.elf_model.specs.declared.refusals.Spot.{Spot}
use Rattle.elf_model.specs.declared.refusals.TheConstants.Limit.{ANY}
use Rattle.elf_model.specs.Objects.{ObjectParts}
use Rattle.thumb_table.specs.declared.placements.Placement.{Placement}
use Rattle.thumb_table.specs.Parts.{Image}
use Rattle.thumb_table.specs.States.{State, read}
use Rattle.thumb_table.specs.Schedules.{is_in, ReturnsWithin, OrdinaryRun}
use Rattle.thumb_table.specs.Images.{IsImage, entry_of}
use Rattle.thumb_table.specs.Calls.{start}
use Rattle.skip_machine.specs.declared.machines.Outcome.{Outcome}
use Rattle.skip_machine.specs.declared.machines.Outcome.TheVariants.{Returned, Fault, Unfinished}
use Rattle.skip_machine.specs.Draws.{IsDrawn}
use Rattle.skip_machine.specs.Runs.{RunEnds}
use Rattle.guard_words.specs.Words.{RunWords, Skips, listed, drawn}
use Rattle.guard_cli.specs.Inputs.{at_start}
use Rattle.guard_cli.specs.Texts.{returned_line, stopped_line, unfinished_line}
use Rattle.guard_cli.specs.LinkWork.{AreOf, IsLinkInputRefusal}
use Rattle.guard_cli.specs.Works.{Work, inputs_of}

-- a run that words name
pub record Call : Type 0 where
  pub at : Placement
  pub entry : List ℕ
  pub arguments : List ℕ
  pub steps : ℕ
  pub schedule : List ℕ

-- the run that the words name, of a schedule
abbrev pub call_of : RunWords → List ℕ → Call
call_of r schedule = record { at = r.at; entry = r.entry; arguments = option_to_list r.argument; steps = r.steps; schedule = schedule }

-- the steps that are skipped of so many: those that are listed, or those that are drawn, for two copies
abbrev pub AreSkippedOf : ℕ → Skips → List ℕ → Type 0
AreSkippedOf most (listed steps) schedule = schedule ≡ steps
AreSkippedOf most (drawn seed) schedule = IsDrawn seed most 2 schedule

abbrev pub IsScheduleOf : RunWords → List ℕ → Type 0
IsScheduleOf r schedule = AreSkippedOf r.steps r.skips schedule

-- When the inputs are refused: as they are read or linked, or else where the name of the entry is none.
abbrev pub HasNoEntry : Placement → List ℕ → List (List ℕ) → Type 0
HasNoEntry at entry files = (objects : List ObjectParts) × (image : Image) × AreOf files objects × IsImage objects at image × (entry_of image.entries entry ≡ None)

abbrev pub IsRunRefusal : Placement → List ℕ → List (List ℕ) → Spot → Type 0
IsRunRefusal at entry files spot = IsLinkInputRefusal at files spot ⊎ ((spot ≡ at_start NoEntry) × HasNoEntry at entry files)

-- the image of the inputs' objects, and where the call starts
pub record IsCallOf (c : Call) (files : List (List ℕ)) (image : Image) (s : State) : Type 0 where
  pub objects : List ObjectParts
  pub inputs : AreOf files objects
  pub image_is : IsImage objects c.at image
  pub entry : ℕ
  pub entry_is : entry_of image.entries c.entry ≡ Some entry
  pub start_is : s ≡ start image c.at.stack entry c.arguments

-- the run of the call, how it ends, and whether each executed step of it was ordinary
pub record IsRunOf (c : Call) (files : List (List ℕ)) (outcome : Outcome) (n : ℕ) (t : State) (ordinary : Bool) : Type 0 where
  pub image : Image
  pub begun : State
  pub call : IsCallOf c files image begun
  pub ends : RunEnds image.code (is_in c.schedule) c.steps 0 begun outcome n t
  pub ordinary_is : (ordinary ≡ true) ↔ OrdinaryRun image.code (is_in c.schedule) n 0 begun

-- what is said of a run: how it ended, after how many steps, with which r0
abbrev pub run_line : Outcome → ℕ → ℕ → Bool → List ℕ
run_line Returned n r0 ordinary = returned_line n r0 ordinary
run_line (Fault kind pc) n r0 ordinary = stopped_line kind pc n
run_line Unfinished n r0 ordinary = unfinished_line n

-- The run of the call ended so, and this line says it.
pub record HasRun (c : Call) (files : List (List ℕ)) (outcome : Outcome) (line : List ℕ) : Type 0 where
  pub steps : ℕ
  pub ended : State
  pub ordinary : Bool
  pub run_is : IsRunOf c files outcome steps ended ordinary
  pub line_is : line ≡ run_line outcome steps (read ended.core 0).bits ordinary

-- files whose objects' call returns within its steps
abbrev pub CanReturn : Call → List (List ℕ) → Type 0
CanReturn c files =
    (objects : List ObjectParts) × (image : Image) × AreOf files objects × IsImage objects c.at image × (entry : ℕ) × (entry_of image.entries c.entry ≡ Some entry)
    × (t : State) × ReturnsWithin image.code (is_in c.schedule) c.steps 0 (start image c.at.stack entry c.arguments) t

-- the run that the words name, with the steps that they skip
abbrev pub HasRunBy : RunWords → List (List ℕ) → Outcome → List ℕ → Type 0
HasRunBy r files outcome line = (schedule : List ℕ) × IsScheduleOf r schedule × HasRun (call_of r schedule) files outcome line

abbrev pub CanReturnBy : RunWords → List (List ℕ) → Type 0
CanReturnBy r files = (schedule : List ℕ) × IsScheduleOf r schedule × CanReturn (call_of r schedule) files

-- the work of `run`; no file is written
abbrev pub run_work : RunWords → Work
run_work r = record {
  inputs = inputs_of ANY.file r.inputs;
  Accepts = CanReturnBy r;
  Refuses = IsRunRefusal r.at r.entry;
  Makes = λ loaded saves line. (saves ≡ []) × HasRunBy r loaded Returned line;
  Stops = HasRunBy r;
  Promises = λ loaded saves report before after. ⊤;
}
