-- Calls of names start alike in both images: at an entry of the chart, with memories that are the same.
use Rattle.std.specs.Prelude.{◌≡◌, ℕ, List, Some}
use Rattle.elf_model.specs.Objects.{even}
use Rattle.thumb_table.specs.declared.placements.Placement.{Placement}
use Rattle.thumb_table.specs.Parts.{Image}
use Rattle.thumb_table.specs.Images.{entry_of}
use Rattle.thumb_table.specs.Calls.{run_memory, start}
use Rattle.sim_charts.specs.Charts.{Chart}
use Rattle.sim_charts.specs.Alike.{EntryTo, SameMemory}
use Rattle.sim_charts.specs.Simulates.{At}
use Rattle.sim_objects.specs.Lists.{Pairing, HaveImages}
use Rattle.sim_objects.specs.Charts.{IsChartOf}
use Rattle.sim_objects.specs.Moving.{Enters}

-- A name that can be called is that of an entry.
abbrev pub NamesEnter : Type 0
NamesEnter =
    (F c K : ℕ) (pairs : List (Pairing F c K)) (at : Placement) (plain hard : Image) (chart : Chart) → HaveImages F c K pairs at plain hard → IsChartOf F c K pairs at chart
    → (name : List ℕ) (entry : ℕ) → entry_of plain.entries name ≡ Some entry → Enters chart (even entry)

-- Data and stacks are the same.
abbrev pub MemoriesMeet : Type 0
MemoriesMeet =
    (F c K : ℕ) (pairs : List (Pairing F c K)) (at : Placement) (plain hard : Image) (chart : Chart) → HaveImages F c K pairs at plain hard → IsChartOf F c K pairs at chart
    → (stack : ℕ) → SameMemory chart (run_memory plain stack) (run_memory hard stack)

-- So a call of a name starts alike, with the same arguments.
abbrev pub CallsBegin : Type 0
CallsBegin =
    (F c K : ℕ) (pairs : List (Pairing F c K)) (at : Placement) (plain hard : Image) (chart : Chart) → HaveImages F c K pairs at plain hard → IsChartOf F c K pairs at chart
    → (name args : List ℕ) (entry stack : ℕ) → entry_of plain.entries name ≡ Some entry
    → (hard_entry : ℕ) × (entry_of hard.entries name ≡ Some hard_entry) × EntryTo chart entry hard_entry × At chart (start plain stack entry args) (start hard stack hard_entry args)
