-- Hardened forms answer their objects: what the laws on two lists of objects ask of them.
use Rattle.std.specs.Prelude.{◌≡◌, ℕ, ◌+◌, ◌≤◌, true, List, length, Option, Some, slice_get, Contains}
use Rattle.elf_model.specs.Objects.{ObjectParts, is_object}
use Rattle.elf_model.specs.Ranges.{length_at, IsStart}
use Rattle.thumb_instr.specs.declared.instructions.Instr.{Instr}
use Rattle.reloc_places.specs.Starts.{bytes_of, IsCodeStart, IsDataWord}
use Rattle.flow_recover.specs.declared.flows.Point.{Point}
use Rattle.flow_recover.specs.declared.flows.PoolWord.{PoolWord}
use Rattle.flow_recover.specs.Flows.{FlowParts}
use Rattle.flow_recover.specs.WholeFlows.{IsFlow}
use Rattle.hardened_form.specs.Places.{UnitPlace, Places as UnitPlaces}
use Rattle.hardened_form.specs.Standing.{units, new_place}
use Rattle.hardened_form.specs.Relocs.{IsWordOf}
use Rattle.hardened_form.specs.Carriers.{Carrier}
use Rattle.hardened_form.specs.HardenedForms.{IsHardenedForm}
use Rattle.sim_images.specs.Counterparts.{Places, SectionsAnswer, SymbolsAnswer, PlacesInside, IsAccepted, AreAnswers, DataAnswers, RelocsAnswer}
use Rattle.sim_images.specs.ImageLaws.{AreObjects}
use Rattle.sim_images.specs.CodeLaws.{IsSequence}
use Rattle.sim_answers.specs.Units.{code_end, AreSteps, AreUnits}

-- An object and its hardened form, both objects, and the flow that the form follows.
pub record IsFormOf (o h : ObjectParts) (f : FlowParts) (p : UnitPlaces) (carriers : List (List Carrier)) : Type 0 where
  pub plain : is_object o ≡ true
  pub hard : is_object h ≡ true
  pub flow : IsFlow o f
  pub form : IsHardenedForm o h f p carriers
  pub units : AreUnits o h f p carriers

-- where its points went
abbrev pub new_places : {o h : ObjectParts} {f : FlowParts} {p : UnitPlaces} {carriers : List (List Carrier)} → IsFormOf o h f p carriers → Places
new_places is = new_place is.form.lists.items

-- What an object with a flow makes of its own symbols of code has bit 0 set.
abbrev pub FlowsAreAccepted : Type 0
FlowsAreAccepted = (o : ObjectParts) (f : FlowParts) → IsFlow o f → IsAccepted o

-- Sections keep number and sort, symbols that others see keep their order, and points have places.
abbrev pub SectionsStay : Type 0
SectionsStay = (o h : ObjectParts) (f : FlowParts) (p : UnitPlaces) (carriers : List (List Carrier)) → IsFormOf o h f p carriers → SectionsAnswer o h

abbrev pub SymbolsStay : Type 0
SymbolsStay = (o h : ObjectParts) (f : FlowParts) (p : UnitPlaces) (carriers : List (List Carrier)) (is : IsFormOf o h f p carriers) → SymbolsAnswer o h (new_places is)

abbrev pub PointsHavePlaces : Type 0
PointsHavePlaces = (o h : ObjectParts) (f : FlowParts) (p : UnitPlaces) (carriers : List (List Carrier)) (is : IsFormOf o h f p carriers) → PlacesInside o h (new_places is)

-- Each word that is linked in data answers one at its offset.
abbrev pub DataIsAnswered : Type 0
DataIsAnswered = (o h : ObjectParts) (f : FlowParts) (p : UnitPlaces) (carriers : List (List Carrier)) (is : IsFormOf o h f p carriers) → DataAnswers o h (new_places is)

-- Each relocation is right, answers one of the object, and is of no short branch.
abbrev pub RelocsAreRight : Type 0
RelocsAreRight = (o h : ObjectParts) (f : FlowParts) (p : UnitPlaces) (carriers : List (List Carrier)) (is : IsFormOf o h f p carriers) → RelocsAnswer o h (new_places is)

-- Units are instructions of the section, whole and at instruction starts; words of code are words of data; and points went to their units.
pub record CodeStands (o h : ObjectParts) (f : FlowParts) (p : UnitPlaces) (moved : Places) : Type 0 where
  pub starts : (x : Point) (u : UnitPlace) (a : ℕ) → Contains (units f p) (x, u) → IsStart (bytes_of h x.section) u.start (code_end u) a
      → (end : ℕ) × IsCodeStart h x.section (bytes_of h x.section) a end × (a + length_at (bytes_of h x.section) a ≤ end)
  pub words : (w : PoolWord) (y : ℕ) → IsWordOf f p w y → IsDataWord h w.section y
  pub points : (x : Point) (u : UnitPlace) → Contains (units f p) (x, u) → moved x.section x.offset ≡ Some u.start
  pub sequences : (x : Point) (u : UnitPlace) (z : ℕ) (steps : List (Instr × Option ℕ)) → Contains (units f p) (x, u) → AreSteps h x.section z u.start steps → z ≤ code_end u
      → IsSequence h x.section u.start steps z

abbrev pub UnitsStand : Type 0
UnitsStand = (o h : ObjectParts) (f : FlowParts) (p : UnitPlaces) (carriers : List (List Carrier)) (is : IsFormOf o h f p carriers) → CodeStands o h f p (new_places is)

-- an object, a form of it, and where its points went
pub record IsFormAt (o h : ObjectParts) (moved : Places) : Type 0 where
  pub flow : FlowParts
  pub places : UnitPlaces
  pub carriers : List (List Carrier)
  pub form : IsFormOf o h flow places carriers
  pub moves : new_places form ≡ moved

-- all that the laws on the images of two lists of objects ask of the lists
pub record DoAnswer (ins outs : List ObjectParts) (moved : ℕ → Places) : Type 0 where
  pub plain : AreObjects ins
  pub hard : AreObjects outs
  pub answers : AreAnswers ins outs moved
  pub accepted : (i : ℕ) (o : ObjectParts) → slice_get ins i ≡ Some o → IsAccepted o
  pub data_words : (i : ℕ) (o h : ObjectParts) → slice_get ins i ≡ Some o → slice_get outs i ≡ Some h → DataAnswers o h (moved i)
  pub relocs : (i : ℕ) (o h : ObjectParts) → slice_get ins i ≡ Some o → slice_get outs i ≡ Some h → RelocsAnswer o h (moved i)

abbrev pub FormsAnswer : Type 0
FormsAnswer =
    (ins outs : List ObjectParts) (moved : ℕ → Places) → length outs ≡ length ins
    → ((i : ℕ) (o h : ObjectParts) → slice_get ins i ≡ Some o → slice_get outs i ≡ Some h → IsFormAt o h (moved i)) → DoAnswer ins outs moved
