-- What hardening promises: skips do no harm.
use Rattle.std.specs.Prelude.{◌≡◌, ◌<◌, ◌≤◌, ◌⊎◌, ℕ, ◌*◌, ◌^◌, false, List, length, Some, All, slice_get, filter}
use Rattle.elf_model.specs.declared.objects.Section.{Section}
use Rattle.elf_model.specs.declared.objects.MapRow.{MapRow}
use Rattle.elf_model.specs.Objects.{ObjectParts, is_code}
use Rattle.elf_model.specs.Maps.{HasMap}
use Rattle.thumb_table.specs.States.{State}
use Rattle.thumb_table.specs.Schedules.{IsLegal, Returns, ReturnsWithin, OrdinaryRun, is_in}
use Rattle.thumb_table.specs.Layouts.{code_bytes_of}
use Rattle.thumb_table.specs.Images.{IsImage, entry_of}
use Rattle.thumb_table.specs.Calls.{start}
use Rattle.thumb_table.specs.Parts.{Image}
use Rattle.thumb_table.specs.declared.placements.Placement.{Placement}
use Rattle.sim_relation.specs.AddressMaps.{TakesEntry, SameState}

-- each output has its map
pub record AreMaps (outs : List ObjectParts) (maps : List (List MapRow)) : Type 0 where
  pub count : length maps ≡ length outs
  pub has : (i : ℕ) (o : ObjectParts) (rows : List MapRow) → slice_get outs i ≡ Some o → slice_get maps i ≡ Some rows → HasMap o rows

abbrev pub code_sections : ObjectParts → List Section
code_sections o = filter is_code o.sections

-- no code section of an output is longer than 32 times its input's
abbrev pub AreShort : List ObjectParts → List ObjectParts → Type 0
AreShort ins outs =
    (i k : ℕ) (o h : ObjectParts) (t : Section) → slice_get ins i ≡ Some o → slice_get outs i ≡ Some h → slice_get (code_sections h) k ≡ Some t →
    (s : Section) × (slice_get (code_sections o) k ≡ Some s) × (t.size ≤ 32 * s.size)

-- the arguments of a call
pub record AreArguments (args : List ℕ) : Type 0 where
  pub few : length args ≤ 4
  pub each : All (λ a. a < 2 ^ 32) args

-- Under every legal schedule the hardened call returns within so many steps, and the state at the end is the
-- plain one up to code addresses.
abbrev pub EndsAlike : Image → Image → List (List MapRow) → (List ℕ → Type 0) → ℕ → ℕ → State → State → Type 0
EndsAlike plain hard maps legal results most ended hard_begun =
    (schedule : List ℕ) → legal schedule →
    (hard_ended : State) × ReturnsWithin hard.code (is_in schedule) most 0 hard_begun hard_ended × SameState plain hard maps results ended hard_ended

-- Hardened(ins, outs, F): outs are ins, hardened, and no unit of code grows to more than F instructions.
pub record Hardened (ins outs : List ObjectParts) (F : ℕ) : Type 0 where
  pub maps : List (List MapRow)
  pub count : length outs ≡ length ins
  pub are_maps : AreMaps outs maps
  pub low : 1 ≤ F
  pub high : F ≤ 16
  pub short : AreShort ins outs
  -- Where the inputs have an image the outputs have one, unless their code is longer than the room.
  pub linked : (at : Placement) (plain : Image) → IsImage ins at plain →
      ((hard : Image) × IsImage outs at hard) ⊎ (at.room < length (code_bytes_of outs at))
  -- Calls that return by ordinary steps return alike, within F times the steps, whatever is skipped, so long as
  -- no two steps in a row are; r0 to r11, sp and memory are compared.
  pub alike : (at : Placement) (plain hard : Image) → IsImage ins at plain → IsImage outs at hard →
      (name args : List ℕ) → AreArguments args → (entry : ℕ) → entry_of plain.entries name ≡ Some entry →
      (n : ℕ) (ended : State) → Returns plain.code (λ i. false) n 0 (start plain at.stack entry args) ended →
      OrdinaryRun plain.code (λ i. false) n 0 (start plain at.stack entry args) →
      (hard_entry : ℕ) × (entry_of hard.entries name ≡ Some hard_entry) × TakesEntry plain hard maps entry hard_entry
      × EndsAlike plain hard maps (IsLegal 2) 4 (F * n) ended (start hard at.stack hard_entry args)
