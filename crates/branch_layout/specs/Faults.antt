-- What stands in the way of a layout.
use Rattle.std.specs.Prelude.{◌≡◌, ◌≤◌, ◌<◌, ℕ, false, ◌+◌, List, Option, Some, None, ⊤, slice_get}
use Rattle.std.specs.Option.{option_map}
use Rattle.elf_model.specs.declared.refusals.Refusal.{Refusal}
use Rattle.elf_model.specs.declared.refusals.Refusal.TheVariants.{OutOfReach, CodeTooBig}
use Rattle.elf_model.specs.declared.refusals.Spot.{Spot}
use Rattle.elf_model.specs.declared.refusals.Deny.{Deny}
use Rattle.elf_model.specs.declared.refusals.Deny.TheVariants.{NoMemory, Refused}
use Rattle.code_ranges.specs.CodeRanges.{comes_before}
use Rattle.seq_core.specs.declared.steps.Step.{Step}
use Rattle.seq_core.specs.declared.steps.Goal.{Goal}
use Rattle.seq_core.specs.declared.steps.Goal.TheVariants.{Word}
use Rattle.hardened_form.specs.Places.{Places}
use Rattle.seq_core.specs.declared.units.Unit.{Unit as SeqUnit}
use Rattle.flow_recover.specs.declared.flows.PoolWord.{PoolWord}
use Rattle.branch_layout.specs.Copies.{copies_of, bytes_before}
use Rattle.branch_layout.specs.Widths.{AllLong}
use Rattle.branch_layout.specs.Placings.{Stretch, Placing, places_of, IsPlacing}
use Rattle.branch_layout.specs.Goals.{word_of, distance}

-- how far the word of a copy is from what the copy counts from, if it loads one
abbrev pub load_distance : Places → SeqUnit → ℕ → Goal → Option ℕ
load_distance p u at Word = option_map (distance at) (word_of p u)
load_distance p u at g = None

-- a copy of a literal load whose word is that far
pub record LoadsFrom (p : Placing) (u : SeqUnit) (s : Stretch) (d : ℕ) : Type 0 where
  pub index : ℕ
  pub step : Step
  pub copy : slice_get (copies_of u.seq.steps) index ≡ Some step
  pub loads : load_distance (places_of p) u (s.place.start + bytes_before s.widths index) step.goal ≡ Some d

-- The unit with an index loads a word that is more than 4,095 from a copy; the greatest distance counts.
pub record IsFar (units : List SeqUnit) (p : Placing) (index d : ℕ) : Type 0 where
  pub unit : SeqUnit
  pub stretch : Stretch
  pub there : slice_get units index ≡ Some unit
  pub placed : slice_get p.units index ≡ Some stretch
  pub loads : LoadsFrom p unit stretch d
  pub most : (e : ℕ) → LoadsFrom p unit stretch e → e ≤ d
  pub far : 4095 < d

pub record IsBig (sizes : List ℕ) (section : ℕ) : Type 0 where
  pub size : ℕ
  pub there : slice_get sizes section ≡ Some size
  pub big : 524288 < size

-- the refusal, its section and its offset there
pub data LayFault (units : List SeqUnit) (p : Placing) (why : Refusal) (section offset : ℕ) : Type 0 where
  out_of_reach : (index d : ℕ) (far : IsFar units p index d) → section ≡ far.unit.section → offset ≡ far.unit.old → why ≡ OutOfReach d → LayFault units p why section offset
  too_big : IsBig p.sizes section → offset ≡ 0 → why ≡ CodeTooBig → LayFault units p why section offset

-- the first of them, of file 0
pub record IsFirstFault (units : List SeqUnit) (p : Placing) (spot : Spot) : Type 0 where
  pub fault : LayFault units p spot.refusal spot.section spot.offset
  pub file : spot.file ≡ 0
  pub first : (r : Refusal) (section offset : ℕ) → LayFault units p r section offset → comes_before r section offset spot ≡ false

-- in the long layout
pub record IsLayRefusal (units : List SeqUnit) (words : List PoolWord) (spot : Spot) : Type 0 where
  pub placing : Placing
  pub placed : IsPlacing units words placing
  pub long : AllLong units placing.units
  pub first : IsFirstFault units placing spot

abbrev pub IsLayDenial : List SeqUnit → List PoolWord → Deny → Type 0
IsLayDenial units words NoMemory = ⊤
IsLayDenial units words (Refused spot) = IsLayRefusal units words spot
