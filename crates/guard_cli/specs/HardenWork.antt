-- The work of `harden`: its inputs' objects are hardened for two copies and four results.
use Rattle.std.specs.Prelude.{◌≡◌, ◌<◌, ◌⊎◌, ℕ, List, [], ◌∷◌, map, All, Some, slice_get}
use Rattle.elf_model.specs.declared.refusals.Refusal.{Refusal}
use Rattle.elf_model.specs.declared.refusals.Refusal.TheVariants.{LiveAtEntry, LiveAtReturn, NoScratch, OutOfReach, CodeTooBig}
use Rattle.elf_model.specs.declared.refusals.Spot.{Spot}
use Rattle.elf_model.specs.declared.refusals.TheConstants.Limit.{INPUT}
use Rattle.elf_model.specs.Objects.{ObjectParts, code_size}
use Rattle.elf_model.specs.Files.{StandsFor}
use Rattle.elf_model.specs.Canonical.{canonical}
use Rattle.elf_read.specs.Faults.{dropped_count}
use Rattle.flat_link.specs.Existing.{HaveBytes}
use Rattle.sim_relation.specs.Accepted.{boundaries}
use Rattle.sim_relation.specs.Pairs.{Paired, everywhere}
use Rattle.harden_core.specs.declared.hardening.Hardened.{Hardened as HardenedObject}
use Rattle.harden_core.specs.Denials.{IsHardenRefusal}
use Rattle.harden_core.specs.Hardening.{IsHardening}
use Rattle.guard_words.specs.Words.{Pair}
use Rattle.guard_cli.specs.Inputs.{IsReadAs, AreReadAs, IsReadRefusal, in_file}
use Rattle.guard_cli.specs.Promise.{IsPick, OutputsDiffer, AreHardened}
use Rattle.guard_cli.specs.Texts.{Tally, greatest_factor, report}
use Rattle.guard_cli.specs.Works.{Save, Contents, Work, inputs_of}

-- what one object is refused for
abbrev pub IsRefusalOf : ObjectParts → Spot → Type 0
IsRefusalOf o spot = IsHardenRefusal o (boundaries 4) 2 spot

-- its phase: flow, liveness, scratch registers, layout
abbrev pub phase_of : Refusal → ℕ
phase_of (LiveAtEntry register) = 2
phase_of (LiveAtReturn register) = 2
phase_of (NoScratch need have flags) = 3
phase_of (OutOfReach distance) = 4
phase_of CodeTooBig = 4
phase_of other = 1

-- All objects go through a phase before the next: a refusal in one file comes before another's by its phase, and then by
-- the number of the file.
abbrev pub ComesBefore : Refusal → ℕ → Refusal → ℕ → Type 0
ComesBefore r j s k = (phase_of r < phase_of s) ⊎ ((phase_of r ≡ phase_of s) × (j < k))

-- the refusal of one of the objects, before which no other comes
pub record IsFirstRefusal (objects : List ObjectParts) (spot : Spot) : Type 0 where
  pub object : ObjectParts
  pub there : slice_get objects spot.file ≡ Some object
  pub own : Spot
  pub refused : IsRefusalOf object own
  pub spot_is : spot ≡ in_file spot.file own
  pub first : (j : ℕ) (o : ObjectParts) (other : Spot) → slice_get objects j ≡ Some o → IsRefusalOf o other → ¬ ComesBefore other.refusal j own.refusal spot.file

abbrev pub NoneRefused : List ObjectParts → Type 0
NoneRefused objects = (j : ℕ) (o : ObjectParts) (spot : Spot) → slice_get objects j ≡ Some o → ¬ IsRefusalOf o spot

-- When the inputs are refused: as they are read, or else as their objects are hardened.
abbrev pub IsHardenInputRefusal : List (List ℕ) → Spot → Type 0
IsHardenInputRefusal files spot = IsReadRefusal INPUT files spot ⊎ ((objects : List ObjectParts) × AreReadAs INPUT files objects × IsFirstRefusal objects spot)

-- files whose objects are not refused
abbrev pub AreHardenable : List (List ℕ) → Type 0
AreHardenable files = (objects : List ObjectParts) × AreReadAs INPUT files objects × NoneRefused objects

-- a pair with the bytes of its input, the object that they are, and what is made of that
pub record Part : Type 0 where
  pub pair : Pair
  pub file : List ℕ
  pub object : ObjectParts
  pub hardened : HardenedObject

abbrev pub output_of : Part → ObjectParts
output_of p = p.hardened.object

-- The object is hardened, so paired with what is made of it, for which its file stands.
pub record IsPart (p : Part) : Type 0 where
  pub read : IsReadAs INPUT p.file p.object
  pub hardening : IsHardening p.object 2 4 p.hardened
  pub paired : Paired p.object (output_of p) p.hardened.factor 2 4 everywhere
  pub bytes : HaveBytes (output_of p ∷ [])
  pub stands : StandsFor (canonical (output_of p)) (output_of p)

abbrev pub save_of_part : Part → Save
save_of_part p = record { name = p.pair.output; bytes = canonical (output_of p) }

-- what is said of it
abbrev pub tally_of : Part → Tally
tally_of p = record {
  output = p.pair.output;
  functions = p.hardened.functions;
  before = p.hardened.before;
  after = p.hardened.after;
  old_bytes = code_size p.object.sections;
  new_bytes = code_size (output_of p).sections;
  dropped = dropped_count p.file;
  factor = p.hardened.factor;
}

-- what is made of all pairs
pub record IsHardenMade (pairs : List Pair) (files : List (List ℕ)) (saves : List Save) (said : List ℕ) : Type 0 where
  pub parts : List Part
  pub pairs_are : map (λ (p : Part). p.pair) parts ≡ pairs
  pub files_are : map (λ (p : Part). p.file) parts ≡ files
  pub each : All IsPart parts
  pub saves_are : saves ≡ map save_of_part parts
  pub said_is : said ≡ report (map tally_of parts)

-- Skips do no harm to what was saved, with the factor that the report ends with, whichever of the outputs are linked.
pub record IsHardenPromised (pairs : List Pair) (files : List (List ℕ)) (saves : List Save) (said : List ℕ) (before after : Contents) : Type 0 where
  pub made : IsHardenMade pairs files saves said
  pub hardened : (picked : List Pair) → IsPick pairs picked → AreHardened picked before after (greatest_factor (map tally_of made.parts))
  -- all of them in their order, where each output has a name of its own
  pub whole : OutputsDiffer pairs → AreHardened pairs before after (greatest_factor (map tally_of made.parts))

abbrev pub harden_work : List Pair → Work
harden_work pairs = record {
  inputs = inputs_of INPUT.file (map (λ (p : Pair). p.input) pairs);
  Accepts = AreHardenable;
  Refuses = IsHardenInputRefusal;
  Makes = IsHardenMade pairs;
  Stops = λ loaded outcome line. ⊥;
  Promises = IsHardenPromised pairs;
}
