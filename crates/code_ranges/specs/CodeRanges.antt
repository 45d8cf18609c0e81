-- The ranges that an object's code sections have, and what stands in their way.
use Rattle.std.specs.Prelude.{◌≡◌, ◌<◌, ◌↔◌, ℕ, ◌%◌, ◌==◌, nat_lt, ◌&&◌, ◌||◌, Bool, true, false, List, [], ◌∷◌, Option, Some, None, Contains, slice_get, ⊤}
use Rattle.std.specs.List.{list_all}
use Rattle.elf_model.specs.declared.objects.Section.{Section}
use Rattle.elf_model.specs.declared.objects.Symbol.{Symbol}
use Rattle.elf_model.specs.declared.objects.Home.TheVariants as home
use Rattle.elf_model.specs.declared.ranges.RangeKind.{RangeKind}
use Rattle.elf_model.specs.declared.ranges.RangeKind.TheVariants.{Code, Arm, Data}
use Rattle.elf_model.specs.declared.refusals.Refusal.{Refusal}
use Rattle.elf_model.specs.declared.refusals.Refusal.TheVariants.{NoMapping, ArmCode}
use Rattle.elf_model.specs.declared.refusals.Spot.{Spot}
use Rattle.elf_model.specs.declared.refusals.Deny.{Deny}
use Rattle.elf_model.specs.declared.refusals.Deny.TheVariants.{NoMemory, Refused}
use Rattle.elf_model.specs.Constants.{func}
use Rattle.elf_model.specs.Objects.{ObjectParts, is_code}
use Rattle.elf_model.specs.Ranges.{is_mapped, IsRange}
use Rattle.elf_model.specs.Refusals.{number_of}
use Rattle.code_ranges.specs.declared.ranges.Range.{Range}

-- a section that is there, and has code
abbrev pub holds_code : Option Section → Bool
holds_code None = false
holds_code (Some s) = is_code s

-- Why ranges are not given: the refusal, its section and its offset there.
pub data RangeFault (o : ObjectParts) : Refusal → ℕ → ℕ → Type 0 where
  -- a code section with bytes does not begin with a mapping symbol
  no_mapping : (j : ℕ) (s : Section) → slice_get o.sections j ≡ Some s → is_code s ≡ true → 0 < s.size → is_mapped o j 0 ≡ false → RangeFault o NoMapping j 0
  -- a range of Arm code
  arm_range : (j start end : ℕ) → IsRange o Arm j start end → RangeFault o ArmCode j start
  -- a function in a code section whose value has bit 0 clear
  arm_function : (k j : ℕ) (f : Symbol) (s : Section) → slice_get o.symbols k ≡ Some f → f.kind ≡ func → f.home ≡ home.Section j → f.value % 2 ≡ 0 →
      slice_get o.sections j ≡ Some s → is_code s ≡ true → RangeFault o ArmCode j f.value

-- the lowest section comes first, then the lowest offset, then the lowest number
abbrev pub comes_before : Refusal → ℕ → ℕ → Spot → Bool
comes_before r section offset spot =
    nat_lt section spot.section
    || ((section == spot.section) && (nat_lt offset spot.offset || ((offset == spot.offset) && nat_lt (number_of r) (number_of spot.refusal))))

-- the first cause, of file 0
pub record IsRangeRefusal (o : ObjectParts) (spot : Spot) : Type 0 where
  pub fault : RangeFault o spot.refusal spot.section spot.offset
  pub file : spot.file ≡ 0
  pub first : (r : Refusal) (section offset : ℕ) → RangeFault o r section offset → comes_before r section offset spot ≡ false

-- why there is no answer: want of memory, or a refusal
abbrev pub IsRangeDenial : ObjectParts → Deny → Type 0
IsRangeDenial o NoMemory = ⊤
IsRangeDenial o (Refused spot) = IsRangeRefusal o spot

-- what a range has that is given
abbrev pub range_kind : Bool → RangeKind
range_kind true = Code
range_kind false = Data

-- ranges rise by section and start
abbrev pub is_below : Range → Range → Bool
is_below a b = nat_lt a.section b.section || ((a.section == b.section) && nat_lt a.start b.start)

abbrev pub rise : List Range → Bool
rise [] = true
rise (r ∷ rest) = list_all (is_below r) rest && rise rest

-- all ranges of an object without fault, in order
pub record AreRanges (o : ObjectParts) (ranges : List Range) : Type 0 where
  pub exact : (r : Range) → Contains ranges r ↔ IsRange o (range_kind r.code) r.section r.start r.end
  pub order : rise ranges ≡ true
  pub sound : (r : Refusal) (section offset : ℕ) → ¬ RangeFault o r section offset
