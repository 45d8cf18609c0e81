-- The places of what stands in the way of ranges, one list for each cause.
use Rattle.std.specs.Prelude.{◌≡◌, All, Contains, ℕ, ◌+◌, ◌%◌, ◌==◌, nat_lt, ◌&&◌, Bool, true, false, List, [], ◌∷◌, ◌++◌, Option, Some, None, if◌then◌else◌, slice_get, is_none}
use Rattle.std.specs.Option.{option_to_list}
use Rattle.elf_model.specs.declared.objects.Section.{Section}
use Rattle.elf_model.specs.declared.objects.Symbol.{Symbol}
use Rattle.elf_model.specs.declared.objects.Home.{Home}
use Rattle.elf_model.specs.declared.objects.Home.TheVariants as home
use Rattle.elf_model.specs.declared.ranges.RangeKind.{RangeKind}
use Rattle.elf_model.specs.declared.ranges.RangeKind.TheVariants.{Code, Arm, Data}
use Rattle.elf_model.specs.declared.refusals.Refusal.{Refusal}
use Rattle.elf_model.specs.declared.refusals.Refusal.TheVariants.{NoMapping, ArmCode}
use Rattle.elf_model.specs.declared.refusals.Spot.{Spot}
use Rattle.elf_model.specs.Constants.{func}
use Rattle.elf_model.specs.Objects.{is_code}
use Rattle.code_ranges.specs.declared.spans.Span.{Span}
use Rattle.code_ranges.specs.Spans.{kind_at}
use Rattle.code_ranges.specs.CodeRanges.{holds_code, comes_before}

-- the place of a cause: its file, section and offset
abbrev pub spot_in : Refusal → ℕ → ℕ → ℕ → Spot
spot_in r file section offset = record { refusal = r; file = file; section = section; offset = offset }

-- of file 0
abbrev pub spot_of : Refusal → ℕ → ℕ → Spot
spot_of r section offset = spot_in r 0 section offset

-- a section of code at whose beginning nothing of a kind begins
abbrev pub unmapped_spot : Option RangeKind → ℕ → Section → Option Spot
unmapped_spot kind j s = if is_code s && nat_lt 0 s.size && is_none kind then Some (spot_of NoMapping j 0) else None

abbrev pub unmapped_spots : List Symbol → ℕ → List Section → List Spot
unmapped_spots symbols j [] = []
unmapped_spots symbols j (s ∷ rest) = option_to_list (unmapped_spot (kind_at symbols j 0) j s) ++ unmapped_spots symbols (j + 1) rest

-- a span of Arm code
abbrev pub is_arm : RangeKind → Bool
is_arm Code = false
is_arm Arm = true
is_arm Data = false

abbrev pub arm_spot : Span → Option Spot
arm_spot s = if is_arm s.kind then Some (spot_of ArmCode s.section s.start) else None

abbrev pub arm_spots : List Span → List Spot
arm_spots [] = []
arm_spots (s ∷ rest) = option_to_list (arm_spot s) ++ arm_spots rest

-- a function of Arm code
abbrev pub function_spot_at : List Section → Symbol → Home → Option Spot
function_spot_at sections f home.Undefined = None
function_spot_at sections f home.Absolute = None
function_spot_at sections f (home.Section j) =
    if (f.kind == func) && (f.value % 2 == 0) && holds_code (slice_get sections j) then Some (spot_of ArmCode j f.value) else None

abbrev pub function_spot : List Section → Symbol → Option Spot
function_spot sections f = function_spot_at sections f f.home

abbrev pub function_spots : List Section → List Symbol → List Spot
function_spots sections [] = []
function_spots sections (f ∷ rest) = option_to_list (function_spot sections f) ++ function_spots sections rest

-- of two spots the one that comes first, and the first of a list
abbrev pub earlier : Option Spot → Spot → Spot
earlier None spot = spot
earlier (Some old) spot = if comes_before spot.refusal spot.section spot.offset old then spot else old

abbrev pub IsFirst : List Spot → Option Spot → Type 0
IsFirst spots None = spots ≡ []
IsFirst spots (Some first) = Contains spots first × All (λ s. comes_before s.refusal s.section s.offset first ≡ false) spots
