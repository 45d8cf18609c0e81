-- The stops of objects, list by list: functions, starts of data in code, ends of code.
use Rattle.std.specs.Prelude.{ℕ, ◌+◌, ◌&&◌, Bool, true, false, List, [], ◌∷◌, ◌++◌, map, filter, Option, Some, None, if◌then◌else◌}
use Rattle.std.specs.Option.{option_to_list}
use Rattle.elf_model.specs.declared.objects.Symbol.{Symbol}
use Rattle.elf_model.specs.declared.objects.Home.{Home}
use Rattle.elf_model.specs.declared.objects.Home.TheVariants as home
use Rattle.elf_model.specs.declared.ranges.RangeKind.{RangeKind}
use Rattle.elf_model.specs.declared.ranges.RangeKind.TheVariants.{Code, Arm, Data}
use Rattle.elf_model.specs.Objects.{ObjectParts, even}
use Rattle.code_ranges.specs.Spans.{kind_at}
use Rattle.thumb_table.specs.Layouts.{Placed, home_start}
use Rattle.thumb_table.specs.Names.{Defined, is_function, is_in_code, address_of}

abbrev pub function_stops : List Placed → List Defined → List ℕ
function_stops parts all = map (λ d. even (address_of parts d)) (filter (λ d. is_function parts d) all)

-- whether data begins at a place, by the last mapping symbol there
abbrev pub says_data : Option RangeKind → Bool
says_data None = false
says_data (Some Code) = false
says_data (Some Arm) = false
says_data (Some Data) = true

abbrev pub begins_data : List Symbol → Home → ℕ → Bool
begins_data symbols home.Undefined x = false
begins_data symbols home.Absolute x = false
begins_data symbols (home.Section j) x = says_data (kind_at symbols j x)

-- the address of a symbol at whose place data begins in code
abbrev pub data_place : List Placed → ℕ → List Symbol → Symbol → Option ℕ
data_place parts i symbols s =
    if begins_data symbols s.home s.value && is_in_code parts i s.home then Some (home_start parts i s.home + s.value) else None

abbrev pub data_stops : List Placed → ℕ → List Symbol → List Symbol → List ℕ
data_stops parts i symbols [] = []
data_stops parts i symbols (s ∷ rest) = option_to_list (data_place parts i symbols s) ++ data_stops parts i symbols rest

abbrev pub all_data_stops : List Placed → ℕ → List ObjectParts → List ℕ
all_data_stops parts i [] = []
all_data_stops parts i (o ∷ rest) = data_stops parts i o.symbols o.symbols ++ all_data_stops parts (i + 1) rest

-- where parts end
abbrev pub end_stops : List Placed → List ℕ
end_stops parts = map (λ p. p.start + p.section.size) parts
