-- What symbols stand for, in their own object and in others.
use Rattle.std.specs.Prelude.{ℕ, ◌+◌, ◌==◌, ◌&&◌, Bool, true, false, List, [], ◌∷◌, ◌++◌, map, filter, find, Option, Some, None, if◌then◌else◌}
use Rattle.elf_model.specs.declared.objects.Symbol.{Symbol}
use Rattle.elf_model.specs.declared.objects.Home.{Home}
use Rattle.elf_model.specs.declared.objects.Home.TheVariants as home
use Rattle.elf_model.specs.Constants.{local, global, weak, func}
use Rattle.elf_model.specs.Fields.{same_name}
use Rattle.elf_model.specs.Objects.{ObjectParts, is_code, even}
use Rattle.thumb_table.specs.declared.parts.NamedEntry.{NamedEntry}
use Rattle.thumb_table.specs.Layouts.{Placed, part_of, home_start}

-- a symbol, of which object and its number there
pub record Defined : Type 0 where
  pub object : ℕ
  pub index : ℕ
  pub symbol : Symbol

abbrev pub numbered : ℕ → ℕ → List Symbol → List Defined
numbered i k [] = []
numbered i k (s ∷ rest) = record { object = i; index = k; symbol = s } ∷ numbered i (k + 1) rest

abbrev pub all_symbols : ℕ → List ObjectParts → List Defined
all_symbols i [] = []
all_symbols i (o ∷ rest) = numbered i 0 o.symbols ++ all_symbols (i + 1) rest

abbrev pub is_defined : Home → Bool
is_defined home.Undefined = false
is_defined h = true

-- what other objects see: definitions that are global, and those that are weak
abbrev pub globals : List ObjectParts → List Defined
globals objects = filter (λ d. (d.symbol.bind == global) && is_defined d.symbol.home) (all_symbols 0 objects)

abbrev pub weaks : List ObjectParts → List Defined
weaks objects = filter (λ d. (d.symbol.bind == weak) && is_defined d.symbol.home) (all_symbols 0 objects)

-- A name stands for its global definition, else for the first weak one.
abbrev pub resolved : List ObjectParts → List ℕ → Option Defined
resolved objects name = find (λ d. same_name d.symbol.name name) (globals objects ++ weaks objects)

-- What symbol k of object i stands for: a local one that is defined for itself, every other one, also a weak one that is
-- defined, for what its name stands for.
abbrev pub meant : List ObjectParts → ℕ → ℕ → Symbol → Option Defined
meant objects i k s = if (s.bind == local) && is_defined s.home then Some (record { object = i; index = k; symbol = s }) else resolved objects s.name

-- a function in a code section
abbrev pub is_in_code : List Placed → ℕ → Home → Bool
is_in_code parts i home.Undefined = false
is_in_code parts i home.Absolute = false
is_in_code parts i (home.Section j) = is_some_code (part_of parts i j)
  where
    is_some_code : Option Placed → Bool
    is_some_code None = false
    is_some_code (Some p) = is_code p.section

abbrev pub is_function : List Placed → Defined → Bool
is_function parts d = (d.symbol.kind == func) && is_in_code parts d.object d.symbol.home

-- the address of a symbol, its bit 0 with it
abbrev pub address_of : List Placed → Defined → ℕ
address_of parts d = home_start parts d.object d.symbol.home + d.symbol.value

-- where a symbol stands: its address, without bit 0 of a function's
abbrev pub stands : List Placed → Defined → ℕ
stands parts d = if is_function parts d then even (address_of parts d) else address_of parts d

-- the functions that calls from outside name: each name once, by the definition that it stands for
abbrev pub is_standing : List ObjectParts → Defined → Option Defined → Bool
is_standing objects d None = false
is_standing objects d (Some e) = (d.object == e.object) && (d.index == e.index)

abbrev pub entries_of : List ObjectParts → List Placed → List NamedEntry
entries_of objects parts =
    map (λ d. record { name = d.symbol.name; address = even (address_of parts d) + 1 })
    (filter (λ d. is_function parts d && is_standing objects d (resolved objects d.symbol.name)) (all_symbols 0 objects))
