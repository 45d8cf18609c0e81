-- Symbols of all objects, and their names, as the code has them.
use Rattle.std.specs.Prelude.{◌≡◌, ◌<◌, ◌≤◌, ◌⊎◌, ℕ, ◌==◌, nat_lt, ◌&&◌, Bool, List, Option, Some, None, find, option_map, if◌then◌else◌, Contains}
use Rattle.std.specs.Borrow.{Bor}
use Rattle.indexmap.specs.IndexMap.{IndexMap, get_by}
use Rattle.elf_model.specs.declared.objects.Symbol.{Symbol}
use Rattle.elf_model.specs.Constants.{global, weak}
use Rattle.elf_model.specs.Fields.{same_name}
use Rattle.elf_model.specs.Objects.{ObjectParts}
use Rattle.thumb_table.specs.Names.{Defined, is_defined, globals, weaks}
use Rattle.thumb_table.specs.LinkFaults.{home_section, IsSecond}
use Rattle.flat_link.specs.declared.known.Known.{Known}
use Rattle.flat_link.specs.declared.names.Names.{Names}
use Rattle.flat_link.specs.declared.names.Binding.{Binding}
use Rattle.flat_link.specs.declared.names.Binding.TheVariants.{Global, Weak}

abbrev pub defined_of : Known → Defined
defined_of k = record { object = k.object; index = k.index; symbol = k.symbol.now }

-- definitions that other objects see
abbrev pub is_bound : Binding → Symbol → Bool
is_bound Global s = (s.bind == global) && is_defined s.home
is_bound Weak s = (s.bind == weak) && is_defined s.home

-- what a map has by a name
abbrev pub named : {S : Type 0} → List ℕ → IndexMap (Bor (List ℕ)) Known S → Option Known
named n names = get_by (λ k. same_name n k.now) names

pub record AreNames (names : Names) : Type 0 where
  pub globals : (n : List ℕ) → option_map defined_of (named n names.globals) ≡ find (λ d. same_name d.symbol.name n) (globals names.objects.now)
  pub weaks : (n : List ℕ) → option_map defined_of (named n names.weaks) ≡ find (λ d. same_name d.symbol.name n) (weaks names.objects.now)

-- Of second definitions, one in a lower section is named before one in a higher section of its object, and of those in one
-- section the first.
abbrev pub is_lower : Known → Known → Bool
is_lower k first = (k.object == first.object) && nat_lt (home_section k.symbol.now.home) (home_section first.symbol.now.home)

abbrev pub lower : Option Known → Known → Known
lower None k = k
lower (Some first) k = if is_lower k first then k else first

-- d is named before e, or is e
abbrev pub IsNotBehind : Defined → Defined → Type 0
IsNotBehind d e =
    (d.object < e.object) ⊎ ((d.object ≡ e.object) × ((home_section d.symbol.home < home_section e.symbol.home)
    ⊎ ((home_section d.symbol.home ≡ home_section e.symbol.home) × (d.index ≤ e.index))))

pub record IsLowest (objects : List ObjectParts) (among : List Defined) (d : Defined) : Type 0 where
  pub there : Contains among d
  pub second : IsSecond objects d
  pub lowest : (e : Defined) → Contains among e → IsSecond objects e → IsNotBehind d e

abbrev pub IsFirstSecond : List ObjectParts → List Defined → Option Known → Type 0
IsFirstSecond objects among None = (e : Defined) → Contains among e → IsSecond objects e → ⊥
IsFirstSecond objects among (Some k) = IsLowest objects among (defined_of k)
