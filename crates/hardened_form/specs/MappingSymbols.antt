-- The mapping symbols of hardened code: where `$t` and `$d` stand (ELF for the Arm Architecture, mapping symbols).
use Rattle.std.specs.Prelude.{◌≡◌, ◌<◌, ◌↔◌, ℕ, ◌+◌, ◌==◌, ◌&&◌, nat_lt, Bool, true, false, List, [], ◌∷◌, ◌++◌, Some, if◌then◌else◌, map, flat_map, slice_get, Contains, codes}
use Rattle.std.specs.List.{list_any}
use Rattle.std.specs.Option.{option_to_list}
use Rattle.std.specs.List.Sorted.{IsStrictlySortedBy}
use Rattle.elf_model.specs.declared.objects.Section.{Section}
use Rattle.elf_model.specs.declared.objects.Symbol.{Symbol}
use Rattle.elf_model.specs.declared.objects.Home.TheVariants as homes
use Rattle.elf_model.specs.Constants.{local, notype}
use Rattle.elf_model.specs.Objects.{ObjectParts, is_code}
use Rattle.code_ranges.specs.Spans.{place_cmp}
use Rattle.flow_recover.specs.declared.flows.Point.{Point}
use Rattle.flow_recover.specs.declared.flows.PoolWord.{PoolWord}
use Rattle.flow_recover.specs.Flows.{FlowParts}
use Rattle.hardened_form.specs.Places.{UnitPlace, Places}
use Rattle.hardened_form.specs.Standing.{units, pool}

-- Words of code: of the pool, and those that units have behind them.
abbrev pub pool_word_in : ℕ → PoolWord × ℕ → List ℕ
pool_word_in j e = if e.0.section == j then e.1 ∷ [] else []

abbrev pub island_in : ℕ → Point × UnitPlace → List ℕ
island_in j e = if e.0.section == j then option_to_list e.1.island else []

abbrev pub words_in : FlowParts → Places → ℕ → List ℕ
words_in f p j = flat_map (pool_word_in j) (pool f p) ++ flat_map (island_in j) (units f p)

abbrev pub has_word : FlowParts → Places → ℕ → ℕ → Bool
has_word f p j x = list_any (λ w. w == x) (words_in f p j)

abbrev pub follows_word : FlowParts → Places → ℕ → ℕ → Bool
follows_word f p j x = list_any (λ w. w + 4 == x) (words_in f p j)

-- a unit with bytes begins there
abbrev pub has_unit : FlowParts → Places → ℕ → ℕ → Bool
has_unit f p j x = list_any (λ (e : Point × UnitPlace). (e.0.section == j) && ((e.1.start == x) && nat_lt e.1.start e.1.end)) (units f p)

-- `$t` where code is true, else `$d`
pub record Mapping : Type 0 where
  pub section : ℕ
  pub at : ℕ
  pub code : Bool

-- Code begins with a section that has bytes and begins with no word, and behind a word where a unit with bytes begins;
-- data begins at a word that stands behind no other.
pub data IsMapping (h : ObjectParts) (f : FlowParts) (p : Places) : Mapping → Type 0 where
  first : (j : ℕ) (t : Section) → slice_get h.sections j ≡ Some t → is_code t ≡ true → 0 < t.size → has_word f p j 0 ≡ false
      → IsMapping h f p (record { section = j; at = 0; code = true })
  word : (j x : ℕ) → has_word f p j x ≡ true → follows_word f p j x ≡ false → IsMapping h f p (record { section = j; at = x; code = false })
  behind : (j x : ℕ) → follows_word f p j x ≡ true → has_unit f p j x ≡ true → IsMapping h f p (record { section = j; at = x; code = true })

abbrev pub place_of_mapping : Mapping → ℕ × ℕ
place_of_mapping m = (m.section, m.at)

-- each of them once, by section and offset
pub record AreMappings (h : ObjectParts) (f : FlowParts) (p : Places) (mappings : List Mapping) : Type 0 where
  pub exact : (m : Mapping) → Contains mappings m ↔ IsMapping h f p m
  pub rise : IsStrictlySortedBy place_cmp (map place_of_mapping mappings)

abbrev pub mapping_symbol : Mapping → Symbol
mapping_symbol m = record { name = if m.code then codes "$t" else codes "$d"; value = m.at; size = 0; bind = local; kind = notype; other = 0; home = homes.Section m.section }
