-- Each cause for which objects are not linked, by its spot; and the cause that is answered.
use Rattle.std.specs.Prelude.{◌≡◌, ◌<◌, ◌≤◌, ◌⊎◌, ℕ, ◌+◌, ◌==◌, nat_lt, ◌&&◌, ◌||◌, Bool, false, List, length, Some, None, Contains, slice_get, ⊤}
use Rattle.elf_model.specs.declared.objects.Symbol.{Symbol}
use Rattle.elf_model.specs.declared.objects.Reloc.{Reloc}
use Rattle.elf_model.specs.declared.objects.Home.{Home}
use Rattle.elf_model.specs.declared.objects.Home.TheVariants as home
use Rattle.elf_model.specs.declared.refusals.Refusal.TheVariants.{RelocKind, Undefined, Duplicate, DoesNotFit, RelocRange}
use Rattle.elf_model.specs.declared.refusals.Spot.{Spot}
use Rattle.elf_model.specs.declared.refusals.Deny.{Deny}
use Rattle.elf_model.specs.declared.refusals.Deny.TheVariants.{NoMemory, Refused}
use Rattle.elf_model.specs.Refusals.{number_of}
use Rattle.elf_model.specs.Objects.{ObjectParts}
use Rattle.elf_model.specs.Canonical.{round_up}
use Rattle.code_ranges.specs.Spots.{spot_in}
use Rattle.thumb_table.specs.declared.placements.Placement.{Placement}
use Rattle.reloc_places.specs.Relocations.{IsRight}
use Rattle.thumb_table.specs.Layouts.{code_bytes_of, data_bytes_of, all_placed}
use Rattle.thumb_table.specs.Names.{Defined, globals, meant}
use Rattle.thumb_table.specs.Links.{Link, IsLink, is_in_range}

-- relocation number k of object i
pub record IsReloc (objects : List ObjectParts) (i k : ℕ) (o : ObjectParts) (r : Reloc) : Type 0 where
  pub object : slice_get objects i ≡ Some o
  pub reloc : slice_get o.relocs k ≡ Some r

-- its symbol is undefined, and no object defines its name
pub record NamesNothing (objects : List ObjectParts) (i k : ℕ) (r : Reloc) : Type 0 where
  pub object : ObjectParts
  pub symbol : Symbol
  pub there : IsReloc objects i k object r
  pub names : slice_get object.symbols r.symbol ≡ Some symbol
  pub nothing : meant objects i r.symbol symbol ≡ None

-- a global definition of a name that has one before it, in the order of objects and symbols
abbrev pub StandsBefore : Defined → Defined → Type 0
StandsBefore d e = (d.object < e.object) ⊎ ((d.object ≡ e.object) × (d.index < e.index))

pub record IsSecond (objects : List ObjectParts) (d : Defined) : Type 0 where
  pub earlier : Defined
  pub is : Contains (globals objects) d
  pub was : Contains (globals objects) earlier
  pub named : earlier.symbol.name ≡ d.symbol.name
  pub before : StandsBefore earlier d

-- the section that a definition is counted to
abbrev pub home_section : Home → ℕ
home_section home.Undefined = 0
home_section home.Absolute = 0
home_section (home.Section j) = j

-- Of several causes of a section that name symbols, the first relocation's and the first symbol's counts.
pub data LinkFault (objects : List ObjectParts) (at : Placement) : Spot → Type 0 where
  -- a relocation of a kind, or on a place, that is not handled
  misplaced : (i k : ℕ) (o : ObjectParts) (r : Reloc) → IsReloc objects i k o r → ¬ IsRight o k r →
      LinkFault objects at (spot_in RelocKind i r.section r.offset)
  -- a name that no object defines
  undefined : (i k : ℕ) (r : Reloc) → NamesNothing objects i k r →
      ((h : ℕ) (q : Reloc) → NamesNothing objects i h q → q.section ≡ r.section → k ≤ h) →
      LinkFault objects at (spot_in (Undefined r.symbol) i r.section 0)
  -- a second global definition of a name
  defined_twice : (d : Defined) → IsSecond objects d →
      ((e : Defined) → IsSecond objects e → e.object ≡ d.object → home_section e.symbol.home ≡ home_section d.symbol.home → d.index ≤ e.index) →
      LinkFault objects at (spot_in (Duplicate d.index) d.object (home_section d.symbol.home) 0)
  -- code, data and stack, or the image do not fit their places
  long_code : at.room < length (code_bytes_of objects at) → LinkFault objects at (spot_in DoesNotFit 0 0 0)
  long_data : 16777216 < round_up (length (data_bytes_of objects at)) 8 + at.stack → LinkFault objects at (spot_in DoesNotFit 0 0 0)
  high_end : 0x7FFFF000 < at.base + at.room + length (data_bytes_of objects at) → LinkFault objects at (spot_in DoesNotFit 0 0 0)
  -- a value that does not fit its place
  out_of_range : (l : Link) → IsLink objects at l → is_in_range (all_placed objects at) l ≡ false →
      LinkFault objects at (spot_in RelocRange l.file l.reloc.section l.reloc.offset)

-- the lowest number comes first, then the lowest object, section and offset
abbrev pub refused_before : Spot → Spot → Bool
refused_before s t =
    nat_lt (number_of s.refusal) (number_of t.refusal)
    || ((number_of s.refusal == number_of t.refusal) && (nat_lt s.file t.file
    || ((s.file == t.file) && (nat_lt s.section t.section
    || ((s.section == t.section) && nat_lt s.offset t.offset)))))

-- what objects are not linked for
pub record IsLinkRefusal (objects : List ObjectParts) (at : Placement) (spot : Spot) : Type 0 where
  pub fault : LinkFault objects at spot
  pub first : (s : Spot) → LinkFault objects at s → refused_before s spot ≡ false

-- why there is no image: want of memory, or a refusal
abbrev pub IsLinkDenial : List ObjectParts → Placement → Deny → Type 0
IsLinkDenial objects at NoMemory = ⊤
IsLinkDenial objects at (Refused spot) = IsLinkRefusal objects at spot
