-- Which relocations name a target in code in another way than by a function or an outer symbol that stands there, and
-- which targets those are that get a symbol of their own.
use Rattle.std.specs.Prelude.{◌≡◌, ◌↔◌, ℕ, ◌-◌, ◌^◌, ◌==◌, ◌&&◌, ◌||◌, not, Bool, true, false, List, Option, Some, None, if◌then◌else◌, map, slice_get, Contains}
use Rattle.std.specs.List.Sorted.{IsStrictlySortedBy}
use Rattle.elf_model.specs.declared.objects.Section.{Section}
use Rattle.elf_model.specs.declared.objects.Symbol.{Symbol}
use Rattle.elf_model.specs.declared.objects.Reloc.{Reloc}
use Rattle.elf_model.specs.declared.objects.Home.TheVariants as homes
use Rattle.elf_model.specs.Constants.{local, func}
use Rattle.elf_model.specs.Objects.{ObjectParts, is_code, even}
use Rattle.code_ranges.specs.Spans.{place_cmp}
use Rattle.reloc_places.specs.Starts.{bytes_of}
use Rattle.reloc_places.specs.Relocations.{is_jump, is_in_code, addend, value_of, target_of}
use Rattle.flow_recover.specs.declared.flows.Point.{Point}
use Rattle.flow_recover.specs.declared.flows.PoolWord.{PoolWord}
use Rattle.flow_recover.specs.Flows.{FlowParts}

-- the addend of a relocation that leads to its symbol itself
abbrev pub zero_addend : Reloc → ℕ
zero_addend r = if is_jump r.kind then 2 ^ 32 - 4 else 0

-- It names a function, or a symbol that other objects see, and leads to it itself.
abbrev pub is_direct : ObjectParts → Reloc → Symbol → Bool
is_direct o r s = ((s.kind == func) || not (s.bind == local)) && (addend (bytes_of o r.section) r == zero_addend r)

abbrev pub turns_by : ObjectParts → Reloc → Option Symbol → Bool
turns_by o r None = false
turns_by o r (Some s) = is_in_code o s.home && not (is_direct o r s)

-- It leads into code and not directly: it turns to a symbol of its target's own.
abbrev pub is_turned : ObjectParts → Reloc → Bool
is_turned o r = turns_by o r (slice_get o.symbols r.symbol)

-- an old offset of a code section
pub record Target : Type 0 where
  pub section : ℕ
  pub old : ℕ

abbrev pub old_target : ObjectParts → Reloc → Symbol → ℕ
old_target o r s = if is_jump r.kind then target_of o r s else even (value_of o r s)

-- where a relocation leads
pub record IsTarget (o : ObjectParts) (r : Reloc) (t : Target) : Type 0 where
  pub symbol : Symbol
  pub names : slice_get o.symbols r.symbol ≡ Some symbol
  pub home : symbol.home ≡ homes.Section t.section
  pub old : t.old ≡ old_target o r symbol

-- A relocation stays that is of data, of a point, or of a word that one loads.
pub data Stays (o : ObjectParts) (f : FlowParts) (k : ℕ) (r : Reloc) : Type 0 where
  of_data : (s : Section) → slice_get o.sections r.section ≡ Some s → is_code s ≡ false → Stays o f k r
  of_point : (x : Point) → Contains f.points x → x.reloc ≡ Some k → Stays o f k r
  of_word : (w : PoolWord) → Contains f.words w → w.reloc ≡ Some k → Stays o f k r

-- a target of one that stays and turns
pub record IsTurnedTo (o : ObjectParts) (f : FlowParts) (t : Target) : Type 0 where
  pub number : ℕ
  pub reloc : Reloc
  pub there : slice_get o.relocs number ≡ Some reloc
  pub stays : Stays o f number reloc
  pub turned : is_turned o reloc ≡ true
  pub target : IsTarget o reloc t

abbrev pub place_of_target : Target → ℕ × ℕ
place_of_target t = (t.section, t.old)

-- each of them once, by section and old offset
pub record AreTargets (o : ObjectParts) (f : FlowParts) (targets : List Target) : Type 0 where
  pub exact : (t : Target) → Contains targets t ↔ IsTurnedTo o f t
  pub rise : IsStrictlySortedBy place_cmp (map place_of_target targets)

-- the number that its place has now: none where it is turned
abbrev pub new_addend : ObjectParts → Reloc → ℕ
new_addend o r = if is_turned o r then zero_addend r else addend (bytes_of o r.section) r
