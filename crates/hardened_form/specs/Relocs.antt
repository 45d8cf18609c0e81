-- The relocations of a hardened object: of data as they were, on each instruction that carries that of its point, and of
-- each word of code that a point loads.
use Rattle.std.specs.Prelude.{◌≡◌, ◌↔◌, ℕ, ◌+◌, ◌==◌, true, false, List, Some, if◌then◌else◌, length, take, slice_get, Contains, count_by}
use Rattle.elf_model.specs.declared.objects.Section.{Section}
use Rattle.elf_model.specs.declared.objects.Symbol.{Symbol}
use Rattle.elf_model.specs.declared.objects.Reloc.{Reloc}
use Rattle.elf_model.specs.declared.objects.RelocKind.{RelocKind}
use Rattle.elf_model.specs.Constants.{local}
use Rattle.elf_model.specs.Objects.{ObjectParts, is_code, rise}
use Rattle.flow_recover.specs.declared.flows.Point.{Point}
use Rattle.flow_recover.specs.declared.flows.PoolWord.{PoolWord}
use Rattle.flow_recover.specs.Flows.{FlowParts}
use Rattle.hardened_form.specs.Places.{UnitPlace, Places}
use Rattle.hardened_form.specs.Standing.{units, pool}
use Rattle.hardened_form.specs.Turns.{Target, is_turned, IsTarget}
use Rattle.hardened_form.specs.Symbols.{Lists, stays, is_shared}
use Rattle.hardened_form.specs.Carriers.{Carrier, IsCarrier, kind_on}

-- how many symbols stand before the functions of targets, and before what other objects see
abbrev pub first_target : ObjectParts → Lists → ℕ
first_target o l = count_by (stays o l.items) o.symbols + length l.mappings

abbrev pub first_shared : ObjectParts → Lists → ℕ
first_shared o l = first_target o l + length l.targets

-- the number of the symbol k, which stays
abbrev pub new_number : ObjectParts → Lists → ℕ → Symbol → ℕ
new_number o l k s =
    if s.bind == local then count_by (stays o l.items) (take k o.symbols) else first_shared o l + count_by is_shared (take k o.symbols)

-- the symbol that a relocation names now: the same one, or its target's own
pub data IsNewSymbol (o : ObjectParts) (l : Lists) (r : Reloc) (m : ℕ) : Type 0 where
  same : (s : Symbol) → is_turned o r ≡ false → slice_get o.symbols r.symbol ≡ Some s → m ≡ new_number o l r.symbol s → IsNewSymbol o l r m
  own : (n : ℕ) (t : Target) → is_turned o r ≡ true → IsTarget o r t → slice_get l.targets n ≡ Some t → m ≡ first_target o l + n → IsNewSymbol o l r m

-- what stands for the relocation k at an offset of its section, as one of this kind
pub record StandsFor (o : ObjectParts) (l : Lists) (k : ℕ) (r : Reloc) (as_kind : RelocKind) (at : ℕ) (q : Reloc) : Type 0 where
  pub there : slice_get o.relocs k ≡ Some r
  pub section : q.section ≡ r.section
  pub offset : q.offset ≡ at
  pub kind : q.kind ≡ as_kind
  pub symbol : IsNewSymbol o l r q.symbol

-- where a word of code stands: in the pool, and behind each unit that loads it and has a word of its own
pub data IsWordOf (f : FlowParts) (p : Places) (w : PoolWord) : ℕ → Type 0 where
  in_pool : (y : ℕ) → Contains (pool f p) (w, y) → IsWordOf f p w y
  in_island : (x : Point) (u : UnitPlace) (n y : ℕ) → Contains (units f p) (x, u) → x.word ≡ Some n → slice_get f.words n ≡ Some w → u.island ≡ Some y → IsWordOf f p w y

pub data IsNewReloc (o : ObjectParts) (f : FlowParts) (p : Places) (carriers : List (List Carrier)) (l : Lists) (q : Reloc) : Type 0 where
  of_data : (k : ℕ) (r : Reloc) (s : Section) → slice_get o.sections r.section ≡ Some s → is_code s ≡ false → StandsFor o l k r r.kind r.offset q → IsNewReloc o f p carriers l q
  of_step : (k : ℕ) (r : Reloc) (x : Point) (c : Carrier) → IsCarrier f carriers x c → x.reloc ≡ Some k → StandsFor o l k r (kind_on c.instr r.kind) c.at q → IsNewReloc o f p carriers l q
  of_word : (k : ℕ) (r : Reloc) (w : PoolWord) (y : ℕ) → IsWordOf f p w y → w.reloc ≡ Some k → StandsFor o l k r r.kind y q → IsNewReloc o f p carriers l q

-- these and no others, by section and offset
pub record AreRelocs (o h : ObjectParts) (f : FlowParts) (p : Places) (carriers : List (List Carrier)) (l : Lists) : Type 0 where
  pub exact : (q : Reloc) → Contains h.relocs q ↔ IsNewReloc o f p carriers l q
  pub rise : rise h.relocs ≡ true
