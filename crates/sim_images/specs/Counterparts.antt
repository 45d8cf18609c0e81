-- How two lists of objects answer each other, plain ones and hardened ones: where sections, symbols and relocations went.
use Rattle.std.specs.Prelude.{◌≡◌, ◌<◌, ◌≤◌, ◌⊎◌, ℕ, ◌+◌, ◌-◌, ◌%◌, ◌^◌, ◌==◌, max, true, false, List, length, get_or, Option, Some, if◌then◌else◌, slice_get}
use Rattle.std.specs.List.{count_by}
use Rattle.elf_model.specs.declared.objects.Section.{Section}
use Rattle.elf_model.specs.declared.objects.Symbol.{Symbol}
use Rattle.elf_model.specs.declared.objects.Reloc.{Reloc}
use Rattle.elf_model.specs.declared.objects.Home.TheVariants as homes
use Rattle.elf_model.specs.Constants.{local, func}
use Rattle.elf_model.specs.Objects.{ObjectParts, is_code, is_alloc, even}
use Rattle.reloc_places.specs.Starts.{bytes_of}
use Rattle.reloc_places.specs.Relocations.{is_jump, IsRight, is_in_code, addend, value_of, target_of}
use Rattle.thumb_table.specs.Links.{reach}

-- where the points of an object went: by section and old offset the new one
abbrev pub Places : Type 0
Places = ℕ → ℕ → Option ℕ

-- Sections keep their numbers and their sort, data also its size and alignment. What comes in addition isn't in memory.
pub record IsSectionOf (s t : Section) : Type 0 where
  pub kind : t.kind ≡ s.kind
  pub flags : t.flags ≡ s.flags
  pub size : is_code s ≡ false → t.size ≡ s.size
  pub align : t.align ≡ (if is_code s then max 4 s.align else s.align)

-- the sections of an object and of what it became
pub record SectionsAnswer (o h : ObjectParts) : Type 0 where
  pub kept : (j : ℕ) (s : Section) → slice_get o.sections j ≡ Some s → (t : Section) × (slice_get h.sections j ≡ Some t) × IsSectionOf s t
  pub more : (j : ℕ) (t : Section) → length o.sections ≤ j → slice_get h.sections j ≡ Some t → is_alloc t.flags ≡ false

-- A symbol and what it became: in code it went with its point and kept bit 0, elsewhere it kept its value.
pub record IsMoved (o : ObjectParts) (moved : Places) (s t : Symbol) : Type 0 where
  pub name : t.name ≡ s.name
  pub bind : t.bind ≡ s.bind
  pub kind : t.kind ≡ s.kind
  pub home : t.home ≡ s.home
  pub bit : t.value % 2 ≡ s.value % 2
  pub stays : is_in_code o s.home ≡ false → t.value ≡ s.value
  pub goes : (j : ℕ) → s.home ≡ homes.Section j → is_in_code o s.home ≡ true → moved j (even s.value) ≡ Some (even t.value)

-- the number of symbols that no other object sees, which come first
abbrev pub locals : ObjectParts → ℕ
locals o = count_by (λ (s : Symbol). s.bind == local) o.symbols

-- symbol k of o and symbol m of h, of which those that other objects see have the same number among those
pub record IsCounterpart (o h : ObjectParts) (moved : Places) (k m : ℕ) : Type 0 where
  pub symbol : Symbol
  pub twin : Symbol
  pub was : slice_get o.symbols k ≡ Some symbol
  pub becomes : slice_get h.symbols m ≡ Some twin
  pub same : IsMoved o moved symbol twin
  pub order : (symbol.bind == local) ≡ false → m + locals o ≡ k + locals h

-- Symbols that other objects see keep their order, and none is added.
pub record SymbolsAnswer (o h : ObjectParts) (moved : Places) : Type 0 where
  pub number : length o.symbols + locals h ≡ length h.symbols + locals o
  pub outer : (n : ℕ) → n < length o.symbols - locals o → IsCounterpart o h moved (locals o + n) (locals h + n)

-- the addend of a relocation that leads to its symbol itself
abbrev pub zero_addend : Reloc → ℕ
zero_addend r = if is_jump r.kind then 2 ^ 32 - 4 else 0

-- A relocation that leads to a point of section j, which went to y. One to a symbol that other objects see, and to nothing beside it,
-- isn't turned so: it may mean another object's symbol.
pub record LeadsTo (o : ObjectParts) (moved : Places) (r : Reloc) (j y : ℕ) : Type 0 where
  pub symbol : Symbol
  pub names : slice_get o.symbols r.symbol ≡ Some symbol
  pub home : symbol.home ≡ homes.Section j
  pub code : is_in_code o symbol.home ≡ true
  pub goes : moved j (if is_jump r.kind then target_of o r symbol else even (value_of o r symbol)) ≡ Some y
  pub turned : (symbol.bind ≡ local) ⊎ (addend (bytes_of o r.section) r ≡ zero_addend r → ⊥)

-- symbol m of h is a function of its own at y of section j
pub record IsFunctionAt (h : ObjectParts) (m j y : ℕ) : Type 0 where
  pub symbol : Symbol
  pub names : slice_get h.symbols m ≡ Some symbol
  pub home : symbol.home ≡ homes.Section j
  pub own : symbol.bind ≡ local
  pub function : symbol.kind ≡ func
  pub value : symbol.value ≡ y + 1

-- its symbol is in code
abbrev pub LeadsIntoCode : ObjectParts → Reloc → Type 0
LeadsIntoCode o r = (s : Symbol) × (slice_get o.symbols r.symbol ≡ Some s) × (is_in_code o s.home ≡ true)

-- A relocation and one that stands for it: by the same symbol with the same addend; or the new one leads to a function of its own, where
-- the old one led.
pub data Answers (o h : ObjectParts) (moved : Places) (r q : Reloc) : Type 0 where
  by_symbol : IsCounterpart o h moved r.symbol q.symbol → addend (bytes_of h q.section) q ≡ addend (bytes_of o r.section) r
      → (LeadsIntoCode o r → addend (bytes_of o r.section) r ≡ zero_addend r) → Answers o h moved r q
  by_target : (j y : ℕ) → LeadsTo o moved r j y → IsFunctionAt h q.symbol j y → addend (bytes_of h q.section) q ≡ zero_addend q → Answers o h moved r q

-- both are of branches or calls, or of one kind
pub record SameSense (r q : Reloc) : Type 0 where
  pub jump : is_jump q.kind ≡ is_jump r.kind
  pub kind : is_jump r.kind ≡ false → q.kind ≡ r.kind

-- Points lie in their sections, old and new, at even offsets.
abbrev pub PlacesInside : ObjectParts → ObjectParts → Places → Type 0
PlacesInside o h moved =
    (j x y : ℕ) (s t : Section) → moved j x ≡ Some y → slice_get o.sections j ≡ Some s → slice_get h.sections j ≡ Some t
    → (x < s.size) × (y < t.size) × (y % 2 ≡ 0)

-- Two lists of objects, one by one.
pub record AreAnswers (ins outs : List ObjectParts) (moved : ℕ → Places) : Type 0 where
  pub count : length outs ≡ length ins
  pub sections : (i : ℕ) (o h : ObjectParts) → slice_get ins i ≡ Some o → slice_get outs i ≡ Some h → SectionsAnswer o h
  pub symbols : (i : ℕ) (o h : ObjectParts) → slice_get ins i ≡ Some o → slice_get outs i ≡ Some h → SymbolsAnswer o h (moved i)
  pub places : (i : ℕ) (o h : ObjectParts) → slice_get ins i ≡ Some o → slice_get outs i ≡ Some h → PlacesInside o h (moved i)

-- An accepted object's own addresses of code have bit 0 set. Of others the linker asks it.
abbrev pub IsAccepted : ObjectParts → Type 0
IsAccepted o =
    (k : ℕ) (r : Reloc) (s : Symbol) → IsRight o k r → slice_get o.symbols r.symbol ≡ Some s → is_in_code o s.home ≡ true
    → is_jump r.kind ≡ false → value_of o r s % 2 ≡ 1

-- Each word that is linked in data of h answers one at the same offset of o, and no other byte of data differs.
pub record DataAnswers (o h : ObjectParts) (moved : Places) : Type 0 where
  pub linked : (k : ℕ) (r : Reloc) (s : Section) → slice_get o.relocs k ≡ Some r → slice_get o.sections r.section ≡ Some s → is_code s ≡ false
      → (n : ℕ) × (q : Reloc) × (slice_get h.relocs n ≡ Some q) × (q.section ≡ r.section) × (q.offset ≡ r.offset) × (q.kind ≡ r.kind) × Answers o h moved r q
  pub only : (n : ℕ) (q : Reloc) (t : Section) → slice_get h.relocs n ≡ Some q → slice_get h.sections q.section ≡ Some t → is_code t ≡ false
      → (k : ℕ) × (r : Reloc) × (slice_get o.relocs k ≡ Some r) × (r.section ≡ q.section) × (r.offset ≡ q.offset)
  pub bytes : (j x : ℕ) (s t : Section) → slice_get o.sections j ≡ Some s → slice_get h.sections j ≡ Some t → is_code s ≡ false
      → ((k : ℕ) (r : Reloc) → slice_get o.relocs k ≡ Some r → r.section ≡ j → (x < r.offset) ⊎ (r.offset + 4 ≤ x)) → get_or t.bytes x 0 ≡ get_or s.bytes x 0

-- Each relocation of h is right, answers one of o, and is of no short branch.
pub record RelocsAnswer (o h : ObjectParts) (moved : Places) : Type 0 where
  pub right : (n : ℕ) (q : Reloc) → slice_get h.relocs n ≡ Some q → IsRight h n q
  pub each : (n : ℕ) (q : Reloc) → slice_get h.relocs n ≡ Some q → (k : ℕ) × (r : Reloc) × (slice_get o.relocs k ≡ Some r) × SameSense r q × Answers o h moved r q
  pub long : (n : ℕ) (q : Reloc) → slice_get h.relocs n ≡ Some q → is_jump q.kind ≡ true → (2 ^ 20 ≤ reach q.kind) × (q.offset % 2 ≡ 0)
