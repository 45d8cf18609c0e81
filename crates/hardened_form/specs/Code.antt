-- The code sections of a hardened object, but for the instructions of units: units and words one behind the other with
-- DE00 where two bytes are free before a word, and what is in the words.
use Rattle.std.specs.Prelude.{◌≡◌, ◌⊎◌, ℕ, ◌+◌, true, List, [], ◌∷◌, Option, Some, None, slice_get, ⊤}
use Rattle.elf_model.specs.declared.objects.Section.{Section}
use Rattle.elf_model.specs.declared.objects.Reloc.{Reloc}
use Rattle.elf_model.specs.Fields.{half_at, word_at}
use Rattle.elf_model.specs.Objects.{ObjectParts, is_code}
use Rattle.reloc_places.specs.Starts.{bytes_of}
use Rattle.flow_recover.specs.declared.flows.PoolWord.{PoolWord}
use Rattle.flow_recover.specs.Flows.{FlowParts}
use Rattle.hardened_form.specs.Places.{Places}
use Rattle.hardened_form.specs.Items.{Item, items_in, StandFrom}
use Rattle.hardened_form.specs.Turns.{new_addend}
use Rattle.hardened_form.specs.Relocs.{IsWordOf}

-- a trap that nothing reaches (ARMv7-M ARM, UDF)
abbrev pub filler : ℕ
filler = 0xDE00

-- between x and y stands nothing, or one halfword that fills
abbrev pub IsFill : List ℕ → ℕ → ℕ → Type 0
IsFill bytes x y = (y ≡ x) ⊎ ((y ≡ x + 2) × (half_at bytes x ≡ filler))

abbrev pub AreFilled : List ℕ → ℕ → List Item → Type 0
AreFilled bytes x [] = ⊤
AreFilled bytes x (it ∷ rest) = IsFill bytes x it.new × AreFilled bytes it.end rest

-- a section of code, from its first byte to its last
pub record IsTiled (items : List Item) (j : ℕ) (t : Section) : Type 0 where
  pub stand : StandFrom 0 (items_in items j) t.size
  pub filled : AreFilled t.bytes 0 (items_in items j)

abbrev pub AreTiled : ObjectParts → List Item → Type 0
AreTiled h items = (j : ℕ) (t : Section) → slice_get h.sections j ≡ Some t → is_code t ≡ true → IsTiled items j t

-- the number in a word of code: as it was, or what is left to its relocation
abbrev pub word_number : ObjectParts → PoolWord → Option Reloc → ℕ
word_number o w None = word_at (bytes_of o w.section) w.offset
word_number o w (Some r) = new_addend o r

abbrev pub reloc_of : ObjectParts → Option ℕ → Option Reloc
reloc_of o None = None
reloc_of o (Some k) = slice_get o.relocs k

abbrev pub AreWords : ObjectParts → ObjectParts → FlowParts → Places → Type 0
AreWords o h f p = (w : PoolWord) (y : ℕ) → IsWordOf f p w y → word_at (bytes_of h w.section) y ≡ word_number o w (reloc_of o w.reloc)
