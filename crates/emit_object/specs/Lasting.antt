-- Which relocations stay, by what is at their places.
use Rattle.std.specs.Prelude.{◌≡◌, ℕ, Bool, true, false, not, Option, Some, None, slice_get, Contains}
use Rattle.elf_model.specs.declared.objects.Section.{Section}
use Rattle.elf_model.specs.declared.objects.Reloc.{Reloc}
use Rattle.elf_model.specs.Objects.{ObjectParts, is_code}
use Rattle.flow_recover.specs.declared.flows.PoolWord.{PoolWord}
use Rattle.flow_recover.specs.Flows.{FlowParts}
use Rattle.flow_recover.specs.Points.{IsPointAt}

-- a word that a point loads stands there
pub record HasWordAt (f : FlowParts) (j x : ℕ) : Type 0 where
  pub word : PoolWord
  pub there : Contains f.words word
  pub section : word.section ≡ j
  pub offset : word.offset ≡ x

abbrev pub has_data : Option Section → Bool
has_data None = false
has_data (Some s) = not (is_code s)

-- It is of data, or a point or such a word is at its place.
pub data LastsAt (o : ObjectParts) (f : FlowParts) (j x : ℕ) : Type 0 where
  of_data : has_data (slice_get o.sections j) ≡ true → LastsAt o f j x
  of_point : (q : ℕ) → IsPointAt f j x q → LastsAt o f j x
  of_word : HasWordAt f j x → LastsAt o f j x

abbrev pub Lasts : ObjectParts → FlowParts → Reloc → Type 0
Lasts o f r = LastsAt o f r.section r.offset
