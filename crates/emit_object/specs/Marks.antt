-- Where mapping symbols stand, by sets of the places of words and of the places where units with bytes begin.
use Rattle.std.specs.Prelude.{ℕ, ◌+◌, ◌-◌, nat_lt, nat_le, ◌&&◌, not, Bool, List, [], ◌∷◌, ◌++◌, if◌then◌else◌, slice_index}
use Rattle.std.specs.BTreeSet.{BTreeSet, contains}
use Rattle.elf_model.specs.declared.objects.Section.{Section}
use Rattle.elf_model.specs.Objects.{is_code}
use Rattle.code_ranges.specs.Spans.{place_cmp}
use Rattle.hardened_form.specs.MappingSymbols.{Mapping}

abbrev pub has : BTreeSet (ℕ × ℕ) → ℕ → ℕ → Bool
has s j x = contains place_cmp s (j, x)

-- a word stands behind another
abbrev pub follows : BTreeSet (ℕ × ℕ) → ℕ → ℕ → Bool
follows words j x = nat_le 4 x && has words j (x - 4)

-- data begins at a word that stands behind no other, code behind one where a unit begins
abbrev pub data_mark : BTreeSet (ℕ × ℕ) → ℕ × ℕ → List (ℕ × ℕ)
data_mark words w = if follows words w.0 w.1 then [] else w ∷ []

abbrev pub code_mark : BTreeSet (ℕ × ℕ) → ℕ × ℕ → List (ℕ × ℕ)
code_mark begins w = if has begins w.0 (w.1 + 4) then (w.0, w.1 + 4) ∷ [] else []

abbrev pub word_marks : BTreeSet (ℕ × ℕ) → BTreeSet (ℕ × ℕ) → List (ℕ × ℕ) → List (ℕ × ℕ)
word_marks words begins [] = []
word_marks words begins (w ∷ rest) = data_mark words w ++ code_mark begins w ++ word_marks words begins rest

-- code begins with a section of code that has bytes and no word at 0
abbrev pub is_first : BTreeSet (ℕ × ℕ) → List ℕ → ℕ → Section → Bool
is_first words sizes j s = is_code s && nat_lt 0 (slice_index sizes j) && not (has words j 0)

abbrev pub first_mark : BTreeSet (ℕ × ℕ) → List ℕ → ℕ → Section → List (ℕ × ℕ)
first_mark words sizes j s = if is_first words sizes j s then (j, 0) ∷ [] else []

abbrev pub first_marks : BTreeSet (ℕ × ℕ) → List ℕ → ℕ → List Section → List (ℕ × ℕ)
first_marks words sizes j [] = []
first_marks words sizes j (s ∷ rest) = first_mark words sizes j s ++ first_marks words sizes (j + 1) rest

-- data stands at words
abbrev pub mapping_at : BTreeSet (ℕ × ℕ) → ℕ × ℕ → Mapping
mapping_at words p = record { section = p.0; at = p.1; code = not (has words p.0 p.1) }
