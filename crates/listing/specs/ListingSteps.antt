-- How the text of a listing grows, from one offset of a section to another.
use Rattle.std.specs.Prelude.{◌≡◌, ◌<◌, ◌≤◌, ◌⊎◌, ℕ, ◌+◌, ◌==◌, ◌&&◌, Bool, List, [], ◌∷◌, ◌++◌, length}
use Rattle.elf_model.specs.declared.objects.Section.{Section}
use Rattle.elf_model.specs.declared.ranges.RangeKind.TheVariants.{Code}
use Rattle.elf_model.specs.Objects.{ObjectParts}
use Rattle.elf_model.specs.Ranges.{IsRange, IsStart}
use Rattle.code_ranges.specs.declared.spans.Span.{Span}
use Rattle.code_ranges.specs.Spans.{is_thumb}
use Rattle.listing.specs.Listings.{IsInCode, Listed, AreListed, text_of_lines}

-- The lines that were added lead from an offset and an IT state to others.
pub record LeadsTo (o : ObjectParts) (j : ℕ) (bytes : List ℕ) (x it y next : ℕ) (old new : List ℕ) : Type 0 where
  pub lines : List (List ℕ)
  pub text_is : new ≡ old ++ text_of_lines lines
  pub listed : (rest : List (List ℕ)) → Listed o j bytes y next rest → Listed o j bytes x it (lines ++ rest)

-- from an instruction start to the next one, or to the end of the range
pub record IsStep (bytes : List ℕ) (end x it y next : ℕ) (old new : List ℕ) : Type 0 where
  pub further : x < y
  pub within : y ≤ end
  pub leads : (o : ObjectParts) (j start : ℕ) → IsRange o Code j start end → IsStart bytes start end x → LeadsTo o j bytes x it y next old new
  pub stands : (start : ℕ) → IsStart bytes start end x → (y ≡ end) ⊎ IsStart bytes start end y

-- through a code range
abbrev pub IsThrough : List ℕ → ℕ → ℕ → ℕ → ℕ → List ℕ → List ℕ → Type 0
IsThrough bytes start end it next old new = (o : ObjectParts) (j : ℕ) → IsRange o Code j start end → LeadsTo o j bytes start it end next old new

-- no byte of code from one offset to before another, where code or the section's end is
pub record IsGap (o : ObjectParts) (j : ℕ) (bytes : List ℕ) (x y : ℕ) : Type 0 where
  pub clear : (z : ℕ) → x ≤ z → z < y → ¬ IsInCode o j z
  pub ends : (y ≡ length bytes) ⊎ IsInCode o j y

-- through bytes that are not code
abbrev pub IsAcross : List ℕ → ℕ → ℕ → ℕ → ℕ → List ℕ → List ℕ → Type 0
IsAcross bytes x y it next old new = (o : ObjectParts) (j : ℕ) → IsGap o j bytes x y → LeadsTo o j bytes x it y next old new

-- the code ranges of a section behind an offset, in order
abbrev pub AreAhead : ObjectParts → ℕ → List ℕ → ℕ → List Span → Type 0
AreAhead o j bytes x [] = IsGap o j bytes x (length bytes)
AreAhead o j bytes x (s ∷ rest) = IsGap o j bytes x s.start × IsRange o Code j s.start s.end × AreAhead o j bytes s.end rest

-- spans of bytes behind an offset, one behind the other
abbrev pub AreApart : List ℕ → ℕ → List Span → Type 0
AreApart bytes x [] = x ≤ length bytes
AreApart bytes x (s ∷ rest) = (x ≤ s.start) × (s.start < s.end) × (s.end ≤ length bytes) × AreApart bytes s.end rest

-- What was added lists all of a section's bytes.
pub record ListsContents (o : ObjectParts) (j : ℕ) (bytes old new : List ℕ) : Type 0 where
  pub lines : List (List ℕ)
  pub text_is : new ≡ old ++ text_of_lines lines
  pub listed : Listed o j bytes 0 0 lines

-- the code ranges of a section among all ranges
abbrev pub is_code_of : ℕ → Span → Bool
is_code_of j s = is_thumb s.kind && (s.section == j)

-- What was added lists a section.
pub record ListsSection (o : ObjectParts) (j : ℕ) (s : Section) (old new : List ℕ) : Type 0 where
  pub lines : List (List ℕ)
  pub text_is : new ≡ old ++ text_of_lines lines
  pub listed : (sections : List Section) (rest : List (List ℕ)) → AreListed o (j + 1) sections rest → AreListed o j (s ∷ sections) (lines ++ rest)

-- What was added lists the sections before an index.
pub record ListsBefore (o : ObjectParts) (j : ℕ) (sections : List Section) (new : List ℕ) : Type 0 where
  pub lines : List (List ℕ)
  pub text_is : new ≡ text_of_lines lines
  pub listed : (rest : List (List ℕ)) → AreListed o j sections rest → AreListed o 0 o.sections (lines ++ rest)
