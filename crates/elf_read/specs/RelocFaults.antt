-- What may be wrong with a header of relocations.
use Rattle.std.specs.Prelude.{◌≡◌, ◌≢◌, ◌<◌, ◌⊎◌, ℕ, ◌+◌, ◌/◌, ◌%◌, ◌==◌, ◌||◌, not, nat_le, Bool, true, List, [], ◌∷◌, Option, Some, None}
use Rattle.std.specs.declared.cmp.Ordering.{Ordering}
use Rattle.std.specs.Ordering.{nat_cmp, ordering_then}
use Rattle.std.specs.BTreeSet.{BTreeSet, contains}
use Rattle.elf_model.specs.Constants.{rel, nobits}
use Rattle.elf_model.specs.Fields.{word_at}
use Rattle.elf_model.specs.Objects.{code_width}
use Rattle.elf_model.specs.Files.{header, header_place, is_kept, IsKind}
use Rattle.elf_read.specs.declared.places.Place.{Place}
use Rattle.elf_read.specs.Faults.{IsRelocAt, IsKeptSymbol}
use Rattle.elf_read.specs.Keeping.{flag_at}

-- a relocation before entry j of header h changes this place
pub record IsEarlier (b : List ℕ) (h j target offset : ℕ) : Type 0 where
  pub g : ℕ
  pub i : ℕ
  pub q : ℕ
  pub before : (g < h) ⊎ ((g ≡ h) × (i < j))
  pub stands : IsRelocAt b g i q
  pub of : (header b g).info ≡ target
  pub at : word_at b q ≡ offset

abbrev pub pair_cmp : ℕ × ℕ → ℕ × ℕ → Ordering
pair_cmp x y = ordering_then (nat_cmp x.0 y.0) (nat_cmp x.1 y.1)

-- the places that the relocations before entry j of header h change
pub record AreTaken (b : List ℕ) (h j : ℕ) (taken : BTreeSet (ℕ × ℕ)) : Type 0 where
  pub sound : (p : ℕ × ℕ) → contains pair_cmp taken p ≡ true → IsEarlier b h j p.0 p.1
  pub whole : (p : ℕ × ℕ) → IsEarlier b h j p.0 p.1 → contains pair_cmp taken p ≡ true

-- entry j of header h is wrong at an offset
pub record BadEntry (b : List ℕ) (h j o : ℕ) : Type 0 where
  pub r : ℕ
  pub stands : IsRelocAt b h j r
  pub wrong : ((o ≡ r) × (((header b (header b h).info).size < word_at b r + code_width (word_at b (r + 4) % 256)) ⊎ IsEarlier b h j (header b h).info (word_at b r)))
      ⊎ ((o ≡ r + 4) × (word_at b (r + 4) % 256 ≢ 0) × (IsKeptSymbol b (word_at b (r + 4) / 256) → ⊥))

pub data RelocFault (b : List ℕ) (h o : ℕ) : Type 0 where
  by_entry : (j : ℕ) → BadEntry b h j o → RelocFault b h o
  by_target : IsKind b h rel → is_kept b (header b h).info ≡ true → (header b (header b h).info).kind ≡ nobits → o ≡ header_place b h + 28 → RelocFault b h o

abbrev pub EntryFault : List ℕ → ℕ → ℕ → Type 0
EntryFault b h o = (j : ℕ) × BadEntry b h j o

abbrev pub TargetFault : List ℕ → ℕ → ℕ → Type 0
TargetFault b h o = IsKind b h rel × (is_kept b (header b h).info ≡ true) × ((header b (header b h).info).kind ≡ nobits) × (o ≡ header_place b h + 28)

-- the lowest offset of a header at which a relation holds
abbrev pub IsLowestIn : (ℕ → Type 0) → ℕ → Option Place → Type 0
IsLowestIn P h None = (o : ℕ) → P o → ⊥
IsLowestIn P h (Some p) = (p.section ≡ h) × P p.offset × ((o : ℕ) → P o → o < p.offset → ⊥)

-- An entry's tests, by their offset from its start; `added`: no relocation before changes its place.
abbrev pub entry_tests : List ℕ → ℕ → List Bool → Bool → ℕ → List (ℕ × Bool)
entry_tests b room symbols added r =
    (0, not added || not (nat_le (word_at b r + code_width (word_at b (r + 4) % 256)) room))
    ∷ (4, not ((word_at b (r + 4) % 256 == 0) || flag_at symbols (word_at b (r + 4) / 256)))
    ∷ []
