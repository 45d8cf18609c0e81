-- The tests that find an object's address map and its rows.
use Rattle.std.specs.Prelude.{◌≡◌, ◌<◌, ◌+◌, ◌%◌, ◌++◌, ◌==◌, nat_lt, ◌&&◌, ◌||◌, ℕ, Bool, true, List, [], ◌∷◌, length, drop, get_or, filter, Option, Some, None, if◌then◌else◌}
use Rattle.std.specs.List.{list_all}
use Rattle.elf_model.specs.declared.objects.Section.{Section}
use Rattle.elf_model.specs.declared.objects.MapRow.{MapRow}
use Rattle.elf_model.specs.declared.objects.RowKind.{RowKind}
use Rattle.elf_model.specs.declared.objects.RowKind.TheVariants.{Start, Return}
use Rattle.elf_model.specs.Constants.{progbits}
use Rattle.elf_model.specs.Maps.{row_bytes, row_kind, RowFits, AreRows, is_map_named}

abbrev pub HasNoRows : List ℕ → Type 0
HasNoRows b = (rows : List MapRow) → AreRows b rows → ⊥

-- the first section from a number on that has the name
pub record IsNextAt (xs : List Section) (first k : ℕ) : Type 0 where
  pub s : Section
  pub inside : k < length xs
  pub there : (d : Section) → get_or xs k d ≡ s
  pub rest : filter is_map_named (drop first xs) ≡ s ∷ filter is_map_named (drop (k + 1) xs)

abbrev pub IsNext : List Section → ℕ → Option ℕ → Type 0
IsNext xs first None = filter is_map_named (drop first xs) ≡ []
IsNext xs first (Some k) = IsNextAt xs first k

-- the one section that has the name
pub record IsOnlyAt (xs : List Section) (k : ℕ) : Type 0 where
  pub s : Section
  pub inside : k < length xs
  pub there : (d : Section) → get_or xs k d ≡ s
  pub one : filter is_map_named xs ≡ s ∷ []

abbrev pub IsOnly : List Section → Option ℕ → Type 0
IsOnly xs None = (s : Section) → filter is_map_named xs ≡ s ∷ [] → ⊥
IsOnly xs (Some k) = IsOnlyAt xs k

abbrev pub is_plain : Section → Bool
is_plain s = (s.kind == progbits) && (s.flags == 0) && (s.entry == 16) && (length s.bytes % 16 == 0)

abbrev pub row_kind_of : ℕ → Option RowKind
row_kind_of code = if code == 0 then Some Start else if code == 1 then Some Return else None

-- a row that stands at a place
pub record IsRow (b : List ℕ) (at : ℕ) (r : MapRow) : Type 0 where
  pub bytes : drop at b ≡ row_bytes r ++ drop (at + 16) b
  pub fit : RowFits r

abbrev pub IsRowAt : List ℕ → ℕ → Option MapRow → Type 0
IsRowAt b at None = (r : MapRow) (rest : List ℕ) → drop at b ≡ row_bytes r ++ rest → ⊥
IsRowAt b at (Some r) = IsRow b at r

-- the test that a row stands before another
abbrev pub is_before : MapRow → MapRow → Bool
is_before a b = nat_lt a.section b.section || ((a.section == b.section) && (nat_lt a.old b.old || ((a.old == b.old) && nat_lt (row_kind a.kind) (row_kind b.kind))))

abbrev pub may_come : Option MapRow → MapRow → Bool
may_come None r = true
may_come (Some last) r = is_before last r

abbrev pub rising : List MapRow → Bool
rising [] = true
rising (r ∷ rest) = list_all (is_before r) rest && rising rest
