-- Two changes that are the same up to addresses of code, write by write.
use Rattle.std.specs.Prelude.{◌≡◌, ℕ, List, [], ◌∷◌, IsTrue, ⊤}
use Rattle.mark_word.specs.Words.{Word, Cell, is_word, is_cell}
use Rattle.thumb_table.specs.States.{Change, Exit, Falls, Jumps}
use Rattle.sim_charts.specs.Words.{Taking, SameWord, SameCell}

abbrev pub SameWrites : Taking → List (ℕ × Word) → List (ℕ × Word) → Type 0
SameWrites t [] [] = ⊤
SameWrites t (p ∷ ps) (q ∷ qs) = (p.0 ≡ q.0) × SameWord t p.1 q.1 × SameWrites t ps qs
SameWrites t [] (q ∷ qs) = ⊥
SameWrites t (p ∷ ps) [] = ⊥

abbrev pub SameStores : Taking → List (ℕ × Cell) → List (ℕ × Cell) → Type 0
SameStores t [] [] = ⊤
SameStores t (p ∷ ps) (q ∷ qs) = (p.0 ≡ q.0) × SameCell t p.1 q.1 × SameStores t ps qs
SameStores t [] (q ∷ qs) = ⊥
SameStores t (p ∷ ps) [] = ⊥

-- what is written are words, and what is stored are cells
abbrev pub AreWords : List (ℕ × Word) → Type 0
AreWords [] = ⊤
AreWords (p ∷ ps) = IsTrue (is_word p.1) × AreWords ps

abbrev pub AreCells : List (ℕ × Cell) → Type 0
AreCells [] = ⊤
AreCells (p ∷ ps) = IsTrue (is_cell p.1) × AreCells ps

-- both fall through, or both jump
abbrev pub SameKind : Exit → Exit → Type 0
SameKind Falls Falls = ⊤
SameKind (Jumps a) (Jumps b) = ⊤
SameKind Falls (Jumps b) = ⊥
SameKind (Jumps a) Falls = ⊥

pub record SameChange (t : Taking) (h g : Change) : Type 0 where
  pub regs : SameWrites t h.regs g.regs
  pub n : h.n ≡ g.n
  pub z : h.z ≡ g.z
  pub c : h.c ≡ g.c
  pub v : h.v ≡ g.v
  pub cells : SameStores t h.cells g.cells
  pub it : h.it ≡ g.it
  pub exit : SameKind h.exit g.exit
