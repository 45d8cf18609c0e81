-- Memory that is the same up to the addresses of code.
use Rattle.std.proofs.Common.{◌≡◌, ℕ, ◌+◌, ◌-◌, ◌*◌, inl, inr, true, List, [], ◌∷◌, ◌++◌, length, None, refl, sym, ap, ◌∙◌, subst, arith, IsTrue, get_or}
use Rattle.std.specs.Prelude.{nat_le, ◌&&◌}
use Rattle.std.proofs.lemmas.Bool.{cases_lt}
use Rattle.std.proofs.lemmas.List.{get_or_past}
use Rattle.mark_word.specs.Words.{Word, Cell, bare, is_word, is_cell}
use Rattle.mark_word.specs.Marks.{pieces}
use Rattle.thumb_table.specs.Parts.{Memory}
use Rattle.thumb_table.specs.States.{Core, read}
use Rattle.thumb_table.specs.Effects.{lies_in, cell_at, word_at, half_at, from, loaded, stored}
use Rattle.thumb_table.specs.Ordinary.{AreWhole, AreBare}
use Rattle.sim_charts.specs.Words.{SameWord, SameCell, SameMemory}
use Rattle.sim_steps.proofs.Following.{Lawful}
use Rattle.sim_charts.specs.Changes.{SameWrites, SameStores, AreWords, AreCells}
use Rattle.seq_core.proofs.Tests.{ap₂}
use Rattle.seq_core.proofs.Lists.{Each}
use Rattle.sim_steps.proofs.Words.{Bytes, join_same, join_word, pieces_same, pieces_cells}

-- every byte is a cell
abbrev pub AreAllCells : Memory → Type 0
AreAllCells m = (k : ℕ) → IsTrue (is_cell (get_or m.cells k (bare 0)))

pub cell_same : (t : Lawful) (m l : Memory) → SameMemory t.taking m l → (a : ℕ) → SameCell t.taking (cell_at m a) (cell_at l a)
cell_same t m l s a =
    subst (λ b. SameCell t.taking (cell_at m a) (get_or l.cells (a - b) (bare 0))) (sym s.base)
    (elim (cases_lt (a - m.base) (length m.cells)) [
      | inl h ↦ s.cells (a - m.base) h
      | inr h ↦
          let p : get_or m.cells (a - m.base) (bare 0) ≡ bare 0 = get_or_past m.cells (a - m.base) (bare 0) h in
          let z = s.size in
          let q : get_or l.cells (a - m.base) (bare 0) ≡ bare 0 = get_or_past l.cells (a - m.base) (bare 0) (omega arith) in
          rw (p, q) refl
    ])

pub lies_same : (t : Lawful) (m l : Memory) → SameMemory t.taking m l → (a n : ℕ) → lies_in l a n ≡ lies_in m a n
lies_same t m l s a n = ap₂ (λ b z. nat_le b a && nat_le (a + n) (b + z)) s.base s.size

bytes_at : (t : Lawful) (m l : Memory) → SameMemory t.taking m l → AreAllCells m → (a : ℕ) → Bytes t (cell_at m a) (cell_at m (a + 1)) (cell_at m (a + 2)) (cell_at m (a + 3)) (cell_at l a) (cell_at l (a + 1)) (cell_at l (a + 2)) (cell_at l (a + 3))
bytes_at t m l s c a = record {
  first = cell_same t m l s a;
  second = cell_same t m l s (a + 1);
  third = cell_same t m l s (a + 2);
  fourth = cell_same t m l s (a + 3);
  first_is = c (a - m.base);
  second_is = c (a + 1 - m.base);
  third_is = c (a + 2 - m.base);
  fourth_is = c (a + 3 - m.base);
}

pub word_same : (t : Lawful) (m l : Memory) → SameMemory t.taking m l → AreAllCells m → (a : ℕ) → (word_at m a).whole ≡ true → SameWord t.taking (word_at m a).word (word_at l a).word
word_same t m l s c a w = join_same t _ _ _ _ _ _ _ _ (bytes_at t m l s c a) w

pub word_is : (t : Lawful) (m l : Memory) → SameMemory t.taking m l → AreAllCells m → (a : ℕ) → (word_at m a).whole ≡ true → IsTrue (is_word (word_at m a).word)
word_is t m l s c a w = join_word t _ _ _ _ _ _ _ _ (bytes_at t m l s c a) w

bare_same : (t : Lawful) (c d : Cell) → c.piece ≡ None → SameCell t.taking c d → c.byte ≡ d.byte
bare_same t c d p s = rw p at s

pub byte_same : (t : Lawful) (m l : Memory) → SameMemory t.taking m l → (a : ℕ) → AreBare m a 1 → (cell_at m a).byte ≡ (cell_at l a).byte
byte_same t m l s a b =
    let e : a + 0 ≡ a = omega arith in
    bare_same t (cell_at m a) (cell_at l a) (ap (λ a. (cell_at m a).piece) (sym e) ∙ b 0 (omega arith)) (cell_same t m l s a)

pub half_same : (t : Lawful) (m l : Memory) → SameMemory t.taking m l → (a : ℕ) → AreBare m a 2 → half_at m a ≡ half_at l a
half_same t m l s a b =
    ap₂ (λ p q. p + 256 * q) (byte_same t m l s a (λ k h. b k (omega arith)))
    (bare_same t (cell_at m (a + 1)) (cell_at l (a + 1)) (b 1 (omega arith)) (cell_same t m l s (a + 1)))

pub loaded_same : (t : Lawful) (m l : Memory) → SameMemory t.taking m l → AreAllCells m → (a : ℕ) (rs : List ℕ) → AreWhole m a rs → SameWrites t.taking (loaded m a rs) (loaded l a rs)
loaded_same t m l s c a [] w = tt
loaded_same t m l s c a (r ∷ rs) w = (refl, word_same t m l s c a w.0, loaded_same t m l s c (a + 4) rs w.1)

pub loaded_words : (t : Lawful) (m l : Memory) → SameMemory t.taking m l → AreAllCells m → (a : ℕ) (rs : List ℕ) → AreWhole m a rs → AreWords (loaded m a rs)
loaded_words t m l s c a [] w = tt
loaded_words t m l s c a (r ∷ rs) w = (word_is t m l s c a w.0, loaded_words t m l s c (a + 4) rs w.1)

append_stores : (t : Lawful) (a b c d : List (ℕ × Cell)) → SameStores t.taking a b → SameStores t.taking c d → SameStores t.taking (a ++ c) (b ++ d)
append_stores t [] [] c d h g = g
append_stores t (p ∷ a) (q ∷ b) c d h g = (h.0, h.1, append_stores t a b c d h.2 g)
append_stores t [] (q ∷ b) c d h g = absurd h
append_stores t (p ∷ a) [] c d h g = absurd h

pub append_writes : (t : Lawful) (a b c d : List (ℕ × Word)) → SameWrites t.taking a b → SameWrites t.taking c d → SameWrites t.taking (a ++ c) (b ++ d)
append_writes t [] [] c d h g = g
append_writes t (p ∷ a) (q ∷ b) c d h g = (h.0, h.1, append_writes t a b c d h.2 g)
append_writes t [] (q ∷ b) c d h g = absurd h
append_writes t (p ∷ a) [] c d h g = absurd h

pub append_words : (a b : List (ℕ × Word)) → AreWords a → AreWords b → AreWords (a ++ b)
append_words [] b h g = g
append_words (p ∷ a) b h g = (h.0, append_words a b h.1 g)

pub stored_same : (t : Lawful) (x y : Core) (a : ℕ) (rs : List ℕ) → Each (λ r. SameWord t.taking (read x r) (read y r)) rs → SameStores t.taking (stored x a rs) (stored y a rs)
stored_same t x y a [] h = tt
stored_same t x y a (r ∷ rs) h = append_stores t (from a (pieces (read x r))) (from a (pieces (read y r))) (stored x (a + 4) rs) (stored y (a + 4) rs) (pieces_same t (read x r) (read y r) a h.0) (stored_same t x y (a + 4) rs h.1)

append_cells : (a b : List (ℕ × Cell)) → AreCells a → AreCells b → AreCells (a ++ b)
append_cells [] b h g = g
append_cells (p ∷ a) b h g = (h.0, append_cells a b h.1 g)

pub stored_cells : (x : Core) → ((r : ℕ) → IsTrue (is_word (read x r))) → (a : ℕ) (rs : List ℕ) → AreCells (stored x a rs)
stored_cells x k a [] = tt
stored_cells x k a (r ∷ rs) = append_cells (from a (pieces (read x r))) (stored x (a + 4) rs) (pieces_cells (read x r) a (k r)) (stored_cells x k (a + 4) rs)
