-- The tests for sameness say what they are to.
use Rattle.std.specs.Prelude.{◌≡◌, ◌↔◌, ◌<◌, ℕ, ◌+◌, ◌%◌, ◌==◌, ◌&&◌, Bool, true, false, List, [], ◌∷◌, length, get_or, Option, Some, None, IsTrue, Contains, refl}
use Rattle.std.specs.List.{list_any}
use Rattle.std.proofs.Common.{arith, inl, inr, ap, sym, ◌∙◌, subst}
use Rattle.std.proofs.lemmas.Bool.{and_parts, and_from, or_cases, or_left, or_right, eqb-true, eq-eqb, both_ways, cases_lt}
use Rattle.std.proofs.lemmas.List.Folds.{list_any_at}
use Rattle.elf_model.proofs.Elements.{contains_here, contains_later}
use Rattle.mark_word.specs.Words.{Cell, byte_of, bare, is_cell, is_piece_of}
use Rattle.mark_word.specs.declared.cells.Piece.{Piece}
use Rattle.mark_word.specs.declared.marks.Mark.{Mark}
use Rattle.mark_word.specs.declared.marks.Mark.TheVariants.{Plain, Entry, Return, Low}
use Rattle.thumb_table.specs.Images.{even}
use Rattle.thumb_table.specs.States.{State, read}
use Rattle.sim_charts.specs.Words.{SameBits, SameWord, SameByte, SameCell}
use Rattle.sim_relation.specs.declared.address_maps.Taken.{Taken}
use Rattle.sim_relation.specs.Taken.{MapParts, TakenTo}
use Rattle.sim_relation.specs.Same.{by_map, seen, shows, is_shown, is_same_number, is_same_word, is_same_byte, is_same_cell, IsSame}

any_there : {X : Type 0} (t : X → Bool) (xs : List X) → list_any t xs ≡ true → (x : X) × Contains xs x × (t x ≡ true)
any_there t [] e = absurd (both_ways (list_any t []) refl e)
any_there t (x ∷ xs) e =
    elim (or_cases (t x) (list_any t xs) e) [
      | inl a ↦ (x, contains_here x xs, a)
      | inr b ↦ let q = any_there t xs b in (q.0, contains_later x xs q.0 q.1, q.2)
    ]

any_from : {X : Type 0} (t : X → Bool) (xs : List X) (x : X) → Contains xs x → t x ≡ true → list_any t xs ≡ true
any_from t xs x (i, l, e) h = list_any_at t xs i x l (ap t e ∙ h)

-- what is seen of an address that another one is taken to
abbrev pub Shown : List Taken → Bool → Option ℕ → ℕ → ℕ → Type 0
Shown list low index a shown = (word : ℕ) × TakenTo list a word × (seen low index word ≡ shown)

shown_is : (list : List Taken) (low : Bool) (index : Option ℕ) (a shown : ℕ) → is_shown list low index a shown ≡ true → Shown list low index a shown
shown_is list low index a shown e =
    elim (or_cases ((a == 0x7FFFFFFF) && (seen low index 0x7FFFFFFF == shown)) (list_any (shows low index a shown) list) e) [
      | inl b ↦
          let p = and_parts (a == 0x7FFFFFFF) (seen low index 0x7FFFFFFF == shown) b in
          (0x7FFFFFFF, inl (eqb-true a 0x7FFFFFFF p.0, refl), eqb-true (seen low index 0x7FFFFFFF) shown p.1)
      | inr c ↦
          let t = any_there (shows low index a shown) list c in
          let p = and_parts (t.0.from == even a) (seen low index (even t.0.to + a % 2) == shown) t.2 in
          (even t.0.to + a % 2, inr (t.0, t.1, eqb-true t.0.from (even a) p.0, refl), eqb-true (seen low index (even t.0.to + a % 2)) shown p.1)
    ]

is_shown_by : (list : List Taken) (low : Bool) (index : Option ℕ) (a shown word : ℕ) → TakenTo list a word → seen low index word ≡ shown → is_shown list low index a shown ≡ true
is_shown_by list low index a shown word (inl end) e =
    or_left ((a == 0x7FFFFFFF) && (seen low index 0x7FFFFFFF == shown)) (list_any (shows low index a shown) list)
    (and_from (a == 0x7FFFFFFF) (seen low index 0x7FFFFFFF == shown) (eq-eqb a 0x7FFFFFFF end.0) (eq-eqb (seen low index 0x7FFFFFFF) shown (ap (seen low index) (sym end.1) ∙ e)))
is_shown_by list low index a shown word (inr t) e =
    or_right ((a == 0x7FFFFFFF) && (seen low index 0x7FFFFFFF == shown)) (list_any (shows low index a shown) list)
    (any_from (shows low index a shown) list t.0 t.1
    (and_from (t.0.from == even a) (seen low index (even t.0.to + a % 2) == shown) (eq-eqb t.0.from (even a) t.2) (eq-eqb (seen low index (even t.0.to + a % 2)) shown (ap (seen low index) (sym t.3) ∙ e))))

word_is : (m : MapParts) (k : Mark) (b h : ℕ) → is_same_number m None k b h ≡ true → SameBits (by_map m) k b h
word_is m Plain b h e = eqb-true b h e
word_is m (Entry a) b h e = let s = shown_is m.entries false None a h e in subst (TakenTo m.entries a) s.2 s.1
word_is m (Return a) b h e = let s = shown_is m.returns false None a h e in subst (TakenTo m.returns a) s.2 s.1
word_is m (Low a) b h e = let s = shown_is m.entries true None a h e in (s.0, s.1, sym s.2)

word_from : (m : MapParts) (k : Mark) (b h : ℕ) → SameBits (by_map m) k b h → is_same_number m None k b h ≡ true
word_from m Plain b h s = eq-eqb b h s
word_from m (Entry a) b h s = is_shown_by m.entries false None a h h s refl
word_from m (Return a) b h s = is_shown_by m.returns false None a h h s refl
word_from m (Low a) b h s = is_shown_by m.entries true None a h s.0 s.1 (sym s.2)

-- of a piece, which has a mark
piece_is : (m : MapParts) (k : Mark) (n b h : ℕ) → IsTrue (is_piece_of b (Some (record { mark = k; index = n }))) → is_same_number m (Some n) k b h ≡ true
    → (bits word : ℕ) × SameBits (by_map m) k bits word × (h ≡ byte_of n word)
piece_is m Plain n b h t e = absurd (both_ways false refl t)
piece_is m (Entry a) n b h t e = let s = shown_is m.entries false (Some n) a h e in (0, s.0, s.1, sym s.2)
piece_is m (Return a) n b h t e = let s = shown_is m.returns false (Some n) a h e in (0, s.0, s.1, sym s.2)
piece_is m (Low a) n b h t e = let s = shown_is m.entries true (Some n) a h e in (0, s.0 % 65536, (s.0, s.1, refl), sym s.2)

piece_from : (m : MapParts) (k : Mark) (n b h : ℕ) → IsTrue (is_piece_of b (Some (record { mark = k; index = n }))) → (bits word : ℕ) → SameBits (by_map m) k bits word → h ≡ byte_of n word
    → is_same_number m (Some n) k b h ≡ true
piece_from m Plain n b h t bits word s e = absurd (both_ways false refl t)
piece_from m (Entry a) n b h t bits word s e = is_shown_by m.entries false (Some n) a h word s (sym e)
piece_from m (Return a) n b h t bits word s e = is_shown_by m.returns false (Some n) a h word s (sym e)
piece_from m (Low a) n b h t bits word s e = is_shown_by m.entries true (Some n) a h s.0 s.1 (ap (byte_of n) (sym s.2) ∙ sym e)

pub cell_is : (m : MapParts) (c d : Cell) → IsTrue (is_cell c) → is_same_cell m c d ≡ true → SameCell (by_map m) c d
cell_is m c d = go c.piece
  where
    go : (p : Option Piece) → IsTrue (is_piece_of c.byte p) → is_same_byte m p c.byte d.byte ≡ true → SameByte (by_map m) p c.byte d.byte
    go None t e = eqb-true c.byte d.byte e
    go (Some p) t e = piece_is m p.mark p.index c.byte d.byte t e

pub cell_from : (m : MapParts) (c d : Cell) → IsTrue (is_cell c) → SameCell (by_map m) c d → is_same_cell m c d ≡ true
cell_from m c d = go c.piece
  where
    go : (p : Option Piece) → IsTrue (is_piece_of c.byte p) → SameByte (by_map m) p c.byte d.byte → is_same_byte m p c.byte d.byte ≡ true
    go None t e = eq-eqb c.byte d.byte e
    go (Some p) t s = piece_from m p.mark p.index c.byte d.byte t s.0 s.1 s.2 s.3

-- The tests on registers, and what is asked of memory
pub record AreTested (m : MapParts) (s t : State) : Type 0 where
  pub registers : (r : ℕ) → r < 12 → is_same_word m (read s.core r) (read t.core r) ≡ true
  pub stack : is_same_word m (read s.core 13) (read t.core 13) ≡ true
  pub base : t.core.memory.base ≡ s.core.memory.base
  pub size : length t.core.memory.cells ≡ length s.core.memory.cells
  pub cells : (k : ℕ) → k < length s.core.memory.cells → SameCell (by_map m) (get_or s.core.memory.cells k (bare 0)) (get_or t.core.memory.cells k (bare 0))

module _ (m : MapParts) (s t : State) where
  pub same_is : AreTested m s t → IsSame m s t
  same_is e = record {
    given = λ r low. word_is m (read s.core r).mark (read s.core r).bits (read t.core r).bits (e.registers r (omega arith));
    kept = λ r low high. word_is m (read s.core r).mark (read s.core r).bits (read t.core r).bits (e.registers r high);
    stack = word_is m (read s.core 13).mark (read s.core 13).bits (read t.core 13).bits e.stack;
    memory = record { base = e.base; size = e.size; cells = e.cells };
  }

  pub same_from : IsSame m s t → AreTested m s t
  same_from e = record {
    registers = λ r low. word_from m (read s.core r).mark (read s.core r).bits (read t.core r).bits (word r low);
    stack = word_from m (read s.core 13).mark (read s.core 13).bits (read t.core 13).bits e.stack;
    base = e.memory.base;
    size = e.memory.size;
    cells = e.memory.cells;
  }
    where
      word : (r : ℕ) → r < 12 → SameWord (by_map m) (read s.core r) (read t.core r)
      word r low = elim (cases_lt r 4) [ inl l ↦ e.given r l | inr h ↦ e.kept r h low ]

  -- together
  pub all_tested : (a r k y : Bool) → a ≡ (r && (k && y)) → ((r ≡ true) ↔ ((n : ℕ) → n < 12 → is_same_word m (read s.core n) (read t.core n) ≡ true)) → k ≡ is_same_word m (read s.core 13) (read t.core 13)
      → ((y ≡ true) ↔ ((t.core.memory.base ≡ s.core.memory.base) × (length t.core.memory.cells ≡ length s.core.memory.cells)
      × ((n : ℕ) → n < length s.core.memory.cells → SameCell (by_map m) (get_or s.core.memory.cells n (bare 0)) (get_or t.core.memory.cells n (bare 0))))) → (a ≡ true) ↔ IsSame m s t
  all_tested a r k y all registers stack memory = (there, back)
    where
      there : a ≡ true → IsSame m s t
      there e =
          let p = and_parts r (k && y) (sym all ∙ e) in
          let q = and_parts k y p.1 in
          let w = memory.0 q.1 in
          same_is (record { registers = registers.0 p.0; stack = sym stack ∙ q.0; base = w.0; size = w.1; cells = w.2 })

      back : IsSame m s t → a ≡ true
      back e =
          let w = same_from e in
          all ∙ and_from r (k && y) (registers.1 w.registers) (and_from k y (stack ∙ w.stack) (memory.1 (w.base, w.size, w.cells)))
