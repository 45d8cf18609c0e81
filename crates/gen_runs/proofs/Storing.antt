-- Words on the stack: what is stored is there whole, and nothing beside it changes.
use Rattle.std.proofs.Common.{◌≡◌, ◌≢◌, ℕ, zero, suc, ◌+◌, ◌-◌, ◌^◌, ◌<◌, ◌≤◌, ◌⊎◌, inl, inr, true, List, [], ◌∷◌, length, get_or, refl, ◌∙◌, arith, get_or-set_same, get_or-set_other, length-set}
use Rattle.std.specs.Prelude.{slice_set}
use Rattle.mark_word.specs.Words.{Word, Cell, bare}
use Rattle.mark_word.specs.Marks.{pieces}
use Rattle.mark_word.proofs.Joining.{word_back}
use Rattle.thumb_table.specs.States.{store_all}
use Rattle.thumb_table.specs.Effects.{from, cell_at, word_at}
use Rattle.thumb_table.proofs.ListLemmas.{length_stored}
use Rattle.gen_runs.proofs.Standing.{stack_of}

-- one store
abbrev one_stored : ℕ → ℕ → Cell → List Cell → List Cell
one_stored b a c cells = slice_set cells (a - b) c

apart : (b a : ℕ) (cs cells : List Cell) (x : ℕ) → b ≤ a → b ≤ x → (x < a) ⊎ (a + length cs ≤ x)
    → get_or (store_all b (from a cs) cells) (x - b) (bare 0) ≡ get_or cells (x - b) (bare 0)
apart b a [] cells x low lowx side = refl
apart b a (c ∷ cs) cells x low lowx side =
    let ne : x - b ≢ a - b = λ e. elim side [ inl l ↦ absurd (omega arith) | inr l ↦ absurd (omega arith) ] in
    apart b (a + 1) cs (one_stored b a c cells) x (omega arith) lowx (elim side [ inl l ↦ inl (omega arith) | inr l ↦ inr (omega arith) ])
    ∙ get_or-set_other cells (a - b) (x - b) c (bare 0) ne

here : (b a : ℕ) (cs cells : List Cell) (j : ℕ) → b ≤ a → a + length cs ≤ b + length cells → j < length cs
    → get_or (store_all b (from a cs) cells) (a + j - b) (bare 0) ≡ get_or cs j (bare 0)
here b a [] cells j low fits lt = absurd (omega arith)
here b a (c ∷ cs) cells zero low fits lt =
    let e : a + 0 - b ≡ a - b = omega arith in
    let fit : a - b < length cells = omega arith in
    rw e (apart b (a + 1) cs (one_stored b a c cells) a (omega arith) low (inl (omega arith)) ∙ get_or-set_same cells (a - b) c (bare 0) fit)
here b a (c ∷ cs) cells (suc j) low fits lt =
    let e : a + suc j - b ≡ a + 1 + j - b = omega arith in
    let count = length-set cells (a - b) c in
    rw e (here b (a + 1) cs (one_stored b a c cells) j (omega arith) (omega arith) (omega arith))

-- The stack with a word stored.
abbrev pub with_word : Word → ℕ → List Cell → List Cell
with_word w a cells = store_all 557056 (from a (pieces w)) cells

pub with_word_length : (w : Word) (a : ℕ) (cells : List Cell) → length (with_word w a cells) ≡ length cells
with_word_length w a cells = length_stored 557056 (from a (pieces w)) cells

pub with_word_apart : (w : Word) (a : ℕ) (cells : List Cell) (x : ℕ) → 557056 ≤ a → 557056 ≤ x → (x < a) ⊎ (a + 4 ≤ x)
    → cell_at (stack_of (with_word w a cells)) x ≡ cell_at (stack_of cells) x
with_word_apart w a cells x low lowx side = apart 557056 a (pieces w) cells x low lowx side

-- four bytes of the stack that are a word's
pub record Has (cells : List Cell) (a : ℕ) (w : Word) : Type 0 where
  pub first : cell_at (stack_of cells) a ≡ get_or (pieces w) 0 (bare 0)
  pub second : cell_at (stack_of cells) (a + 1) ≡ get_or (pieces w) 1 (bare 0)
  pub third : cell_at (stack_of cells) (a + 2) ≡ get_or (pieces w) 2 (bare 0)
  pub fourth : cell_at (stack_of cells) (a + 3) ≡ get_or (pieces w) 3 (bare 0)

pub has_stored : (w : Word) (a : ℕ) (cells : List Cell) → 557056 ≤ a → a + 4 ≤ 557056 + length cells → Has (with_word w a cells) a w
has_stored w a cells low fits = record {
  first = let e : a + 0 ≡ a = omega arith in rw e at (here 557056 a (pieces w) cells 0 low fits (omega arith));
  second = here 557056 a (pieces w) cells 1 low fits (omega arith);
  third = here 557056 a (pieces w) cells 2 low fits (omega arith);
  fourth = here 557056 a (pieces w) cells 3 low fits (omega arith);
}

-- The stack is the same from an address on.
abbrev pub Same : ℕ → List Cell → List Cell → Type 0
Same a old new = (x : ℕ) → a ≤ x → cell_at (stack_of new) x ≡ cell_at (stack_of old) x

pub same_through : (a b : ℕ) (old mid new : List Cell) → b ≤ a → Same a old mid → Same b mid new → Same a old new
same_through a b old mid new le first second x from_a =
    let e : cell_at (stack_of new) x ≡ cell_at (stack_of mid) x = second x (omega arith) in
    let f : cell_at (stack_of mid) x ≡ cell_at (stack_of old) x = first x from_a in
    e ∙ f

pub has_kept : (old new : List Cell) (b a : ℕ) (w : Word) → b ≤ a → Same b old new → Has old a w → Has new a w
has_kept old new b a w le same has = record {
  first = same a (omega arith) ∙ has.first;
  second = same (a + 1) (omega arith) ∙ has.second;
  third = same (a + 2) (omega arith) ∙ has.third;
  fourth = same (a + 3) (omega arith) ∙ has.fourth;
}

-- it is loaded whole, with its mark
pub has_whole : (cells : List Cell) (a : ℕ) (w : Word) → w.bits < 2 ^ 32 → Has cells a w → word_at (stack_of cells) a ≡ record { word = w; whole = true }
has_whole cells a w small has = rw (has.first, has.second, has.third, has.fourth) (word_back w small)
