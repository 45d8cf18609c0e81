-- Each function's first and last step: its frame is put on the stack, and taken off.
use Rattle.std.proofs.Common.{◌≡◌, ℕ, ◌+◌, ◌-◌, ◌%◌, ◌^◌, ◌<◌, ◌≤◌, inl, inr, Bool, true, List, [], ◌∷◌, length, Ok, refl, sym, ap, ◌∙◌, subst, arith, eq-eqb}
use Rattle.std.specs.Prelude.{All, ◌==◌}
use Rattle.std.proofs.lemmas.List.Elements.{All-nil, All-cons}
use Rattle.mark_word.specs.declared.cells.Joined.{Joined}
use Rattle.mark_word.specs.Words.{Word, Cell, plain}
use Rattle.thumb_instr.specs.Operands.{has}
use Rattle.thumb_table.specs.Parts.{CodeBytes}
use Rattle.thumb_table.specs.States.{at, Site, read, upright}
use Rattle.thumb_table.specs.Effects.{change, registers, lies_in, word_at, on_words, and_next, jump_if, after_base, writing}
use Rattle.thumb_table.specs.Ordinary.{IsPlain, IsOrdinaryUse, OrdinaryReturn, OrdinaryList}
use Rattle.thumb_table.specs.Steps.{settled}
use Rattle.thumb_table.proofs.MemoryLemmas.{lies_where}
use Rattle.gen_flow.specs.GeneratedCode.{pushes, returns}
use Rattle.gen_runs.proofs.Standing.{Numbers, core, stack_of}
use Rattle.gen_runs.proofs.Storing.{with_word, with_word_length, with_word_apart, Has, has_stored, has_kept, has_whole, Same}

-- a place for a frame below sp
pub record Room (a sp : ℕ) (cells : List Cell) : Type 0 where
  pub below : a + 8 ≡ sp
  pub aligned : a % 4 ≡ 0
  pub low : 557056 ≤ a
  pub high : sp ≤ 557056 + 65536
  pub count : length cells ≡ 65536

-- a word that a function may return by
pub record IsLink (code : CodeBytes) (lr : Word) : Type 0 where
  pub odd : lr.bits % 2 ≡ 1
  pub small : lr.bits < 2 ^ 32
  pub ordinary : OrdinaryReturn code lr

abbrev pub pushed : Word → ℕ → List Cell → List Cell
pushed lr a cells = with_word lr (a + 4) (with_word (plain 0) a cells)

-- a frame that stands on the stack
pub record Framed (a : ℕ) (lr : Word) (cells : List Cell) : Type 0 where
  pub kept : Has cells a (plain 0)
  pub back : Has cells (a + 4) lr

pub pushed_count : (lr : Word) (a : ℕ) (cells : List Cell) → length (pushed lr a cells) ≡ length cells
pushed_count lr a cells = with_word_length lr (a + 4) (with_word (plain 0) a cells) ∙ with_word_length (plain 0) a cells

-- what lies above stays
pub pushed_same : (lr : Word) (a sp : ℕ) (cells : List Cell) → Room a sp cells → Same sp cells (pushed lr a cells)
pushed_same lr a sp cells room x le =
    let below = room.below in
    let low = room.low in
    with_word_apart lr (a + 4) (with_word (plain 0) a cells) x (omega arith) (omega arith) (inr (omega arith))
    ∙ with_word_apart (plain 0) a cells x low (omega arith) (inr (omega arith))

pub pushed_framed : (lr : Word) (a sp : ℕ) (cells : List Cell) → Room a sp cells → Framed a lr (pushed lr a cells)
pushed_framed lr a sp cells room =
    let below = room.below in
    let low = room.low in
    let high = room.high in
    let count = room.count in
    let inner = with_word (plain 0) a cells in
    let inner_count = with_word_length (plain 0) a cells in
    let first = has_stored (plain 0) a cells low (omega arith) in
    record {
      kept = record {
        first = with_word_apart lr (a + 4) inner a (omega arith) low (inl (omega arith)) ∙ first.first;
        second = with_word_apart lr (a + 4) inner (a + 1) (omega arith) (omega arith) (inl (omega arith)) ∙ first.second;
        third = with_word_apart lr (a + 4) inner (a + 2) (omega arith) (omega arith) (inl (omega arith)) ∙ first.third;
        fourth = with_word_apart lr (a + 4) inner (a + 3) (omega arith) (omega arith) (inl (omega arith)) ∙ first.fourth;
      };
      back = has_stored lr (a + 4) inner (omega arith) (omega arith);
    }

pub framed_kept : (a : ℕ) (lr : Word) (old new : List Cell) → Same a old new → Framed a lr old → Framed a lr new
framed_kept a lr old new same f = record { kept = has_kept old new a a (plain 0) (omega arith) same f.kept; back = has_kept old new a (a + 4) lr (omega arith) same f.back }

stack_used : (w : Numbers) (sp : ℕ) (lr : Word) (cells : List Cell) → All (λ r. IsPlain (read (core w sp lr cells) r).mark) (13 ∷ [])
stack_used w sp lr cells =
    let P : ℕ → Type 0 = λ r. IsPlain (read (core w sp lr cells) r).mark in
    All-cons P 13 [] refl (All-nil P)

pub push_changes : (site : Site) (next : ℕ) (w : Numbers) (a sp : ℕ) (lr : Word) (cells : List Cell) → Room a sp cells
    → settled next (core w sp lr cells) (change pushes site (core w sp lr cells)) ≡ Ok (at next (core w a lr (pushed lr a cells)))
unfolding change registers has
push_changes site next w a sp lr cells room =
    let below = room.below in
    let low = room.low in
    let high = room.high in
    let count = room.count in
    let down : (sp + 2 ^ 32 - 8) % 2 ^ 32 ≡ a = omega arith in
    let lies : lies_in (stack_of cells) a 8 ≡ true = lies_where (stack_of cells) a 8 low (omega arith) in
    let even : (a % 4 == 0) ≡ true = eq-eqb (a % 4) 0 room.aligned in
    rw (down, lies, even) refl

pub push_ordinary : (site : Site) (w : Numbers) (sp : ℕ) (lr : Word) (cells : List Cell) → IsOrdinaryUse pushes site (core w sp lr cells)
push_ordinary site w sp lr cells = record { numbers = stack_used w sp lr cells; proper = tt }

pop_made : (j k : Joined) (next : ℕ) (w : Numbers) (a sp : ℕ) (lr link : Word) (cells : List Cell) → j ≡ record { word = plain 0; whole = true } → k ≡ record { word = lr; whole = true }
    → lies_in (stack_of cells) a 8 ≡ true → (a % 4 == 0) ≡ true → (sp % 4 == 0) ≡ true → (lr.bits % 2 == 1) ≡ true
    → settled next (core w a link cells) (on_words (stack_of cells) a 8 (and_next (upright (after_base ((13, plain sp) ∷ []) (writing ((4, j.word) ∷ [])))) (λ h. jump_if true k.word.bits h)))
    ≡ Ok (at (lr.bits - 1) (core w sp link cells))
pop_made j k next w a sp lr link cells ej ek lies even up odd = rw (ej, ek, lies, even, up, odd) refl

pub pop_changes : (code : CodeBytes) (site : Site) (next : ℕ) (w : Numbers) (a sp : ℕ) (lr link : Word) (cells : List Cell) → Room a sp cells → IsLink code lr → Framed a lr cells
    → settled next (core w a link cells) (change returns site (core w a link cells)) ≡ Ok (at (lr.bits - 1) (core w sp link cells))
unfolding change registers has
pop_changes code site next w a sp lr link cells room ok framed =
    let below = room.below in
    let low = room.low in
    let high = room.high in
    let count = room.count in
    let aligned = room.aligned in
    let same : a % 2 ^ 32 ≡ a = omega arith in
    let up : (a + 8) % 2 ^ 32 ≡ sp = omega arith in
    let lies : lies_in (stack_of cells) a 8 ≡ true = lies_where (stack_of cells) a 8 low (omega arith) in
    let even : (a % 4 == 0) ≡ true = eq-eqb (a % 4) 0 aligned in
    let above : (sp % 4 == 0) ≡ true = eq-eqb (sp % 4) 0 (omega arith) in
    let odd : (lr.bits % 2 == 1) ≡ true = eq-eqb (lr.bits % 2) 1 ok.odd in
    rw (same, up)
    (pop_made (word_at (stack_of cells) a) (word_at (stack_of cells) (a + 4)) next w a sp lr link cells (has_whole cells a (plain 0) (omega arith) framed.kept) (has_whole cells (a + 4) lr ok.small framed.back) lies even above odd)

pub pop_ordinary : (site : Site) (w : Numbers) (a sp : ℕ) (lr link : Word) (cells : List Cell) → Room a sp cells → IsLink site.code lr → Framed a lr cells → IsOrdinaryUse returns site (core w a link cells)
unfolding registers has
pop_ordinary site w a sp lr link cells room ok framed =
    let below = room.below in
    let high = room.high in
    let same : a ≡ a % 2 ^ 32 = omega arith in
    let first = has_whole cells a (plain 0) (omega arith) framed.kept in
    let second = has_whole cells (a + 4) lr ok.small framed.back in
    let whole : Joined → Bool = λ j. j.whole in
    let word : Joined → Word = λ j. j.word in
    record {
      numbers = stack_used w a link cells;
      proper = subst (λ n. OrdinaryList site.code true true n (4 ∷ []) (stack_of cells)) same ((ap whole first, tt), ap whole second, subst (OrdinaryReturn site.code) (sym (ap word second)) ok.ordinary);
    }
