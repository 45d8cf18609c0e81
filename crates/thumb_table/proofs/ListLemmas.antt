-- The registers of a list, one after the other.
use Rattle.std.proofs.Common.{◌≡◌, ℕ, zero, suc, ◌+◌, ◌-◌, ◌*◌, ◌<◌, ◌≤◌, not, IsTrue, Bool, true, false, List, [], ◌∷◌, ◌++◌, length, filter, arith, refl, length-set}
use Rattle.std.specs.Prelude.{slice_set}
use Rattle.mark_word.specs.Words.{Word, Cell}
use Rattle.mark_word.specs.Marks.{pieces}
use Rattle.thumb_instr.specs.Operands.{has}
use Rattle.thumb_table.specs.Parts.{Memory, CodeBytes}
use Rattle.thumb_table.specs.States.{Core, read, store_all, write_all}
use Rattle.thumb_table.specs.Effects.{registers, loaded, stored, word_at, from}
use Rattle.thumb_table.specs.Ordinary.{AreWhole, OrdinaryReturn, OrdinaryList}

up_from : ℕ → ℕ → List ℕ
up_from k zero = []
up_from k (suc n) = k ∷ up_from (k + 1) n

-- the registers of a list from one on
pub rest : ℕ → ℕ → List ℕ
rest list k = filter (λ r. has list r) (up_from k (15 - k))

pub rest_first : (list : ℕ) → rest list 0 ≡ registers list
unfolding rest up_from registers
rest_first list = refl

pub rest_last : (list k : ℕ) → 15 ≤ k → rest list k ≡ []
unfolding rest up_from
rest_last list k le = let e : 15 - k ≡ 0 = omega arith in rw e refl

pub rest_has : (list k : ℕ) → k < 15 → has list k ≡ true → rest list k ≡ k ∷ rest list (k + 1)
unfolding rest up_from
rest_has list k lt h = let e : 15 - k ≡ suc (15 - (k + 1)) = omega arith in rw (e, h) refl

pub rest_lacks : (list k : ℕ) → k < 15 → has list k ≡ false → rest list k ≡ rest list (k + 1)
unfolding rest up_from
rest_lacks list k lt h = let e : 15 - k ≡ suc (15 - (k + 1)) = omega arith in rw (e, h) refl

pub store_all_behind : (base : ℕ) (xs ys : List (ℕ × Cell)) (cells : List Cell) → store_all base (xs ++ ys) cells ≡ store_all base ys (store_all base xs cells)
store_all_behind base [] ys cells = refl
store_all_behind base (x ∷ xs) ys cells = store_all_behind base xs ys (slice_set cells (x.0 - base) x.1)

pub length_stored : (base : ℕ) (xs : List (ℕ × Cell)) (cells : List Cell) → length (store_all base xs cells) ≡ length cells
length_stored base [] cells = refl
length_stored base (x ∷ xs) cells = grind (arith, length_stored base xs (slice_set cells (x.0 - base) x.1), length-set)

pub load_step : (m : Memory) (a list k : ℕ) (regs : List Word) → k < 15 → has list k ≡ true
    → write_all (loaded m a (rest list k)) regs ≡ write_all (loaded m (a + 4) (rest list (k + 1))) (slice_set regs k (word_at m a).word)
load_step m a list k regs lt h = rw (rest_has list k lt h) refl

pub store_step : (x : Core) (base a list k : ℕ) (cells : List Cell) → k < 15 → has list k ≡ true
    → store_all base (stored x a (rest list k)) cells ≡ store_all base (stored x (a + 4) (rest list (k + 1))) (store_all base (from a (pieces (read x k))) cells)
store_step x base a list k cells lt h = rw (rest_has list k lt h) (store_all_behind base (from a (pieces (read x k))) (stored x (a + 4) (rest list (k + 1))) cells)

pub whole_on : (m : Memory) (a list k : ℕ) → k < 15 → has list k ≡ true → (word_at m a).whole ≡ true → AreWhole m (a + 4) (rest list (k + 1)) → AreWhole m a (rest list k)
whole_on m a list k lt h whole behind = rw (rest_has list k lt h) (whole, behind)

pub whole_back : (m : Memory) (a list k : ℕ) → k < 15 → has list k ≡ true → AreWhole m a (rest list k) → ((word_at m a).whole ≡ true) × AreWhole m (a + 4) (rest list (k + 1))
whole_back m a list k lt h all = rw (rest_has list k lt h) at all

pub whole_last : (m : Memory) (a list k : ℕ) → 15 ≤ k → AreWhole m a (rest list k)
whole_last m a list k le = rw (rest_last list k le) tt

pub negated : (b : Bool) → not b ≡ true → b ≡ false
negated true h = cc
negated false h = refl

pub not_negated : (b : Bool) → not b ≡ false → b ≡ true
not_negated true h = refl
not_negated false h = cc

pub with_pc : (code : CodeBytes) (load pc : Bool) (a : ℕ) (rs : List ℕ) (m : Memory) (r : Bool) → load ≡ true → pc ≡ true → AreWhole m a rs
    → (IsTrue r → ((word_at m (a + 4 * length rs)).whole ≡ true) × OrdinaryReturn code (word_at m (a + 4 * length rs)).word) × (((word_at m (a + 4 * length rs)).whole ≡ true) × OrdinaryReturn code (word_at m (a + 4 * length rs)).word → IsTrue r)
    → (IsTrue r → OrdinaryList code load pc a rs m) × (OrdinaryList code load pc a rs m → IsTrue r)
with_pc code load pc a rs m r el ep whole last = rw (el, ep) (λ t. (whole, (last.0 t).0, (last.0 t).1), λ all. last.1 (all.1, all.2))
