-- Stops, and the walk over instructions that do nothing.
use Rattle.std.proofs.Common.{◌≡◌, ℕ, zero, suc, ◌+◌, ◌-◌, ◌*◌, ◌<◌, ◌≤◌, Bool, List, length, get_or, Result, Ok, Err, MatchResult, IsTrue, ◌%◌, inl, inr, arith, add-zero, ap, refl}
use Rattle.std.specs.Prelude.{is_ok, Contains}
use Rattle.std.specs.List.Sorted.{IsStrictlyIncreasing}
use Rattle.std.proofs.lemmas.Grind.{get_or_default_zero}
use Rattle.std.proofs.lemmas.Bool.{false≢true}
use Rattle.thumb_table.specs.Parts.{CodeBytes}
use Rattle.thumb_table.specs.Ordinary.{IsNop, IsClear, OrdinaryReturn}
use Rattle.mark_word.specs.Words.{Word}
use Rattle.mark_word.specs.declared.marks.Mark.TheVariants.{Return}

-- numbers that rise strictly rise over any distance
pub rises_by : (xs : List ℕ) → IsStrictlyIncreasing xs → (i d : ℕ) → i + d < length xs → get_or xs i 0 ≤ get_or xs (i + d) 0
rises_by xs h i zero lt = rw add-zero (omega arith)
rises_by xs h i (suc d) lt =
    let e : i + suc d ≡ i + d + 1 = omega arith in rw e (omega (arith, rises_by xs h i d (omega arith), h (i + d) (omega arith)))

pub rises : (xs : List ℕ) → IsStrictlyIncreasing xs → (i j : ℕ) → i ≤ j → j < length xs → get_or xs i 0 ≤ get_or xs j 0
rises xs h i j le lt = let e : i + (j - i) ≡ j = omega arith in omega (arith, rises_by xs h i (j - i) (omega arith), ap (λ k. get_or xs k 0) e)

-- what a search finds is there
pub found : (xs : List ℕ) (x : ℕ) (r : Result ℕ ℕ)
    → MatchResult r (λ i. (i < length xs) × (get_or xs i 0 ≡ x)) (λ i. (i ≤ length xs) × ((k : ℕ) → k < i → get_or xs k 0 < x) × ((k : ℕ) → i ≤ k → k < length xs → x < get_or xs k 0))
    → (IsTrue (is_ok r) → Contains xs x) × (Contains xs x → IsTrue (is_ok r))
found xs x (Ok i) m = (λ _. (i, m.0, omega (arith, get_or_default_zero xs i x m.0, m.1)), λ _. refl)
found xs x (Err i) m = (
  λ t. absurd (false≢true t),
  λ there.
      let same = get_or_default_zero xs there.0 x there.1 in
      let never : there.0 < i → ⊥ = λ lt. absurd (omega (arith, m.1 there.0 lt, same, there.2)) in
      let behind : i ≤ there.0 = omega (arith, never) in
      absurd (omega (arith, m.2 there.0 behind there.1, same, there.2)),
)

-- no stop is reached from a place where none is, and from which no walk goes on
pub clear_here : (code : CodeBytes) (a : ℕ) → (Contains code.stops a → ⊥) → (IsNop code a → ⊥) → IsClear code a
clear_here code a free ends zero walk there = free (rw add-zero at there)
clear_here code a free ends (suc k) walk there = ends (rw add-zero at (walk 0 (omega arith)))

pub not_clear : (code : CodeBytes) (a : ℕ) → Contains code.stops a → IsClear code a → ⊥
not_clear code a there clear = clear 0 (λ j lt. absurd (omega arith)) (rw add-zero there)

pub clear_next : (code : CodeBytes) (a : ℕ) → (Contains code.stops a → ⊥) → IsNop code a → IsClear code (a + 2) → IsClear code a
clear_next code a free nop clear zero walk there = free (rw add-zero at there)
clear_next code a free nop clear (suc k) walk there =
    let e : a + 2 * suc k ≡ a + 2 + 2 * k = omega arith in
    clear k (λ j lt. let f : a + 2 * suc j ≡ a + 2 + 2 * j = omega arith in rw f at (walk (suc j) (omega arith))) (rw e at there)

pub clear_before : (code : CodeBytes) (a : ℕ) → IsNop code a → IsClear code a → IsClear code (a + 2)
clear_before code a nop clear k walk there =
    let e : a + 2 * suc k ≡ a + 2 + 2 * k = omega arith in
    clear (suc k) (nops) (rw e there)
  where
    nops : (j : ℕ) → j < suc k → IsNop code (a + 2 * j)
    nops zero lt = rw add-zero nop
    nops (suc j) lt = let f : a + 2 * suc j ≡ a + 2 + 2 * j = omega arith in rw f (walk j (omega arith))

-- a return that goes to where a walk starts
pub ordinary_return : (code : CodeBytes) (w : Word) (a : ℕ) (clear : Bool) → w.mark ≡ Return a → (w.bits ≡ 0x7FFFFFFF → ⊥) → (IsTrue clear → IsClear code (w.bits - w.bits % 2)) × (IsClear code (w.bits - w.bits % 2) → IsTrue clear)
    → (IsTrue clear → OrdinaryReturn code w) × (OrdinaryReturn code w → IsTrue clear)
ordinary_return code w a clear mark other walk = (
  λ t. ((a, mark), inr (walk.0 t)),
  λ o. elim o.1 [ inl e ↦ absurd (other e) | inr c ↦ walk.1 c ],
)
