-- Plans that are drawn from a seed.
use Rattle.std.specs.Prelude.{◌≡◌, ◌↔◌, ◌<◌, ℕ, zero, suc, ◌+◌, ◌-◌, ◌*◌, ◌%◌, ◌^◌, ◌&&◌, Bool, true, false, List}
use Rattle.std.specs.List.Sorted.{IsStrictlyIncreasing}
use Rattle.mark_word.specs.Formulas.{bit}
use Rattle.thumb_table.specs.Schedules.{is_in}

abbrev pub next_draw : ℕ → ℕ
next_draw x = (1664525 * x + 1013904223) % 2 ^ 32

-- the number after so many draws
abbrev pub draws : ℕ → ℕ → ℕ
draws seed zero = seed
draws seed (suc n) = next_draw (draws seed n)

-- the c steps before step i are there, and all are skipped
abbrev pub skipped_before : List ℕ → ℕ → ℕ → Bool
skipped_before skips zero i = true
skipped_before skips (suc c) zero = false
skipped_before skips (suc c) (suc i) = is_in skips i && skipped_before skips c i

-- Before each step a number is drawn. A step is skipped exactly where bit 31 of it is set and not all of the last
-- copies - 1 steps are skipped.
pub record IsDrawn (seed steps copies : ℕ) (skips : List ℕ) : Type 0 where
  pub rises : IsStrictlyIncreasing skips
  pub drawn : (i : ℕ) → (is_in skips i ≡ true) ↔ ((i < steps) × (bit (draws seed (suc i)) 31 ≡ true) × (skipped_before skips (copies - 1) i ≡ false))
