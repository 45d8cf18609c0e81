-- Consecutive numbers in a list that rises.
use Rattle.std.proofs.Common.{◌≡◌, ◌≢◌, ℕ, zero, suc, ◌+◌, ◌-◌, ◌<◌, ◌≤◌, true, List, length, get_or, arith, ap, add-zero}
use Rattle.std.specs.List.Sorted.{IsStrictlyIncreasing}
use Rattle.thumb_table.specs.Schedules.{is_in}
use Rattle.thumb_table.proofs.StopLemmas.{rises}
use Rattle.skip_machine.specs.Plans.{Spares}
use Rattle.skip_machine.proofs.Members.{in_at, place_of}

-- numbers that rise grow at least by one a place
pub apart : (xs : List ℕ) → IsStrictlyIncreasing xs → (i d : ℕ) → i + d < length xs → get_or xs i 0 + d ≤ get_or xs (i + d) 0
apart xs h i zero lt = let e : i + 0 ≡ i = omega arith in rw e (omega (arith))
apart xs h i (suc d) lt =
    let e : i + suc d ≡ i + d + 1 = omega arith in rw e (omega (arith, apart xs h i d (omega arith), h (i + d) (omega arith)))

-- Where a number is greater by as many as it stands behind, all between are there.
pub crowded : (xs : List ℕ) → IsStrictlyIncreasing xs → (k m : ℕ) → k + m < length xs → get_or xs (k + m) 0 ≡ get_or xs k 0 + m
    → (j : ℕ) → j < m + 1 → is_in xs (get_or xs k 0 + j) ≡ true
crowded xs h k m lt e j few =
    let low = apart xs h k j (omega arith) in
    let end : k + j + (m - j) ≡ k + m = omega arith in
    let high = apart xs h (k + j) (m - j) (omega arith) in
    in_at xs (k + j) (get_or xs k 0 + j) (omega arith) (omega (arith, low, high, ap (λ q. get_or xs q 0) end, e))

-- consecutive numbers stand one behind the other
pub consecutive : (xs : List ℕ) → IsStrictlyIncreasing xs → (i k m : ℕ) → k < length xs → get_or xs k 0 ≡ i → ((j : ℕ) → j < m + 1 → is_in xs (i + j) ≡ true)
    → (j : ℕ) → j < m + 1 → (k + j < length xs) × (get_or xs (k + j) 0 ≡ i + j)
consecutive xs h i k m lt e all zero few = (omega arith, rw (add-zero, add-zero) e)
consecutive xs h i k m lt e all (suc j) few =
    let before = consecutive xs h i k m lt e all j (omega arith) in
    let there = place_of xs (i + suc j) (all (suc j) few) in
    let never : there.0 < k + j + 1 → ⊥ = λ lt'. absurd (omega (arith, rises xs h there.0 (k + j) (omega arith) before.0, there.2, before.1)) in
    let behind : k + j + 1 ≤ there.0 = omega (arith, never) in
    let e' : k + suc j ≡ k + j + 1 = omega arith in
    let within : k + j + 1 < length xs = omega (arith, there.1) in
    (omega arith, rw e' (omega (arith, h (k + j) within, rises xs h (k + j + 1) there.0 behind there.1, there.2, before.1)))

pub spare : (xs : List ℕ) → IsStrictlyIncreasing xs → (m : ℕ) → ((k : ℕ) → k + m < length xs → get_or xs (k + m) 0 ≢ get_or xs k 0 + m) → Spares (m + 1) xs
spare xs h m never i all =
    let first : is_in xs i ≡ true = let e : i + 0 ≡ i = omega arith in rw e at (all 0 (omega arith)) in
    let there = place_of xs i first in
    let last = consecutive xs h i there.0 m there.1 there.2 all m (omega arith) in
    never there.0 last.0 (omega (arith, last.1, there.2))
