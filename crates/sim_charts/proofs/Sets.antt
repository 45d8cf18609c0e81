-- Boundary sets, and tests.
use Rattle.std.proofs.Common.{◌≡◌, ℕ, ◌≤◌, ◌⊎◌, inl, inr, ⊎_elim, Bool, true, false, refl, arith}
use Rattle.std.specs.Prelude.{◌&&◌, ◌||◌, ◌==◌, nat_lt}
use Rattle.std.proofs.lemmas.Bool.{eqb-true}
use Rattle.std.proofs.lemmas.Bool.Decides.{nat_tests}
use Rattle.sim_charts.specs.Boundaries.{results, at_return, at_call, at_transfer}

pub or_left : (a b : Bool) → a ≡ true → (a || b) ≡ true
or_left true b e = refl
or_left false b e = absurd cc

pub or_right : (a b : Bool) → b ≡ true → (a || b) ≡ true
or_right true b e = refl
or_right false b e = e

pub or_cases : (a b : Bool) → (a || b) ≡ true → (a ≡ true) ⊎ (b ≡ true)
or_cases true b e = inl refl
or_cases false b e = inr e

pub and_right : (a b : Bool) → (a && b) ≡ true → b ≡ true
and_right true b e = e
and_right false b e = absurd cc

pub and_left : (a b : Bool) → (a && b) ≡ true → a ≡ true
and_left true b e = refl
and_left false b e = absurd cc

pub and_both : (a b : Bool) → a ≡ true → b ≡ true → (a && b) ≡ true
and_both true b ea eb = eb
and_both false b ea eb = absurd cc

pub and_fails : (a b : Bool) → (a && b) ≡ false → (a ≡ false) ⊎ (b ≡ false)
and_fails true b e = inr e
and_fails false b e = inl refl

pub first_fails : (a b : Bool) → a ≡ false → (a && b) ≡ false
first_fails true b e = absurd cc
first_fails false b e = refl

pub second_fails : (a b : Bool) → b ≡ false → (a && b) ≡ false
second_fails true b e = e
second_fails false b e = refl

pub transfer_cases : (k : ℕ) → at_transfer k ≡ true → (at_call k ≡ true) ⊎ (k ≡ 14)
transfer_cases k e = ⊎_elim (λ l. inl l) (λ (r : (k == 14) ≡ true). inr (eqb-true k 14 r)) (or_cases (at_call k) (k == 14) e)

all_low : (k : ℕ) → nat_lt k 12 ≡ true → results 4 k ≡ true
all_low k e = grind (arith, nat_tests)

pub call_returns : (k : ℕ) → at_call k ≡ true → at_return 4 k ≡ true
call_returns k e = ⊎_elim
    (λ (l : nat_lt k 12 ≡ true). or_left (results 4 k) (k == 13) (all_low k l))
    (λ (r : (k == 13) ≡ true). or_right (results 4 k) (k == 13) r)
    (or_cases (nat_lt k 12) (k == 13) e)

results_low : (K k : ℕ) → K ≤ 4 → results K k ≡ true → nat_lt k 12 ≡ true
results_low K k le e = grind (arith, nat_tests)

pub return_calls : (K k : ℕ) → K ≤ 4 → at_return K k ≡ true → at_call k ≡ true
return_calls K k le e = ⊎_elim
    (λ (l : results K k ≡ true). or_left (nat_lt k 12) (k == 13) (results_low K k le l))
    (λ (r : (k == 13) ≡ true). or_right (nat_lt k 12) (k == 13) r)
    (or_cases (results K k) (k == 13) e)
