-- What is kept where control leaves, as a chart says it, is in the sets that liveness takes.
use Rattle.std.proofs.Common.{◌≡◌, ℕ, zero, suc, ◌+◌, ◌-◌, ◌<◌, ◌≤◌, Bool, true, false, refl, sym, subst, arith, inl, inr}
use Rattle.std.specs.Prelude.{◌&&◌, ◌||◌, ◌^◌, not}
use Rattle.std.proofs.lemmas.Bool.Decides.{nat_tests}
use Rattle.std.proofs.lemmas.Bool.{and_parts, cases_eq}
use Rattle.thumb_instr.specs.Operands.{has}
use Rattle.thumb_instr.specs.Sets.{is_member}
use Rattle.liveness.specs.Paths.{leaves, boundary_of}
use Rattle.sim_charts.specs.Charts.{Way, Onward, Branch, Transfer, Call, Return, Stops}
use Rattle.sim_charts.specs.Boundaries.{at_return, at_call, at_transfer, boundary}
use Rattle.sim_relation.specs.Accepted.{boundaries}
use Rattle.sim_relation.specs.Spared.{way_by}

-- a table of numbers below a bound
abbrev holds_below : (ℕ → Bool) → ℕ → Bool
holds_below P zero = true
holds_below P (suc n) = P n && holds_below P n

all_below : (P : ℕ → Bool) (n : ℕ) → holds_below P n ≡ true → (k : ℕ) → k < n → P k ≡ true
all_below P zero e k l = absurd (omega arith)
all_below P (suc n) e k l =
    let both = and_parts (P n) (holds_below P n) e in
    elim (cases_eq k n) [ inl same ↦ subst (λ j. P j ≡ true) (sym same) both.0 | inr other ↦ all_below P n both.1 k (omega (arith, other)) ]

implies : (a b : Bool) → (not a || b) ≡ true → a ≡ true → b ≡ true
implies true b e f = e
implies false b e f = absurd cc

abbrev in_set : ℕ → ℕ → Bool
in_set n k = is_member k && has n k

call_table : holds_below (λ k. not (at_call k) || in_set 0x2FFF k) 15 ≡ true
unfolding has
call_table = refl

transfer_table : holds_below (λ k. not (at_transfer k) || in_set 0x6FFF k) 15 ≡ true
unfolding has
transfer_table = refl

return_table : (K : ℕ) → K ≤ 4 → holds_below (λ k. not (at_return K k) || in_set (0x2FF0 + (2 ^ K - 1)) k) 15 ≡ true
unfolding has
return_table zero l = refl
return_table (suc zero) l = refl
return_table (suc (suc zero)) l = refl
return_table (suc (suc (suc zero))) l = refl
return_table (suc (suc (suc (suc zero)))) l = refl
return_table (suc (suc (suc (suc (suc K))))) l = absurd (omega arith)

call_low : (k : ℕ) → at_call k ≡ true → k < 15
call_low k e = grind (arith, nat_tests)

transfer_low : (k : ℕ) → at_transfer k ≡ true → k < 15
transfer_low k e = grind (arith, nat_tests)

return_low : (K k : ℕ) → K ≤ 4 → at_return K k ≡ true → k < 14
return_low K k few e = grind (arith, nat_tests)

pub bounded : (K t k : ℕ) (e : Way) → K ≤ 4 → boundary K (way_by t e) k ≡ true → boundary_of (boundaries K) e k ≡ true
bounded K t k Onward few h = h
bounded K t k (Branch q) few h = h
bounded K t k Transfer few h = implies (at_transfer k) (in_set 0x6FFF k) (all_below (λ k. not (at_transfer k) || in_set 0x6FFF k) 15 transfer_table k (transfer_low k h)) h
bounded K t k Call few h = implies (at_call k) (in_set 0x2FFF k) (all_below (λ k. not (at_call k) || in_set 0x2FFF k) 15 call_table k (call_low k h)) h
bounded K t k Return few h =
    let low = return_low K k few h in
    let n = 0x2FF0 + (2 ^ K - 1) in
    implies (at_return K k) (in_set n k) (all_below (λ k. not (at_return K k) || in_set n k) 15 (return_table K few) k (omega (arith, low))) h
bounded K t k Stops few h = h

-- and below the flags; at a return lr isn't kept
pub boundary_low : (K t k : ℕ) (e : Way) → K ≤ 4 → boundary K (way_by t e) k ≡ true → k < 15
boundary_low K t k Onward few h = absurd cc
boundary_low K t k (Branch q) few h = absurd cc
boundary_low K t k Transfer few h = transfer_low k h
boundary_low K t k Call few h = call_low k h
boundary_low K t k Return few h = let low = return_low K k few h in omega (arith, low)
boundary_low K t k Stops few h = absurd cc

pub no_link_at_return : (K k : ℕ) → K ≤ 4 → boundary K Return k ≡ true → k < 14
no_link_at_return K k few h = return_low K k few h

pub leaves_alike : (t : ℕ) (e : Way) → leaves (way_by t e) ≡ leaves e
leaves_alike t Onward = refl
leaves_alike t (Branch q) = refl
leaves_alike t Transfer = refl
leaves_alike t Call = refl
leaves_alike t Return = refl
leaves_alike t Stops = refl
