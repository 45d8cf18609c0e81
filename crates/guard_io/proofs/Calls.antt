-- The numbers of the calls that are made to fail, and the number of the calls so far.
use Rattle.std.proofs.Common.{◌≡◌, ◌<◌, ◌≤◌, ◌&&◌, ℕ, Bool, true, false, List, [], ◌∷◌, refl, arith, nat_lt, ◌==◌, ne_eqb}
use Rattle.std.specs.Cmp.Derive.{both_true}
use Rattle.std.proofs.lemmas.Bool.Decides.{Decides-ltb}
use Rattle.guard_io.specs.Memory.{is_listed, are_past}

-- both tests of a conjunction hold
pub both : (a b : Bool) → (a && b) ≡ true → (a ≡ true) × (b ≡ true)
both a b h = ((elim a as (λ v. (v && b) ≡ true → v ≡ true) [ true ↦ (λ e. refl) | false ↦ (λ e. cc e) ]) h, (elim a as (λ v. (v && b) ≡ true → b ≡ true) [ true ↦ (λ e. e) | false ↦ (λ e. absurd (cc e)) ]) h)

pub are_past-more : (fail : List ℕ) (calls more : ℕ) → calls ≤ more → are_past fail calls ≡ true → are_past fail more ≡ true
are_past-more [] calls more up past = refl
are_past-more (number ∷ fail) calls more up past =
    let h = both (nat_lt number calls) (are_past fail calls) past in
    let below : number < calls = (Decides-ltb number calls).0 h.0 in
    let first : nat_lt number more ≡ true = (Decides-ltb number more).1 (omega arith) in
    both_true first (are_past-more fail calls more up h.1)

-- calls that lie behind are not the next one
pub is_listed-past : (fail : List ℕ) (calls : ℕ) → are_past fail calls ≡ true → is_listed fail calls ≡ false
is_listed-past [] calls past = refl
is_listed-past (number ∷ fail) calls past =
    let h = both (nat_lt number calls) (are_past fail calls) past in
    let below : number < calls = (Decides-ltb number calls).0 h.0 in
    let other : (number == calls) ≡ false = ne_eqb number calls (λ (e : number ≡ calls). omega arith) in
    rw other (is_listed-past fail calls h.1)

pub ruleset call_laws = (are_past-more, is_listed-past)
