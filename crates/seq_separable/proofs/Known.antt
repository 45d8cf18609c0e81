-- What is known of registers.
use Rattle.std.proofs.Common.{◌≡◌, ◌≢◌, ℕ, ◌<◌, ◌≤◌, ◌==◌, ◌||◌, Bool, true, false, refl, arith, ne_eqb}
use Rattle.std.specs.Prelude.{◌&&◌, not}
use Rattle.std.proofs.lemmas.Bool.Decides.{nat_tests}
use Rattle.thumb_instr.specs.Formed.{DecodesFormed}
use Rattle.seq_core.specs.Accepted.{DecodesApart}
use Rattle.seq_core.specs.Builders.{FullCodesAreRows, PlainStepsDo}

-- the laws that each class stands on
pub record Laws : Type 0 where
  pub formed : DecodesFormed
  pub apart : DecodesApart
  pub plain : PlainStepsDo
  pub rows : FullCodesAreRows

pub differs : (a b : ℕ) → (a == b) ≡ false → b ≢ a
differs a b e s = grind (arith, nat_tests)

pub no_stack : (q : ℕ) → q < 13 → (q == 13) ≡ false
no_stack q low = ne_eqb q 13 (λ (e : q ≡ 13). omega arith)

pub small : (q : ℕ) → q < 13 → q ≤ 14
small q low = omega arith

pub both : (a b : Bool) → (a && b) ≡ true → (a ≡ true) × (b ≡ true)
both true b e = (refl, e)
both false b e = absurd cc

pub not_true : (a : Bool) → not a ≡ true → a ≡ false
not_true true e = absurd cc
not_true false e = refl

pub and_false : (a b : Bool) → (a && b) ≡ false → a ≡ true → b ≡ false
and_false true b e h = e
and_false false b e h = absurd cc

pub nor : (a b : Bool) → a ≡ false → b ≡ false → (a || b) ≡ false
nor true b e f = absurd cc
nor false b e f = f

pub no_both : (a b : Bool) → b ≡ false → (a && b) ≡ false
no_both true b e = e
no_both false b e = refl
