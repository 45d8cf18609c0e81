-- A builder is given one register.
use Rattle.std.proofs.Common.{◌≡◌, ℕ, List, [], ◌∷◌, length, get_or, sym, subst, arith}
use Rattle.thumb_instr.specs.declared.instructions.Instr.{Instr}
use Rattle.seq_core.specs.Groups.{IsFree}
use Rattle.seq_core.specs.Builders.{AreFree}

pub lone : (scratch : List ℕ) (q : ℕ) → length scratch ≡ 1 → q ≡ get_or scratch 0 q → scratch ≡ q ∷ []
lone [] q n e = absurd (omega (arith, n))
lone (r ∷ []) q n e = cc
lone (r ∷ s ∷ rs) q n e = absurd (omega (arith, n))

pub lone_free : (i : Instr) (scratch : List ℕ) (q : ℕ) → length scratch ≡ 1 → q ≡ get_or scratch 0 q → AreFree i scratch → IsFree i q
lone_free i [] q n e free = absurd (omega (arith, n))
lone_free i (r ∷ rs) q n e free = subst (λ (k : ℕ). IsFree i k) (sym e) free.0
