-- Arguments of a call.
use Rattle.std.proofs.Common.{◌≡◌, ℕ, zero, suc, ◌<◌, ◌≤◌, List, [], ◌∷◌, length, get_or, arith, refl}
use Rattle.mark_word.specs.Words.{plain}
use Rattle.thumb_table.specs.Calls.{argument}

pub argument_within : (args : List ℕ) (k d : ℕ) → k < length args → plain (get_or args k d) ≡ argument args k
argument_within [] k d lt = absurd (omega arith)
argument_within (a ∷ rest) zero d lt = refl
argument_within (a ∷ rest) (suc k) d lt = argument_within rest k d (omega arith)

pub argument_past : (args : List ℕ) (k : ℕ) → length args ≤ k → plain 0 ≡ argument args k
argument_past [] k le = refl
argument_past (a ∷ rest) zero le = absurd (omega arith)
argument_past (a ∷ rest) (suc k) le = argument_past rest k (omega arith)
