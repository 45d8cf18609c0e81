-- Functions have different names.
use Rattle.std.proofs.Common.{◌≡◌, ◌<◌, ℕ, ◌++◌, true, arith}
use Rattle.std.specs.Prelude.{codes}
use Rattle.std.specs.Fmt.{decimal}
use Rattle.std.proofs.lemmas.Fmt.{decimal_injective}
use Rattle.elf_model.specs.Fields.{same_name}
use Rattle.sim_images.proofs.EntriesAlike.{same}

pub same_number : (i k : ℕ) → i < 4000 → k < 4000 → codes "f" ++ decimal i ≡ codes "f" ++ decimal k → i ≡ k
same_number i k a b h = decimal_injective i k (omega arith) (omega arith) (cc)

pub same_named : (i k : ℕ) → i < 4000 → k < 4000 → same_name (codes "f" ++ decimal i) (codes "f" ++ decimal k) ≡ true → i ≡ k
same_named i k a b h = same_number i k a b (same (codes "f" ++ decimal i) (codes "f" ++ decimal k) h)
