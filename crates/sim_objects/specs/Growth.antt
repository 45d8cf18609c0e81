-- Code sections of hardened objects are not longer than 32 times their plain ones.
use Rattle.std.specs.Prelude.{ℕ, List}
use Rattle.sim_relation.specs.Hardened.{AreShort}
use Rattle.sim_objects.specs.Lists.{Pairing, plains, hards}

-- where units have two copies
abbrev pub PairsAreShort : Type 0
PairsAreShort = (F K : ℕ) (pairs : List (Pairing F 2 K)) → AreShort (plains pairs) (hards pairs)
