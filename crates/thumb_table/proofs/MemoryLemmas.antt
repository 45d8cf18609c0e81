-- Addresses that lie in memory.
use Rattle.std.proofs.Common.{◌≡◌, ℕ, ◌+◌, ◌≤◌, true, length, arith}
use Rattle.std.proofs.lemmas.Bool.Decides.{nat_tests}
use Rattle.thumb_table.specs.Parts.{Memory}
use Rattle.thumb_table.specs.Effects.{lies_in}

pub lies_where : (m : Memory) (a n : ℕ) → m.base ≤ a → a + n ≤ m.base + length m.cells → lies_in m a n ≡ true
lies_where m a n starts ends = grind (arith, nat_tests)

pub where_lies : (m : Memory) (a n : ℕ) → lies_in m a n ≡ true → (m.base ≤ a) × (a + n ≤ m.base + length m.cells)
where_lies m a n lies = (grind (arith, nat_tests), grind (arith, nat_tests))
