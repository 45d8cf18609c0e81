use Rattle.std.proofs.Common.{◌≡◌, ◌<◌, ℕ, true}
use Rattle.thumb_table.specs.States.{read}
use Rattle.thumb_table.specs.CoreStates.{alone}
use Rattle.sim_relation.specs.Same.{is_same_word}
use Rattle.sim_relation.proofs.sameness.are_same_registers.Given as goal

abbrev pub invariant-loop-k : goal.invariant-loop-k
invariant-loop-k l = (r : ℕ) → r < l.k → is_same_word l.map (read (alone l.plain) r) (read (alone l.hard) r) ≡ true
