-- What is the same by the chart is the same by any relation of addresses that it follows.
use Rattle.std.proofs.Common.{◌≡◌, ℕ, ◌≤◌, ◌*◌, ◌<◌, true, List, Option, Some, None, arith}
use Rattle.std.proofs.lemmas.Bool.Decides.{nat_tests}
use Rattle.mark_word.specs.declared.cells.Piece.{Piece}
use Rattle.mark_word.specs.declared.marks.Mark.{Mark}
use Rattle.mark_word.specs.declared.marks.Mark.TheVariants as mark
use Rattle.thumb_table.specs.Parts.{CodeBytes}
use Rattle.thumb_table.specs.States.{State}
use Rattle.thumb_table.specs.Schedules.{Returns, ReturnsWithin, OrdinaryRun, IsLegal, is_in}
use Rattle.seq_core.specs.Does.{never}
use Rattle.sim_charts.specs.Charts.{Chart}
use Rattle.sim_charts.specs.Boundaries.{results}
use Rattle.sim_charts.specs.Words.{Taking, SameBits, SameByte}
use Rattle.sim_charts.specs.Alike.{by_chart}
use Rattle.sim_charts.specs.Linked.{Linked}
use Rattle.sim_charts.specs.Simulates.{At, SameResults}
use Rattle.sim_charts.specs.Maps.{MappedState, FollowsMaps}
use Rattle.sim_charts.proofs.Induction.{pairs_end_alike}

module _ (chart : Chart) (t : Taking) (follows : FollowsMaps chart t) where
  mapped_bits : (m : Mark) (b h : ℕ) → SameBits (by_chart chart) m b h → SameBits t m b h
  mapped_bits mark.Plain b h s = s
  mapped_bits (mark.Entry a) b h s = follows.entries a h s
  mapped_bits (mark.Return a) b h s = follows.returns a h s
  mapped_bits (mark.Low a) b h s = (s.0, follows.entries a s.0 s.1, s.2)

  mapped_byte : (p : Option Piece) (b h : ℕ) → SameByte (by_chart chart) p b h → SameByte t p b h
  mapped_byte None b h s = s
  mapped_byte (Some p) b h s = (s.0, s.1, mapped_bits p.mark s.0 s.1 s.2, s.3)

  given_result : (K r : ℕ) → r < K → results K r ≡ true
  given_result K r lt = grind (arith, nat_tests)

  kept_result : (K r : ℕ) → 4 ≤ r → r < 12 → results K r ≡ true
  kept_result K r le lt = grind (arith, nat_tests)

  pub mapped_state : (K : ℕ) (s u : State) → K ≤ 4 → SameResults chart K s u → MappedState t K s u
  mapped_state K s u few e = record {
    given = λ r lt. mapped_bits _ _ _ ((e.regs r (given_result K r lt)).word (omega arith));
    kept = λ r le lt. mapped_bits _ _ _ ((e.regs r (kept_result K r le lt)).word (omega arith));
    stack = mapped_bits _ _ _ (e.store.stack.word (omega arith));
    memory = record { base = e.store.memory.base; size = e.store.memory.size; cells = λ k lt. mapped_byte _ _ _ (e.store.memory.cells k lt) };
  }

  -- pairs_end_alike, by that relation
  pub ends_mapped : (plain hard : CodeBytes) (F : ℕ) → Linked chart plain hard 2 4 F (λ a. true) → (begun hard_begun ended : State) → At chart begun hard_begun →
      (n : ℕ) → Returns plain never n 0 begun ended → OrdinaryRun plain never n 0 begun → (schedule : List ℕ) → IsLegal 2 schedule →
      (hard_ended : State) × ReturnsWithin hard (is_in schedule) (F * n) 0 hard_begun hard_ended × MappedState t 4 ended hard_ended
  ends_mapped plain hard F linked begun hard_begun ended start n r o schedule legal =
      let e = pairs_end_alike chart plain hard F linked begun hard_begun ended start n r o schedule legal in
      (e.0, e.1, mapped_state 4 ended e.0 (omega arith) e.2)
