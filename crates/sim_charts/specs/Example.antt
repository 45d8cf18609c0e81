-- What holds of the example: it is linked and its calls end alike, and a unit of one copy is refused.
use Rattle.std.specs.Prelude.{◌≡◌, ◌<◌, ◌*◌, length, get_or, ℕ, ◌==◌, not, true, false, List, [], ◌∷◌, Some, None}
use Rattle.mark_word.specs.Words.{Word, bare, plain}
use Rattle.mark_word.specs.declared.marks.Mark.TheVariants as mark
use Rattle.thumb_table.specs.States.{Core, State, at, read}
use Rattle.thumb_table.specs.Schedules.{Returns, ReturnsWithin, OrdinaryRun, IsLegal, is_in}
use Rattle.seq_core.specs.Does.{Tolerates, DoesOnce, never}
use Rattle.seq_core.specs.Meanings.{Ends, meant}
use Rattle.sim_charts.specs.Charts.{Point, Onward, unit_of}
use Rattle.sim_charts.specs.Boundaries.{at_transfer}
use Rattle.sim_charts.specs.Linked.{Linked}
use Rattle.sim_charts.specs.Simulates.{SameResults}
pub use Rattle.sim_charts.specs.Codes.{plain_code, hard_code, moving, nothing_lost, point_of, p0, p1, p2, p3, p4, p5, p6, p7, example}

-- Two copies, four results, units of at most four steps, and skips anywhere.
abbrev pub ExampleIsLinked : Type 0
ExampleIsLinked = Linked example plain_code hard_code 2 4 4 (λ a. true)

-- A call of f: no word is an address of code, but lr, where the whole call ends.
pub record IsCalled (x : Core) : Type 0 where
  pub count : length x.regs ≡ 15
  pub clear : x.it ≡ 0
  pub numbers : (k : ℕ) → k < 14 → (read x k).mark ≡ mark.Plain
  pub link : read x 14 ≡ record { bits = 0x7FFFFFFF; mark = mark.Return 0x7FFFFFFF }
  pub bare_cells : (k : ℕ) → (get_or x.memory.cells k (bare 0)).piece ≡ None

-- It ends alike in both codes.
abbrev pub ExampleEnds : Type 0
ExampleEnds =
    (x : Core) → IsCalled x → (n : ℕ) (ended : State) → Returns plain_code never n 0 (at 0x8000 x) ended → OrdinaryRun plain_code never n 0 (at 0x8000 x) →
    (schedule : List ℕ) → IsLegal 2 schedule →
    (hard_ended : State) × ReturnsWithin hard_code (is_in schedule) (4 * n) 0 (at 0x8000 x) hard_ended × SameResults example 4 ended hard_ended

-- The call with r0 = 1, and its end: it is ordinary, and returns after nine steps.
abbrev pub end_word : Word
end_word = record { bits = 0x7FFFFFFF; mark = mark.Return 0x7FFFFFFF }

abbrev pub core_of : ℕ → Word → Word → Core
core_of r0 r4 lr = record {
  regs = plain r0 ∷ plain 0 ∷ plain 0 ∷ plain 0 ∷ r4 ∷ plain 0 ∷ plain 0 ∷ plain 0 ∷ plain 0 ∷ plain 0 ∷ plain 0 ∷ plain 0 ∷ plain 0 ∷ plain 0 ∷ lr ∷ [];
  n = false;
  z = false;
  c = false;
  v = false;
  it = 0;
  memory = record { base = 0x9000; cells = [] };
}

abbrev pub called : State
called = at 0x8000 (core_of 1 (plain 0) end_word)

abbrev pub returned : State
returned = at 0x7FFFFFFE (core_of 0 end_word end_word)

pub record ExampleRuns : Type 0 where
  pub starts : IsCalled called.core
  pub returns : Returns plain_code never 9 0 called returned
  pub ordinary : OrdinaryRun plain_code never 9 0 called

-- One copy of an instruction tolerates no skip; where none comes it does the instruction.
abbrev pub only_copy : Point
only_copy = point_of (moving 4 14) 2 Onward (Some 0x8002) true at_transfer 0x8000 0x8002 1

abbrev pub OneCopyIsRefused : Type 0
OneCopyIsRefused = (ends : Ends) → Tolerates plain_code 2 (unit_of only_copy (meant only_copy.instr ends)) → ⊥

abbrev pub OneCopyDoesOnce : Type 0
OneCopyDoesOnce = (ends : Ends) → DoesOnce plain_code (λ a. not (a == 0x8000)) (unit_of only_copy (meant only_copy.instr ends))
