-- The relation that the theorem on objects speaks of: the same up to any relation of addresses that the chart follows.
use Rattle.std.specs.Prelude.{◌<◌, ◌≤◌, ℕ}
use Rattle.thumb_table.specs.States.{State, read}
use Rattle.sim_charts.specs.Charts.{Chart}
use Rattle.sim_charts.specs.Words.{Taking, SameWord, SameMemory}
use Rattle.sim_charts.specs.Alike.{EntryTo, ReturnTo}

-- K results, r4 to r11, sp and every byte of memory are the same.
pub record MappedState (t : Taking) (K : ℕ) (s u : State) : Type 0 where
  pub given : (r : ℕ) → r < K → SameWord t (read s.core r) (read u.core r)
  pub kept : (r : ℕ) → 4 ≤ r → r < 12 → SameWord t (read s.core r) (read u.core r)
  pub stack : SameWord t (read s.core 13) (read u.core 13)
  pub memory : SameMemory t s.core.memory u.core.memory

-- The chart's relations are among these.
pub record FollowsMaps (chart : Chart) (t : Taking) : Type 0 where
  pub entries : (a h : ℕ) → EntryTo chart a h → t.entry a h
  pub returns : (a h : ℕ) → ReturnTo chart a h → t.back a h
