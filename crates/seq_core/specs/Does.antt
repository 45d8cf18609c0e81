-- What it is that a sequence of instructions does the work of one.
use Rattle.std.specs.Prelude.{◌≡◌, ◌<◌, ◌≤◌, ◌⊎◌, ℕ, ◌+◌, Bool, true, false, length, Ok, Err}
use Rattle.thumb_table.specs.declared.faults.FaultKind.TheVariants.{Trap}
use Rattle.thumb_table.specs.Parts.{CodeBytes}
use Rattle.thumb_table.specs.States.{Core, State, at, read, Change, Outcome, applied}
use Rattle.thumb_table.specs.Steps.{move, goes_on}
use Rattle.thumb_table.specs.Schedules.{run}

-- what an instruction makes of a core
abbrev pub Effect : Type 0
Effect = Core → Outcome

-- The work of a sequence: where it begins and ends, of how many steps it is, under which test of the core it has an
-- effect, which, and what else it may change. A member is a register, 0 to 14, or a flag, 16 to 19.
pub record Task : Type 0 where
  pub place : ℕ
  pub end : ℕ
  pub length : ℕ
  pub taken : Core → Bool
  pub effect : Effect
  pub loses : ℕ → Bool

-- Of c steps in a row one is executed.
abbrev pub Legal : ℕ → (ℕ → Bool) → Type 0
Legal c skips = (i : ℕ) → (j : ℕ) × (j < c) × (skips (i + j) ≡ false)

-- what a run of at most n steps comes to, of which the first has the number on the clock
pub record Comes (code : CodeBytes) (skips : ℕ → Bool) (n clock : ℕ) (s t : State) : Type 0 where
  pub steps : ℕ
  pub within : steps ≤ n
  pub runs : run code skips steps clock s ≡ Ok t

-- Two cores have the same at a member. Of a word the bits count: marks of words in rewritten code say nothing.
pub record KeepsMember (k : ℕ) (old new : Core) : Type 0 where
  pub word : k < 15 → (read old k).bits ≡ (read new k).bits
  pub n : k ≡ 16 → old.n ≡ new.n
  pub z : k ≡ 17 → old.z ≡ new.z
  pub c : k ≡ 18 → old.c ≡ new.c
  pub v : k ≡ 19 → old.v ≡ new.v

-- z is y but for some members, out of IT blocks.
pub record SameBut (loses : ℕ → Bool) (y z : Core) : Type 0 where
  pub count : length z.regs ≡ length y.regs
  pub members : (k : ℕ) → loses k ≡ false → KeepsMember k y z
  pub memory : y.memory ≡ z.memory
  pub clear : z.it ≡ 0

-- A sequence begins out of IT blocks.
pub record Begins (y : Core) : Type 0 where
  pub count : length y.regs ≡ 15
  pub clear : y.it ≡ 0

-- Where its test holds and the effect is one, it comes within its steps to where the effect leads, and has done it.
abbrev pub Acts : CodeBytes → Task → (ℕ → Bool) → ℕ → Type 0
Acts code t skips clock =
    (y : Core) (h : Change) → Begins y → t.taken y ≡ true → t.effect y ≡ Ok h →
    (z : Core) × Comes code skips t.length clock (at t.place y) (at (goes_on t.end h.exit) z) × SameBut t.loses (applied h y) z

-- Where its test fails, it comes to its end and changes nothing.
abbrev pub Rests : CodeBytes → Task → (ℕ → Bool) → ℕ → Type 0
Rests code t skips clock = (y : Core) → Begins y → t.taken y ≡ false → Comes code skips t.length clock (at t.place y) (at t.end y)

-- Fewer than n steps come to one that is executed and traps; they change nothing.
pub record StopsAt (code : CodeBytes) (skips : ℕ → Bool) (n clock : ℕ) (s : State) : Type 0 where
  pub last : State
  pub steps : ℕ
  pub before : steps < n
  pub runs : run code skips steps clock s ≡ Ok last
  pub core : last.core ≡ s.core
  pub executed : skips (clock + steps) ≡ false
  pub traps : move code false last ≡ Err Trap

abbrev pub Halts : CodeBytes → Task → (ℕ → Bool) → ℕ → Type 0
Halts code t skips clock = (y : Core) → Begins y → t.taken y ≡ true → t.effect y ≡ Err Trap → StopsAt code skips t.length clock (at t.place y)

pub record Does (code : CodeBytes) (t : Task) (skips : ℕ → Bool) (clock : ℕ) : Type 0 where
  pub acts : Acts code t skips clock
  pub rests : Rests code t skips clock
  pub halts : Halts code t skips clock

-- It does its work under every legal schedule, wherever in it the sequence begins.
abbrev pub Tolerates : CodeBytes → ℕ → Task → Type 0
Tolerates code c t = (skips : ℕ → Bool) → Legal c skips → (clock : ℕ) → Does code t skips clock

abbrev pub never : ℕ → Bool
never i = false

-- a run of at most n steps without skips, at places where none may be skipped
pub record Passes (code : CodeBytes) (may_skip : ℕ → Bool) (n : ℕ) (s t : State) : Type 0 where
  pub steps : ℕ
  pub within : steps ≤ n
  pub runs : run code never steps 0 s ≡ Ok t
  pub inside : (j : ℕ) (u : State) → j < steps → run code never j 0 s ≡ Ok u → may_skip u.pc ≡ false

-- so it comes to a step that traps
pub record TrapsOnce (code : CodeBytes) (may_skip : ℕ → Bool) (n : ℕ) (s : State) : Type 0 where
  pub last : State
  pub steps : ℕ
  pub before : steps < n
  pub passes : Passes code may_skip steps s last
  pub core : last.core ≡ s.core
  pub traps : move code false last ≡ Err Trap
  pub inside : may_skip last.pc ≡ false

-- It does its work where no step is skipped, all of them at places where none may be.
pub record DoesOnce (code : CodeBytes) (may_skip : ℕ → Bool) (t : Task) : Type 0 where
  pub acts : (y : Core) (h : Change) → Begins y → t.taken y ≡ true → t.effect y ≡ Ok h →
      (z : Core) × Passes code may_skip t.length (at t.place y) (at (goes_on t.end h.exit) z) × SameBut t.loses (applied h y) z
  pub rests : (y : Core) → Begins y → t.taken y ≡ false → Passes code may_skip t.length (at t.place y) (at t.end y)
  pub halts : (y : Core) → Begins y → t.taken y ≡ true → t.effect y ≡ Err Trap → TrapsOnce code may_skip t.length (at t.place y)

-- It works, in code of which steps at some places may be skipped.
abbrev pub Works : CodeBytes → ℕ → (ℕ → Bool) → Task → Type 0
Works code c may_skip t = Tolerates code c t ⊎ DoesOnce code may_skip t
