-- What an instruction reads, and what it may and must change.
use Rattle.std.specs.Prelude.{◌≡◌, ◌<◌, ℕ, ◌==◌, ◌||◌, not, Bool, true, false, List, [], All, None, is_some}
use Rattle.std.specs.List.{list_any}
use Rattle.mark_word.specs.Words.{Word}
use Rattle.thumb_instr.specs.declared.instructions.Instr.{Instr}
use Rattle.thumb_instr.specs.declared.instructions.Instr.TheVariants.{Access, Pair, Multi, Branch, ZeroBranch, Call, Jump, CallReg, It}
use Rattle.thumb_instr.specs.MaySet.{may_set_of}
use Rattle.thumb_instr.specs.Sets.{reads_of, writes_of, sets_flags_of, cond_reads_of, is_store}
use Rattle.thumb_table.specs.States.{Core, read, Change, Falls}

-- the flags of a branch's condition
abbrev pub tests_of : Instr → ℕ → Bool
tests_of (Branch i) k = cond_reads_of i.cond k
tests_of i k = false

-- what it reads, its own condition among it
abbrev pub uses_of : Instr → ℕ → Bool
uses_of i k = reads_of i k || tests_of i k

-- The flags that an instruction reads are equal.
pub record SameFlags (i : Instr) (x y : Core) : Type 0 where
  pub n : uses_of i 16 ≡ true → x.n ≡ y.n
  pub z : uses_of i 17 ≡ true → x.z ≡ y.z
  pub c : uses_of i 18 ≡ true → x.c ≡ y.c
  pub v : uses_of i 19 ≡ true → x.v ≡ y.v

-- All that an instruction reads is equal.
pub record SameReads (i : Instr) (x y : Core) : Type 0 where
  pub regs : (r : ℕ) → reads_of i r ≡ true → read x r ≡ read y r
  pub flags : SameFlags i x y
  pub memory : x.memory ≡ y.memory

abbrev pub stores : Instr → Bool
stores (Access i) = is_store i.op
stores (Pair i) = not i.load
stores (Multi i) = not i.load
stores i = false

abbrev pub starts_block : Instr → Bool
starts_block (It i) = true
starts_block i = false

abbrev pub may_jump : Instr → Bool
may_jump (Multi i) = i.pc
may_jump (Branch i) = true
may_jump (ZeroBranch i) = true
may_jump (Call i) = true
may_jump (Jump i) = true
may_jump (CallReg i) = true
may_jump i = false

-- A change is of the registers that an instruction writes and of the flags that it may set alone.
pub record IsWithin (i : Instr) (h : Change) : Type 0 where
  pub regs : All (λ w. writes_of i w.0 ≡ true) h.regs
  pub n : may_set_of i 16 ≡ false → h.n ≡ None
  pub z : may_set_of i 17 ≡ false → h.z ≡ None
  pub c : may_set_of i 18 ≡ false → h.c ≡ None
  pub v : may_set_of i 19 ≡ false → h.v ≡ None

-- Memory changes only by stores, the IT state only by IT, and else control goes on to the next instruction.
pub record IsQuiet (i : Instr) (h : Change) : Type 0 where
  pub memory : stores i ≡ false → h.cells ≡ []
  pub it : starts_block i ≡ false → h.it ≡ None
  pub falls : may_jump i ≡ false → h.exit ≡ Falls

abbrev pub is_written : ℕ → List (ℕ × Word) → Bool
is_written r ws = list_any (λ w. w.0 == r) ws

-- A change has each register that an instruction writes, and each flag that it sets.
pub record Covers (i : Instr) (h : Change) : Type 0 where
  pub regs : (r : ℕ) → r < 15 → writes_of i r ≡ true → is_written r h.regs ≡ true
  pub n : sets_flags_of i 16 ≡ true → is_some h.n ≡ true
  pub z : sets_flags_of i 17 ≡ true → is_some h.z ≡ true
  pub c : sets_flags_of i 18 ≡ true → is_some h.c ≡ true
  pub v : sets_flags_of i 19 ≡ true → is_some h.v ≡ true
