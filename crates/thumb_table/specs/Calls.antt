-- Where a call starts.
use Rattle.std.specs.Prelude.{ℕ, zero, suc, ◌+◌, ◌-◌, false, List, [], ◌∷◌, ◌++◌, length, replicate}
use Rattle.elf_model.specs.Objects.{even}
use Rattle.elf_model.specs.Canonical.{round_up}
use Rattle.mark_word.specs.declared.marks.Mark.TheVariants.{Return}
use Rattle.mark_word.specs.Words.{Word, Cell, plain, bare}
use Rattle.thumb_table.specs.Parts.{Memory, Image}
use Rattle.thumb_table.specs.States.{State}

-- the memory of a run: the data, rounded up to a multiple of 8, and the stack
abbrev pub run_cells : Image → ℕ → List Cell
run_cells image stack =
    image.memory.cells ++ replicate (round_up (length image.memory.cells) 8 - length image.memory.cells) (bare 0) ++ replicate stack (bare 0)

abbrev pub run_memory : Image → ℕ → Memory
run_memory image stack = record { base = image.memory.base; cells = run_cells image stack }

-- the word in a register: its argument, or 0
abbrev pub argument : List ℕ → ℕ → Word
argument [] k = plain 0
argument (a ∷ rest) zero = plain a
argument (a ∷ rest) (suc k) = argument rest k

-- Arguments stand from r0 on, sp at the stack's end, lr where the call ends; all else is 0.
abbrev pub start_regs : List ℕ → ℕ → List Word
start_regs args sp =
    argument args 0 ∷ argument args 1 ∷ argument args 2 ∷ argument args 3 ∷ replicate 9 (plain 0)
    ++ plain sp ∷ record { bits = 0x7FFFFFFF; mark = Return 0x7FFFFFFF } ∷ []

-- the state that a call of an entry starts from, over memory as it is
abbrev pub started : Memory → ℕ → List ℕ → State
started memory entry args = record {
  pc = even entry;
  core = record {
    regs = start_regs args (memory.base + length memory.cells);
    n = false;
    z = false;
    c = false;
    v = false;
    it = 0;
    memory = memory;
  };
}

-- on an image
abbrev pub start : Image → ℕ → ℕ → List ℕ → State
start image stack entry args = started (run_memory image stack) entry args
