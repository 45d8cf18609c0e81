-- What instructions make of registers and memory: the forms of inner contracts.
use Rattle.std.specs.Prelude.{◌≡◌, ℕ, ◌+◌, ◌*◌, length, Bool, true, false, List, [], ◌∷◌, Option, Some, None, Ok, Err}
use Rattle.mark_word.specs.Words.{Word, Cell, plain, bare, byte_of}
use Rattle.mark_word.specs.Marks.{pieces}
use Rattle.thumb_instr.specs.Fields.{PairFields, MultiFields}
use Rattle.thumb_instr.specs.declared.operations.AccessOp.{AccessOp}
use Rattle.thumb_instr.specs.declared.operations.AccessOp.TheVariants.{Ldr, Ldrb, Ldrh, Ldrsb, Ldrsh, Str, Strb, Strh}
use Rattle.thumb_instr.specs.declared.instructions.Instr.{Instr}
use Rattle.thumb_table.specs.declared.cores.Core.{Core as Registers}
use Rattle.thumb_table.specs.declared.faults.FaultKind.{FaultKind}
use Rattle.thumb_table.specs.Parts.{Memory, CodeBytes}
use Rattle.thumb_table.specs.States.{Core, Site, Change, Outcome, write_all, store_all, unchanged, upright}
use Rattle.thumb_table.specs.CoreStates.{core_of, state_of, site_of}
use Rattle.thumb_table.specs.Values.{extended}
use Rattle.thumb_table.specs.Effects.{change, value, cell_at, word_at, half_at, from, after_base, base_write, base_moved, pair_place, transferred, registers, and_next, jump_if}
use Rattle.thumb_table.specs.Steps.{settled}

-- An instruction that doesn't reach memory makes these registers of those.
abbrev pub ChangesTo : Instr → ℕ → Registers → Registers → Type 0
ChangesTo i next s t = (site : Site) (m : Memory) → settled next (core_of s m) (change i site (core_of s m)) ≡ Ok (state_of t m)

-- An instruction faults, whatever memory has.
abbrev pub Halts : Instr → ℕ → Registers → FaultKind → Type 0
Halts i next s kind = (site : Site) (m : Memory) → settled next (core_of s m) (change i site (core_of s m)) ≡ Err kind

-- An outcome makes these registers of those, whatever memory has.
abbrev pub SettlesTo : Outcome → ℕ → Registers → Registers → Type 0
SettlesTo outcome next s t = (m : Memory) → settled next (core_of s m) outcome ≡ Ok (state_of t m)

-- An instruction at pc that ends at `next` makes these registers and this memory of those.
abbrev pub Turns : CodeBytes → Instr → ℕ → Registers → Memory → Registers → Memory → Type 0
Turns code i next s m t n = (width : ℕ) → s.pc + width ≡ next → settled next (core_of s m) (change i (site_of code s width) (core_of s m)) ≡ Ok (state_of t n)

-- It faults.
abbrev pub Fails : CodeBytes → Instr → ℕ → Registers → Memory → FaultKind → Type 0
Fails code i next s m kind = (width : ℕ) → s.pc + width ≡ next → settled next (core_of s m) (change i (site_of code s width) (core_of s m)) ≡ Err kind

-- memory with bytes that are stored
abbrev pub with_cells : List (ℕ × Cell) → Memory → Memory
with_cells ws m = record { base = m.base; cells = store_all m.base ws m.cells }

-- registers that are written, and control that falls to the next instruction
abbrev pub with_regs : List (ℕ × Word) → ℕ → ℕ → Registers → Registers
with_regs ws next it s = record s { r = write_all ws s.r; pc = next; it = it }

-- a base register's new number, if it changes
abbrev pub base_list : ℕ → Option ℕ → List (ℕ × Word)
base_list n None = []
base_list n (Some bits) = (n, plain bits) ∷ []

-- An instruction that doesn't write memory makes these registers of those, whatever code and memory have.
abbrev pub MovesOn : Instr → ℕ → Registers → Registers → Type 0
MovesOn i next s t = (code : CodeBytes) (m : Memory) → Turns code i next s m t m

-- It faults, whatever code and memory have.
abbrev pub Faults : Instr → ℕ → Registers → FaultKind → Type 0
Faults i next s kind = (code : CodeBytes) (m : Memory) → Fails code i next s m kind

-- Beside bytes that are stored, these writes make these registers of those.
abbrev pub StoresBy : List (ℕ × Word) → ℕ → Registers → Registers → Type 0
StoresBy regs next s t = (cells : List (ℕ × Cell)) (m : Memory) → settled next (core_of s m) (upright (record unchanged { regs = regs; cells = cells })) ≡ Ok (state_of t (with_cells cells m))

-- Loads and stores, each with what it makes of its word.
abbrev pub is_load : AccessOp → Bool
is_load Ldr = true
is_load Ldrb = true
is_load Ldrh = true
is_load Ldrsb = true
is_load Ldrsh = true
is_load Str = false
is_load Strb = false
is_load Strh = false

abbrev pub loaded_word : AccessOp → Memory → ℕ → Word
loaded_word Ldr m a = (word_at m a).word
loaded_word Ldrb m a = plain (cell_at m a).byte
loaded_word Ldrh m a = plain (half_at m a)
loaded_word Ldrsb m a = plain (extended 8 (cell_at m a).byte)
loaded_word Ldrsh m a = plain (extended 16 (half_at m a))
loaded_word op m a = plain 0

abbrev pub stored_cells : AccessOp → Word → ℕ → List (ℕ × Cell)
stored_cells Str w a = from a (pieces w)
stored_cells Strb w a = from a (bare (byte_of 0 w.bits) ∷ [])
stored_cells Strh w a = from a (bare (byte_of 0 w.bits) ∷ bare (byte_of 1 w.bits) ∷ [])
stored_cells op w a = []

-- An outcome makes these registers and this memory of those.
abbrev pub Ends : Outcome → ℕ → Registers → Memory → Registers → Memory → Type 0
Ends outcome next s m t n = settled next (core_of s m) outcome ≡ Ok (state_of t n)

-- two words to registers or from them, once their place is known
abbrev pub pair_outcome : PairFields → ℕ → Core → Outcome
pair_outcome i a x = upright (after_base (base_write i.n (pair_place i.index i.up i.imm) x) (transferred i.load a (i.t ∷ i.u ∷ []) x))

-- a list of words likewise, with pc behind it
abbrev pub list_change : MultiFields → ℕ → ℕ → Core → Change
list_change i a bytes x = after_base (base_moved i.back i.down i.n (value x i.n) bytes) (transferred i.load a (registers i.list.0) x)

abbrev pub popped : MultiFields → ℕ → Memory → Word
popped i a m = (word_at m (a + 4 * length (registers i.list.0))).word

abbrev pub list_outcome : MultiFields → ℕ → ℕ → Core → Outcome
list_outcome i a bytes x = and_next (upright (list_change i a bytes x)) (λ h. jump_if i.pc (popped i a x.memory).bits h)
