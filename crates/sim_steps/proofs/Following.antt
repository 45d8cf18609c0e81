-- What it is that the other side follows a change: changes that are the same up to addresses of code, and the words that
-- control goes to.
use Rattle.std.proofs.Common.{◌≡◌, ℕ, ◌+◌, ◌-◌, ◌*◌, ◌⊎◌, Bool, true, false, length, Option, Some, None, Ok, IsTrue}
use Rattle.std.specs.Prelude.{⊤}
use Rattle.mark_word.specs.Words.{Word, is_word}
use Rattle.mark_word.specs.declared.marks.Mark.{Mark}
use Rattle.mark_word.specs.declared.marks.Mark.TheVariants.{Plain, Entry, Return}
use Rattle.thumb_instr.specs.declared.instructions.Instr.{Instr}
use Rattle.thumb_instr.specs.declared.instructions.Instr.TheVariants.{Half, Multi, Literal, Adr, Call, Jump, CallReg}
use Rattle.thumb_instr.specs.Sets.{reads_of}
use Rattle.thumb_table.specs.States.{Core, read, Change, Exit, Jumps, Site, Outcome}
use Rattle.thumb_table.specs.Effects.{value, word_at, mark_at, registers, lowest, transfer_size, return_address}
use Rattle.seq_core.specs.Reading.{SameFlags}
use Rattle.sim_charts.specs.Words.{Taking, SameWord, SameMemory, IsTaking}
use Rattle.sim_charts.specs.Changes.{SameChange, AreWords, AreCells}

-- a relation of addresses, with its laws
pub record Lawful : Type 1 where
  pub taking : Taking
  pub laws : IsTaking taking

-- what an instruction reads is the same up to the addresses of code
pub record Akin (t : Taking) (i : Instr) (x y : Core) : Type 0 where
  pub regs : (r : ℕ) → reads_of i r ≡ true → SameWord t (read x r) (read y r)
  pub flags : SameFlags i x y
  pub memory : SameMemory t x.memory y.memory

-- the word that control goes to, where an instruction jumps to a word
abbrev pub popped_if : Bool → Word → Option Word
popped_if true w = Some w
popped_if false w = None

abbrev pub jumped : Instr → Core → Option Word
jumped (Jump i) x = Some (read x i.m)
jumped (CallReg i) x = Some (read x i.m)
jumped (Multi i) x = popped_if i.pc (word_at x.memory (lowest i.down (value x i.n) (transfer_size i.list.0 i.pc) + 4 * length (registers i.list.0))).word
jumped i x = None

-- an entry or a return address
abbrev pub IsTarget : Mark → Type 0
IsTarget mark = ((a : ℕ) × (mark ≡ Entry a)) ⊎ ((a : ℕ) × (mark ≡ Return a))

-- The two words are the same up to the addresses of code, and control goes to them, less bit 0.
abbrev pub SameTarget : Taking → Option Word → Option Word → Exit → Exit → Type 0
SameTarget t None None e f = ⊤
SameTarget t (Some w) (Some v) (Jumps a) (Jumps b) = IsTarget w.mark × IsTrue (is_word w) × SameWord t w v × (a ≡ w.bits - 1) × (b ≡ v.bits - 1)
SameTarget t (Some w) (Some v) e f = ⊥
SameTarget t None (Some v) e f = ⊥
SameTarget t (Some w) None e f = ⊥

-- What an instruction takes from its place: MOVW and MOVT have no mark there, and a call's two return
-- addresses stand for each other. A literal and ADR are left out.
abbrev pub SamePlace : Taking → Instr → Site → Site → Type 0
SamePlace t (Half i) s u = mark_at s.code.marks s.address ≡ Plain
SamePlace t (Literal i) s u = ⊥
SamePlace t (Adr i) s u = ⊥
SamePlace t (Call i) s u = t.back (return_address s) (return_address u)
SamePlace t (CallReg i) s u = t.back (return_address s) (return_address u)
SamePlace t i s u = ⊤

-- Such a change comes of the same instruction on the other side.
pub record Follows (t : Taking) (i : Instr) (x y : Core) (h : Change) (o : Outcome) : Type 0 where
  pub change : Change
  pub comes : o ≡ Ok change
  pub same : SameChange t h change
  pub words : AreWords h.regs
  pub cells : AreCells h.cells
  pub target : SameTarget t (jumped i x) (jumped i y) h.exit change.exit
