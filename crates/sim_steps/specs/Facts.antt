-- What a chart gives of a point, so that an ordinary step there is alike in both runs: where control leads to in both
-- images, and the numbers of MOVW and MOVT and the words of literals in both.
use Rattle.std.specs.Prelude.{◌≡◌, ℕ, ◌+◌, ◌-◌, ◌/◌, ◌%◌, ◌^◌, ◌==◌, Bool, true, false, Some, if◌then◌else◌}
use Rattle.elf_model.specs.Fields.{word_at as code_word}
use Rattle.mark_word.specs.Words.{Word}
use Rattle.mark_word.specs.declared.marks.Mark.{Mark}
use Rattle.mark_word.specs.declared.marks.Mark.TheVariants as mark
use Rattle.thumb_instr.specs.declared.instructions.Instr.{Instr}
use Rattle.thumb_instr.specs.declared.instructions.Instr.TheVariants as instr
use Rattle.thumb_instr.specs.Fields.{LiteralFields}
use Rattle.thumb_table.specs.Parts.{CodeBytes}
use Rattle.thumb_table.specs.States.{Site}
use Rattle.thumb_table.specs.Values.{moved, away}
use Rattle.thumb_table.specs.Effects.{literal_base, marked, mark_at}
use Rattle.seq_core.specs.Meanings.{Ends}
use Rattle.sim_charts.specs.Charts.{Chart, Point, Way, Onward, Branch, Transfer, Call, Return, leaves}
use Rattle.sim_charts.specs.Alike.{EntryTo, SameWord}

-- A branch leads to a point and its place, or to the entry of a function.
pub data LeadsTo (chart : Chart) (way : Way) (t h : ℕ) : Type 0 where
  to_point : (q : Point) → way ≡ Branch t → chart t ≡ Some q → h ≡ q.place → LeadsTo chart way t h
  to_entry : (q : Point) → way ≡ Transfer → chart t ≡ Some q → q.entry ≡ true → h ≡ q.place → LeadsTo chart way t h

-- The numbers of MOVW and MOVT: the same, or halves of an entry's address and of the hardened one. MOVT adds its number to
-- a half that is there, so the plain one follows.
abbrev pub SameNumber : Chart → Bool → Mark → ℕ → ℕ → Type 0
SameNumber chart false (mark.Low a) n m = (whole : ℕ) × EntryTo chart a whole × (n ≡ a % 2 ^ 16) × (m ≡ whole % 2 ^ 16)
SameNumber chart false place n m = n ≡ m
SameNumber chart true (mark.Entry a) n m = (whole : ℕ) × EntryTo chart a whole × (m ≡ whole / 2 ^ 16)
SameNumber chart true place n m = n ≡ m

-- the word that a literal load finds
abbrev pub literal : LiteralFields → Site → Word
literal i s = let a = moved i.up (literal_base s) i.imm in marked (code_word s.code.bytes (a - s.code.base)) (mark_at s.code.marks a)

-- what is given of a point's instruction: n is the number in the hardened image, `ends` is where its unit leads
abbrev pub Meets : Chart → CodeBytes → ℕ → Point → ℕ → Ends → Instr → Type 0
Meets chart code a p n ends (instr.Half i) = (leaves p.way ≡ false) × SameNumber chart i.top (mark_at code.marks a) i.imm n
Meets chart code a p n ends (instr.Literal i) = (leaves p.way ≡ false) × SameWord chart (literal i (record { code = code; address = a; width = p.width })) ends.word
Meets chart code a p n ends (instr.Adr i) = ⊥
Meets chart code a p n ends (instr.Branch i) = LeadsTo chart p.way (away (a + 4) i.offset) ends.target
Meets chart code a p n ends (instr.ZeroBranch i) = (q : Point) × (p.way ≡ Branch (away (a + 4) i.offset)) × (chart (away (a + 4) i.offset) ≡ Some q) × (ends.target ≡ q.place)
Meets chart code a p n ends (instr.Call i) = (q : Point) × (p.way ≡ Call) × (ends.back ≡ p.back) × (chart (away (a + 4) i.offset) ≡ Some q) × (q.entry ≡ true) × (ends.target ≡ q.place)
Meets chart code a p n ends (instr.CallReg i) = (p.way ≡ Call) × (ends.back ≡ p.back)
Meets chart code a p n ends (instr.Jump i) = p.way ≡ (if i.m == 14 then Return else Transfer)
Meets chart code a p n ends (instr.Multi i) = p.way ≡ (if i.pc then Return else Onward)
Meets chart code a p n ends i = leaves p.way ≡ false
