-- A unit stands in a code, with the numbers that linking puts there.
use Rattle.std.specs.Prelude.{◌≡◌, ℕ, ℤ, ◌+◌, ◌-◌, true, Option, Some, None, Ok, slice_get}
use Rattle.elf_model.specs.Fields.{word_at}
use Rattle.mark_word.specs.declared.marks.Mark.{Mark}
use Rattle.mark_word.specs.declared.marks.Mark.TheVariants.{Plain}
use Rattle.thumb_instr.specs.declared.instructions.Instr.{Instr}
use Rattle.thumb_instr.specs.declared.instructions.Instr.TheVariants as instr
use Rattle.thumb_instr.specs.declared.refusals.ItPlace.TheVariants.{Outside}
use Rattle.thumb_instr.specs.Rows.{decode}
use Rattle.thumb_table.specs.Parts.{CodeBytes}
use Rattle.thumb_table.specs.Values.{away}
use Rattle.thumb_table.specs.Effects.{lies, mark_at}
use Rattle.thumb_table.specs.Steps.{Fetched, fetch}
use Rattle.flow_recover.specs.declared.flows.Point.{Point}
use Rattle.hardened_form.specs.Places.{UnitPlace, Places}
use Rattle.sim_relation.specs.Sequences.{PlacedStep, Sequence}

-- What linking puts at the relocated places of one unit: the address that its branches and calls lead to; and the number of
-- its MOVW or MOVT, or of the words that it loads, with that number's mark.
pub record Linking : Type 0 where
  pub target : ℕ
  pub number : ℕ
  pub mark : Mark

-- the linked instruction at an address
abbrev pub IsPut : Linking → ℕ → Instr → Instr → Type 0
IsPut link a (instr.Branch i) becomes = (o : ℤ) × (away (a + 4) o ≡ link.target) × (becomes ≡ instr.Branch (record i { offset = o }))
IsPut link a (instr.Call i) becomes = (o : ℤ) × (away (a + 4) o ≡ link.target) × (becomes ≡ instr.Call (record i { offset = o }))
IsPut link a (instr.Half i) becomes = becomes ≡ instr.Half (record i { imm = link.number })
IsPut link a i becomes = becomes ≡ i

abbrev pub IsLinked : Linking → ℕ → Option ℕ → Instr → Instr → Type 0
IsLinked link a None i becomes = becomes ≡ i
IsLinked link a (Some k) i becomes = IsPut link a i becomes

-- only relocated places have marks
abbrev pub linked_mark : Linking → Option ℕ → Mark
linked_mark link None = Plain
linked_mark link (Some k) = link.mark

pub record StepStands (code : CodeBytes) (start : ℕ) (link : Linking) (s : PlacedStep) : Type 0 where
  pub fetched : Fetched
  pub there : fetch code (start + s.at) ≡ Some fetched
  pub width : fetched.width ≡ s.width
  pub instr : Instr
  pub means : decode Outside fetched.first fetched.second ≡ Ok instr
  pub linked : IsLinked link (start + s.at) s.reloc s.instr instr
  pub marked : mark_at code.marks (start + s.at) ≡ linked_mark link s.reloc

pub record WordStands (code : CodeBytes) (link : Linking) (a : ℕ) : Type 0 where
  pub lies : lies code a 4 ≡ true
  pub word : word_at code.bytes (a - code.base) ≡ link.number
  pub marked : mark_at code.marks a ≡ link.mark

-- Its section starts at `start`; the words are that of the pool that the point loads, and the one behind the unit.
pub record Stands (code : CodeBytes) (start : ℕ) (link : Linking) (p : Places) (x : Point) (u : UnitPlace) (s : Sequence) : Type 0 where
  pub steps : (k : ℕ) (t : PlacedStep) → slice_get s.steps k ≡ Some t → StepStands code start link t
  pub word : (n y : ℕ) → x.word ≡ Some n → slice_get p.words n ≡ Some y → WordStands code link (start + y)
  pub island : (y : ℕ) → u.island ≡ Some y → WordStands code link (start + y)
