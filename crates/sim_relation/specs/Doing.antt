-- The unit of a point does the point's instruction.
use Rattle.std.specs.Prelude.{◌≡◌, ◌<◌, ◌≤◌, ℕ, ◌+◌, ◌%◌, ◌==◌, ◌&&◌, ◌||◌, Bool, true, false, List, Option, Some, None, length, slice_get, Contains}
use Rattle.elf_model.specs.Fields.{word_at}
use Rattle.elf_model.specs.Objects.{ObjectParts}
use Rattle.thumb_instr.specs.declared.instructions.Instr.{Instr}
use Rattle.thumb_instr.specs.declared.instructions.Instr.TheVariants as instr
use Rattle.thumb_instr.specs.Sets.{is_flag}
use Rattle.thumb_table.specs.Parts.{CodeBytes}
use Rattle.thumb_table.specs.States.{Core}
use Rattle.thumb_table.specs.Conditions.{holds}
use Rattle.thumb_table.specs.Effects.{marked}
use Rattle.reloc_places.specs.Starts.{bytes_of}
use Rattle.flow_recover.specs.declared.flows.Point.{Point}
use Rattle.flow_recover.specs.declared.flows.PoolWord.{PoolWord}
use Rattle.flow_recover.specs.declared.flows.Exit.TheVariants.{Call}
use Rattle.flow_recover.specs.Flows.{FlowParts}
use Rattle.flow_recover.specs.Aims.{has_offset, own_target}
use Rattle.flow_recover.specs.Points.{IsPointAt}
use Rattle.liveness.specs.declared.boundary.Boundary.{Boundary}
use Rattle.liveness.specs.Paths.{branch_cond, IsLiveAfter}
use Rattle.seq_core.specs.Classes.{has_pc, adds_long_product}
use Rattle.seq_core.specs.Does.{Effect, Task, Tolerates, DoesOnce}
use Rattle.seq_core.specs.Meanings.{Ends, meant}
use Rattle.seq_core.specs.Builders as builders
use Rattle.hardened_form.specs.Places.{UnitPlace, Places}
use Rattle.hardened_form.specs.Symbols.{size_of}
use Rattle.sim_relation.specs.Sequences.{Sequence, IsSequence}
use Rattle.sim_relation.specs.Standing.{Linking, Stands}

-- what a unit may lose: its scratch registers, of a long sum the flags, and lr where the instruction loads pc
abbrev pub loses : Instr → List ℕ → ℕ → Bool
loses i scratch k = builders.loses i scratch k || (has_pc i && (k == 14))

-- the IT condition holds, and that of a branch instruction
abbrev pub is_taken : Point → Core → Bool
is_taken x y = holds x.cond y && holds (branch_cond x.instr) y

-- the unit's work in a code where its section starts there
abbrev pub task_at : ℕ → Point → UnitPlace → Sequence → Effect → Task
task_at start x u s effect = record {
  place = start + u.start;
  end = start + u.end;
  length = length s.steps;
  taken = is_taken x;
  effect = effect;
  loses = loses x.instr s.scratch;
}

-- the instruction with the number that linking puts there, and what it means
abbrev pub with_number : Option ℕ → ℕ → Instr → Instr
with_number (Some k) n (instr.Half i) = instr.Half (record i { imm = n })
with_number reloc n i = i

abbrev pub ends_at : ℕ → Linking → UnitPlace → Ends
ends_at start link u = record { target = link.target; back = start + u.back; word = marked link.number link.mark }

abbrev pub linked_effect : ℕ → Linking → Point → UnitPlace → Effect
linked_effect start link x u = meant (with_number x.reloc link.number x.instr) (ends_at start link u)

-- Linking puts anything where a relocation is. Else the number is that of o's word, and the target is the unit of o's.
pub record MayLink (o : ObjectParts) (f : FlowParts) (p : Places) (start : ℕ) (x : Point) (link : Linking) : Type 0 where
  pub word : (n : ℕ) (w : PoolWord) → x.word ≡ Some n → slice_get f.words n ≡ Some w → w.reloc ≡ None → link.number ≡ word_at (bytes_of o w.section) w.offset
  pub target : (q : ℕ) (v : UnitPlace) → x.reloc ≡ None → has_offset x.instr ≡ true → IsPointAt f x.section (own_target x.offset x.instr) q → slice_get p.units q ≡ Some v
      → link.target ≡ start + v.start

-- Under every legal schedule; or, where none of its steps may be skipped, without skips.
abbrev pub Serves : Bool → CodeBytes → ℕ → Task → Type 0
Serves true code c t = Tolerates code c t
Serves false code c t = (may_skip : ℕ → Bool) → ((a : ℕ) → t.place ≤ a → a < t.end → may_skip a ≡ false) → DoesOnce code may_skip t

-- DOES: in each code that the section may come to, which starts at a multiple of 4 and ends below the end of images.
abbrev pub DoesIt : ObjectParts → ObjectParts → FlowParts → Places → ℕ → Bool → Point → UnitPlace → Sequence → Type 0
DoesIt o h f p c skipped x u s =
    (code : CodeBytes) (start : ℕ) (link : Linking) → start % 4 ≡ 0 → start + size_of (slice_get h.sections x.section) ≤ 0x7FFFF000
    → MayLink o f p start x link → Stands code start link p x u s → Serves skipped code c (task_at start x u s (linked_effect start link x u))

-- a register that is dead after the point
pub record IsSpare (f : FlowParts) (b : Boundary) (x : Point) (k : ℕ) : Type 0 where
  pub low : k < 13
  pub dead : ¬ IsLiveAfter f b k x

-- Where a call returns to: behind the unit where a point follows, else to an even place in it.
pub record IsBack (x : Point) (u : UnitPlace) : Type 0 where
  pub even : u.back % 2 ≡ 0
  pub behind : (q : ℕ) → x.next ≡ Some q → u.back ≡ u.end
  pub low : u.start ≤ u.back
  pub high : u.back ≤ u.end

-- The point and its unit, which begins and ends inside of the section. Only a load of a word has a word of its own, and that
-- stands behind an instruction, since control comes to where the unit begins.
pub record IsDone (o h : ObjectParts) (f : FlowParts) (p : Places) (b : Boundary) (F c : ℕ) (skipped : Bool) (x : Point) (u : UnitPlace) (s : Sequence) : Type 0 where
  pub stands : IsSequence h x.section u s
  pub inside : u.start < size_of (slice_get h.sections x.section)
  pub within : u.end ≤ size_of (slice_get h.sections x.section)
  pub island : (y : ℕ) → u.island ≡ Some y → (n : ℕ) × (x.word ≡ Some n)
  pub load : (y : ℕ) → u.island ≡ Some y → u.start < s.behind
  pub short : length s.steps ≤ F
  pub does : DoesIt o h f p c skipped x u s
  pub spare : (k : ℕ) → Contains s.scratch k → IsSpare f b x k
  pub flags : (k : ℕ) → adds_long_product x.instr ≡ true → is_flag k ≡ true → ¬ IsLiveAfter f b k x
  pub end : (q : ℕ) (v : UnitPlace) → x.next ≡ Some q → slice_get p.units q ≡ Some v → u.end ≡ v.start
  pub back : x.exit ≡ Call → IsBack x u
