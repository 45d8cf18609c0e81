-- The unit of a point: the sequence of its instruction, with where its goals are.
use Rattle.std.specs.Prelude.{◌≡◌, ◌≤◌, ◌↔◌, ℕ, ◌+◌, ◌&&◌, Bool, true, false, List, [], ◌∷◌, ◌++◌, Option, Some, None, if◌then◌else◌, length, take, is_none, slice_get}
use Rattle.elf_model.specs.declared.objects.Reloc.{Reloc}
use Rattle.elf_model.specs.Objects.{ObjectParts}
use Rattle.thumb_instr.specs.declared.conditions.Cond.{Cond}
use Rattle.thumb_instr.specs.declared.instructions.Instr.{Instr}
use Rattle.thumb_instr.specs.declared.instructions.Instr.TheVariants as instr
use Rattle.thumb_instr.specs.declared.instructions.Instr.TheVariants.{Trap}
use Rattle.thumb_table.specs.States.{Core}
use Rattle.thumb_table.specs.Conditions.{holds}
use Rattle.flow_recover.specs.declared.flows.Point.{Point}
use Rattle.flow_recover.specs.declared.flows.Exit.{Exit}
use Rattle.flow_recover.specs.declared.flows.Exit.TheVariants.{Falls, Branch, Transfer, Call, Return, Stops}
use Rattle.flow_recover.specs.Flows.{FlowParts}
use Rattle.flow_recover.specs.Aims.{has_offset, own_target}
use Rattle.flow_recover.specs.Points.{IsPointAt}
use Rattle.hardened_form.specs.Turns.{is_turned}
use Rattle.hardened_form.specs.Code.{reloc_of}
use Rattle.liveness.specs.declared.boundary.Boundary.{Boundary}
use Rattle.seq_core.specs.declared.classes.Class.{Class}
use Rattle.seq_core.specs.declared.steps.Step.{Step}
use Rattle.seq_core.specs.declared.steps.Goal.TheVariants.{Nowhere, End}
use Rattle.seq_core.specs.declared.units.Unit.{Unit as SeqUnit}
use Rattle.seq_core.specs.Builders.{AreCoded, Do, HasRow, loses, own_test}
use Rattle.seq_core.specs.Classes.{IsOf, has_no_class}
use Rattle.seq_core.specs.Groups.{branching}
use Rattle.seq_core.specs.Needs.{registers_of, changes_flags}
use Rattle.seq_core.specs.Replaced.{leading, replaced}
use Rattle.seq_core.specs.Series.{Series}
use Rattle.it_expand.specs.Expanded.{guard_of, body_of}
use Rattle.point_units.specs.Scratch.{scratch_of, has_live_flag, IsLive}

-- a call, and there is nothing behind it
abbrev pub is_call : Exit → Bool
is_call Falls = false
is_call (Branch q) = false
is_call Transfer = false
is_call Call = true
is_call Return = false
is_call Stops = false

abbrev pub never_returns : Point → Bool
never_returns x = is_call x.exit && is_none x.next

-- Behind such a call stands what it would come back to: UDF of 0.
abbrev pub trapping : ℕ → Step
trapping copies = leading copies Nowhere (Trap (record { imm = 0 }))

abbrev pub landed : Bool → ℕ → List Step → Series
landed never copies steps = record { steps = if never then steps ++ trapping copies ∷ [] else steps; landing = length steps }

-- A guard stands before all of it.
abbrev pub under : Option Cond → ℕ → Series → Series
under None copies s = s
under (Some c) copies s = record { steps = leading copies End (branching c) ∷ s.steps; landing = s.landing + 1 }

-- The instruction that is replaced: a MOVW or MOVT whose relocation turns has the number 0.
abbrev pub left_by : ObjectParts → Option Reloc → Instr → Instr
left_by o (Some r) (instr.Half i) = if is_turned o r then instr.Half (record i { imm = 0 }) else instr.Half i
left_by o r i = i

abbrev pub left_instr : ObjectParts → Point → Instr
left_instr o x = left_by o (reloc_of o x.reloc) x.instr

-- The sequence of the instruction's class, by the first of the registers that are not live behind it.
pub record IsReplaced (o : ObjectParts) (live : ℕ → Bool) (copies : ℕ) (x : Point) (scratch : List ℕ) (s : Series) : Type 0 where
  pub class : Class
  pub of : IsOf class x.instr
  pub enough : registers_of class x.instr ≤ length (scratch_of live x.instr)
  pub flags : (changes_flags class && has_live_flag live) ≡ false
  pub first : scratch ≡ take (registers_of class x.instr) (scratch_of live x.instr)
  pub sequence : s ≡ under (guard_of x.cond) copies (landed (never_returns x) copies (replaced class copies (left_instr o x) scratch))

-- THE LAW: up to its landing it does the instruction, under the point's condition and its own, and loses what it was
-- given as scratch.
abbrev pub is_taken : Point → Core → Bool
is_taken x y = holds x.cond y && own_test x.instr y

abbrev pub Works : ObjectParts → ℕ → Point → List ℕ → Series → Type 0
Works o copies x scratch s = Do (is_taken x) (left_instr o x) (loses x.instr scratch) copies (take s.landing s.steps)

-- IT becomes nothing. Everything else is replaced by what does its work, of which each step has a code.
pub data IsSequenceOf (o : ObjectParts) (live : ℕ → Bool) (copies : ℕ) (x : Point) (scratch : List ℕ) (s : Series) : Type 0 where
  of_it : body_of x.instr ≡ None → scratch ≡ [] → s ≡ record { steps = []; landing = 0 } → IsSequenceOf o live copies x scratch s
  of_instr : body_of x.instr ≡ Some x.instr → IsReplaced o live copies x scratch s → Works o copies x scratch s → AreCoded s.steps → IsSequenceOf o live copies x scratch s

-- A branch within the section leads to its point, and so does a call whose own number leads to it.
pub data LeadsTo (f : FlowParts) (x : Point) (q : ℕ) : Type 0 where
  by_branch : x.exit ≡ Branch q → LeadsTo f x q
  by_call : x.exit ≡ Call → x.reloc ≡ None → has_offset x.instr ≡ true → IsPointAt f x.section (own_target x.offset x.instr) q → LeadsTo f x q

pub record IsUnitOf (o : ObjectParts) (f : FlowParts) (b : Boundary) (copies : ℕ) (x : Point) (u : SeqUnit) : Type 0 where
  pub section : u.section ≡ x.section
  pub old : u.old ≡ x.offset
  pub live : ℕ → Bool
  pub is_live : IsLive f b x live
  pub scratch : List ℕ
  pub sequence : IsSequenceOf o live copies x scratch u.seq
  pub short : length u.seq.steps ≤ 8
  pub target : (q : ℕ) → (u.target ≡ Some q) ↔ LeadsTo f x q
  pub word : u.word ≡ x.word
  pub reloc : u.reloc ≡ x.reloc

-- one for each of the first points, in their order
pub record HaveUnits (o : ObjectParts) (f : FlowParts) (b : Boundary) (copies : ℕ) (points : List Point) (count : ℕ) (units : List SeqUnit) : Type 0 where
  pub sized : length units ≡ count
  pub each : (n : ℕ) (x : Point) (u : SeqUnit) → slice_get points n ≡ Some x → slice_get units n ≡ Some u → IsUnitOf o f b copies x u

abbrev pub AreUnits : ObjectParts → FlowParts → Boundary → ℕ → List Point → List SeqUnit → Type 0
AreUnits o f b copies points units = HaveUnits o f b copies points (length points) units

-- What is asked of a point: IT and ADR are replaced by nothing, and there are no ADR; all else has a row.
pub record CanReplace (x : Point) : Type 0 where
  pub row : body_of x.instr ≡ Some x.instr → HasRow x.instr
  pub classed : has_no_class x.instr ≡ true → body_of x.instr ≡ None
