-- Units that do not do their points' instructions: one that spoils a register that is read, and one with a copy of MOVW that
-- is not linked.
use Rattle.std.specs.Prelude.{◌≤◌, ℕ, true, false, [], ◌∷◌, Option, Some, None, Contains, slice_get}
use Rattle.elf_model.specs.Objects.{ObjectParts}
use Rattle.thumb_instr.specs.declared.conditions.Cond.TheVariants.{Al}
use Rattle.thumb_instr.specs.declared.instructions.Instr.{Instr}
use Rattle.thumb_instr.specs.declared.instructions.Instr.TheVariants as instr
use Rattle.flow_recover.specs.declared.flows.Point.{Point}
use Rattle.flow_recover.specs.declared.flows.Exit.TheVariants as exits
use Rattle.flow_recover.specs.Flows.{FlowParts}
use Rattle.seq_core.specs.Groups.{moving}
use Rattle.hardened_form.specs.Places.{UnitPlace, Places}
use Rattle.hardened_form.specs.Symbols.{size_of}
use Rattle.sim_relation.specs.Accepted.{boundaries}
use Rattle.sim_relation.specs.Sequences.{PlacedStep, Sequence}
use Rattle.sim_relation.specs.Doing.{DoesIt, IsDone}
use Rattle.sim_relation.specs.AddsRow.{adding}

-- ADDS r0, #1 and MOV r1, r12
abbrev pub reader : Point
reader = record { section = 0; offset = 2; wide = false; instr = moving false 1 12; cond = Al; exit = exits.Falls; next = None; reloc = None; word = None }

abbrev pub read_behind : FlowParts
read_behind = record { points = adding ∷ reader ∷ []; words = []; entries = 0 ∷ []; ranges = [] }

abbrev pub ReadRegistersAreKept : Type 0
ReadRegistersAreKept =
    (o h : ObjectParts) (p : Places) (F : ℕ) (u : UnitPlace) (s : Sequence) → Contains s.scratch 12 → IsDone o h read_behind p (boundaries 4) F 2 true adding u s → ⊥

-- MOVW r0, with a relocation
abbrev pub movw : ℕ → Instr
movw n = instr.Half (record { top = false; d = 0; imm = n })

abbrev pub linked : Point
linked = record { section = 0; offset = 0; wide = true; instr = movw 0; cond = Al; exit = exits.Falls; next = None; reloc = Some 0; word = None }

abbrev pub unit : UnitPlace
unit = record { start = 0; end = 8; back = 8; island = None }

abbrev pub step : ℕ → Option ℕ → PlacedStep
step x reloc = record { at = x; width = 4; instr = movw 0; reloc = reloc }

abbrev pub first_unlinked : Sequence
first_unlinked = record { steps = step 0 None ∷ step 4 (Some 0) ∷ []; behind = 8; scratch = [] }

abbrev pub EachCopyIsLinked : Type 0
EachCopyIsLinked = (o h : ObjectParts) (f : FlowParts) (p : Places) → size_of (slice_get h.sections 0) ≤ 0x7FFFF000 → DoesIt o h f p 2 true linked unit first_unlinked → ⊥
