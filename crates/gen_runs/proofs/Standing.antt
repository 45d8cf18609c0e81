-- The states of a call of the generated object, and its steps.
use Rattle.std.proofs.Common.{◌≡◌, ◌≢◌, ℕ, ◌+◌, Bool, List, [], ◌∷◌, Ok}
use Rattle.mark_word.specs.Words.{Word, Cell, plain}
use Rattle.thumb_instr.specs.declared.instructions.Instr.{Instr}
use Rattle.thumb_table.specs.Parts.{Memory, CodeBytes}
use Rattle.thumb_table.specs.States.{Core, State, at, Site}
use Rattle.thumb_table.specs.Effects.{change}
use Rattle.thumb_table.specs.Ordinary.{IsOrdinaryUse}
use Rattle.thumb_table.specs.Steps.{settled}
use Rattle.thumb_table.specs.Schedules.{exit}
use Rattle.gen_image.specs.GeneratedImages.{IsFetched, width_of}
use Rattle.gen_runs.proofs.Walking.{Step}

-- what the drawn instructions change: r0, r1, r2 and the flags
pub record Numbers : Type 0 where
  pub r0 : ℕ
  pub r1 : ℕ
  pub r2 : ℕ
  pub n : Bool
  pub z : Bool
  pub c : Bool
  pub v : Bool

abbrev pub registers_of : Numbers → ℕ → Word → List Word
registers_of w sp lr =
    plain w.r0 ∷ plain w.r1 ∷ plain w.r2 ∷ plain 0 ∷ plain 0 ∷ plain 0 ∷ plain 0 ∷ plain 0 ∷ plain 0 ∷ plain 0 ∷ plain 0 ∷ plain 0 ∷ plain 0 ∷ plain sp ∷ lr ∷ []

-- the stack, which is all of memory
abbrev pub stack_of : List Cell → Memory
stack_of cells = record { base = 557056; cells = cells }

abbrev pub core : Numbers → ℕ → Word → List Cell → Core
core w sp lr cells = record { regs = registers_of w sp lr; n = w.n; z = w.z; c = w.c; v = w.v; it = 0; memory = stack_of cells }

abbrev pub site : CodeBytes → Instr → ℕ → Site
site code i a = record { code = code; address = a; width = width_of i }

pub step_made : (code : CodeBytes) (i : Instr) (a : ℕ) (w : Numbers) (sp : ℕ) (lr : Word) (cells : List Cell) (t : State) → IsFetched code a i → a ≢ exit
    → settled (a + width_of i) (core w sp lr cells) (change i (site code i a) (core w sp lr cells)) ≡ Ok t
    → IsOrdinaryUse i (site code i a) (core w sp lr cells)
    → Step code (at a (core w sp lr cells)) t
step_made code i a w sp lr cells t f away made proper = record {
  moves = rw (f.is, f.answer, f.width) made;
  ordinary = rw (f.is, f.answer, f.width) (λ holds. proper);
  inside = away;
}
