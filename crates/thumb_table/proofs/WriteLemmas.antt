-- Writes to registers and memory, carried out.
use Rattle.std.proofs.Common.{◌≡◌, ℕ, ◌++◌, ◌||◌, Bool, true, false, List, Option, Some, None, Ok, Err, refl}
use Rattle.std.specs.List.{list_any}
use Rattle.mark_word.specs.Words.{Word, Cell, plain}
use Rattle.thumb_instr.specs.Blocks.{it_after}
use Rattle.thumb_table.specs.declared.cores.Core.{Core as Registers}
use Rattle.thumb_table.specs.declared.faults.FaultKind.TheVariants.{BadStack}
use Rattle.thumb_table.specs.Parts.{Memory}
use Rattle.thumb_table.specs.States.{Change, is_askew, unchanged, upright, write_all}
use Rattle.thumb_table.specs.Steps.{settled}
use Rattle.thumb_table.specs.CoreStates.{core_of, state_of}
use Rattle.thumb_table.specs.Views.{with_cells, with_regs, base_list}

-- writes that keep sp upright
pub made : (regs : List (ℕ × Word)) (cells : List (ℕ × Cell)) (next : ℕ) (s : Registers) (m : Memory) → list_any is_askew regs ≡ false
    → settled next (core_of s m) (upright (record unchanged { regs = regs; cells = cells })) ≡ Ok (state_of (with_regs regs next (it_after s.it) s) (with_cells cells m))
made regs cells next s m up = rw up refl

-- writes that don't
pub askew : (h : Change) → list_any is_askew h.regs ≡ true → upright h ≡ Err BadStack
askew h down = rw down refl

pub askew_behind : (n : ℕ) (base : Option ℕ) (ws : List (ℕ × Word)) → list_any is_askew (base_list n base ++ ws) ≡ (list_any is_askew (base_list n base) || list_any is_askew ws)
askew_behind n None ws = refl
askew_behind n (Some w) ws = either (is_askew (n, plain w)) (list_any is_askew ws)
  where
    either : (a b : Bool) → (a || b) ≡ ((a || false) || b)
    either true b = refl
    either false b = refl

pub write_behind : (n : ℕ) (base : Option ℕ) (ws : List (ℕ × Word)) (regs : List Word) → write_all (base_list n base ++ ws) regs ≡ write_all ws (write_all (base_list n base) regs)
write_behind n None ws regs = refl
write_behind n (Some w) ws regs = refl
