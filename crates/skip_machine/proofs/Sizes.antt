-- A step leaves memory where it is and as large as it is.
use Rattle.std.proofs.Common.{◌≡◌, ℕ, ◌+◌, Bool, true, false, List, [], ◌∷◌, length, Option, Some, None, Result, Ok, Err, arith, refl, ap, subst, ◌∙◌, length-set}
use Rattle.mark_word.specs.Words.{Cell}
use Rattle.thumb_instr.specs.Rows.{Answer, decode}
use Rattle.thumb_table.specs.declared.faults.FaultKind.{FaultKind}
use Rattle.thumb_table.specs.Parts.{CodeBytes, Memory}
use Rattle.thumb_table.specs.States.{Core, State, Outcome, at, store_all, applied}
use Rattle.thumb_instr.specs.Blocks.{it_after, place_in_block}
use Rattle.thumb_table.specs.Steps.{Fetched, move, fetch, skip_of, step_of, executed, settled, goes_on}
use Rattle.skip_machine.specs.Machines.{IsSound}

pub record SameSize (m n : Memory) : Type 0 where
  pub base : n.base ≡ m.base
  pub cells : length n.cells ≡ length m.cells

stored : (base : ℕ) (ws : List (ℕ × Cell)) (cells : List Cell) → length (store_all base ws cells) ≡ length cells
stored base [] cells = refl
stored base (w ∷ ws) cells = stored base ws _ ∙ length-set _ _ _

result_is : (s t : State) → let r : Result State FaultKind = Ok s in r ≡ Ok t → s ≡ t
result_is s t e = cc

settled_keeps : (next : ℕ) (x : Core) (o : Outcome) (t : State) → settled next x o ≡ Ok t → SameSize x.memory t.core.memory
settled_keeps next x (Err kind) t e = absurd (cc)
settled_keeps next x (Ok h) t e =
    let same : (applied h x).memory ≡ t.core.memory = ap (λ (u : State). u.core.memory) (result_is (at (goes_on next h.exit) (applied h x)) t e) in
    subst (λ m. SameSize x.memory m) same (record { base = refl; cells = stored x.memory.base h.cells x.memory.cells })

executed_keeps : (code : CodeBytes) (f : Fetched) (s : State) (a : Answer) (t : State) → executed code f s a ≡ Ok t → SameSize s.core.memory t.core.memory
executed_keeps code f s (Err why) t e = absurd (cc)
executed_keeps code f s (Ok i) t e = settled_keeps _ s.core _ t e

step_keeps : (code : CodeBytes) (f : Option Fetched) (s t : State) → step_of code f s ≡ Ok t → SameSize s.core.memory t.core.memory
step_keeps code None s t e = absurd (cc)
step_keeps code (Some f) s t e = executed_keeps code f s (decode (place_in_block s.core.it) f.first f.second) t e

skip_keeps : (f : Option Fetched) (s t : State) → skip_of f s ≡ Ok t → SameSize s.core.memory t.core.memory
skip_keeps None s t e = absurd (cc)
skip_keeps (Some f) s t e =
    let same : s.core.memory ≡ t.core.memory = ap (λ (u : State). u.core.memory) (result_is (at (s.pc + f.width) (record s.core { it = it_after s.core.it })) t e) in subst (λ m. SameSize s.core.memory m) same (record { base = refl; cells = refl })

pub move_keeps : (code : CodeBytes) (skipped : Bool) (s t : State) → move code skipped s ≡ Ok t → SameSize s.core.memory t.core.memory
move_keeps code true s t e = skip_keeps (fetch code s.pc) s t e
move_keeps code false s t e = step_keeps code (fetch code s.pc) s t e

pub still_sound : (code : CodeBytes) (m n : Memory) → IsSound code m → SameSize m n → IsSound code n
still_sound code m n sound same = record {
  marks_rise = sound.marks_rise;
  stops_rise = sound.stops_rise;
  code_ends = sound.code_ends;
  memory_ends = omega (arith, sound.memory_ends, same.base, same.cells);
}
