-- What transfers of lists change.
use Rattle.std.proofs.Common.{◌≡◌, ℕ, ◌+◌, ◌-◌, ◌%◌, ◌==◌, ◌++◌, ◌&&◌, not, Bool, true, false, List, [], ◌∷◌, filter, Ok, Err, refl, eq-eqb, if◌then◌else◌}
use Rattle.std.specs.List.{list_any}
use Rattle.mark_word.specs.Words.{Word}
use Rattle.thumb_instr.specs.declared.instructions.Instr.TheVariants.{Multi}
use Rattle.thumb_instr.specs.Fields.{MultiFields}
use Rattle.thumb_instr.specs.Blocks.{it_after}
use Rattle.thumb_instr.specs.Operands.{has, is_list}
use Rattle.thumb_table.specs.declared.cores.Core.{Core as Registers}
use Rattle.thumb_table.specs.declared.faults.FaultKind.TheVariants.{BadJump}
use Rattle.thumb_table.specs.Parts.{Memory}
use Rattle.thumb_table.specs.States.{Core, Change, Site, is_askew, upright, write_all}
use Rattle.thumb_table.specs.Steps.{settled}
use Rattle.thumb_table.specs.Effects.{value, registers, loaded, transferred, after_base, transfer_size, lowest, on_words, and_next, jump_if, change}
use Rattle.thumb_table.specs.CoreStates.{core_of, state_of, alone}
use Rattle.thumb_table.specs.Views.{with_cells, list_outcome}
use Rattle.thumb_table.proofs.MarkLemmas.{differs}

pub multi_change : (i : MultiFields) (site : Site) (s : Registers) (m : Memory) (bytes a : ℕ) → bytes ≡ transfer_size i.list.0 i.pc → a ≡ lowest i.down (value (alone s) i.n) bytes
    → change (Multi i) site (core_of s m) ≡ on_words m a bytes (list_outcome i a bytes (core_of s m))
unfolding change
multi_change i site s m bytes a eb ea = rw (← eb, ← ea) refl

pub lacks_sp : (list : ℕ) (pc : Bool) → is_list list pc ≡ true → has list 13 ≡ false
lacks_sp list pc h = second _ (has list 13) _ h
  where
    second : (a b c : Bool) → (a && not b && c) ≡ true → b ≡ false
    second a false c h = refl
    second true true c h = cc
    second false true c h = cc

filter_lacks : (list : ℕ) (xs : List ℕ) → has list 13 ≡ false → list_any (λ r. r == 13) (filter (λ r. has list r) xs) ≡ false
filter_lacks list [] h = refl
filter_lacks list (x ∷ xs) h = either (has list x) refl (filter_lacks list xs h)
  where
    either : (b : Bool) → has list x ≡ b → list_any (λ r. r == 13) (filter (λ r. has list r) xs) ≡ false → list_any (λ r. r == 13) (filter (λ r. has list r) (x ∷ xs)) ≡ false
    either true e behind = let other : (x == 13) ≡ false = differs x 13 (λ same. let there : has list 13 ≡ true = rw (← same) e in cc) in rw (e, other) behind
    either false e behind = rw e behind

pub registers_lack : (list : ℕ) → has list 13 ≡ false → list_any (λ r. r == 13) (registers list) ≡ false
unfolding registers
registers_lack list h = filter_lacks list (0 ∷ 1 ∷ 2 ∷ 3 ∷ 4 ∷ 5 ∷ 6 ∷ 7 ∷ 8 ∷ 9 ∷ 10 ∷ 11 ∷ 12 ∷ 13 ∷ 14 ∷ []) h

loaded_upright : (m : Memory) (a : ℕ) (rs : List ℕ) → list_any (λ r. r == 13) rs ≡ false → list_any is_askew (loaded m a rs) ≡ false
loaded_upright m a [] h = refl
loaded_upright m a (r ∷ rs) h = either (r == 13) refl (λ behind. loaded_upright m (a + 4) rs behind)
  where
    either : (b : Bool) → (r == 13) ≡ b → (list_any (λ k. k == 13) rs ≡ false → list_any is_askew (loaded m (a + 4) rs) ≡ false) → list_any is_askew (loaded m a (r ∷ rs)) ≡ false
    either true e behind = let there : list_any (λ k. k == 13) (r ∷ rs) ≡ true = rw e refl in cc
    either false e behind = let later : list_any (λ k. k == 13) rs ≡ false = rw e at h in rw e (behind later)

any_front : (xs ys : List (ℕ × Word)) → list_any is_askew ys ≡ false → list_any is_askew (xs ++ ys) ≡ list_any is_askew xs
any_front [] ys h = h
any_front (x ∷ xs) ys h = rw (any_front xs ys h) refl

pub moves_upright : (base : List (ℕ × Word)) (load : Bool) (a : ℕ) (rs : List ℕ) (x : Core) → list_any (λ r. r == 13) rs ≡ false
    → list_any is_askew (after_base base (transferred load a rs x)).regs ≡ list_any is_askew base
moves_upright base true a rs x h = any_front base (loaded x.memory a rs) (loaded_upright x.memory a rs h)
moves_upright base false a rs x h = any_front base [] refl

pub moved_list : (base : List (ℕ × Word)) (load : Bool) (a : ℕ) (rs : List ℕ) (pc : Bool) (bits next : ℕ) (s : Registers) (m : Memory)
    → list_any is_askew (after_base base (transferred load a rs (core_of s m))).regs ≡ false
    → (pc ≡ true → bits % 2 ≡ 1)
    → settled next (core_of s m) (and_next (upright (after_base base (transferred load a rs (core_of s m)))) (λ h. jump_if pc bits h))
    ≡ Ok (state_of (record s { r = write_all (after_base base (transferred load a rs (core_of s m))).regs s.r; pc = if pc then bits - 1 else next; it = it_after s.it }) (with_cells (after_base base (transferred load a rs (core_of s m))).cells m))
moved_list base true a rs true bits next s m up odd = rw (up, eq-eqb (bits % 2) 1 (odd refl)) refl
moved_list base true a rs false bits next s m up odd = rw up refl
moved_list base false a rs true bits next s m up odd = rw (up, eq-eqb (bits % 2) 1 (odd refl)) refl
moved_list base false a rs false bits next s m up odd = rw up refl

pub no_jump : (h : Change) (pc : Bool) (bits : ℕ) → list_any is_askew h.regs ≡ false → pc ≡ true → (bits % 2 ≡ 1 → ⊥) → and_next (upright h) (λ g. jump_if pc bits g) ≡ Err BadJump
no_jump h pc bits up e even = rw (up, e, differs (bits % 2) 1 even) refl
