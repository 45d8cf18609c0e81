-- What changes beside registers and flags.
use Rattle.std.proofs.Common.{◌≡◌, ℕ, ◌+◌, ◌-◌, ◌*◌, ◌%◌, Bool, true, false, List, [], ◌∷◌, length, None, Ok, Err, refl, ◌∙◌, subst}
use Rattle.std.specs.Prelude.{◌==◌, not}
use Rattle.mark_word.specs.Words.{Word}
use Rattle.thumb_instr.specs.declared.operations.AccessOp.{AccessOp}
use Rattle.thumb_instr.specs.declared.operations.AccessOp.TheVariants.{Ldr, Ldrb, Ldrh, Ldrsb, Ldrsh, Str, Strb, Strh}
use Rattle.thumb_instr.specs.declared.instructions.Instr.{Instr}
use Rattle.thumb_instr.specs.declared.instructions.Instr.TheVariants.{Alu, Move, Test, ShiftBy, Wide, Half, Field, Unary, Mul, MulAcc, LongMul, Div, Access, Pair, Multi, Literal, Adr, Branch, ZeroBranch, Call, Jump, CallReg, It, Nothing, Trap}
use Rattle.thumb_instr.specs.Sets.{is_store}
use Rattle.thumb_table.specs.States.{Core, Change, Outcome, Falls, Jumps, Site, unchanged, upright}
use Rattle.thumb_table.specs.Values.{Computed}
use Rattle.thumb_table.specs.Effects.{change, branch_if, value, with_flags, with_sign, writing, accessed, after_base, base_write, transferred, base_moved, and_next, jump_if, jump_to, registers, lowest, transfer_size, access_address, pair_place, word_at, two_words, link}
use Rattle.seq_core.specs.Reading.{stores, may_jump, IsQuiet}
use Rattle.seq_core.specs.Apart.{goes_on_always}
use Rattle.seq_core.proofs.Written.{upright_is, passed, words_passed, ok_is}

-- control falls through, the IT state is not set, and memory stays but for stores
pub record Quiet (storing : Bool) (h : Change) : Type 0 where
  pub falls : h.exit ≡ Falls
  pub it : h.it ≡ None
  pub cells : storing ≡ false → h.cells ≡ []

quiet_upright : (b : Bool) (g h : Change) → Quiet b g → upright g ≡ Ok h → Quiet b h
quiet_upright b g h q e = subst (Quiet b) (upright_is g h e) q

flags_quiet : (s : Bool) (r : Computed) (regs : List (ℕ × Word)) → Quiet false (with_flags s r (writing regs))
flags_quiet true r regs = record { falls = refl; it = refl; cells = λ b. refl }
flags_quiet false r regs = record { falls = refl; it = refl; cells = λ b. refl }

sign_quiet : (s : Bool) (n : ℕ) (regs : List (ℕ × Word)) → Quiet false (with_sign s n (writing regs))
sign_quiet true n regs = record { falls = refl; it = refl; cells = λ b. refl }
sign_quiet false n regs = record { falls = refl; it = refl; cells = λ b. refl }

pub writing_quiet : (regs : List (ℕ × Word)) → Quiet false (writing regs)
writing_quiet regs = record { falls = refl; it = refl; cells = λ b. refl }

pub one_quiet : (d : ℕ) (w : Word) (h : Change) → upright (writing ((d, w) ∷ [])) ≡ Ok h → Quiet false h
one_quiet d w h e = quiet_upright false (writing ((d, w) ∷ [])) h (writing_quiet ((d, w) ∷ [])) e

pub accessed_quiet : (op : AccessOp) (t a : ℕ) (x : Core) (b : List (ℕ × Word)) → Quiet (is_store op) (after_base b (accessed op t a x))
accessed_quiet Ldr t a x b = record { falls = refl; it = refl; cells = λ b. refl }
accessed_quiet Ldrb t a x b = record { falls = refl; it = refl; cells = λ b. refl }
accessed_quiet Ldrh t a x b = record { falls = refl; it = refl; cells = λ b. refl }
accessed_quiet Ldrsb t a x b = record { falls = refl; it = refl; cells = λ b. refl }
accessed_quiet Ldrsh t a x b = record { falls = refl; it = refl; cells = λ b. refl }
accessed_quiet Str t a x b = record { falls = refl; it = refl; cells = λ b. absurd cc }
accessed_quiet Strb t a x b = record { falls = refl; it = refl; cells = λ b. absurd cc }
accessed_quiet Strh t a x b = record { falls = refl; it = refl; cells = λ b. absurd cc }

pub transferred_quiet : (load : Bool) (a : ℕ) (rs : List ℕ) (x : Core) (b : List (ℕ × Word)) → Quiet (not load) (after_base b (transferred load a rs x))
transferred_quiet true a rs x b = record { falls = refl; it = refl; cells = λ b. refl }
transferred_quiet false a rs x b = record { falls = refl; it = refl; cells = λ b. absurd cc }

-- without pc a list is loaded or stored, and that is all
pub not_jumped : (pc : Bool) (bits : ℕ) (o : Outcome) (h : Change) → not pc ≡ true → and_next o (λ g. jump_if pc bits g) ≡ Ok h → o ≡ Ok h
not_jumped true bits o h p e = absurd cc
not_jumped false bits (Ok g) h p e = e
not_jumped false bits (Err k) h p e = absurd cc

pub change_quiet : (i : Instr) (s : Site) (x : Core) (h : Change) → goes_on_always i ≡ true → change i s x ≡ Ok h → Quiet (stores i) h
unfolding change
change_quiet (Alu i) s x h g m = quiet_upright false _ h (flags_quiet i.s _ _) m
change_quiet (Move i) s x h g m = quiet_upright false _ h (flags_quiet i.s _ _) m
change_quiet (Test i) s x h g m = subst (Quiet false) (ok_is _ h _ refl m) (flags_quiet true _ [])
change_quiet (ShiftBy i) s x h g m = quiet_upright false _ h (flags_quiet i.s _ _) m
change_quiet (Wide i) s x h g m = one_quiet i.d _ h m
change_quiet (Half i) s x h g m = one_quiet i.d _ h m
change_quiet (Field i) s x h g m = one_quiet i.d _ h m
change_quiet (Unary i) s x h g m = one_quiet i.d _ h m
change_quiet (Mul i) s x h g m = quiet_upright false _ h (sign_quiet i.s _ _) m
change_quiet (MulAcc i) s x h g m = one_quiet i.d _ h m
change_quiet (LongMul i) s x h g m = quiet_upright false (two_words i.lo i.hi _) h (writing_quiet _) m
change_quiet (Div i) s x h g m = one_quiet i.d _ h m
change_quiet (Access i) s x h g m = quiet_upright (is_store i.op) _ h (accessed_quiet i.op i.t (access_address i.n i.place x) x (base_write i.n i.place x)) (passed _ _ _ h m)
change_quiet (Pair i) s x h g m =
    let p = pair_place i.index i.up i.imm in
    quiet_upright (not i.load) _ h (transferred_quiet i.load (access_address i.n p x) (i.t ∷ i.u ∷ []) x (base_write i.n p x)) (words_passed x.memory _ _ _ h m)
change_quiet (Multi i) s x h g m =
    let bytes = transfer_size i.list.0 i.pc in
    quiet_upright (not i.load) _ h (transferred_quiet i.load (lowest i.down (value x i.n) bytes) (registers i.list.0) x (base_moved i.back i.down i.n (value x i.n) bytes))
    (not_jumped i.pc _ _ h g (words_passed x.memory _ _ _ h m))
change_quiet (Literal i) s x h g m = one_quiet i.t _ h (passed _ _ _ h m)
change_quiet (Adr i) s x h g m = one_quiet i.d _ h m
change_quiet (Nothing i) s x h g m = subst (Quiet false) (ok_is unchanged h _ refl m) (writing_quiet [])
change_quiet (Branch i) s x h g m = absurd cc
change_quiet (ZeroBranch i) s x h g m = absurd cc
change_quiet (Call i) s x h g m = absurd cc
change_quiet (Jump i) s x h g m = absurd cc
change_quiet (CallReg i) s x h g m = absurd cc
change_quiet (It i) s x h g m = absurd cc
change_quiet (Trap i) s x h g m = absurd cc

-- A JUMP, BEHIND A CHANGE
pub record Still (i : Instr) (g : Change) : Type 0 where
  pub memory : stores i ≡ false → g.cells ≡ []
  pub it : g.it ≡ None

pub jump_quiet : (i : Instr) (bits : ℕ) (g h : Change) → Still i g → may_jump i ≡ true → jump_to bits g ≡ Ok h → IsQuiet i h
jump_quiet i bits g h q j e =
    subst (IsQuiet i) (ok_is _ h (Ok (record g { exit = Jumps (bits - 1) })) refl (passed (bits % 2 == 1) _ _ h e))
    (record { memory = q.memory; it = λ f. q.it; falls = λ f. absurd cc })

list_quiet : (i : Instr) (pc : Bool) (bits : ℕ) (g o h : Change) → Still i g → g.exit ≡ Falls → may_jump i ≡ pc → upright g ≡ Ok o → jump_if pc bits o ≡ Ok h → IsQuiet i h
list_quiet i true bits g o h q f j u e = jump_quiet i bits o h (subst (Still i) (upright_is g o u) q) j e
list_quiet i false bits g o h q f j u e = subst (IsQuiet i) (upright_is g o u ∙ ok_is o h (Ok o) refl e) (record { memory = q.memory; it = λ s. q.it; falls = λ s. f })

next_quiet : (i : Instr) (pc : Bool) (bits : ℕ) (g h : Change) (o : Outcome) → Still i g → g.exit ≡ Falls → may_jump i ≡ pc → upright g ≡ o → and_next o (λ g. jump_if pc bits g) ≡ Ok h → IsQuiet i h
next_quiet i pc bits g h (Ok o) q f j u e = list_quiet i pc bits g o h q f j u e
next_quiet i pc bits g h (Err k) q f j u e = absurd cc

on_quiet : (i : Instr) (h : Change) → Quiet (stores i) h → IsQuiet i h
on_quiet i h q = record { memory = q.cells; it = λ e. q.it; falls = λ e. q.falls }

branch_quiet : (i : Instr) (b : Bool) (a : ℕ) (h : Change) → may_jump i ≡ true → branch_if b a ≡ h → IsQuiet i h
branch_quiet i true a h j e = subst (IsQuiet i) e (record { memory = λ f. refl; it = λ f. refl; falls = λ f. absurd cc })
branch_quiet i false a h j e = subst (IsQuiet i) e (record { memory = λ f. refl; it = λ f. refl; falls = λ f. refl })

-- ANOTHER LEMMA: beside registers and flags
pub quiet : (i : Instr) (s : Site) (x : Core) (h : Change) → change i s x ≡ Ok h → IsQuiet i h
unfolding change
quiet (Alu i) s x h m = on_quiet (Alu i) h (change_quiet (Alu i) s x h refl m)
quiet (Move i) s x h m = on_quiet (Move i) h (change_quiet (Move i) s x h refl m)
quiet (Test i) s x h m = on_quiet (Test i) h (change_quiet (Test i) s x h refl m)
quiet (ShiftBy i) s x h m = on_quiet (ShiftBy i) h (change_quiet (ShiftBy i) s x h refl m)
quiet (Wide i) s x h m = on_quiet (Wide i) h (change_quiet (Wide i) s x h refl m)
quiet (Half i) s x h m = on_quiet (Half i) h (change_quiet (Half i) s x h refl m)
quiet (Field i) s x h m = on_quiet (Field i) h (change_quiet (Field i) s x h refl m)
quiet (Unary i) s x h m = on_quiet (Unary i) h (change_quiet (Unary i) s x h refl m)
quiet (Mul i) s x h m = on_quiet (Mul i) h (change_quiet (Mul i) s x h refl m)
quiet (MulAcc i) s x h m = on_quiet (MulAcc i) h (change_quiet (MulAcc i) s x h refl m)
quiet (LongMul i) s x h m = on_quiet (LongMul i) h (change_quiet (LongMul i) s x h refl m)
quiet (Div i) s x h m = on_quiet (Div i) h (change_quiet (Div i) s x h refl m)
quiet (Access i) s x h m = on_quiet (Access i) h (change_quiet (Access i) s x h refl m)
quiet (Pair i) s x h m = on_quiet (Pair i) h (change_quiet (Pair i) s x h refl m)
quiet (Literal i) s x h m = on_quiet (Literal i) h (change_quiet (Literal i) s x h refl m)
quiet (Adr i) s x h m = on_quiet (Adr i) h (change_quiet (Adr i) s x h refl m)
quiet (Nothing i) s x h m = on_quiet (Nothing i) h (change_quiet (Nothing i) s x h refl m)
quiet (Multi i) s x h m =
    let bytes = transfer_size i.list.0 i.pc in
    let a : ℕ = lowest i.down (value x i.n) bytes in
    let base : List (ℕ × Word) = base_moved i.back i.down i.n (value x i.n) bytes in
    let g : Change = after_base base (transferred i.load a (registers i.list.0) x) in
    let c = transferred_quiet i.load a (registers i.list.0) x base in
    next_quiet (Multi i) i.pc (word_at x.memory (a + 4 * length (registers i.list.0))).word.bits g h (upright g) (record { memory = c.cells; it = c.it }) c.falls refl refl (words_passed x.memory _ _ _ h m)
quiet (Branch i) s x h m = branch_quiet (Branch i) _ _ h refl (ok_is _ h _ refl m)
quiet (ZeroBranch i) s x h m = branch_quiet (ZeroBranch i) _ _ h refl (ok_is _ h _ refl m)
quiet (Call i) s x h m = subst (IsQuiet (Call i)) (ok_is _ h _ refl m) (record { memory = λ e. refl; it = λ e. refl; falls = λ e. absurd cc })
quiet (Jump i) s x h m = jump_quiet (Jump i) _ unchanged h (record { memory = λ e. refl; it = refl }) refl m
quiet (CallReg i) s x h m = jump_quiet (CallReg i) _ (link s) h (record { memory = λ e. refl; it = refl }) refl m
quiet (It i) s x h m = subst (IsQuiet (It i)) (ok_is _ h _ refl m) (record { memory = λ e. refl; it = λ e. absurd cc; falls = λ e. refl })
quiet (Trap i) s x h m = absurd cc
