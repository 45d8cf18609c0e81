-- An ordinary step is alike on both sides.
use Rattle.std.proofs.Common.{◌≡◌, ◌≢◌, ℕ, ◌+◌, ◌-◌, ◌*◌, ◌%◌, ◌^◌, inl, inr, Bool, true, false, List, length, Some, None, Ok, Err, refl, sym, ap, ◌∙◌, subst, IsTrue}
use Rattle.std.specs.Prelude.{◌==◌, not, if◌then◌else◌}
use Rattle.std.proofs.lemmas.Bool.{eq-eqb}
use Rattle.mark_word.specs.declared.marks.Mark.{Mark}
use Rattle.mark_word.specs.declared.marks.Mark.TheVariants.{Plain, Entry, Return, Low}
use Rattle.mark_word.specs.Words.{Word, plain, is_word}
use Rattle.thumb_instr.specs.declared.instructions.Instr.{Instr}
use Rattle.thumb_instr.specs.declared.instructions.Instr.TheVariants.{Alu, Move, Test, ShiftBy, Wide, Half, Field, Unary, Mul, MulAcc, LongMul, Div, Access, Pair, Multi, Literal, Adr, Branch, ZeroBranch, Call, Jump, CallReg, It, Nothing, Trap}
use Rattle.thumb_instr.specs.Fields.{HalfFields, MultiFields}
use Rattle.thumb_instr.specs.Sets.{reads_of}
use Rattle.thumb_table.specs.declared.faults.FaultKind.TheVariants as fault
use Rattle.thumb_table.specs.Parts.{Memory, CodeBytes}
use Rattle.thumb_table.specs.States.{Core, Site, read, Change, Outcome, Jumps, upright, unchanged}
use Rattle.thumb_table.specs.Values.{away}
use Rattle.thumb_table.specs.Effects.{change, value, half_word, low_half, completed, completes, marked, mark_at, word_at, after_base, base_moved, transferred, registers, lowest, transfer_size, and_next, jump_if, jump_to, branch_if, link, return_address}
use Rattle.thumb_table.specs.Ordinary.{IsPlain, IsOrdinaryUse, OrdinaryList, OrdinaryReturn, OrdinaryJump, OrdinaryTop}
use Rattle.thumb_instr.specs.Formed.{IsFormed}
use Rattle.sim_charts.specs.Words.{SameWord}
use Rattle.sim_steps.proofs.Following.{Lawful}
use Rattle.sim_charts.specs.Changes.{AreWords, AreCells, SameChange}
use Rattle.sim_charts.specs.Words.{IsMarked}
use Rattle.sim_steps.proofs.Following.{Akin, SameTarget, SamePlace, IsTarget, Follows, jumped, popped_if}
use Rattle.seq_core.proofs.Tests.{there, both_true, same_number}
use Rattle.seq_core.proofs.Lists.{each_has, each_map}
use Rattle.seq_core.proofs.Numbers.{alu_sees, shift_by_sees, wide_sees, field_sees, unary_sees, mul_sees, mul_acc_sees, long_mul_sees, div_sees}
use Rattle.seq_core.proofs.Seen.{holds_same}
use Rattle.seq_core.proofs.Written.{upright_is, ok_is, passed}
use Rattle.sim_steps.proofs.Words.{odd_new, zero_same}
use Rattle.sim_steps.proofs.Memories.{word_same, word_is}
use Rattle.sim_steps.proofs.Pairs.{Pairs, flat_number, flat_two, flat_flags, flat_sign, flat_pairs, number_follows, known_follows, upright_other, upright_follows, written_pairs, base_pairs, moved_plain, transferred_pairs, branch_pairs}
use Rattle.sim_steps.proofs.Follow.{number_same, numbers_same, carry_same, move_follows, test_follows, access_follows, pair_follows, words_follow, list_whole}

-- ---- jumps to words

pub target_marked : (m : Mark) → IsTarget m → m ≢ Plain
target_marked m (inl a) e = let f = a.1 in cc
target_marked m (inr a) e = let f = a.1 in cc

return_target : (code : CodeBytes) (w : Word) → OrdinaryReturn code w → IsTarget w.mark
return_target code w o = inr o.0

pub jump_target : (code : CodeBytes) (w : Word) → OrdinaryJump code w → IsTarget w.mark
jump_target code w (inl a) = inl a
jump_target code w (inr o) = return_target code w o

pub jump_follows : (t : Lawful) (i : Instr) (x y : Core) (w v : Word) (g k h : Change) → jumped i x ≡ Some w → jumped i y ≡ Some v → IsTarget w.mark → IsTrue (is_word w) → SameWord t.taking w v → Pairs t g k → jump_to w.bits g ≡ Ok h → Follows t.taking i x y h (jump_to v.bits k)
jump_follows t i x y w v g k h jx jy m iw s c e =
    let g' : Change = record g { exit = Jumps (w.bits - 1) } in
    let k' : Change = record k { exit = Jumps (v.bits - 1) } in
    let q : g' ≡ h = ok_is g' h (Ok g') refl (passed (w.bits % 2 == 1) fault.BadJump (Ok g') h e) in
    let odd : (v.bits % 2 == 1) ≡ true = eq-eqb (v.bits % 2) 1 (odd_new t w.mark w.bits v.bits (target_marked w.mark m) s) in
    let same : SameChange t.taking g' k' = record { regs = c.same.regs; n = c.same.n; z = c.same.z; c = c.same.c; v = c.same.v; cells = c.same.cells; it = c.same.it; exit = tt } in
    let target : SameTarget t.taking (Some w) (Some v) g'.exit k'.exit = (m, iw, s, refl, refl) in
    record {
      change = k';
      comes = ap (λ b. if b then Ok k' else Err fault.BadJump) odd;
      same = subst (λ c. SameChange t.taking c k') q same;
      words = subst (λ c. AreWords c.regs) q c.words;
      cells = subst (λ c. AreCells c.cells) q c.cells;
      target = subst (λ c. SameTarget t.taking (jumped i x) (jumped i y) c.exit k'.exit) q (subst (λ o. SameTarget t.taking o (jumped i y) g'.exit k'.exit) (sym jx) (subst (λ o. SameTarget t.taking (Some w) o g'.exit k'.exit) (sym jy) target));
    }

-- ---- lists of words, and pc behind them

list_end : (t : Lawful) (i : Instr) (x y : Core) (pc : Bool) (w v : Word) (g k h : Change) → jumped i x ≡ popped_if pc w → jumped i y ≡ popped_if pc v → (pc ≡ true → IsTarget w.mark) → (pc ≡ true → IsTrue (is_word w)) → (pc ≡ true → SameWord t.taking w v) → Pairs t g k → jump_if pc w.bits g ≡ Ok h → Follows t.taking i x y h (jump_if pc v.bits k)
list_end t i x y true w v g k h jx jy m iw s c e = jump_follows t i x y w v g k h jx jy (m refl) (iw refl) (s refl) c e
list_end t i x y false w v g k h jx jy m iw s c e =
    known_follows t i x y g k h (Ok k) (λ e f. subst (λ o. SameTarget t.taking o (jumped i y) e f) (sym jx) (subst (λ o. SameTarget t.taking None o e f) (sym jy) tt)) c (ok_is g h (Ok g) refl e) refl

next_follows : (t : Lawful) (i : Instr) (x y : Core) (g k h : Change) (f p : Change → Outcome) → Pairs t g k → (f g ≡ Ok h → Follows t.taking i x y h (p k)) → and_next (upright g) f ≡ Ok h → Follows t.taking i x y h (and_next (upright k) p)
next_follows t i x y g k h f p q n e = go (upright g) refl e
  where
    go : (o : Outcome) → upright g ≡ o → and_next o f ≡ Ok h → Follows t.taking i x y h (and_next (upright k) p)
    go (Err kind) r e = cc
    go (Ok c) r e = subst (λ o. Follows t.taking i x y h (and_next o p)) (sym (upright_other t g k c q r)) (n (ap f (upright_is g c r) ∙ e))

list_target : (code : CodeBytes) (load pc : Bool) (a : ℕ) (rs : List ℕ) (m : Memory) → OrdinaryList code load pc a rs m → (pc ≡ true → load ≡ true) → pc ≡ true → IsTarget (word_at m (a + 4 * length rs)).word.mark × ((word_at m (a + 4 * length rs)).whole ≡ true)
list_target code true true a rs m o f e = (return_target code _ o.2, o.1)
list_target code true false a rs m o f e = cc
list_target code false pc a rs m o f e = let g = f e in cc

multi_follows : (t : Lawful) (i : MultiFields) (s u : Site) (x y : Core) (h : Change) → IsFormed (Multi i) → IsOrdinaryUse (Multi i) s x → IsMarked x → Akin t.taking (Multi i) x y → change (Multi i) s x ≡ Ok h → Follows t.taking (Multi i) x y h (change (Multi i) u y)
unfolding change reads_of
multi_follows t i s u x y h formed o z k e =
    let v : value x i.n ≡ value y i.n = (numbers_same t (Multi i) s x y o k).0 in
    let bytes : ℕ = transfer_size i.list.0 i.pc in
    let rs : List ℕ = registers i.list.0 in
    let a : ℕ = lowest i.down (value x i.n) bytes in
    let b : ℕ = lowest i.down (value y i.n) bytes in
    let ab : a ≡ b = ap (λ n. lowest i.down n bytes) v in
    let l = list_target s.code i.load i.pc a rs x.memory o.proper formed.pc in
    let p : Pairs t (transferred i.load a rs x) (transferred i.load a rs y) =
    transferred_pairs t i.load a rs x y k.memory z
    (list_whole s.code i.load i.pc a rs x.memory o.proper)
    (λ f. each_map _ _ rs (λ r m. k.regs r (there (r == i.n) _ (both_true _ _ (ap not f) m))) (each_has i.list.0)) in
    let q : Pairs t (transferred i.load a rs x) (transferred i.load b rs y) = subst (λ b. Pairs t (transferred i.load a rs x) (transferred i.load b rs y)) ab p in
    let full : Pairs t (after_base (base_moved i.back i.down i.n (value x i.n) bytes) (transferred i.load a rs x)) (after_base (base_moved i.back i.down i.n (value y i.n) bytes) (transferred i.load b rs y)) =
    base_pairs t _ _ _ _ (moved_plain i.back i.down i.n (value x i.n) bytes) (ap (λ n. base_moved i.back i.down i.n n bytes) v) q in
    let w : Word = (word_at x.memory (a + 4 * length rs)).word in
    let c : Word = (word_at y.memory (b + 4 * length rs)).word in
    let sw : i.pc ≡ true → SameWord t.taking w c = λ f. subst (λ b. SameWord t.taking w (word_at y.memory (b + 4 * length rs)).word) ab (word_same t x.memory y.memory k.memory z.cells (a + 4 * length rs) (l f).1) in
    words_follow t (Multi i) x y h a b bytes _ _ k.memory ab
    (next_follows t (Multi i) x y _ _ h (λ g. jump_if i.pc w.bits g) (λ g. jump_if i.pc c.bits g) full
    (list_end t (Multi i) x y i.pc w c _ _ h refl refl (λ f. (l f).0) (λ f. word_is t x.memory y.memory k.memory z.cells (a + 4 * length rs) (l f).1) sw full))
    e

-- ---- MOVW and MOVT

pub marked_bits : (bits : ℕ) (mark : Mark) → (marked bits mark).bits ≡ bits
marked_bits bits mark = elim (is_word (record { bits = bits; mark = mark })) as (λ b. (if b then record { bits = bits; mark = mark } else plain bits).bits ≡ bits) [ true ↦ refl | false ↦ refl ]

pub low_bits : (imm : ℕ) (mark : Mark) → (low_half imm mark).bits ≡ imm
low_bits imm Plain = refl
low_bits imm (Entry a) = refl
low_bits imm (Return a) = refl
low_bits imm (Low a) = marked_bits imm (Low a)

pub completed_bits : (imm : ℕ) (old : Word) (place : Mark) → (completed imm old place).bits ≡ imm * 2 ^ 16 + old.bits % 2 ^ 16
completed_bits imm old place = go (completes place old.mark)
  where
    go : (b : Bool) → (if b then marked (imm * 2 ^ 16 + old.bits % 2 ^ 16) place else plain (imm * 2 ^ 16 + old.bits % 2 ^ 16)).bits ≡ imm * 2 ^ 16 + old.bits % 2 ^ 16
    go true = marked_bits _ place
    go false = refl

-- whatever marks the places have, the bits are those
half_bits : Bool → ℕ → ℕ → ℕ
half_bits false imm old = imm
half_bits true imm old = imm * 2 ^ 16 + old % 2 ^ 16

half_is : (top : Bool) (d imm : ℕ) (u : Site) (y : Core) → (half_word top d imm u y).bits ≡ half_bits top imm (value y d)
unfolding half_bits
half_is false d imm u y = low_bits imm (mark_at u.code.marks u.address)
half_is true d imm u y = completed_bits imm (read y d) (mark_at u.code.marks u.address)

bare_half : (top : Bool) (d imm : ℕ) (s : Site) (x : Core) → mark_at s.code.marks s.address ≡ Plain → half_word top d imm s x ≡ plain (half_bits top imm (value x d))
unfolding half_bits
bare_half false d imm s x e = ap (λ m. low_half imm m) e
bare_half true d imm s x e = ap (λ m. completed imm (read x d) m) e

pub plain_top : (d imm : ℕ) (s : Site) (x : Core) → mark_at s.code.marks s.address ≡ Plain → OrdinaryTop d imm s x → IsPlain (read x d).mark
plain_top d imm s x e o = rw e at o

half_follows : (t : Lawful) (i : HalfFields) (s u : Site) (x y : Core) (h : Change) → mark_at s.code.marks s.address ≡ Plain → IsOrdinaryUse (Half i) s x → Akin t.taking (Half i) x y → change (Half i) s x ≡ Ok h → Follows t.taking (Half i) x y h (change (Half i) u y)
unfolding change reads_of half_bits
half_follows t i s u x y h m o k e =
    let w : Word = half_word i.top i.d i.imm s x in
    let v : Word = half_word i.top i.d i.imm u y in
    let b : half_bits i.top i.imm (value x i.d) ≡ half_bits i.top i.imm (value y i.d) = go i.top (λ f. number_same t (Half i) x y k i.d (both_true _ _ f (same_number i.d)) (plain_top i.d i.imm s x m (o.proper f))) in
    let p : w ≡ plain (half_bits i.top i.imm (value x i.d)) = bare_half i.top i.d i.imm s x m in
    let sw : SameWord t.taking w v = subst (λ w. SameWord t.taking w v) (sym p) (b ∙ sym (half_is i.top i.d i.imm u y)) in
    let kw : IsTrue (is_word w) = subst (λ w. IsTrue (is_word w)) (sym p) (eq-eqb _ _ refl) in
    upright_follows t (Half i) x y _ _ h (λ e f. tt) (written_pairs t i.d w v sw kw) e
  where
    go : (top : Bool) → (top ≡ true → value x i.d ≡ value y i.d) → half_bits top i.imm (value x i.d) ≡ half_bits top i.imm (value y i.d)
    go false f = refl
    go true f = ap (λ n. i.imm * 2 ^ 16 + n % 2 ^ 16) (f refl)

-- ---- calls

pub link_pairs : (t : Lawful) (s u : Site) → t.taking.back (return_address s) (return_address u) → Pairs t (link s) (link u)
link_pairs t s u b = record { same = record { regs = (refl, b, tt); n = refl; z = refl; c = refl; v = refl; cells = tt; it = refl; exit = tt }; words = (eq-eqb _ _ refl, tt); cells = tt }

pub call_pairs : (t : Lawful) (s u : Site) (a b : ℕ) → t.taking.back (return_address s) (return_address u) → Pairs t (record (link s) { exit = Jumps a }) (record (link u) { exit = Jumps b })
call_pairs t s u a b k = record { same = record { regs = (refl, k, tt); n = refl; z = refl; c = refl; v = refl; cells = tt; it = refl; exit = tt }; words = (eq-eqb _ _ refl, tt); cells = tt }

-- AN ORDINARY STEP IS ALIKE, at two sites whose places give the same
pub alike : (t : Lawful) (i : Instr) (s u : Site) (x y : Core) (h : Change) → IsFormed i → SamePlace t.taking i s u → IsOrdinaryUse i s x → IsMarked x → Akin t.taking i x y → change i s x ≡ Ok h → Follows t.taking i x y h (change i u y)
unfolding change reads_of
alike t (Alu i) s u x y h f p o z k e =
    number_follows t (Alu i) x y _ h _ (λ e f. tt) (flat_flags i.s _ _ (flat_number i.d _)) (upright_is _ h e) (sym (alu_sees i s u x y (numbers_same t (Alu i) s x y o k) (carry_same t (Alu i) x y k)) ∙ e)
alike t (Move i) s u x y h f p o z k e = move_follows t i s u x y h o z k e
alike t (Test i) s u x y h f p o z k e = test_follows t i s u x y h o z k e
alike t (ShiftBy i) s u x y h f p o z k e =
    number_follows t (ShiftBy i) x y _ h _ (λ e f. tt) (flat_flags i.s _ _ (flat_number i.d _)) (upright_is _ h e) (sym (shift_by_sees i s u x y (numbers_same t (ShiftBy i) s x y o k) (carry_same t (ShiftBy i) x y k)) ∙ e)
alike t (Wide i) s u x y h f p o z k e =
    number_follows t (Wide i) x y _ h _ (λ e f. tt) (flat_number i.d _) (upright_is _ h e) (sym (wide_sees i s u x y (numbers_same t (Wide i) s x y o k) (carry_same t (Wide i) x y k)) ∙ e)
alike t (Half i) s u x y h f p o z k e = half_follows t i s u x y h p o k e
alike t (Field i) s u x y h f p o z k e =
    number_follows t (Field i) x y _ h _ (λ e f. tt) (flat_number i.d _) (upright_is _ h e) (sym (field_sees i s u x y (numbers_same t (Field i) s x y o k) (carry_same t (Field i) x y k)) ∙ e)
alike t (Unary i) s u x y h f p o z k e =
    number_follows t (Unary i) x y _ h _ (λ e f. tt) (flat_number i.d _) (upright_is _ h e) (sym (unary_sees i s u x y (numbers_same t (Unary i) s x y o k) (carry_same t (Unary i) x y k)) ∙ e)
alike t (Mul i) s u x y h f p o z k e =
    number_follows t (Mul i) x y _ h _ (λ e f. tt) (flat_sign i.s _ _ (flat_number i.d _)) (upright_is _ h e) (sym (mul_sees i s u x y (numbers_same t (Mul i) s x y o k) (carry_same t (Mul i) x y k)) ∙ e)
alike t (MulAcc i) s u x y h f p o z k e =
    number_follows t (MulAcc i) x y _ h _ (λ e f. tt) (flat_number i.d _) (upright_is _ h e) (sym (mul_acc_sees i s u x y (numbers_same t (MulAcc i) s x y o k) (carry_same t (MulAcc i) x y k)) ∙ e)
alike t (LongMul i) s u x y h f p o z k e =
    number_follows t (LongMul i) x y _ h _ (λ e f. tt) (flat_two i.lo i.hi _) (upright_is _ h e) (sym (long_mul_sees i s u x y (numbers_same t (LongMul i) s x y o k) (carry_same t (LongMul i) x y k)) ∙ e)
alike t (Div i) s u x y h f p o z k e =
    number_follows t (Div i) x y _ h _ (λ e f. tt) (flat_number i.d _) (upright_is _ h e) (sym (div_sees i s u x y (numbers_same t (Div i) s x y o k) (carry_same t (Div i) x y k)) ∙ e)
alike t (Access i) s u x y h f p o z k e = access_follows t i s u x y h o z k e
alike t (Pair i) s u x y h f p o z k e = pair_follows t i s u x y h o z k e
alike t (Multi i) s u x y h f p o z k e = multi_follows t i s u x y h f o z k e
alike t (Literal i) s u x y h f p o z k e = absurd p
alike t (Adr i) s u x y h f p o z k e = absurd p
alike t (Branch i) s u x y h f p o z k e =
    known_follows t (Branch i) x y _ _ h _ (λ e f. tt) (branch_pairs t _ _ (away (u.address + 4) i.offset)) (ok_is _ h _ refl e)
    (ap (λ b. Ok (branch_if b (away (u.address + 4) i.offset))) (sym (holds_same i.cond x y k.flags.n k.flags.z k.flags.c k.flags.v)))
alike t (ZeroBranch i) s u x y h f p o z k e =
    known_follows t (ZeroBranch i) x y _ _ h _ (λ e f. tt) (branch_pairs t _ _ (away (u.address + 4) i.offset)) (ok_is _ h _ refl e)
    (ap (λ b. Ok (branch_if (if i.nonzero then not b else b) (away (u.address + 4) i.offset))) (sym (zero_same t (read x i.n) (read y i.n) (z.words i.n) (k.regs i.n (same_number i.n)))))
alike t (Call i) s u x y h f p o z k e =
    known_follows t (Call i) x y _ _ h _ (λ e f. tt) (call_pairs t s u (away (s.address + 4) i.offset) (away (u.address + 4) i.offset) p) (ok_is _ h _ refl e) refl
alike t (Jump i) s u x y h f p o z k e =
    jump_follows t (Jump i) x y (read x i.m) (read y i.m) unchanged unchanged h refl refl (jump_target s.code (read x i.m) o.proper) (z.words i.m) (k.regs i.m (same_number i.m)) (flat_pairs t unchanged (record { regs = tt; cells = refl })) e
alike t (CallReg i) s u x y h f p o z k e =
    jump_follows t (CallReg i) x y (read x i.m) (read y i.m) (link s) (link u) h refl refl (jump_target s.code (read x i.m) o.proper) (z.words i.m) (k.regs i.m (same_number i.m)) (link_pairs t s u p) e
alike t (It i) s u x y h f p o z k e = number_follows t (It i) x y _ h _ (λ e f. tt) (record { regs = tt; cells = refl }) (ok_is _ h _ refl e) e
alike t (Nothing i) s u x y h f p o z k e = number_follows t (Nothing i) x y _ h _ (λ e f. tt) (record { regs = tt; cells = refl }) (ok_is _ h _ refl e) e
alike t (Trap i) s u x y h f p o z k e = cc
