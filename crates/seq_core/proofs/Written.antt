-- An instruction changes only what it may write.
use Rattle.std.proofs.Common.{◌≡◌, ℕ, ◌+◌, ◌-◌, ◌%◌, Bool, true, false, List, [], ◌∷◌, ◌++◌, Some, None, Ok, Err, refl, sym, ap, ◌∙◌, subst}
use Rattle.std.specs.Prelude.{◌==◌, ◌||◌, ◌&&◌, not, if◌then◌else◌}
use Rattle.std.specs.List.{list_any, AllByRecursion}
use Rattle.std.proofs.lemmas.List.Elements.{All-from_recursion}
use Rattle.mark_word.specs.declared.numbers.Shift.TheVariants.{Lsl, Lsr, Asr, Ror, Rrx}
use Rattle.mark_word.specs.Words.{Word}
use Rattle.mark_word.specs.Formulas.{expand_imm}
use Rattle.thumb_instr.specs.declared.operations.AluOp.{AluOp}
use Rattle.thumb_instr.specs.declared.operations.AluOp.TheVariants.{And, Bic, Orr, Orn, Eor, Add, Adc, Sbc, Sub, Rsb}
use Rattle.thumb_instr.specs.declared.operations.TestOp.{TestOp}
use Rattle.thumb_instr.specs.declared.operations.TestOp.TheVariants.{Tst, Teq, Cmn, Cmp}
use Rattle.thumb_instr.specs.declared.operations.AccessOp.{AccessOp}
use Rattle.thumb_instr.specs.declared.operations.AccessOp.TheVariants.{Ldr, Ldrb, Ldrh, Ldrsb, Ldrsh, Str, Strb, Strh}
use Rattle.thumb_instr.specs.declared.operands.Operand.{Operand}
use Rattle.thumb_instr.specs.declared.operands.Operand.TheVariants.{Imm, Reg}
use Rattle.thumb_instr.specs.declared.places.Place.{Place}
use Rattle.thumb_instr.specs.declared.places.Place.TheVariants.{Offset, Pre, Post, Index}
use Rattle.thumb_instr.specs.declared.places.PairIndex.{PairIndex}
use Rattle.thumb_instr.specs.declared.places.PairIndex.TheVariants as pair
use Rattle.thumb_instr.specs.declared.instructions.Instr.{Instr}
use Rattle.thumb_instr.specs.declared.instructions.Instr.TheVariants.{Alu, Move, Test, ShiftBy, Wide, Half, Field, Unary, Mul, MulAcc, LongMul, Div, Access, Pair, Multi, Literal, Adr, Branch, ZeroBranch, Call, Jump, CallReg, It, Nothing, Trap}
use Rattle.thumb_instr.specs.Operands.{has}
use Rattle.thumb_instr.specs.Fields.{AccessFields, PairFields, MultiFields, TestFields, BranchFields, ZeroBranchFields}
use Rattle.thumb_instr.specs.Sets.{writes_of, sets_flags_of, is_store, moves_base, moves_pair_base, is_sum, compares, gives_carry, is_flag, is_carry_flag, sign_flags, logic_flags_of}
use Rattle.thumb_table.specs.declared.faults.FaultKind.{FaultKind}
use Rattle.thumb_table.specs.declared.faults.FaultKind.TheVariants.{BadStack}
use Rattle.thumb_table.specs.Parts.{Memory}
use Rattle.thumb_table.specs.States.{Core, Site, Change, Outcome, Jumps, upright, unchanged, is_askew}
use Rattle.thumb_table.specs.Values.{Given, Computed, computed, tested}
use Rattle.thumb_table.specs.Effects.{change, value, operand, of_imm, with_flags, with_carry, with_sign, writing, accessed, base_write, on_words, loaded, transferred, pair_place, base_moved, and_next, jump_if, jump_to, lies_in, branch_if, registers, link, two_words}
use Rattle.thumb_instr.specs.MaySet.{may_set_of}
use Rattle.seq_core.specs.Reading.{IsWithin}
use Rattle.seq_core.proofs.Tests.{here, there, left, both_true, same_number}
use Rattle.seq_core.proofs.Lists.{Each, each_has, each_map}

-- the same by recursion on the list, and flags that stay
abbrev pub Kept : (ℕ → Bool) → List (ℕ × Word) → Type 0
Kept test l = AllByRecursion (λ w. test w.0 ≡ true) l

-- Flags outside of a set stay.
record Leaves (t : ℕ → Bool) (h : Change) : Type 0 where
  n : t 16 ≡ false → h.n ≡ None
  z : t 17 ≡ false → h.z ≡ None
  c : t 18 ≡ false → h.c ≡ None
  v : t 19 ≡ false → h.v ≡ None

within : (i : Instr) (g h : Change) → Kept (writes_of i) g.regs → Leaves (may_set_of i) g → g ≡ h → IsWithin i h
within i g h k s e = subst (IsWithin i) e (record { regs = All-from_recursion _ _ k; n = s.n; z = s.z; c = s.c; v = s.v })

-- a change without flags
calm : (i : Instr) (g h : Change) → Kept (writes_of i) g.regs → g.n ≡ None → g.z ≡ None → g.c ≡ None → g.v ≡ None → g ≡ h → IsWithin i h
calm i g h k n z c v e = within i g h k (record { n = λ f. n; z = λ f. z; c = λ f. c; v = λ f. v }) e

upright_if : (b : Bool) (k : FaultKind) (g h : Change) → (if b then Err k else Ok g) ≡ Ok h → g ≡ h
upright_if true k g h e = cc
upright_if false k g h e = cc

pub upright_is : (g h : Change) → upright g ≡ Ok h → g ≡ h
upright_is g h e = upright_if (list_any is_askew g.regs) BadStack g h e

flagged : (s : Bool) (t : ℕ → Bool) (r : Computed) (regs : List (ℕ × Word)) → t 16 ≡ true → t 17 ≡ true → (t 18 ≡ false → r.carry ≡ None) → (t 19 ≡ false → r.overflow ≡ None) → Leaves (λ k. s && t k) (with_flags s r (writing regs))
flagged false t r regs n z c v = record { n = λ f. refl; z = λ f. refl; c = λ f. refl; v = λ f. refl }
flagged true t r regs n z c v = record { n = λ f. cc; z = λ f. cc; c = c; v = v }

signed : (s : Bool) (t : ℕ → Bool) (bits : ℕ) (regs : List (ℕ × Word)) → t 16 ≡ true → t 17 ≡ true → Leaves (λ k. s && t k) (with_sign s bits (writing regs))
signed false t bits regs n z = record { n = λ f. refl; z = λ f. refl; c = λ f. refl; v = λ f. refl }
signed true t bits regs n z = record { n = λ f. cc; z = λ f. cc; c = λ f. refl; v = λ f. refl }

none_given : (o : Operand) (x : Core) → gives_carry o ≡ false → (operand o x).carry ≡ None
none_given (Imm i) x e = ap (λ b. if b then Some (of_imm (expand_imm i false)).carry else None) e
none_given (Reg m Lsl amount) x e = shut (not (amount == 0)) _ e
  where
    shut : (b : Bool) (c : Bool) → b ≡ false → (if b || false then Some c else None) ≡ None
    shut true c k = cc
    shut false c k = refl
none_given (Reg m Lsr amount) x e = cc
none_given (Reg m Asr amount) x e = cc
none_given (Reg m Ror amount) x e = cc
none_given (Reg m Rrx amount) x e = cc

pub if_true : (b : Bool) → (if b then true else true) ≡ true
if_true true = refl
if_true false = refl

pub and_false : (b : Bool) → (b && true) ≡ false → b ≡ false
and_false true e = cc
and_false false e = refl

alu_carry : (op : AluOp) (n : ℕ) (o : Operand) (x : Core) (c : Bool) → (if is_sum op then true else (gives_carry o && true)) ≡ false → (computed op n (operand o x) c).carry ≡ None
alu_carry And n o x c e = none_given o x (and_false _ e)
alu_carry Bic n o x c e = none_given o x (and_false _ e)
alu_carry Orr n o x c e = none_given o x (and_false _ e)
alu_carry Orn n o x c e = none_given o x (and_false _ e)
alu_carry Eor n o x c e = none_given o x (and_false _ e)
alu_carry Add n o x c e = cc
alu_carry Adc n o x c e = cc
alu_carry Sbc n o x c e = cc
alu_carry Sub n o x c e = cc
alu_carry Rsb n o x c e = cc

alu_overflow : (op : AluOp) (n : ℕ) (o : Given) (c g : Bool) → (if is_sum op then true else (g && false)) ≡ false → (computed op n o c).overflow ≡ None
alu_overflow And n o c g e = refl
alu_overflow Bic n o c g e = refl
alu_overflow Orr n o c g e = refl
alu_overflow Orn n o c g e = refl
alu_overflow Eor n o c g e = refl
alu_overflow Add n o c g e = cc
alu_overflow Adc n o c g e = cc
alu_overflow Sbc n o c g e = cc
alu_overflow Sub n o c g e = cc
alu_overflow Rsb n o c g e = cc

pub test_sum : (op : TestOp) → is_sum (tested op) ≡ compares op
test_sum Tst = refl
test_sum Teq = refl
test_sum Cmn = refl
test_sum Cmp = refl

shift_leaves : (s : Bool) (r : Given) (regs : List (ℕ × Word)) → Leaves (λ k. s && (sign_flags k || is_carry_flag k)) (with_carry s r.value r.carry (writing regs))
shift_leaves false r regs = record { n = λ f. refl; z = λ f. refl; c = λ f. refl; v = λ f. refl }
shift_leaves true r regs = record { n = λ f. cc; z = λ f. cc; c = λ f. cc; v = λ f. refl }

-- what with_flags and the like leave of the registers
pub flags_regs : (s : Bool) (r : Computed) (h : Change) → (with_flags s r h).regs ≡ h.regs
flags_regs true r h = refl
flags_regs false r h = refl

pub sign_regs : (s : Bool) (bits : ℕ) (h : Change) → (with_sign s bits h).regs ≡ h.regs
sign_regs true bits h = refl
sign_regs false bits h = refl

one_written : (test : ℕ → Bool) (d : ℕ) (w : Word) (l : List (ℕ × Word)) → l ≡ (d, w) ∷ [] → test d ≡ true → Kept test l
one_written test d w l e t = subst (Kept test) (sym e) (t, tt)

append_kept : (test : ℕ → Bool) (k l : List (ℕ × Word)) → Kept test k → Kept test l → Kept test (k ++ l)
append_kept test [] l h g = g
append_kept test (w ∷ k) l h g = (h.0, append_kept test k l h.1 g)

base_kept : (test : ℕ → Bool) (n : ℕ) (l : Place) (x : Core) → (moves_base l ≡ true → test n ≡ true) → Kept test (base_write n l x)
base_kept test n (Offset up imm) x h = tt
base_kept test n (Pre up imm) x h = (h refl, tt)
base_kept test n (Post up imm) x h = (h refl, tt)
base_kept test n (Index m shift) x h = tt

accessed_kept : (test : ℕ → Bool) (op : AccessOp) (t a : ℕ) (x : Core) → (not (is_store op) ≡ true → test t ≡ true) → Kept test (accessed op t a x).regs
accessed_kept test Ldr t a x h = (h refl, tt)
accessed_kept test Ldrb t a x h = (h refl, tt)
accessed_kept test Ldrh t a x h = (h refl, tt)
accessed_kept test Ldrsb t a x h = (h refl, tt)
accessed_kept test Ldrsh t a x h = (h refl, tt)
accessed_kept test Str t a x h = tt
accessed_kept test Strb t a x h = tt
accessed_kept test Strh t a x h = tt

loaded_kept : (test : ℕ → Bool) (m : Memory) (a : ℕ) (rs : List ℕ) → Each (λ r. test r ≡ true) rs → Kept test (loaded m a rs)
loaded_kept test m a [] h = tt
loaded_kept test m a (r ∷ rs) h = (h.0, loaded_kept test m (a + 4) rs h.1)

transferred_kept : (test : ℕ → Bool) (load : Bool) (a : ℕ) (rs : List ℕ) (x : Core) → (load ≡ true → Each (λ r. test r ≡ true) rs) → Kept test (transferred load a rs x).regs
transferred_kept test true a rs x h = loaded_kept test x.memory a rs (h refl)
transferred_kept test false a rs x h = tt

-- accesses leave the flags
record Calm (h : Change) : Type 0 where
  n : h.n ≡ None
  z : h.z ≡ None
  c : h.c ≡ None
  v : h.v ≡ None

accessed_calm : (op : AccessOp) (t a : ℕ) (x : Core) → Calm (accessed op t a x)
accessed_calm Ldr t a x = record { n = refl; z = refl; c = refl; v = refl }
accessed_calm Ldrb t a x = record { n = refl; z = refl; c = refl; v = refl }
accessed_calm Ldrh t a x = record { n = refl; z = refl; c = refl; v = refl }
accessed_calm Ldrsb t a x = record { n = refl; z = refl; c = refl; v = refl }
accessed_calm Ldrsh t a x = record { n = refl; z = refl; c = refl; v = refl }
accessed_calm Str t a x = record { n = refl; z = refl; c = refl; v = refl }
accessed_calm Strb t a x = record { n = refl; z = refl; c = refl; v = refl }
accessed_calm Strh t a x = record { n = refl; z = refl; c = refl; v = refl }

transferred_calm : (load : Bool) (a : ℕ) (rs : List ℕ) (x : Core) → Calm (transferred load a rs x)
transferred_calm true a rs x = record { n = refl; z = refl; c = refl; v = refl }
transferred_calm false a rs x = record { n = refl; z = refl; c = refl; v = refl }

quiet : (i : Instr) (g h : Change) → Kept (writes_of i) g.regs → Calm g → g ≡ h → IsWithin i h
quiet i g h k q e = calm i g h k q.n q.z q.c q.v e

-- an outcome under tests
pub passed : (b : Bool) (k : FaultKind) (o : Outcome) (h : Change) → (if b then o else Err k) ≡ Ok h → o ≡ Ok h
passed true k o h e = e
passed false k o h e = cc

pub not_failed : (b : Bool) (k : FaultKind) (o : Outcome) (h : Change) → (if not b then Err k else o) ≡ Ok h → o ≡ Ok h
not_failed true k o h e = e
not_failed false k o h e = cc

pub words_passed : (m : Memory) (a n : ℕ) (o : Outcome) (h : Change) → on_words m a n o ≡ Ok h → o ≡ Ok h
words_passed m a n o h e = not_failed (a % 4 == 0) _ o h (not_failed (lies_in m a n) _ _ h e)

pub ok_is : (g h : Change) (o : Outcome) → o ≡ Ok g → o ≡ Ok h → g ≡ h
ok_is g h o e f = cc

-- a jump changes the exit alone
jumped_within : (i : Instr) (bits : ℕ) (g h : Change) → IsWithin i g → jump_to bits g ≡ Ok h → IsWithin i h
jumped_within i bits g h w e =
    subst (IsWithin i) (ok_is _ h (Ok (record g { exit = Jumps (bits - 1) })) refl (passed (bits % 2 == 1) _ _ h e))
    (record { regs = w.regs; n = w.n; z = w.z; c = w.c; v = w.v })

jumped_if : (i : Instr) (pc : Bool) (bits : ℕ) (g h : Change) → IsWithin i g → jump_if pc bits g ≡ Ok h → IsWithin i h
jumped_if i true bits g h w e = jumped_within i bits g h w e
jumped_if i false bits g h w e = subst (IsWithin i) (ok_is g h (Ok g) refl e) w

next_within : (i : Instr) (o : Outcome) (pc : Bool) (bits : ℕ) (h : Change) → ((g : Change) → o ≡ Ok g → IsWithin i g) → and_next o (λ g. jump_if pc bits g) ≡ Ok h → IsWithin i h
next_within i (Ok g) pc bits h w e = jumped_if i pc bits g h (w g refl) e
next_within i (Err k) pc bits h w e = cc

base_moved_kept : (test : ℕ → Bool) (back down : Bool) (n v bytes : ℕ) → (back ≡ true → test n ≡ true) → Kept test (base_moved back down n v bytes)
base_moved_kept test false down n v bytes h = tt
base_moved_kept test true down n v bytes h = (h refl, tt)

pub pair_base : (index : PairIndex) (up : Bool) (imm : ℕ) → moves_base (pair_place index up imm) ≡ moves_pair_base index
pair_base pair.Offset up imm = refl
pair_base pair.Pre up imm = refl
pair_base pair.Post up imm = refl

branch_within : (i : BranchFields) (b : Bool) (a : ℕ) (h : Change) → branch_if b a ≡ h → IsWithin (Branch i) h
branch_within i true a h e = calm (Branch i) _ h tt refl refl refl refl e
branch_within i false a h e = calm (Branch i) _ h tt refl refl refl refl e

zero_branch_within : (i : ZeroBranchFields) (b : Bool) (a : ℕ) (h : Change) → branch_if b a ≡ h → IsWithin (ZeroBranch i) h
zero_branch_within i true a h e = calm (ZeroBranch i) _ h tt refl refl refl refl e
zero_branch_within i false a h e = calm (ZeroBranch i) _ h tt refl refl refl refl e

multi_within : (i : MultiFields) (s : Site) (x : Core) (h : Change) → change (Multi i) s x ≡ Ok h → IsWithin (Multi i) h
unfolding change writes_of
multi_within i s x h e =
    next_within (Multi i) _ i.pc _ h
    (λ g f. quiet (Multi i) _ g
    (append_kept (writes_of (Multi i)) _ _
    (base_moved_kept (writes_of (Multi i)) i.back i.down i.n _ _ (λ k. there (i.load && has i.list.0 i.n) _ (both_true _ _ k (same_number i.n))))
    (transferred_kept (writes_of (Multi i)) i.load _ (registers i.list.0) x (λ k. each_map _ _ _ (λ r m. left _ _ (both_true _ _ k m)) (each_has i.list.0))))
    (let q = transferred_calm i.load _ (registers i.list.0) x in record { n = q.n; z = q.z; c = q.c; v = q.v })
    (upright_is _ g f))
    (words_passed x.memory _ _ _ h e)

pair_within : (i : PairFields) (s : Site) (x : Core) (h : Change) → change (Pair i) s x ≡ Ok h → IsWithin (Pair i) h
unfolding change writes_of
pair_within i s x h e =
    let test : ℕ → Bool = writes_of (Pair i) in
    quiet (Pair i) _ h
    (append_kept test _ _
    (base_kept test i.n (pair_place i.index i.up i.imm) x (λ k. there (i.load && ((i.n == i.t) || (i.n == i.u))) _ (both_true _ _ (sym (pair_base i.index i.up i.imm) ∙ k) (same_number i.n))))
    (transferred_kept test i.load _ (i.t ∷ i.u ∷ []) x (λ k. (left _ _ (both_true _ _ k (here i.t _)), (left _ _ (both_true _ _ k (there (i.u == i.t) _ (same_number i.u))), tt)))))
    (let q = transferred_calm i.load _ (i.t ∷ i.u ∷ []) x in record { n = q.n; z = q.z; c = q.c; v = q.v })
    (upright_is _ h (words_passed x.memory _ _ _ h e))

access_within : (i : AccessFields) (s : Site) (x : Core) (h : Change) → change (Access i) s x ≡ Ok h → IsWithin (Access i) h
unfolding change writes_of
access_within i s x h e =
    let test : ℕ → Bool = writes_of (Access i) in
    quiet (Access i) _ h
    (append_kept test _ _
    (base_kept test i.n i.place x (λ k. there (not (is_store i.op) && (i.n == i.t)) _ (both_true _ _ k (same_number i.n))))
    (accessed_kept test i.op i.t _ x (λ k. left _ _ (both_true _ _ k (same_number i.t)))))
    (let q = accessed_calm i.op i.t _ x in record { n = q.n; z = q.z; c = q.c; v = q.v })
    (upright_is _ h (passed _ _ _ h e))

test_within : (i : TestFields) (s : Site) (x : Core) (h : Change) → change (Test i) s x ≡ Ok h → IsWithin (Test i) h
unfolding change writes_of sets_flags_of
test_within i s x h e =
    within (Test i) _ h tt
    (let c : (if compares i.op then true else (gives_carry i.x && true)) ≡ false → (computed (tested i.op) (value x i.n) (operand i.x x) x.c).carry ≡ None = λ f. alu_carry (tested i.op) _ i.x x _ (ap (λ b. if b then true else (gives_carry i.x && true)) (test_sum i.op) ∙ f) in
    let v : (if compares i.op then true else (gives_carry i.x && false)) ≡ false → (computed (tested i.op) (value x i.n) (operand i.x x) x.c).overflow ≡ None = λ f. alu_overflow (tested i.op) _ (operand i.x x) _ (gives_carry i.x) (ap (λ b. if b then true else (gives_carry i.x && false)) (test_sum i.op) ∙ f) in
    let n = if_true (compares i.op) in
    record { n = λ f. cc; z = λ f. cc; c = c; v = v })
    (ok_is _ h _ refl e)

pub one_within : (i : Instr) (d : ℕ) (w : Word) (h : Change) → writes_of i d ≡ true → upright (writing ((d, w) ∷ [])) ≡ Ok h → IsWithin i h
one_within i d w h t e = calm i (writing ((d, w) ∷ [])) h (t, tt) refl refl refl refl (upright_is _ h e)

-- SECOND LEMMA: an instruction changes only what it may write
pub writes : (i : Instr) (s : Site) (x : Core) (h : Change) → change i s x ≡ Ok h → IsWithin i h
unfolding change writes_of sets_flags_of
writes (Alu i) s x h e =
    within (Alu i) _ h (one_written _ i.d _ _ (flags_regs i.s _ _) (same_number i.d))
    (flagged i.s (λ k. if is_sum i.op then is_flag k else logic_flags_of i.x k) _ _ (if_true _) (if_true _) (alu_carry i.op _ i.x x _) (alu_overflow i.op _ (operand i.x x) _ (gives_carry i.x)))
    (upright_is _ h e)
writes (Move i) s x h e =
    within (Move i) _ h (one_written _ i.d _ _ (flags_regs i.s _ _) (same_number i.d))
    (flagged i.s (λ k. logic_flags_of i.x k) _ _ refl refl (λ f. none_given i.x x (and_false _ f)) (λ f. refl))
    (upright_is _ h e)
writes (Test i) s x h e = test_within i s x h e
writes (ShiftBy i) s x h e =
    within (ShiftBy i) _ h (one_written _ i.d _ _ (flags_regs i.s _ _) (same_number i.d))
    (shift_leaves i.s _ _)
    (upright_is _ h e)
writes (Wide i) s x h e = one_within (Wide i) i.d _ h (same_number i.d) e
writes (Half i) s x h e = one_within (Half i) i.d _ h (same_number i.d) e
writes (Field i) s x h e = one_within (Field i) i.d _ h (same_number i.d) e
writes (Unary i) s x h e = one_within (Unary i) i.d _ h (same_number i.d) e
writes (Mul i) s x h e =
    within (Mul i) _ h (one_written _ i.d _ _ (sign_regs i.s _ _) (same_number i.d))
    (signed i.s (λ k. sign_flags k) _ _ refl refl)
    (upright_is _ h e)
writes (MulAcc i) s x h e = one_within (MulAcc i) i.d _ h (same_number i.d) e
writes (LongMul i) s x h e = calm (LongMul i) (two_words i.lo i.hi _) h (here i.lo _, (there (i.hi == i.lo) _ (same_number i.hi), tt)) refl refl refl refl (upright_is _ h e)
writes (Div i) s x h e = one_within (Div i) i.d _ h (same_number i.d) e
writes (Access i) s x h e = access_within i s x h e
writes (Pair i) s x h e = pair_within i s x h e
writes (Multi i) s x h e = multi_within i s x h e
writes (Literal i) s x h e = one_within (Literal i) i.t _ h (same_number i.t) (passed _ _ _ h e)
writes (Adr i) s x h e = one_within (Adr i) i.d _ h (same_number i.d) e
writes (Branch i) s x h e = branch_within i _ _ h (ok_is _ h _ refl e)
writes (ZeroBranch i) s x h e = zero_branch_within i _ _ h (ok_is _ h _ refl e)
writes (Call i) s x h e = calm (Call i) (record (link s) { exit = Jumps _ }) h (refl, tt) refl refl refl refl (ok_is _ h _ refl e)
writes (Jump i) s x h e = jumped_within (Jump i) _ _ h (calm (Jump i) unchanged _ tt refl refl refl refl refl) e
writes (CallReg i) s x h e = jumped_within (CallReg i) _ _ h (calm (CallReg i) (link s) _ (refl, tt) refl refl refl refl refl) e
writes (It i) s x h e = calm (It i) _ h tt refl refl refl refl (ok_is _ h _ refl e)
writes (Nothing i) s x h e = calm (Nothing i) _ h tt refl refl refl refl (ok_is _ h _ refl e)
writes (Trap i) s x h e = cc
