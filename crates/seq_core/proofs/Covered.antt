-- What an instruction always writes is in its change.
use Rattle.std.proofs.Common.{◌≡◌, ℕ, ◌+◌, ◌-◌, ◌%◌, ◌<◌, ◌⊎◌, inl, inr, Bool, true, false, List, [], ◌∷◌, ◌++◌, Some, None, Ok, Err, refl, sym, ap, ◌∙◌, subst, arith, cond}
use Rattle.std.specs.Prelude.{◌==◌, ◌||◌, ◌&&◌, not, nat_lt, if◌then◌else◌, is_some, filter}
use Rattle.std.specs.List.{list_any}
use Rattle.std.proofs.lemmas.Bool.{eqb-true, eq-eqb, ne_eqb, and_parts, or_cases, agree_below_at, or_left, or_right, ltb-true}
use Rattle.mark_word.specs.declared.numbers.Shift.TheVariants.{Lsl, Lsr, Asr, Ror, Rrx}
use Rattle.mark_word.specs.Words.{Word}
use Rattle.thumb_instr.specs.declared.operations.AluOp.{AluOp}
use Rattle.thumb_instr.specs.declared.operations.AluOp.TheVariants.{And, Bic, Orr, Orn, Eor, Add, Adc, Sbc, Sub, Rsb}
use Rattle.thumb_instr.specs.declared.operations.AccessOp.{AccessOp}
use Rattle.thumb_instr.specs.declared.operations.AccessOp.TheVariants.{Ldr, Ldrb, Ldrh, Ldrsb, Ldrsh, Str, Strb, Strh}
use Rattle.thumb_instr.specs.declared.operands.Operand.{Operand}
use Rattle.thumb_instr.specs.declared.operands.Operand.TheVariants.{Imm, Reg}
use Rattle.thumb_instr.specs.declared.places.Place.{Place}
use Rattle.thumb_instr.specs.declared.places.Place.TheVariants.{Offset, Pre, Post, Index}
use Rattle.thumb_instr.specs.declared.instructions.Instr.{Instr}
use Rattle.thumb_instr.specs.declared.instructions.Instr.TheVariants.{Alu, Move, Test, ShiftBy, Wide, Half, Field, Unary, Mul, MulAcc, LongMul, Div, Access, Pair, Multi, Literal, Adr, Branch, ZeroBranch, Call, Jump, CallReg, It, Nothing, Trap}
use Rattle.thumb_instr.specs.Operands.{has, is_operand}
use Rattle.thumb_instr.specs.Fields.{AccessFields, PairFields, MultiFields, TestFields}
use Rattle.thumb_instr.specs.Sets.{writes_of, sets_flags_of, is_store, moves_base, moves_pair_base, is_sum, compares, gives_carry, is_flag, logic_flags_of, sign_flags}
use Rattle.thumb_table.specs.Parts.{Memory}
use Rattle.thumb_table.specs.States.{Core, Site, Change, Outcome, Jumps, upright, unchanged}
use Rattle.thumb_table.specs.Values.{Given, Computed, computed, tested}
use Rattle.thumb_table.specs.Effects.{change, value, operand, with_flags, with_sign, writing, accessed, base_write, after_base, loaded, transferred, pair_place, base_moved, and_next, jump_if, jump_to, branch_if, registers, link, two_words, access_address, lowest, transfer_size}
use Rattle.thumb_instr.specs.Formed.{IsFormed}
use Rattle.seq_core.specs.Reading.{is_written, Covers}
use Rattle.seq_core.proofs.Written.{upright_is, ok_is, passed, words_passed, flags_regs, sign_regs, test_sum, pair_base}

-- ---- the flags of an operand's carry

some_if : (b : Bool) (c : Bool) → b ≡ true → is_some (if b then Some c else None) ≡ true
some_if true c e = refl
some_if false c e = cc

or_true : (b : Bool) → b ≡ true → (b || false) ≡ true
or_true true e = refl
or_true false e = cc

-- an amount that is not 0
not_none : (n k : ℕ) → (nat_lt 0 n && nat_lt n k) ≡ true → not (n == 0) ≡ true
not_none n k e = let p = ltb-true 0 n (and_parts (nat_lt 0 n) (nat_lt n k) e).0 in ap not (ne_eqb n 0 (λ z. omega arith))

some_given : (o : Operand) (x : Core) → is_operand o ≡ true → gives_carry o ≡ true → is_some (operand o x).carry ≡ true
some_given (Imm i) x f e = some_if _ _ e
some_given (Reg m Lsl amount) x f e = some_if _ _ (or_true _ e)
some_given (Reg m Lsr amount) x f e = some_if _ _ (or_true _ (not_none amount 33 f))
some_given (Reg m Asr amount) x f e = some_if _ _ (or_true _ (not_none amount 33 f))
some_given (Reg m Ror amount) x f e = some_if _ _ (or_true _ (not_none amount 32 f))
some_given (Reg m Rrx amount) x f e = some_if _ _ (or_right _ _ refl)

and_true : (b : Bool) → (b && true) ≡ true → b ≡ true
and_true true e = refl
and_true false e = cc

if_none : (b g : Bool) → (if b then true else (g && false)) ≡ true → b ≡ true
if_none true g e = refl
if_none false true e = cc
if_none false false e = cc

alu_carry : (op : AluOp) (n : ℕ) (o : Operand) (x : Core) (c : Bool) → is_operand o ≡ true → (if is_sum op then true else (gives_carry o && true)) ≡ true → is_some (computed op n (operand o x) c).carry ≡ true
alu_carry And n o x c f e = some_given o x f (and_true _ e)
alu_carry Bic n o x c f e = some_given o x f (and_true _ e)
alu_carry Orr n o x c f e = some_given o x f (and_true _ e)
alu_carry Orn n o x c f e = some_given o x f (and_true _ e)
alu_carry Eor n o x c f e = some_given o x f (and_true _ e)
alu_carry Add n o x c f e = refl
alu_carry Adc n o x c f e = refl
alu_carry Sbc n o x c f e = refl
alu_carry Sub n o x c f e = refl
alu_carry Rsb n o x c f e = refl

alu_overflow : (op : AluOp) (n : ℕ) (o : Given) (c g : Bool) → (if is_sum op then true else (g && false)) ≡ true → is_some (computed op n o c).overflow ≡ true
alu_overflow And n o c g e = let k = if_none false g e in cc
alu_overflow Bic n o c g e = let k = if_none false g e in cc
alu_overflow Orr n o c g e = let k = if_none false g e in cc
alu_overflow Orn n o c g e = let k = if_none false g e in cc
alu_overflow Eor n o c g e = let k = if_none false g e in cc
alu_overflow Add n o c g e = refl
alu_overflow Adc n o c g e = refl
alu_overflow Sbc n o c g e = refl
alu_overflow Sub n o c g e = refl
alu_overflow Rsb n o c g e = refl

record Sets (t : ℕ → Bool) (h : Change) : Type 0 where
  n : t 16 ≡ true → is_some h.n ≡ true
  z : t 17 ≡ true → is_some h.z ≡ true
  c : t 18 ≡ true → is_some h.c ≡ true
  v : t 19 ≡ true → is_some h.v ≡ true

flagged : (s : Bool) (t : ℕ → Bool) (r : Computed) (h : Change) → (t 18 ≡ true → is_some r.carry ≡ true) → (t 19 ≡ true → is_some r.overflow ≡ true) → Sets (λ k. s && t k) (with_flags s r h)
flagged true t r h c v = record { n = λ e. refl; z = λ e. refl; c = c; v = v }
flagged false t r h c v = record { n = λ e. cc; z = λ e. cc; c = λ e. cc; v = λ e. cc }

signed : (s : Bool) (bits : ℕ) (h : Change) → Sets (λ k. s && sign_flags k) (with_sign s bits h)
signed true bits h = record { n = λ e. refl; z = λ e. refl; c = λ e. cc; v = λ e. cc }
signed false bits h = record { n = λ e. cc; z = λ e. cc; c = λ e. cc; v = λ e. cc }

no_flags : (h : Change) → Sets (λ k. false) h
no_flags h = record { n = λ e. cc; z = λ e. cc; c = λ e. cc; v = λ e. cc }

-- ---- registers

abbrev All15 : (ℕ → Bool) → List (ℕ × Word) → Type 0
All15 test ws = (r : ℕ) → r < 15 → test r ≡ true → is_written r ws ≡ true

covers : (i : Instr) (g h : Change) → All15 (writes_of i) g.regs → Sets (sets_flags_of i) g → g ≡ h → Covers i h
covers i g h k s e = subst (Covers i) e (record { regs = k; n = s.n; z = s.z; c = s.c; v = s.v })

key_of : (r d : ℕ) (b : Bool) → (r == d) ≡ true → ((d == r) || b) ≡ true
key_of r d b e = let q : r ≡ d = eqb-true r d e in or_left (d == r) b (eq-eqb d r (sym q))

keyed : (d r : ℕ) → r < 15 → (r == d) ≡ true → ((d == r) || false) ≡ true
keyed d r lt e = key_of r d false e

one_of : (d : ℕ) (w : Word) (l : List (ℕ × Word)) → l ≡ (d, w) ∷ [] → All15 (λ k. k == d) l
one_of d w l e = subst (All15 (λ k. k == d)) (sym e) (keyed d)

one_covers : (i : Instr) (d : ℕ) (w : Word) (h : Change) → All15 (writes_of i) ((d, w) ∷ []) → ((k : ℕ) → sets_flags_of i k ≡ false) → upright (writing ((d, w) ∷ [])) ≡ Ok h → Covers i h
one_covers i d w h k f e = covers i (writing ((d, w) ∷ [])) h k (record { n = λ e. let p = f 16 in cc; z = λ e. let p = f 17 in cc; c = λ e. let p = f 18 in cc; v = λ e. let p = f 19 in cc }) (upright_is _ h e)

in_front : (r : ℕ) (a b : List (ℕ × Word)) → is_written r a ≡ true → is_written r (a ++ b) ≡ true
in_front r [] b e = cc
in_front r (w ∷ a) b e = elim (or_cases (w.0 == r) (is_written r a) e) [ inl p ↦ or_left _ _ p | inr p ↦ or_right (w.0 == r) _ (in_front r a b p) ]

behind : (r : ℕ) (a b : List (ℕ × Word)) → is_written r b ≡ true → is_written r (a ++ b) ≡ true
behind r [] b e = e
behind r (w ∷ a) b e = or_right (w.0 == r) _ (behind r a b e)

is_base : (r n : ℕ) (l : Place) (x : Core) → moves_base l ≡ true → (r == n) ≡ true → is_written r (base_write n l x) ≡ true
is_base r n (Offset up imm) x m e = cc
is_base r n (Pre up imm) x m e = key_of r n false e
is_base r n (Post up imm) x m e = key_of r n false e
is_base r n (Index k shift) x m e = cc

is_moved : (r n b bytes : ℕ) (back down : Bool) → back ≡ true → (r == n) ≡ true → is_written r (base_moved back down n b bytes) ≡ true
is_moved r n b bytes true down m e = key_of r n false e
is_moved r n b bytes false down m e = cc

is_accessed : (r : ℕ) (op : AccessOp) (t a : ℕ) (x : Core) → not (is_store op) ≡ true → (r == t) ≡ true → is_written r (accessed op t a x).regs ≡ true
is_accessed r Ldr t a x s e = key_of r t false e
is_accessed r Ldrb t a x s e = key_of r t false e
is_accessed r Ldrh t a x s e = key_of r t false e
is_accessed r Ldrsb t a x s e = key_of r t false e
is_accessed r Ldrsh t a x s e = key_of r t false e
is_accessed r Str t a x s e = cc
is_accessed r Strb t a x s e = cc
is_accessed r Strh t a x s e = cc

-- a register of a list
abbrev is_of : ℕ → List ℕ → Bool
is_of r rs = list_any (λ k. k == r) rs

is_loaded : (r : ℕ) (m : Memory) (a : ℕ) (rs : List ℕ) → is_of r rs ≡ true → is_written r (loaded m a rs) ≡ true
is_loaded r m a [] e = cc
is_loaded r m a (k ∷ rs) e = elim (or_cases (k == r) (is_of r rs) e) [ inl p ↦ or_left _ _ p | inr p ↦ or_right (k == r) _ (is_loaded r m (a + 4) rs p) ]

is_transferred : (r : ℕ) (load : Bool) (a : ℕ) (rs : List ℕ) (x : Core) → load ≡ true → is_of r rs ≡ true → is_written r (transferred load a rs x).regs ≡ true
is_transferred r true a rs x l e = is_loaded r x.memory a rs e
is_transferred r false a rs x l e = cc

picked : (r k : ℕ) (b : Bool) (rs : List ℕ) → ((k == r) ≡ true → b ≡ true) → ((k == r) ≡ true) ⊎ (is_of r rs ≡ true) → is_of r (cond b (k ∷ rs) rs) ≡ true
picked r k true rs f (inl p) = or_left _ _ p
picked r k true rs f (inr p) = or_right (k == r) _ p
picked r k false rs f (inl p) = let q = f p in cc
picked r k false rs f (inr p) = p

is_kept : (test : ℕ → Bool) (r : ℕ) → test r ≡ true → (l : List ℕ) → is_of r l ≡ true → is_of r (filter test l) ≡ true
is_kept test r h [] e = cc
is_kept test r h (k ∷ l) e =
    picked r k (test k) (filter test l) (λ p. let q : k ≡ r = eqb-true k r p in ap test q ∙ h)
    (elim (or_cases (k == r) (is_of r l) e) [ inl p ↦ inl p | inr p ↦ inr (is_kept test r h l p) ])

abbrev fifteen : List ℕ
fifteen = 0 ∷ 1 ∷ 2 ∷ 3 ∷ 4 ∷ 5 ∷ 6 ∷ 7 ∷ 8 ∷ 9 ∷ 10 ∷ 11 ∷ 12 ∷ 13 ∷ 14 ∷ []

is_register : (r : ℕ) → r < 15 → is_of r fifteen ≡ true
is_register r lt = agree_below_at (λ r. is_of r fifteen) (λ r. true) 15 r refl lt

is_listed : (list r : ℕ) → r < 15 → has list r ≡ true → is_of r (registers list) ≡ true
unfolding registers
is_listed list r lt h = is_kept (λ r. has list r) r h fifteen (is_register r lt)

-- ---- jumps change the exit alone

jumped_covers : (i : Instr) (bits : ℕ) (g h : Change) → Covers i g → jump_to bits g ≡ Ok h → Covers i h
jumped_covers i bits g h w e =
    subst (Covers i) (ok_is _ h (Ok (record g { exit = Jumps (bits - 1) })) refl (passed (bits % 2 == 1) _ _ h e))
    (record { regs = w.regs; n = w.n; z = w.z; c = w.c; v = w.v })

jumped_if : (i : Instr) (pc : Bool) (bits : ℕ) (g h : Change) → Covers i g → jump_if pc bits g ≡ Ok h → Covers i h
jumped_if i true bits g h w e = jumped_covers i bits g h w e
jumped_if i false bits g h w e = subst (Covers i) (ok_is g h (Ok g) refl e) w

next_covers : (i : Instr) (o : Outcome) (pc : Bool) (bits : ℕ) (h : Change) → ((g : Change) → o ≡ Ok g → Covers i g) → and_next o (λ g. jump_if pc bits g) ≡ Ok h → Covers i h
next_covers i (Ok g) pc bits h w e = jumped_if i pc bits g h (w g refl) e
next_covers i (Err k) pc bits h w e = cc

-- ---- by instruction

quiet : (i : Instr) (g h : Change) → All15 (writes_of i) g.regs → ((k : ℕ) → sets_flags_of i k ≡ false) → g ≡ h → Covers i h
quiet i g h k f e = covers i g h k (record { n = λ e. let p = f 16 in cc; z = λ e. let p = f 17 in cc; c = λ e. let p = f 18 in cc; v = λ e. let p = f 19 in cc }) e

access_covers : (i : AccessFields) (s : Site) (x : Core) (h : Change) → change (Access i) s x ≡ Ok h → Covers (Access i) h
unfolding change writes_of sets_flags_of
access_covers i s x h e =
    let a : ℕ = access_address i.n i.place x in
    let base : List (ℕ × Word) = base_write i.n i.place x in
    let moves : Change = accessed i.op i.t a x in
    quiet (Access i) (after_base base moves) h
    (λ r lt w. elim (or_cases (not (is_store i.op) && (r == i.t)) (moves_base i.place && (r == i.n)) w) [
      | inl p ↦ let q = and_parts (not (is_store i.op)) (r == i.t) p in behind r base moves.regs (is_accessed r i.op i.t a x q.0 q.1)
      | inr p ↦ let q = and_parts (moves_base i.place) (r == i.n) p in in_front r base moves.regs (is_base r i.n i.place x q.0 q.1)
    ])
    (λ k. refl)
    (upright_is _ h (passed _ _ _ h e))

pair_covers : (i : PairFields) (s : Site) (x : Core) (h : Change) → change (Pair i) s x ≡ Ok h → Covers (Pair i) h
unfolding change writes_of sets_flags_of
pair_covers i s x h e =
    let place : Place = pair_place i.index i.up i.imm in
    let a : ℕ = access_address i.n place x in
    let base : List (ℕ × Word) = base_write i.n place x in
    let moves : Change = transferred i.load a (i.t ∷ i.u ∷ []) x in
    quiet (Pair i) (after_base base moves) h
    (λ r lt w. elim (or_cases (i.load && ((r == i.t) || (r == i.u))) (moves_pair_base i.index && (r == i.n)) w) [
      | inl p ↦ let q = and_parts i.load ((r == i.t) || (r == i.u)) p in behind r base moves.regs (is_transferred r i.load a (i.t ∷ i.u ∷ []) x q.0 (either r q.1))
      | inr p ↦ let q = and_parts (moves_pair_base i.index) (r == i.n) p in in_front r base moves.regs (is_base r i.n place x (pair_base i.index i.up i.imm ∙ q.0) q.1)
    ])
    (λ k. refl)
    (upright_is _ h (words_passed x.memory _ _ _ h e))
  where
    either : (r : ℕ) → ((r == i.t) || (r == i.u)) ≡ true → is_of r (i.t ∷ i.u ∷ []) ≡ true
    either r w = elim (or_cases (r == i.t) (r == i.u) w) [ inl p ↦ key_of r i.t _ p | inr p ↦ or_right (i.t == r) _ (key_of r i.u _ p) ]

multi_covers : (i : MultiFields) (s : Site) (x : Core) (h : Change) → change (Multi i) s x ≡ Ok h → Covers (Multi i) h
unfolding change writes_of sets_flags_of
multi_covers i s x h e =
    let bytes : ℕ = transfer_size i.list.0 i.pc in
    let a : ℕ = lowest i.down (value x i.n) bytes in
    let base : List (ℕ × Word) = base_moved i.back i.down i.n (value x i.n) bytes in
    let moves : Change = transferred i.load a (registers i.list.0) x in
    next_covers (Multi i) _ i.pc _ h
    (λ g f. quiet (Multi i) (after_base base moves) g
    (λ r lt w. elim (or_cases (i.load && has i.list.0 r) (i.back && (r == i.n)) w) [
      | inl p ↦ let q = and_parts i.load (has i.list.0 r) p in behind r base moves.regs (is_transferred r i.load a (registers i.list.0) x q.0 (is_listed i.list.0 r lt q.1))
      | inr p ↦ let q = and_parts i.back (r == i.n) p in in_front r base moves.regs (is_moved r i.n (value x i.n) bytes i.back i.down q.0 q.1)
    ])
    (λ k. refl)
    (upright_is _ g f))
    (words_passed x.memory _ _ _ h e)

nothing15 : (ws : List (ℕ × Word)) → All15 (λ k. false) ws
nothing15 ws r lt e = cc

test_covers : (i : TestFields) (s : Site) (x : Core) (h : Change) → is_operand i.x ≡ true → change (Test i) s x ≡ Ok h → Covers (Test i) h
unfolding change writes_of sets_flags_of
test_covers i s x h f e =
    covers (Test i) _ h (nothing15 [])
    (let c : (if compares i.op then true else (gives_carry i.x && true)) ≡ true → is_some (computed (tested i.op) (value x i.n) (operand i.x x) x.c).carry ≡ true = λ e. alu_carry (tested i.op) _ i.x x _ f (ap (λ b. if b then true else (gives_carry i.x && true)) (test_sum i.op) ∙ e) in
    let v : (if compares i.op then true else (gives_carry i.x && false)) ≡ true → is_some (computed (tested i.op) (value x i.n) (operand i.x x) x.c).overflow ≡ true = λ e. alu_overflow (tested i.op) _ (operand i.x x) _ (gives_carry i.x) (ap (λ b. if b then true else (gives_carry i.x && false)) (test_sum i.op) ∙ e) in
    record { n = λ e. refl; z = λ e. refl; c = c; v = v })
    (ok_is _ h _ refl e)

branch_covers : (i : Instr) (b : Bool) (a : ℕ) (h : Change) → ((k : ℕ) → writes_of i k ≡ false) → ((k : ℕ) → sets_flags_of i k ≡ false) → branch_if b a ≡ h → Covers i h
branch_covers i b a h w f e = quiet i (branch_if b a) h (λ r lt k. let p = w r in cc) f e

-- WHAT IS ALWAYS WRITTEN IS IN THE CHANGE
pub writes_all : (i : Instr) (s : Site) (x : Core) (h : Change) → IsFormed i → change i s x ≡ Ok h → Covers i h
unfolding change writes_of sets_flags_of
writes_all (Alu i) s x h f e =
    covers (Alu i) _ h (one_of i.d _ _ (flags_regs i.s _ _))
    (flagged i.s (λ k. if is_sum i.op then is_flag k else logic_flags_of i.x k) _ _ (alu_carry i.op _ i.x x _ f.fields) (alu_overflow i.op _ (operand i.x x) _ (gives_carry i.x)))
    (upright_is _ h e)
writes_all (Move i) s x h f e =
    covers (Move i) _ h (one_of i.d _ _ (flags_regs i.s _ _))
    (flagged i.s (λ k. logic_flags_of i.x k) _ _ (λ e. some_given i.x x f.fields (and_true _ e)) (λ e. let k = if_none false (gives_carry i.x) e in cc))
    (upright_is _ h e)
writes_all (Test i) s x h f e = test_covers i s x h f.fields e
writes_all (ShiftBy i) s x h f e =
    covers (ShiftBy i) _ h (one_of i.d _ _ (flags_regs i.s _ _))
    (flagged i.s (λ k. sign_flags k) _ _ (λ e. cc) (λ e. cc))
    (upright_is _ h e)
writes_all (Wide i) s x h f e = one_covers (Wide i) i.d _ h (keyed i.d) (λ k. refl) e
writes_all (Half i) s x h f e = one_covers (Half i) i.d _ h (keyed i.d) (λ k. refl) e
writes_all (Field i) s x h f e = one_covers (Field i) i.d _ h (keyed i.d) (λ k. refl) e
writes_all (Unary i) s x h f e = one_covers (Unary i) i.d _ h (keyed i.d) (λ k. refl) e
writes_all (Mul i) s x h f e = covers (Mul i) _ h (one_of i.d _ _ (sign_regs i.s _ _)) (signed i.s _ _) (upright_is _ h e)
writes_all (MulAcc i) s x h f e = one_covers (MulAcc i) i.d _ h (keyed i.d) (λ k. refl) e
writes_all (LongMul i) s x h f e =
    quiet (LongMul i) (two_words i.lo i.hi _) h
    (λ r lt w. elim (or_cases (r == i.lo) (r == i.hi) w) [ inl p ↦ key_of r i.lo _ p | inr p ↦ or_right (i.lo == r) _ (key_of r i.hi _ p) ])
    (λ k. refl)
    (upright_is _ h e)
writes_all (Div i) s x h f e = one_covers (Div i) i.d _ h (keyed i.d) (λ k. refl) e
writes_all (Access i) s x h f e = access_covers i s x h e
writes_all (Pair i) s x h f e = pair_covers i s x h e
writes_all (Multi i) s x h f e = multi_covers i s x h e
writes_all (Literal i) s x h f e = one_covers (Literal i) i.t _ h (keyed i.t) (λ k. refl) (passed _ _ _ h e)
writes_all (Adr i) s x h f e = one_covers (Adr i) i.d _ h (keyed i.d) (λ k. refl) e
writes_all (Branch i) s x h f e = branch_covers (Branch i) _ _ h (λ k. refl) (λ k. refl) (ok_is _ h _ refl e)
writes_all (ZeroBranch i) s x h f e = branch_covers (ZeroBranch i) _ _ h (λ k. refl) (λ k. refl) (ok_is _ h _ refl e)
writes_all (Call i) s x h f e = quiet (Call i) (record (link s) { exit = Jumps _ }) h (keyed 14) (λ k. refl) (ok_is _ h _ refl e)
writes_all (Jump i) s x h f e = jumped_covers (Jump i) _ unchanged h (quiet (Jump i) unchanged _ (nothing15 []) (λ k. refl) refl) e
writes_all (CallReg i) s x h f e = jumped_covers (CallReg i) _ (link s) h (quiet (CallReg i) (link s) _ (keyed 14) (λ k. refl) refl) e
writes_all (It i) s x h f e = quiet (It i) _ h (nothing15 []) (λ k. refl) (ok_is _ h _ refl e)
writes_all (Nothing i) s x h f e = quiet (Nothing i) _ h (nothing15 []) (λ k. refl) (ok_is _ h _ refl e)
writes_all (Trap i) s x h f e = cc
