-- The same instruction on both sides, by its kind.
use Rattle.std.proofs.Common.{◌≡◌, ℕ, ◌%◌, ◌⊎◌, inl, inr, Bool, true, false, List, [], ◌∷◌, ◌++◌, Some, None, Ok, refl, sym, ap, ◌∙◌, subst, arith, IsTrue}
use Rattle.std.specs.Prelude.{◌==◌, ◌||◌, not, if◌then◌else◌}
use Rattle.std.proofs.lemmas.Bool.{eq-eqb, eqb-true, cases_Bool}
use Rattle.mark_word.specs.declared.numbers.Shift.TheVariants.{Lsl, Lsr, Asr, Ror, Rrx}
use Rattle.mark_word.specs.declared.marks.Mark.TheVariants.{Plain}
use Rattle.mark_word.specs.Words.{Word, plain, is_word, bare, byte_of}
use Rattle.thumb_instr.specs.declared.operations.MoveOp.{MoveOp}
use Rattle.thumb_instr.specs.declared.operations.MoveOp.TheVariants.{Mov, Mvn}
use Rattle.thumb_instr.specs.declared.operations.TestOp.{TestOp}
use Rattle.thumb_instr.specs.declared.operations.TestOp.TheVariants.{Tst, Teq, Cmn, Cmp}
use Rattle.thumb_instr.specs.declared.operations.AccessOp.{AccessOp}
use Rattle.thumb_instr.specs.declared.operations.AccessOp.TheVariants.{Ldr, Ldrb, Ldrh, Ldrsb, Ldrsh, Str, Strb, Strh}
use Rattle.thumb_instr.specs.declared.operands.Operand.{Operand}
use Rattle.thumb_instr.specs.declared.operands.Operand.TheVariants.{Imm, Reg}
use Rattle.thumb_instr.specs.declared.places.Place.{Place}
use Rattle.thumb_instr.specs.declared.instructions.Instr.{Instr}
use Rattle.thumb_instr.specs.declared.instructions.Instr.TheVariants.{Move, Test, Access, Pair}
use Rattle.thumb_instr.specs.Fields.{MoveFields, TestFields, AccessFields, PairFields}
use Rattle.thumb_instr.specs.Sets.{reads_of, operand_reads_of, is_store, place_reads_of}
use Rattle.thumb_table.specs.Parts.{Memory, CodeBytes}
use Rattle.thumb_table.specs.States.{Core, Site, read, Change, Outcome, unchanged}
use Rattle.thumb_table.specs.Values.{Computed, computed, summed, tested, inverted, is_negative, extended}
use Rattle.thumb_table.specs.Effects.{change, value, operand, is_whole, moved_word, with_flags, with_carry, writing, plain_write, accessed, word_at, access_address, base_write, size_of, lies_in, on_words, pair_place, transferred, from}
use Rattle.thumb_table.specs.Ordinary.{used, in_operand, in_move, in_place, in_part, is_zero_test, IsPlain, IsOrdinaryUse, OrdinaryAccess, OrdinaryList, AreWhole}
use Rattle.sim_charts.specs.Words.{IsCodeWord, SameBits, SameWord, SameMemory}
use Rattle.sim_steps.proofs.Following.{Lawful}
use Rattle.sim_charts.specs.Changes.{SameStores}
use Rattle.sim_charts.specs.Words.{IsMarked}
use Rattle.sim_steps.proofs.Following.{Akin, Follows}
use Rattle.seq_core.proofs.Tests.{here, there, left, both_true, same_number}
use Rattle.seq_core.proofs.Lists.{Each}
use Rattle.seq_core.proofs.Values.{SameNumbers, operand_same}
use Rattle.seq_core.proofs.Numbers.{test_sees}
use Rattle.seq_core.proofs.Used.{Read, used_read, each_of}
use Rattle.seq_core.proofs.Seen.{address_same, base_same, pair_numbers}
use Rattle.seq_core.proofs.Written.{ok_is}
use Rattle.sim_steps.proofs.Zero.{zero_sum}
use Rattle.sim_steps.proofs.Words.{plain_bits, is_it_plain, code_old, code_new, sign_same, zero_same, pieces_same, pieces_cells}
use Rattle.sim_steps.proofs.Memories.{word_same, word_is, byte_same, half_same, lies_same}
use Rattle.sim_steps.proofs.Pairs.{Pairs, IsFlat, number_follows, known_follows, upright_follows, one_pairs, written_pairs, cells_pairs, base_pairs, base_plain, transferred_pairs, if_follows, unless_follows}

-- ---- what holds of the registers that are used as numbers

-- a register that is read and plain has the same number on both sides
pub number_same : (t : Lawful) (i : Instr) (x y : Core) → Akin t.taking i x y → (r : ℕ) → reads_of i r ≡ true → IsPlain (read x r).mark → value x r ≡ value y r
number_same t i x y k r e p = plain_bits t (read x r).mark (read x r).bits (read y r).bits p (k.regs r e)

each_same : (t : Lawful) (i : Instr) (x y : Core) → Akin t.taking i x y → (l : List ℕ) → Read (reads_of i) l → Each (λ r. IsPlain (read x r).mark) l → SameNumbers l x y
each_same t i x y k [] e p = tt
each_same t i x y k (r ∷ l) e p = (number_same t i x y k r e.0 p.0, each_same t i x y k l e.1 p.1)

pub numbers_same : (t : Lawful) (i : Instr) (s : Site) (x y : Core) → IsOrdinaryUse i s x → Akin t.taking i x y → SameNumbers (used i) x y
numbers_same t i s x y o k = each_same t i x y k (used i) (used_read i) (each_of _ (used i) o.numbers)

pub carry_same : (t : Lawful) (i : Instr) (x y : Core) → Akin t.taking i x y → reads_of i 18 ≡ true → x.c ≡ y.c
carry_same t i x y k e = k.flags.c (left _ _ e)

-- ---- moves

pub moves_whole : MoveOp → Operand → Bool
moves_whole Mov (Reg m kind amount) = is_whole kind amount
moves_whole Mov (Imm i) = false
moves_whole Mvn o = false

-- what a register that is moved whole gives
record WholeMove (op : MoveOp) (o : Operand) : Type 0 where
  m : ℕ
  word : (x : Core) → moved_word op o x ≡ read x m
  carry : (x : Core) → (operand o x).carry ≡ None
  is_read : operand_reads_of o m ≡ true
  is_operand : in_operand o ≡ m ∷ []

no_carry : (b : Bool) (c : Bool) → b ≡ true → (if not b || false then Some c else None) ≡ None
no_carry true c e = refl
no_carry false c e = cc

whole_move : (op : MoveOp) (o : Operand) → moves_whole op o ≡ true → WholeMove op o
unfolding moves_whole
whole_move Mov (Imm i) e = cc
whole_move Mvn o e = cc
whole_move Mov (Reg m Lsl amount) e = record { m = m; word = λ x. ap (λ b. if b then read x m else plain (operand (Reg m Lsl amount) x).value) e; carry = λ x. no_carry (amount == 0) _ e; is_read = here m _; is_operand = refl }
whole_move Mov (Reg m Lsr amount) e = cc
whole_move Mov (Reg m Asr amount) e = cc
whole_move Mov (Reg m Ror amount) e = cc
whole_move Mov (Reg m Rrx amount) e = cc

-- what another move gives
moved_number : MoveOp → ℕ → ℕ
moved_number Mov n = n
moved_number Mvn n = inverted n

record PartMove (op : MoveOp) (o : Operand) : Type 0 where
  word : (x : Core) → moved_word op o x ≡ plain (moved_number op (operand o x).value)
  is_used : in_move op o ≡ in_operand o

part_move : (op : MoveOp) (o : Operand) → moves_whole op o ≡ false → PartMove op o
unfolding moves_whole moved_number
part_move Mov (Imm i) e = record { word = λ x. refl; is_used = refl }
part_move Mvn o e = record { word = λ x. refl; is_used = refl }
part_move Mov (Reg m kind amount) e = record { word = λ x. ap (λ b. if b then read x m else plain (operand (Reg m kind amount) x).value) e; is_used = ap (λ b. if b then [] else m ∷ []) e }

part_pairs : (t : Lawful) (i : MoveFields) (x y : Core) → PartMove i.op i.x → operand i.x x ≡ operand i.x y → Pairs t (with_carry i.s (moved_word i.op i.x x).bits (operand i.x x).carry (writing ((i.d, moved_word i.op i.x x) ∷ []))) (with_carry i.s (moved_word i.op i.x y).bits (operand i.x y).carry (writing ((i.d, moved_word i.op i.x y) ∷ [])))
part_pairs t i x y p e =
    let w : Word = moved_word i.op i.x x in
    let v : Word = moved_word i.op i.x y in
    let q : w ≡ v = p.word x ∙ ap (λ g. plain (moved_number i.op g.value)) e ∙ sym (p.word y) in
    let pl : w.mark ≡ Plain = ap (λ w. w.mark) (p.word x) in
    let b : w.bits ≡ v.bits = ap (λ w. w.bits) q in
    let s : SameWord t.taking w v = subst (λ m. SameBits t.taking m w.bits v.bits) (sym pl) b in
    let k : IsTrue (is_word w) = subst (λ w. IsTrue (is_word w)) (sym (p.word x)) (eq-eqb _ _ refl) in
    one_pairs t i.s i.d w v _ _ s k (ap (λ g. g.carry) e) (λ f. ap is_negative b) (λ f. ap (λ n. n == 0) b)

whole_pairs : (t : Lawful) (i : MoveFields) (x y : Core) → (p : WholeMove i.op i.x) → SameWord t.taking (read x p.m) (read y p.m) → IsTrue (is_word (read x p.m)) → Pairs t (with_carry i.s (moved_word i.op i.x x).bits (operand i.x x).carry (writing ((i.d, moved_word i.op i.x x) ∷ []))) (with_carry i.s (moved_word i.op i.x y).bits (operand i.x y).carry (writing ((i.d, moved_word i.op i.x y) ∷ [])))
whole_pairs t i x y p s k =
    let w : Word = moved_word i.op i.x x in
    let v : Word = moved_word i.op i.x y in
    let s' : SameWord t.taking w v = subst (λ a. SameWord t.taking a v) (sym (p.word x)) (subst (λ a. SameWord t.taking (read x p.m) a) (sym (p.word y)) s) in
    let k' : IsTrue (is_word w) = subst (λ w. IsTrue (is_word w)) (sym (p.word x)) k in
    one_pairs t i.s i.d w v _ _ s' k' (p.carry x ∙ sym (p.carry y)) (λ f. sign_same t w v k' s') (λ f. zero_same t w v k' s')

pub move_follows : (t : Lawful) (i : MoveFields) (s u : Site) (x y : Core) (h : Change) → IsOrdinaryUse (Move i) s x → IsMarked x → Akin t.taking (Move i) x y → change (Move i) s x ≡ Ok h → Follows t.taking (Move i) x y h (change (Move i) u y)
unfolding change reads_of
move_follows t i s u x y h o z k e = upright_follows t (Move i) x y _ _ h (λ e f. tt) (go (cases_Bool (moves_whole i.op i.x))) e
  where
    go : (moves_whole i.op i.x ≡ true) ⊎ (moves_whole i.op i.x ≡ false) → Pairs t (with_carry i.s (moved_word i.op i.x x).bits (operand i.x x).carry (writing ((i.d, moved_word i.op i.x x) ∷ []))) (with_carry i.s (moved_word i.op i.x y).bits (operand i.x y).carry (writing ((i.d, moved_word i.op i.x y) ∷ [])))
    go (inl b) =
        let p = whole_move i.op i.x b in
        whole_pairs t i x y p (k.regs p.m p.is_read) (z.words p.m)
    go (inr b) =
        let p = part_move i.op i.x b in
        part_pairs t i x y p (operand_same i.x x y (subst (λ l. SameNumbers l x y) p.is_used (numbers_same t (Move i) s x y o k)) (carry_same t (Move i) x y k))

-- ---- CMP with 0

zero_tested : (op : TestOp) (o : Operand) (b : ℕ) (x : Core) (c : Bool) → is_zero_test op o ≡ true → IsCodeWord b → computed (tested op) b (operand o x) c ≡ record { value = b; carry = Some true; overflow = Some false }
zero_tested Tst o b x c e k = cc
zero_tested Teq o b x c e k = cc
zero_tested Cmn o b x c e k = cc
zero_tested Cmp (Reg m kind amount) b x c e k = cc
zero_tested Cmp (Imm i) b x c e k =
    let o = k.odd in
    subst (λ i. computed (tested Cmp) b (operand (Imm i) x) c ≡ record { value = b; carry = Some true; overflow = Some false }) (sym (eqb-true i 0 e)) (ap summed (zero_sum b (omega arith) k.below))

no_operand : (op : TestOp) (o : Operand) → is_zero_test op o ≡ true → in_operand o ≡ []
no_operand Tst o e = cc
no_operand Teq o e = cc
no_operand Cmn o e = cc
no_operand Cmp (Reg m kind amount) e = cc
no_operand Cmp (Imm i) e = refl

flat_test : (r : Computed) → IsFlat (with_flags true r unchanged)
flat_test r = record { regs = tt; cells = refl }

code_test : (t : Lawful) (w v : Word) → IsTrue (is_word w) → SameWord t.taking w v → Pairs t (with_flags true (record { value = w.bits; carry = Some true; overflow = Some false }) unchanged) (with_flags true (record { value = v.bits; carry = Some true; overflow = Some false }) unchanged)
code_test t w v k s = record { same = record { regs = tt; n = ap Some (sign_same t w v k s); z = ap Some (zero_same t w v k s); c = refl; v = refl; cells = tt; it = refl; exit = tt }; words = tt; cells = tt }

pub test_follows : (t : Lawful) (i : TestFields) (s u : Site) (x y : Core) (h : Change) → IsOrdinaryUse (Test i) s x → IsMarked x → Akin t.taking (Test i) x y → change (Test i) s x ≡ Ok h → Follows t.taking (Test i) x y h (change (Test i) u y)
unfolding change reads_of
test_follows t i s u x y h o z k e = go (cases_Bool (is_zero_test i.op i.x))
  where
    numbers : SameNumbers (i.n ∷ in_operand i.x) x y → Follows t.taking (Test i) x y h (change (Test i) u y)
    numbers v =
        number_follows t (Test i) x y _ h _ (λ e f. tt) (flat_test _) (ok_is _ h _ refl e) (sym (test_sees i s u x y v (carry_same t (Test i) x y k)) ∙ e)

    go : (is_zero_test i.op i.x ≡ true) ⊎ (is_zero_test i.op i.x ≡ false) → Follows t.taking (Test i) x y h (change (Test i) u y)
    go (inr b) = numbers (subst (λ b. SameNumbers (if b then [] else i.n ∷ in_operand i.x) x y) b (numbers_same t (Test i) s x y o k))
    go (inl b) = elim (is_it_plain (read x i.n).mark) [
      | inl p ↦ numbers (number_same t (Test i) x y k i.n (here i.n _) p, subst (λ l. SameNumbers l x y) (sym (no_operand i.op i.x b)) tt)
      | inr n ↦
          let w : Word = read x i.n in
          let v : Word = read y i.n in
          let sw : SameWord t.taking w v = k.regs i.n (here i.n _) in
          let a : computed (tested i.op) w.bits (operand i.x x) x.c ≡ record { value = w.bits; carry = Some true; overflow = Some false } = zero_tested i.op i.x w.bits x x.c b (code_old t w.mark w.bits v.bits n (z.words i.n) sw) in
          let c : computed (tested i.op) v.bits (operand i.x y) y.c ≡ record { value = v.bits; carry = Some true; overflow = Some false } = zero_tested i.op i.x v.bits y y.c b (code_new t w.mark w.bits v.bits n sw) in
          known_follows t (Test i) x y _ _ h _ (λ e f. tt) (code_test t w v (z.words i.n) sw)
          (ok_is _ h _ (ap (λ r. Ok (with_flags true r unchanged)) a) e)
          (ap (λ r. Ok (with_flags true r unchanged)) c)
    ]

-- ---- accesses

plain_pairs : (t : Lawful) (d a b : ℕ) → a ≡ b → Pairs t (plain_write d a) (plain_write d b)
plain_pairs t d a b e = written_pairs t d (plain a) (plain b) e (eq-eqb a a refl)

byte_cells : (t : Lawful) (a b c : ℕ) → b ≡ c → SameStores t.taking (from a (bare (byte_of 0 b) ∷ [])) (from a (bare (byte_of 0 c) ∷ []))
byte_cells t a b c e = (refl, ap (byte_of 0) e, tt)

half_cells : (t : Lawful) (a b c : ℕ) → b ≡ c → SameStores t.taking (from a (bare (byte_of 0 b) ∷ bare (byte_of 1 b) ∷ [])) (from a (bare (byte_of 0 c) ∷ bare (byte_of 1 c) ∷ []))
half_cells t a b c e = (refl, ap (byte_of 0) e, (refl, ap (byte_of 1) e, tt))

accessed_pairs : (k : Lawful) (op : AccessOp) (t a : ℕ) (x y : Core) → SameMemory k.taking x.memory y.memory → IsMarked x → OrdinaryAccess op a x → (is_store op ≡ true → SameWord k.taking (read x t) (read y t)) → SameNumbers (in_part op t) x y → Pairs k (accessed op t a x) (accessed op t a y)
accessed_pairs k Ldr t a x y s c o w v = written_pairs k t (word_at x.memory a).word (word_at y.memory a).word (word_same k x.memory y.memory s c.cells a o) (word_is k x.memory y.memory s c.cells a o)
accessed_pairs k Ldrb t a x y s c o w v = plain_pairs k t _ _ (byte_same k x.memory y.memory s a o)
accessed_pairs k Ldrh t a x y s c o w v = plain_pairs k t _ _ (half_same k x.memory y.memory s a o)
accessed_pairs k Ldrsb t a x y s c o w v = plain_pairs k t _ _ (ap (λ n. extended 8 n) (byte_same k x.memory y.memory s a o))
accessed_pairs k Ldrsh t a x y s c o w v = plain_pairs k t _ _ (ap (λ n. extended 16 n) (half_same k x.memory y.memory s a o))
accessed_pairs k Str t a x y s c o w v = cells_pairs k _ _ (pieces_same k (read x t) (read y t) a (w refl)) (pieces_cells (read x t) a (c.words t))
accessed_pairs k Strb t a x y s c o w v = cells_pairs k _ _ (byte_cells k a (value x t) (value y t) v.0) (refl, tt)
accessed_pairs k Strh t a x y s c o w v = cells_pairs k _ _ (half_cells k a (value x t) (value y t) v.0) (refl, (refl, tt))

each_left : (P : ℕ → Type 0) (k l : List ℕ) → Each P (k ++ l) → Each P k
each_left P [] l h = tt
each_left P (r ∷ k) l h = (h.0, each_left P k l h.1)

each_right : (P : ℕ → Type 0) (k l : List ℕ) → Each P (k ++ l) → Each P l
each_right P [] l h = h
each_right P (r ∷ k) l h = each_right P k l h.1

pub access_follows : (t : Lawful) (i : AccessFields) (s u : Site) (x y : Core) (h : Change) → IsOrdinaryUse (Access i) s x → IsMarked x → Akin t.taking (Access i) x y → change (Access i) s x ≡ Ok h → Follows t.taking (Access i) x y h (change (Access i) u y)
unfolding change reads_of
access_follows t i s u x y h o z k e =
    let v : SameNumbers (i.n ∷ in_place i.place ++ in_part i.op i.t) x y = numbers_same t (Access i) s x y o k in
    let a : access_address i.n i.place x ≡ access_address i.n i.place y = address_same i.n i.place x y v.0 (each_left _ (in_place i.place) (in_part i.op i.t) v.1) in
    let b : base_write i.n i.place x ≡ base_write i.n i.place y = base_same i.n i.place x y v.0 in
    let l : lies_in y.memory (access_address i.n i.place y) (size_of i.op) ≡ lies_in x.memory (access_address i.n i.place x) (size_of i.op) = lies_same t x.memory y.memory k.memory (access_address i.n i.place y) (size_of i.op) ∙ ap (λ a. lies_in x.memory a (size_of i.op)) (sym a) in
    let w : is_store i.op ≡ true → SameWord t.taking (read x i.t) (read y i.t) = λ f. k.regs i.t (there (i.t == i.n) _ (there (place_reads_of i.place i.t) _ (both_true _ _ f (same_number i.t)))) in
    let p : Pairs t (accessed i.op i.t (access_address i.n i.place x) x) (accessed i.op i.t (access_address i.n i.place x) y) = accessed_pairs t i.op i.t (access_address i.n i.place x) x y k.memory z o.proper w (each_right _ (in_place i.place) (in_part i.op i.t) v.1) in
    let q : Pairs t (accessed i.op i.t (access_address i.n i.place x) x) (accessed i.op i.t (access_address i.n i.place y) y) = subst (λ a. Pairs t (accessed i.op i.t (access_address i.n i.place x) x) (accessed i.op i.t a y)) a p in
    if_follows t (Access i) x y h _ _ _ _ _ l
    (upright_follows t (Access i) x y _ _ h (λ e f. tt) (base_pairs t _ _ _ _ (base_plain i.n i.place x) b q))
    e

-- ---- several words

pub words_follow : (t : Lawful) (i : Instr) (x y : Core) (h : Change) (a b n : ℕ) (o p : Outcome) → SameMemory t.taking x.memory y.memory → a ≡ b → (o ≡ Ok h → Follows t.taking i x y h p) → on_words x.memory a n o ≡ Ok h → Follows t.taking i x y h (on_words y.memory b n p)
words_follow t i x y h a b n o p s q f e =
    unless_follows t i x y h _ _ _ _ _ (lies_same t x.memory y.memory s b n ∙ ap (λ a. lies_in x.memory a n) (sym q))
    (unless_follows t i x y h _ _ _ _ _ (ap (λ a. a % 4 == 0) (sym q)) f)
    e

pub list_whole : (code : CodeBytes) (load pc : Bool) (a : ℕ) (rs : List ℕ) (m : Memory) → OrdinaryList code load pc a rs m → load ≡ true → AreWhole m a rs
list_whole code true false a rs m o e = o
list_whole code true true a rs m o e = o.0
list_whole code false pc a rs m o e = cc

pub pair_follows : (t : Lawful) (i : PairFields) (s u : Site) (x y : Core) (h : Change) → IsOrdinaryUse (Pair i) s x → IsMarked x → Akin t.taking (Pair i) x y → change (Pair i) s x ≡ Ok h → Follows t.taking (Pair i) x y h (change (Pair i) u y)
unfolding change reads_of
pair_follows t i s u x y h o z k e =
    let v : SameNumbers (i.n ∷ []) x y = numbers_same t (Pair i) s x y o k in
    let place : Place = pair_place i.index i.up i.imm in
    let a : access_address i.n place x ≡ access_address i.n place y = address_same i.n place x y v.0 (pair_numbers i.index i.up i.imm x y) in
    let b : base_write i.n place x ≡ base_write i.n place y = base_same i.n place x y v.0 in
    let p : Pairs t (transferred i.load (access_address i.n place x) (i.t ∷ i.u ∷ []) x) (transferred i.load (access_address i.n place x) (i.t ∷ i.u ∷ []) y) =
    transferred_pairs t i.load (access_address i.n place x) (i.t ∷ i.u ∷ []) x y k.memory z
    (list_whole s.code i.load false (access_address i.n place x) (i.t ∷ i.u ∷ []) x.memory o.proper)
    (λ f. (k.regs i.t (there (i.t == i.n) _ (both_true _ _ (ap not f) (here i.t _))), (k.regs i.u (there (i.u == i.n) _ (both_true _ _ (ap not f) (there (i.u == i.t) _ (same_number i.u)))), tt))) in
    let q : Pairs t (transferred i.load (access_address i.n place x) (i.t ∷ i.u ∷ []) x) (transferred i.load (access_address i.n place y) (i.t ∷ i.u ∷ []) y) = subst (λ a. Pairs t (transferred i.load (access_address i.n place x) (i.t ∷ i.u ∷ []) x) (transferred i.load a (i.t ∷ i.u ∷ []) y)) a p in
    words_follow t (Pair i) x y h _ _ 8 _ _ k.memory a
    (upright_follows t (Pair i) x y _ _ h (λ e f. tt) (base_pairs t _ _ _ _ (base_plain i.n place x) b q))
    e
