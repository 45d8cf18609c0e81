-- An instruction's change depends only on what it reads.
use Rattle.std.proofs.Common.{◌≡◌, ℕ, ◌+◌, ◌*◌, Bool, true, false, List, [], ◌∷◌, ◌++◌, length, Ok, Err, refl, ap, ◌∙◌}
use Rattle.std.specs.Prelude.{◌==◌, ◌&&◌, not, if◌then◌else◌}
use Rattle.mark_word.specs.Words.{plain}
use Rattle.mark_word.specs.Marks.{pieces}
use Rattle.thumb_instr.specs.declared.operations.MoveOp.{MoveOp}
use Rattle.thumb_instr.specs.declared.operations.MoveOp.TheVariants.{Mov, Mvn}
use Rattle.thumb_instr.specs.declared.operations.AccessOp.{AccessOp}
use Rattle.thumb_instr.specs.declared.operations.AccessOp.TheVariants.{Ldr, Ldrb, Ldrh, Ldrsb, Ldrsh, Str, Strb, Strh}
use Rattle.thumb_instr.specs.declared.operands.Operand.{Operand}
use Rattle.thumb_instr.specs.declared.operands.Operand.TheVariants.{Imm, Reg}
use Rattle.thumb_instr.specs.declared.places.Place.{Place}
use Rattle.thumb_instr.specs.declared.places.Place.TheVariants.{Offset, Pre, Post, Index}
use Rattle.thumb_instr.specs.declared.places.PairIndex.{PairIndex}
use Rattle.thumb_instr.specs.declared.places.PairIndex.TheVariants as pair
use Rattle.thumb_instr.specs.declared.conditions.Cond.{Cond}
use Rattle.thumb_instr.specs.declared.conditions.Cond.TheVariants.{Eq, Ne, Cs, Cc, Mi, Pl, Vs, Vc, Hi, Ls, Ge, Lt, Gt, Le, Al}
use Rattle.thumb_instr.specs.declared.instructions.Instr.{Instr}
use Rattle.thumb_instr.specs.declared.instructions.Instr.TheVariants.{Alu, Move, Test, ShiftBy, Wide, Half, Field, Unary, Mul, MulAcc, LongMul, Div, Access, Pair, Multi, Literal, Adr, Branch, ZeroBranch, Call, Jump, CallReg, It, Nothing, Trap}
use Rattle.thumb_instr.specs.Fields.{AccessFields, PairFields, MultiFields}
use Rattle.thumb_instr.specs.Sets.{reads_of, operand_reads_of, is_store, place_reads_of, cond_reads_of}
use Rattle.thumb_table.specs.declared.faults.FaultKind.TheVariants as fault
use Rattle.thumb_table.specs.States.{Core, Site, read, upright, unchanged}
use Rattle.thumb_table.specs.Values.{inverted, away, wrapped}
use Rattle.thumb_table.specs.Conditions.{holds, agree}
use Rattle.thumb_table.specs.Effects.{change, value, operand, is_whole, moved_word, with_carry, writing, half_word, completed, mark_at, lies_in, access_address, base_write, size_of, accessed, word_at, from, loaded, stored, transferred, after_base, on_words, pair_place, transfer_size, lowest, base_moved, registers, and_next, jump_if, jump_to, branch_if, link}
use Rattle.seq_core.specs.Reading.{SameReads}
use Rattle.seq_core.proofs.Tests.{here, there, left, both_true, same_number, ap₂, ap₃, ap₄}
use Rattle.thumb_table.specs.Ordinary.{in_operand, in_field, in_sum, in_place}
use Rattle.seq_core.proofs.Values.{SameNumbers, operand_same}
use Rattle.seq_core.proofs.Used.{Read, operand_read, place_read, used_read}
use Rattle.seq_core.proofs.Lists.{Each, each_has, each_map}
use Rattle.seq_core.proofs.Numbers.{alu_sees, test_sees, shift_by_sees, wide_sees, field_sees, unary_sees, mul_sees, mul_acc_sees, long_mul_sees, div_sees}

pub holds_same : (cond : Cond) (x y : Core) → (cond_reads_of cond 16 ≡ true → x.n ≡ y.n) → (cond_reads_of cond 17 ≡ true → x.z ≡ y.z) → (cond_reads_of cond 18 ≡ true → x.c ≡ y.c) → (cond_reads_of cond 19 ≡ true → x.v ≡ y.v) → holds cond x ≡ holds cond y
holds_same Eq x y n z c v = z refl
holds_same Ne x y n z c v = ap not (z refl)
holds_same Cs x y n z c v = c refl
holds_same Cc x y n z c v = ap not (c refl)
holds_same Mi x y n z c v = n refl
holds_same Pl x y n z c v = ap not (n refl)
holds_same Vs x y n z c v = v refl
holds_same Vc x y n z c v = ap not (v refl)
holds_same Hi x y n z c v = ap₂ (λ c z. c && not z) (c refl) (z refl)
holds_same Ls x y n z c v = ap₂ (λ c z. not (c && not z)) (c refl) (z refl)
holds_same Ge x y n z c v = ap₂ (λ n v. agree n v) (n refl) (v refl)
holds_same Lt x y n z c v = ap₂ (λ n v. not (agree n v)) (n refl) (v refl)
holds_same Gt x y n z c v = ap₃ (λ z n v. not z && agree n v) (z refl) (n refl) (v refl)
holds_same Le x y n z c v = ap₃ (λ z n v. not (not z && agree n v)) (z refl) (n refl) (v refl)
holds_same Al x y n z c v = refl

-- the word that is moved
moved_same : (op : MoveOp) (o : Operand) (x y : Core) → ((r : ℕ) → operand_reads_of o r ≡ true → read x r ≡ read y r) → operand o x ≡ operand o y → moved_word op o x ≡ moved_word op o y
moved_same Mov (Imm i) x y h e = ap (λ g. plain g.value) e
moved_same Mov (Reg m kind amount) x y h e = ap₂ (λ w g. if is_whole kind amount then w else plain g.value) (h m (here m _)) e
moved_same Mvn o x y h e = ap (λ g. plain (inverted g.value)) e

-- addresses and bases
pub address_same : (n : ℕ) (l : Place) (x y : Core) → value x n ≡ value y n → SameNumbers (in_place l) x y → access_address n l x ≡ access_address n l y
address_same n (Offset up imm) x y e h = cc
address_same n (Pre up imm) x y e h = cc
address_same n (Post up imm) x y e h = ap wrapped e
address_same n (Index m shift) x y e h = let k = h.0 in cc

pub pair_numbers : (index : PairIndex) (up : Bool) (imm : ℕ) (x y : Core) → SameNumbers (in_place (pair_place index up imm)) x y
pair_numbers pair.Offset up imm x y = tt
pair_numbers pair.Pre up imm x y = tt
pair_numbers pair.Post up imm x y = tt

pub base_same : (n : ℕ) (l : Place) (x y : Core) → value x n ≡ value y n → base_write n l x ≡ base_write n l y
base_same n (Offset up imm) x y e = refl
base_same n (Pre up imm) x y e = cc
base_same n (Post up imm) x y e = cc
base_same n (Index m shift) x y e = refl

pub accessed_same : (op : AccessOp) (t a : ℕ) (x y : Core) → x.memory ≡ y.memory → (is_store op ≡ true → read x t ≡ read y t) → accessed op t a x ≡ accessed op t a y
accessed_same Ldr t a x y m h = ap (λ m. writing ((t, (word_at m a).word) ∷ [])) m
accessed_same Ldrb t a x y m h = cc
accessed_same Ldrh t a x y m h = cc
accessed_same Ldrsb t a x y m h = cc
accessed_same Ldrsh t a x y m h = cc
accessed_same Str t a x y m h = ap (λ w. record unchanged { cells = from a (pieces w) }) (h refl)
accessed_same Strb t a x y m h = let e = h refl in cc
accessed_same Strh t a x y m h = let e = h refl in cc

pub stored_same : (x y : Core) (a : ℕ) (rs : List ℕ) → Each (λ r. read x r ≡ read y r) rs → stored x a rs ≡ stored y a rs
stored_same x y a [] h = refl
stored_same x y a (r ∷ rs) h = ap₂ (λ w l. from a (pieces w) ++ l) h.0 (stored_same x y (a + 4) rs h.1)

pub transferred_same : (load : Bool) (a : ℕ) (rs : List ℕ) (x y : Core) → x.memory ≡ y.memory → (load ≡ false → Each (λ r. read x r ≡ read y r) rs) → transferred load a rs x ≡ transferred load a rs y
transferred_same true a rs x y m h = ap (λ m. writing (loaded m a rs)) m
transferred_same false a rs x y m h = ap (λ l. record unchanged { cells = l }) (stored_same x y a rs (h refl))

-- the numbers of equal words
bits_same : (i : Instr) (x y : Core) → SameReads i x y → (r : ℕ) → reads_of i r ≡ true → value x r ≡ value y r
bits_same i x y h r e = ap (λ w. w.bits) (h.regs r e)

seen : (i : Instr) (x y : Core) → SameReads i x y → (l : List ℕ) → Read (reads_of i) l → SameNumbers l x y
seen i x y h l k = each_map _ _ l (λ r e. bits_same i x y h r e) k

carry_same : (i : Instr) (x y : Core) → SameReads i x y → reads_of i 18 ≡ true → x.c ≡ y.c
carry_same i x y h e = h.flags.c (left _ _ e)

access_depends : (i : AccessFields) (s : Site) (x y : Core) → SameReads (Access i) x y → change (Access i) s x ≡ change (Access i) s y
unfolding change reads_of
access_depends i s x y h =
    let n : value x i.n ≡ value y i.n = bits_same (Access i) x y h i.n (here i.n _) in
    let a : access_address i.n i.place x ≡ access_address i.n i.place y = address_same i.n i.place x y n (each_map _ _ (in_place i.place) (λ r e. bits_same (Access i) x y h r (there (r == i.n) _ (left _ _ e))) (place_read i.place)) in
    ap₄ (λ m a b q. if lies_in m a (size_of i.op) then upright (after_base b q) else Err fault.BadAddress) h.memory a (base_same i.n i.place x y n)
    (ap (λ a. accessed i.op i.t a x) a ∙ accessed_same i.op i.t (access_address i.n i.place y) x y h.memory (λ e. h.regs i.t (there (i.t == i.n) _ (there (place_reads_of i.place i.t) _ (both_true _ _ e (same_number i.t))))))

pair_depends : (i : PairFields) (s : Site) (x y : Core) → SameReads (Pair i) x y → change (Pair i) s x ≡ change (Pair i) s y
unfolding change reads_of
pair_depends i s x y h =
    let n : value x i.n ≡ value y i.n = bits_same (Pair i) x y h i.n (here i.n _) in
    let p : Place = pair_place i.index i.up i.imm in
    let a : access_address i.n p x ≡ access_address i.n p y = address_same i.n p x y n (pair_numbers i.index i.up i.imm x y) in
    ap₄ (λ m a b q. on_words m a 8 (upright (after_base b q))) h.memory a (base_same i.n p x y n)
    (ap (λ a. transferred i.load a (i.t ∷ i.u ∷ []) x) a
    ∙ transferred_same i.load (access_address i.n p y) (i.t ∷ i.u ∷ []) x y h.memory (λ e. (
      h.regs i.t (there (i.t == i.n) _ (both_true _ _ (ap not e) (here i.t _))),
      (h.regs i.u (there (i.u == i.n) _ (both_true _ _ (ap not e) (there (i.u == i.t) _ (same_number i.u)))), tt),
    )))

multi_depends : (i : MultiFields) (s : Site) (x y : Core) → SameReads (Multi i) x y → change (Multi i) s x ≡ change (Multi i) s y
unfolding change reads_of
multi_depends i s x y h =
    let n : value x i.n ≡ value y i.n = bits_same (Multi i) x y h i.n (here i.n _) in
    let bytes : ℕ = transfer_size i.list.0 i.pc in
    ap₃ (λ m n q. on_words m (lowest i.down n bytes) bytes (and_next (upright (after_base (base_moved i.back i.down i.n n bytes) q)) (λ g. jump_if i.pc (word_at m (lowest i.down n bytes + 4 * length (registers i.list.0))).word.bits g)))
    h.memory n
    (ap (λ n. transferred i.load (lowest i.down n bytes) (registers i.list.0) x) n
    ∙ transferred_same i.load (lowest i.down (value y i.n) bytes) (registers i.list.0) x y h.memory (λ e. each_map _ _ (registers i.list.0) (λ r k. h.regs r (there (r == i.n) _ (both_true _ _ (ap not e) k))) (each_has i.list.0)))

-- FIRST LEMMA: an instruction's change depends only on what it reads
pub depends : (i : Instr) (s : Site) (x y : Core) → SameReads i x y → change i s x ≡ change i s y
unfolding change reads_of
depends (Alu i) s x y h = alu_sees i s s x y (seen (Alu i) x y h (i.n ∷ in_operand i.x) (used_read (Alu i))) (carry_same (Alu i) x y h)
depends (Move i) s x y h =
    let o : operand i.x x ≡ operand i.x y = operand_same i.x x y (seen (Move i) x y h (in_operand i.x) (operand_read i.x)) (carry_same (Move i) x y h) in
    ap₂ (λ w o. upright (with_carry i.s w.bits o.carry (writing ((i.d, w) ∷ [])))) (moved_same i.op i.x x y h.regs o) o
depends (Test i) s x y h = test_sees i s s x y (seen (Test i) x y h (i.n ∷ in_operand i.x) (here i.n _, each_map _ _ (in_operand i.x) (λ r e. there (r == i.n) _ e) (operand_read i.x))) (carry_same (Test i) x y h)
depends (ShiftBy i) s x y h = shift_by_sees i s s x y (seen (ShiftBy i) x y h (i.n ∷ i.m ∷ []) (used_read (ShiftBy i))) (carry_same (ShiftBy i) x y h)
depends (Wide i) s x y h = wide_sees i s s x y (seen (Wide i) x y h (i.n ∷ []) (used_read (Wide i))) (carry_same (Wide i) x y h)
depends (Half i) s x y h = half_same i.top i.d i.imm s x y (λ e. h.regs i.d (both_true _ _ e (same_number i.d)))
  where
    half_same : (top : Bool) (d imm : ℕ) (s : Site) (x y : Core) → (top ≡ true → read x d ≡ read y d) → upright (writing ((d, half_word top d imm s x) ∷ [])) ≡ upright (writing ((d, half_word top d imm s y) ∷ []))
    half_same false d imm s x y e = refl
    half_same true d imm s x y e = ap (λ w. upright (writing ((d, completed imm w (mark_at s.code.marks s.address)) ∷ []))) (e refl)
depends (Field i) s x y h = field_sees i s s x y (seen (Field i) x y h (in_field i.op i.d i.n) (used_read (Field i))) (carry_same (Field i) x y h)
depends (Unary i) s x y h = unary_sees i s s x y (seen (Unary i) x y h (i.m ∷ []) (used_read (Unary i))) (carry_same (Unary i) x y h)
depends (Mul i) s x y h = mul_sees i s s x y (seen (Mul i) x y h (i.n ∷ i.m ∷ []) (used_read (Mul i))) (carry_same (Mul i) x y h)
depends (MulAcc i) s x y h = mul_acc_sees i s s x y (seen (MulAcc i) x y h (i.n ∷ i.m ∷ i.a ∷ []) (used_read (MulAcc i))) (carry_same (MulAcc i) x y h)
depends (LongMul i) s x y h = long_mul_sees i s s x y (seen (LongMul i) x y h (i.n ∷ i.m ∷ in_sum i.op i.lo i.hi) (used_read (LongMul i))) (carry_same (LongMul i) x y h)
depends (Div i) s x y h = div_sees i s s x y (seen (Div i) x y h (i.n ∷ i.m ∷ []) (used_read (Div i))) (carry_same (Div i) x y h)
depends (Access i) s x y h = access_depends i s x y h
depends (Pair i) s x y h = pair_depends i s x y h
depends (Multi i) s x y h = multi_depends i s x y h
depends (Literal i) s x y h = refl
depends (Adr i) s x y h = refl
depends (Branch i) s x y h = ap (λ b. Ok (branch_if b (away (s.address + 4) i.offset))) (holds_same i.cond x y h.flags.n h.flags.z h.flags.c h.flags.v)
depends (ZeroBranch i) s x y h = ap (λ v. Ok (branch_if (if i.nonzero then not (v == 0) else v == 0) (away (s.address + 4) i.offset))) (bits_same (ZeroBranch i) x y h i.n (same_number i.n))
depends (Call i) s x y h = refl
depends (Jump i) s x y h = ap (λ v. jump_to v unchanged) (bits_same (Jump i) x y h i.m (same_number i.m))
depends (CallReg i) s x y h = ap (λ v. jump_to v (link s)) (bits_same (CallReg i) x y h i.m (same_number i.m))
depends (It i) s x y h = refl
depends (Nothing i) s x y h = refl
depends (Trap i) s x y h = refl
