-- What is of class Through is done by way of the scratch registers that it needs.
use Rattle.std.proofs.Common.{ℕ, ◌≡◌, ◌<◌, ◌≤◌, ◌+◌, Bool, true, false, Option, Some, None, [], ◌∷◌, Ok, refl, sym, subst, arith, ◌==◌, ◌||◌}
use Rattle.std.specs.Prelude.{if◌then◌else◌, ◌≢◌, map}
use Rattle.std.proofs.lemmas.Bool.Decides.{nat_tests}
use Rattle.mark_word.specs.declared.numbers.Shift.TheVariants.{Lsl, Lsr, Asr, Ror, Rrx}
use Rattle.thumb_instr.specs.declared.operations.AluOp.{AluOp}
use Rattle.thumb_instr.specs.declared.operations.AluOp.TheVariants as alu
use Rattle.thumb_instr.specs.declared.operations.FieldOp.{FieldOp}
use Rattle.thumb_instr.specs.declared.operations.FieldOp.TheVariants.{Sbfx, Ubfx, Bfi, Bfc}
use Rattle.thumb_instr.specs.declared.operations.LongMulOp.{LongMulOp}
use Rattle.thumb_instr.specs.declared.operations.LongMulOp.TheVariants.{Smull, Umull, Smlal, Umlal}
use Rattle.thumb_instr.specs.declared.operations.MoveOp.TheVariants.{Mov}
use Rattle.thumb_instr.specs.declared.operands.Operand.{Operand}
use Rattle.thumb_instr.specs.declared.operands.Operand.TheVariants.{Imm, Reg}
use Rattle.thumb_instr.specs.declared.refusals.ItPlace.{ItPlace}
use Rattle.thumb_instr.specs.declared.instructions.Instr.{Instr}
use Rattle.thumb_instr.specs.declared.instructions.Instr.TheVariants as instr
use Rattle.thumb_instr.specs.Fields.{AluFields, FieldFields, LongMulFields, AccessFields}
use Rattle.thumb_instr.specs.Operands.{is_field}
use Rattle.thumb_instr.specs.Sets.{accumulates, is_source, is_store, keeps_bits, moves_base, reads_of, writes_of}
use Rattle.thumb_instr.specs.DataRows.{is_copy}
use Rattle.thumb_instr.specs.Idempotence.{KeepsSources, fills_in}
use Rattle.thumb_instr.specs.Rows.{decode}
use Rattle.thumb_instr.proofs.Decoded.{decode_formed}
use Rattle.seq_core.specs.declared.classes.Class.TheVariants.{ThroughFlags, LongSum, WriteBack}
use Rattle.mark_word.specs.Formulas.{one_if}
use Rattle.seq_core.specs.Needs.{read_destinations}
use Rattle.seq_core.specs.Accepted.{adds, misplaces_stack, operand_names_stack}
use Rattle.seq_core.specs.Sent.{sent, unless}
use Rattle.seq_core.specs.Sequences.{Carries, Settles}
use Rattle.seq_core.specs.Groups.{always, done, only, moving, IsFree}
use Rattle.seq_core.specs.Twice.{inserting}
use Rattle.seq_core.specs.Through.{product_of, register_sum}
use Rattle.seq_core.specs.Built.{placed, through_one, ThroughOneWorks, ThroughTwoWorks}
use Rattle.seq_core.proofs.ClassesDecided.{mixes, no_true}
use Rattle.seq_core.proofs.DecodesApart.{decodes_apart}
use Rattle.seq_core.proofs.Decoded.{through_decodes}
use Rattle.seq_core.proofs.Halves.{sp_sum_is_done}
use Rattle.seq_core.proofs.Fields.{insert_self_is_done}
use Rattle.seq_core.proofs.Products.{long_product_is_done, low_product_is_done, high_product_is_done}

-- how one is done by one register
abbrev OneWorks : Instr → ℕ → ℕ → Type 0
OneWorks i q end = Carries Settles end always (done i) (only q) (map done (through_one i q))

unread_apart : (a b : ℕ) → (b == a) ≡ false → a ≢ b
unread_apart a b e s = grind (arith, nat_tests)

alu_of : AluOp → Bool → ℕ → ℕ → Operand → Instr
alu_of op s d n x = instr.Alu (record { op = op; s = s; d = d; n = n; x = x })

add_is : (op : AluOp) → adds op ≡ true → op ≡ alu.Add
add_is alu.Add h = refl
add_is op h = cc

copy_is : (s : Bool) (x : Operand) → is_copy Mov s x ≡ true → operand_names_stack x ≡ true → (s ≡ false) × (x ≡ Reg 13 Lsl 0)
unfolding is_copy
copy_is true x c h = cc
copy_is false (Imm i) c h = cc
copy_is false (Reg m Lsl amount) c h = let stack : m ≡ 13 = grind (arith, nat_tests) in let plain : amount ≡ 0 = grind (arith, nat_tests) in (refl, (cc))
copy_is false (Reg m Lsr amount) c h = cc
copy_is false (Reg m Asr amount) c h = cc
copy_is false (Reg m Ror amount) c h = cc
copy_is false (Reg m Rrx amount) c h = cc

-- sp added to a register in place
stack_sum : (op : AluOp) (s : Bool) (d n : ℕ) (x : Operand) (q end : ℕ) → op ≡ alu.Add → s ≡ false → n ≡ d → x ≡ Reg 13 Lsl 0 → q < 13 → d < 15 → d ≢ q → OneWorks (alu_of op s d n x) q end
unfolding alu_of
stack_sum op s d n x q end ho hs hn hx low small apart =
    subst (λ (o : AluOp). OneWorks (alu_of o s d n x) q end) (sym ho)
    (subst (λ (t : Bool). OneWorks (alu_of alu.Add t d n x) q end) (sym hs)
    (subst (λ (j : ℕ). OneWorks (alu_of alu.Add false d j x) q end) (sym hn)
    (subst (λ (y : Operand). OneWorks (alu_of alu.Add false d d y) q end) (sym hx) (sp_sum_is_done d q end low small apart))))

stack_places : (op : AluOp) (s : Bool) (d n : ℕ) (x : Operand) → operand_names_stack x ≡ true → misplaces_stack (alu_of op s d n x) ≡ false → (adds op ≡ true) × (is_copy Mov s x ≡ true) × (n ≡ d)
unfolding alu_of
stack_places op s d n x h m = (grind (arith, nat_tests), grind (arith, nat_tests), grind (arith, nat_tests))

alu_works : (place : ItPlace) (first second : ℕ) (i : AluFields) (q end : ℕ) → decode place first second ≡ Ok (instr.Alu i) → IsFree (instr.Alu i) q → OneWorks (instr.Alu i) q end
unfolding alu_of writes_of
alu_works place first second i q end e free = go (operand_names_stack i.x) refl
  where
    go : (b : Bool) → operand_names_stack i.x ≡ b → Carries Settles end always (done (instr.Alu i)) (only q) (map done (if b then register_sum alu.Add false q 13 i.d ∷ moving false i.d q ∷ [] else sent (instr.Alu i) q ∷ moving false i.d q ∷ []))
    go false x = through_decodes place first second (instr.Alu i) i.d q end e refl refl free
    go true x =
        let p = stack_places i.op i.s i.d i.n i.x x (decodes_apart place first second (instr.Alu i) e).1 in
        let c = copy_is i.s i.x p.1 x in
        let low : i.d ≤ 14 = (decode_formed place first second (instr.Alu i) e).registers.0 in
        let small : i.d < 15 = omega arith in
        let apart : i.d ≢ q = unread_apart i.d q free.unwritten in
        let one : Carries Settles end always (done (instr.Alu i)) (only q) (map done (through_one (instr.Alu i) q)) = stack_sum i.op i.s i.d i.n i.x q end (add_is i.op p.0) c.0 p.2 c.1 free.low small apart in
        subst (λ (b : Bool). Carries Settles end always (done (instr.Alu i)) (only q) (map done (if b then register_sum alu.Add false q 13 i.d ∷ moving false i.d q ∷ [] else sent (instr.Alu i) q ∷ moving false i.d q ∷ []))) x one

-- a field of a register put into itself
field_of : FieldOp → ℕ → Option ℕ → ℕ → ℕ → Instr
field_of op d n lsb width = instr.Field (record { op = op; d = d; n = n; lsb = lsb; width = width })

own_field : (op : FieldOp) (d : ℕ) (n : Option ℕ) (lsb width : ℕ) → keeps_bits op ≡ true → is_field op n lsb width ≡ true → is_source n d ≡ true → (op ≡ Bfi) × (n ≡ Some d)
own_field op d None lsb width k f s = cc
own_field Bfi d (Some n) lsb width k f s = let same : d ≡ n = grind (arith, nat_tests) in (refl, (cc))
own_field Bfc d (Some n) lsb width k f s = cc
own_field Sbfx d (Some n) lsb width k f s = cc
own_field Ubfx d (Some n) lsb width k f s = cc

self_insert : (op : FieldOp) (d : ℕ) (n : Option ℕ) (lsb width q end : ℕ) → op ≡ Bfi → n ≡ Some d → d < 15 → d ≢ 13 → q < 13 → d ≢ q → OneWorks (field_of op d n lsb width) q end
unfolding field_of
self_insert op d n lsb width q end ho hn small stack low apart =
    subst (λ (o : FieldOp). OneWorks (field_of o d n lsb width) q end) (sym ho)
    (subst (λ (m : Option ℕ). OneWorks (field_of Bfi d m lsb width) q end) (sym hn) (insert_self_is_done d q lsb width end small stack low apart))

field_works : (place : ItPlace) (first second : ℕ) (i : FieldFields) (q end : ℕ) → decode place first second ≡ Ok (instr.Field i) → fills_in (instr.Field i) ≡ false → IsFree (instr.Field i) q → OneWorks (instr.Field i) q end
unfolding field_of writes_of
field_works place first second i q end e unfilled free = go (keeps_bits i.op) refl
  where
    go : (b : Bool) → keeps_bits i.op ≡ b → Carries Settles end always (done (instr.Field i)) (only q) (map done (if b then moving false q i.d ∷ inserting i.d q i.lsb i.width ∷ [] else sent (instr.Field i) q ∷ moving false i.d q ∷ []))
    go false k = through_decodes place first second (instr.Field i) i.d q end e (rw k refl) (rw k refl) free
    go true k =
        let f = decode_formed place first second (instr.Field i) e in
        let m : misplaces_stack (instr.Field i) ≡ false = (decodes_apart place first second (instr.Field i) e).1 in
        let source : is_source i.n i.d ≡ true = grind (arith) in
        let own = own_field i.op i.d i.n i.lsb i.width k f.fields source in
        let low : i.d ≤ 14 = f.registers.0 in
        let small : i.d < 15 = omega arith in
        let stack : i.d ≢ 13 = λ s. grind (arith, nat_tests) in
        let apart : i.d ≢ q = unread_apart i.d q free.unwritten in
        let one : Carries Settles end always (done (instr.Field i)) (only q) (map done (through_one (instr.Field i) q)) = self_insert i.op i.d i.n i.lsb i.width q end own.0 own.1 small stack free.low apart in
        subst (λ (b : Bool). Carries Settles end always (done (instr.Field i)) (only q) (map done (if b then moving false q i.d ∷ inserting i.d q i.lsb i.width ∷ [] else sent (instr.Field i) q ∷ moving false i.d q ∷ []))) k one

-- long products
long_of : LongMulOp → ℕ → ℕ → ℕ → ℕ → Instr
long_of op lo hi n m = instr.LongMul (record { op = op; lo = lo; hi = hi; n = n; m = m })

product_is : (op : LongMulOp) → accumulates op ≡ false → (s : Bool) × (op ≡ product_of s)
product_is Smull a = (true, refl)
product_is Umull a = (false, refl)
product_is Smlal a = cc
product_is Umlal a = cc

access_works : (place : ItPlace) (first second : ℕ) (i : AccessFields) (q end : ℕ) → decode place first second ≡ Ok (instr.Access i) → moves_base i.place ≡ false → ¬ KeepsSources (instr.Access i) → IsFree (instr.Access i) q → OneWorks (instr.Access i) q end
unfolding reads_of writes_of
access_works place first second i q end e stays mixed free = go (is_store i.op) refl
  where
    go : (b : Bool) → is_store i.op ≡ b → Carries Settles end always (done (instr.Access i)) (only q) (map done (sent (instr.Access i) q ∷ placed (unless b i.t) q))
    go false k = through_decodes place first second (instr.Access i) i.t q end e (rw k (rw stays refl)) (rw k refl) free
    go true k = absurd (mixed (λ j. no_true (mixes (instr.Access i) j) (λ m. grind (arith))))

-- what the rows give of a long product, and of a scratch register
pub record Product (i : LongMulFields) : Type 0 where
  pub two : i.lo ≢ i.hi
  pub low_stack : i.lo ≢ 13
  pub high_stack : i.hi ≢ 13
  pub kind : (s : Bool) × (i.op ≡ product_of s)

product : (place : ItPlace) (first second : ℕ) (i : LongMulFields) → decode place first second ≡ Ok (instr.LongMul i) → accumulates i.op ≡ false → Product i
product place first second i e a =
    let f = (decode_formed place first second (instr.LongMul i) e).fields in
    let m : misplaces_stack (instr.LongMul i) ≡ false = (decodes_apart place first second (instr.LongMul i) e).1 in
    record {
      two = λ s. grind (arith, nat_tests);
      low_stack = λ s. grind (arith, nat_tests);
      high_stack = λ s. grind (arith, nat_tests);
      kind = product_is i.op a;
    }

pub record Beside (i : LongMulFields) (q : ℕ) : Type 0 where
  pub low : q < 13
  pub lo : i.lo ≢ q
  pub hi : i.hi ≢ q
  pub n : i.n ≢ q
  pub m : i.m ≢ q

beside : (i : LongMulFields) (q : ℕ) → IsFree (instr.LongMul i) q → Beside i q
unfolding reads_of writes_of
beside i q free =
    let r : reads_of (instr.LongMul i) q ≡ false = free.unread in
    let w : writes_of (instr.LongMul i) q ≡ false = free.unwritten in
    record {
      low = free.low;
      lo = λ s. grind (arith, nat_tests);
      hi = λ s. grind (arith, nat_tests);
      n = λ s. grind (arith, nat_tests);
      m = λ s. grind (arith, nat_tests);
    }

-- a register that a product does not read
unread_factors : (i : LongMulFields) (k : ℕ) → reads_of (instr.LongMul i) k ≡ false → (i.n ≢ k) × (i.m ≢ k)
unfolding reads_of
unread_factors i k r = (λ s. grind (arith, nat_tests), λ s. grind (arith, nat_tests))

one_unread : (a b : Bool) → one_if a + one_if b ≡ 1 → a ≡ true → b ≡ false
one_unread true true n e = absurd (omega (arith, n))
one_unread true false n e = refl
one_unread false b n e = cc

LowWorks : LongMulFields → ℕ → ℕ → LongMulOp → Type 0
LowWorks i q end op = Carries Settles end always (done (instr.LongMul (record i { op = op }))) (only q) (map done (instr.LongMul (record i { op = op; lo = q }) ∷ moving false i.lo q ∷ []))

HighWorks : LongMulFields → ℕ → ℕ → LongMulOp → Type 0
HighWorks i q end op = Carries Settles end always (done (instr.LongMul (record i { op = op }))) (only q) (map done (instr.LongMul (record i { op = op; hi = q }) ∷ moving false i.hi q ∷ []))

low_works : (i : LongMulFields) (q end : ℕ) → Product i → Beside i q → (i.n ≢ i.hi) × (i.m ≢ i.hi) → LowWorks i q end i.op
unfolding LowWorks
low_works i q end p b f = subst (LowWorks i q end) (sym p.kind.1) (low_product_is_done p.kind.0 q i.lo i.hi i.n i.m end b.low b.lo b.hi b.n b.m f.0 f.1 p.two p.low_stack p.high_stack)

high_works : (i : LongMulFields) (q end : ℕ) → Product i → Beside i q → (i.n ≢ i.lo) × (i.m ≢ i.lo) → HighWorks i q end i.op
unfolding HighWorks
high_works i q end p b f = subst (HighWorks i q end) (sym p.kind.1) (high_product_is_done p.kind.0 q i.lo i.hi i.n i.m end b.low b.lo b.hi b.n b.m f.0 f.1 p.low_stack p.high_stack)

long_works : (i : LongMulFields) (q end : ℕ) → Product i → Beside i q → read_destinations (instr.LongMul i) ≡ 1 → OneWorks (instr.LongMul i) q end
unfolding LowWorks HighWorks
long_works i q end p b n = go (reads_of (instr.LongMul i) i.lo) refl
  where
    go : (x : Bool) → reads_of (instr.LongMul i) i.lo ≡ x → Carries Settles end always (done (instr.LongMul i)) (only q) (map done (if x then instr.LongMul (record i { lo = q }) ∷ moving false i.lo q ∷ [] else instr.LongMul (record i { hi = q }) ∷ moving false i.hi q ∷ []))
    go true x = low_works i q end p b (unread_factors i i.hi (one_unread (reads_of (instr.LongMul i) i.lo) (reads_of (instr.LongMul i) i.hi) n x))
    go false x = high_works i q end p b (unread_factors i i.lo x)

TwoWork : LongMulFields → ℕ → ℕ → ℕ → LongMulOp → Type 0
TwoWork i a b end op = Carries Settles end always (done (instr.LongMul (record i { op = op }))) (λ k. (k == a) || (k == b)) (map done (instr.LongMul (record i { op = op; lo = a; hi = b }) ∷ moving false i.lo a ∷ moving false i.hi b ∷ []))

two_work : (i : LongMulFields) (a b end : ℕ) → Product i → Beside i a → Beside i b → a ≢ b → TwoWork i a b end i.op
unfolding TwoWork
two_work i a b end p x y ab = subst (TwoWork i a b end) (sym p.kind.1) (long_product_is_done p.kind.0 a b i.lo i.hi i.n i.m end x.low y.low ab x.lo y.lo x.hi y.hi x.n y.n x.m y.m p.low_stack p.high_stack)

no_two : (b : Bool) → one_if b ≡ 2 → ⊥
no_two true e = omega (arith, e)
no_two false e = omega (arith, e)

pub through_one_works : ThroughOneWorks
through_one_works place first second (instr.Alu i) q end e h n free = alu_works place first second i q end e free
through_one_works place first second (instr.Move i) q end e h n free = through_decodes place first second (instr.Move i) i.d q end e refl refl free
through_one_works place first second (instr.ShiftBy i) q end e h n free = through_decodes place first second (instr.ShiftBy i) i.d q end e refl refl free
through_one_works place first second (instr.Wide i) q end e h n free = through_decodes place first second (instr.Wide i) i.d q end e refl refl free
through_one_works place first second (instr.Field i) q end e h n free = field_works place first second i q end e h.1 free
through_one_works place first second (instr.Unary i) q end e h n free = through_decodes place first second (instr.Unary i) i.d q end e refl refl free
through_one_works place first second (instr.Mul i) q end e h n free = let plain : i.s ≡ false = h.2 ThroughFlags in through_decodes place first second (instr.Mul i) i.d q end e (rw plain refl) refl free
through_one_works place first second (instr.MulAcc i) q end e h n free = through_decodes place first second (instr.MulAcc i) i.d q end e refl refl free
through_one_works place first second (instr.LongMul i) q end e h n free = long_works i q end (product place first second i e (h.2 LongSum)) (beside i q free) n
through_one_works place first second (instr.Div i) q end e h n free = through_decodes place first second (instr.Div i) i.d q end e refl refl free
through_one_works place first second (instr.Access i) q end e h n free = access_works place first second i q end e (h.2 WriteBack) h.0 free
through_one_works place first second i q end e h n free = absurd (omega (arith, n))

pub through_two_works : ThroughTwoWorks
unfolding TwoWork
through_two_works place first second (instr.LongMul i) a b end e h n fa fb ab = two_work i a b end (product place first second i e (h.2 LongSum)) (beside i a fa) (beside i b fb) ab
through_two_works place first second (instr.Alu i) a b end e h n fa fb ab = absurd (no_two _ n)
through_two_works place first second (instr.Move i) a b end e h n fa fb ab = absurd (no_two _ n)
through_two_works place first second (instr.ShiftBy i) a b end e h n fa fb ab = absurd (no_two _ n)
through_two_works place first second (instr.Wide i) a b end e h n fa fb ab = absurd (no_two _ n)
through_two_works place first second (instr.Field i) a b end e h n fa fb ab = absurd (no_two _ n)
through_two_works place first second (instr.Unary i) a b end e h n fa fb ab = absurd (no_two _ n)
through_two_works place first second (instr.Mul i) a b end e h n fa fb ab = absurd (no_two _ n)
through_two_works place first second (instr.MulAcc i) a b end e h n fa fb ab = absurd (no_two _ n)
through_two_works place first second (instr.Div i) a b end e h n fa fb ab = absurd (no_two _ n)
through_two_works place first second (instr.Access i) a b end e h n fa fb ab = absurd (no_two _ n)
through_two_works place first second i a b end e h n fa fb ab = absurd (omega (arith, n))
