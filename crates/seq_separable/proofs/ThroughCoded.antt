-- The steps of what goes through scratch registers have codes.
use Rattle.std.proofs.Common.{◌≡◌, ℕ, ◌+◌, ◌<◌, ◌≤◌, ◌==◌, ◌||◌, Bool, true, false, [], ◌∷◌, Option, Some, None, refl, ◌∙◌, arith}
use Rattle.std.specs.Prelude.{◌&&◌, not, nat_le, if◌then◌else◌}
use Rattle.mark_word.specs.declared.numbers.Shift.TheVariants.{Lsl, Lsr, Asr, Ror, Rrx}
use Rattle.thumb_instr.specs.declared.operations.AluOp.{AluOp}
use Rattle.thumb_instr.specs.declared.operations.AluOp.TheVariants as alu
use Rattle.thumb_instr.specs.declared.operations.MoveOp.{MoveOp}
use Rattle.thumb_instr.specs.declared.operations.MoveOp.TheVariants.{Mov}
use Rattle.thumb_instr.specs.declared.operations.FieldOp.{FieldOp}
use Rattle.thumb_instr.specs.declared.operations.LongMulOp.{LongMulOp}
use Rattle.thumb_instr.specs.declared.operands.Operand.{Operand}
use Rattle.thumb_instr.specs.declared.operands.Operand.TheVariants.{Imm, Reg}
use Rattle.thumb_instr.specs.declared.places.Place.{Place}
use Rattle.thumb_instr.specs.declared.places.Place.TheVariants.{Offset, Pre, Post, Index}
use Rattle.thumb_instr.specs.declared.refusals.ItPlace.TheVariants.{Outside}
use Rattle.thumb_instr.specs.declared.instructions.Instr.{Instr}
use Rattle.thumb_instr.specs.declared.instructions.Instr.TheVariants.{Alu, Move, ShiftBy, Wide, Field, Unary, Mul, MulAcc, LongMul, Div, Access}
use Rattle.thumb_instr.specs.Fields.{AluFields, FieldFields, LongMulFields, AccessFields}
use Rattle.thumb_instr.specs.Formed.{IsFormed, IsSource}
use Rattle.thumb_instr.specs.Operands.{is_field}
use Rattle.thumb_instr.specs.MaySet.{may_set_of}
use Rattle.thumb_instr.specs.Sets.{gives_carry, is_source, is_store, is_sum, keeps_bits, moves_base, operand_reads_of, reads_of, sets_flags_of, sums_with_carry, writes_of}
use Rattle.thumb_instr.specs.DataRows.{has_odd_sp, is_copy, is_rrx, names}
use Rattle.thumb_encode.specs.HasFull.{has_full, place_has_full}
use Rattle.seq_core.specs.declared.classes.Class.TheVariants as class
use Rattle.seq_core.specs.Classes.{IsOf}
use Rattle.seq_core.specs.Needs.{read_destinations}
use Rattle.seq_core.specs.Accepted.{DecodesKeepFlags, DecodesReach, ThroughKeepsStack, misplaces_stack, operand_names_stack, place_names_stack, place_reaches}
use Rattle.seq_core.specs.Coded.{MovesCoded}
use Rattle.seq_core.specs.Sent.{sent, unless}
use Rattle.seq_core.specs.Groups.{IsFree, moving}
use Rattle.seq_core.specs.Through.{long_product_to, register_sum}
use Rattle.seq_core.specs.Twice.{inserting}
use Rattle.seq_core.specs.Built.{as_steps, placed, through_one, through_two}
use Rattle.seq_core.specs.Builders.{AreCoded, HasRow}
use Rattle.seq_separable.proofs.Lost.{either, turned}
use Rattle.seq_separable.proofs.Known.{Laws, no_both, no_stack, small}

pub record CodeLaws : Type 0 where
  pub flags : DecodesKeepFlags
  pub stack : ThroughKeepsStack
  pub reach : DecodesReach
  pub moves : MovesCoded

move_row : CodeLaws → (d q : ℕ) → d ≤ 14 → q < 13 → HasRow (moving false d q)
move_row b d q ld lq = b.moves d q ld (small q lq) (no_both (d == 13) (q == 13) (no_stack q lq))

-- FLAGS ARE NOT BOTH READ AND SET

or_true : (b : Bool) → (b || true) ≡ true
or_true true = refl
or_true false = refl

no_true : (b : Bool) → (b ≡ true → ⊥) → b ≡ false
no_true true h = absurd (h refl)
no_true false h = refl

chosen_true : (b y : Bool) → y ≡ true → (if b then true else y) ≡ true
chosen_true true y h = refl
chosen_true false y h = h

summed_carry : (op : AluOp) → sums_with_carry op ≡ true → is_sum op ≡ true
summed_carry alu.And e = absurd cc
summed_carry alu.Bic e = absurd cc
summed_carry alu.Orr e = absurd cc
summed_carry alu.Orn e = absurd cc
summed_carry alu.Eor e = absurd cc
summed_carry alu.Add e = absurd cc
summed_carry alu.Adc e = refl
summed_carry alu.Sbc e = refl
summed_carry alu.Sub e = absurd cc
summed_carry alu.Rsb e = absurd cc

turned_carry : (x : Operand) → is_rrx x ≡ true → (gives_carry x ≡ true) × (operand_reads_of x 18 ≡ true)
unfolding is_rrx
turned_carry (Imm i) e = absurd cc
turned_carry (Reg m Lsl amount) e = absurd cc
turned_carry (Reg m Lsr amount) e = absurd cc
turned_carry (Reg m Asr amount) e = absurd cc
turned_carry (Reg m Ror amount) e = absurd cc
turned_carry (Reg m Rrx amount) e = (refl, or_true (18 == m))

unread : (a r c f : Bool) → ((a || (r || (c && true))) && (true && f)) ≡ false → f ≡ true → (c ≡ false) × (r ≡ false)
unread true r c f e h = absurd cc
unread false true c f e h = absurd cc
unread false false true f e h = absurd cc
unread false false false f e h = (refl, refl)

alu_flags : (op : AluOp) (s : Bool) (d n : ℕ) (x : Operand) → (reads_of (Alu (record { op = op; s = s; d = d; n = n; x = x })) 18 && may_set_of (Alu (record { op = op; s = s; d = d; n = n; x = x })) 18) ≡ false →
    (s && (sums_with_carry op || is_rrx x)) ≡ false
unfolding reads_of sets_flags_of
alu_flags op false d n x keep = refl
alu_flags op true d n x keep =
    let set : Bool = if is_sum op then true else (gives_carry x && true) in
    let c : sums_with_carry op ≡ false = no_true (sums_with_carry op) (λ e.
    let f : set ≡ true = rw (summed_carry op e) refl in
    let z : sums_with_carry op ≡ false = (unread (18 == n) (operand_reads_of x 18) (sums_with_carry op) set keep f).0 in
    cc) in
    let r : is_rrx x ≡ false = no_true (is_rrx x) (λ e.
    let t = turned_carry x e in
    let g : gives_carry x ≡ true = t.0 in
    let given : (gives_carry x && true) ≡ true = rw g refl in
    let o : operand_reads_of x 18 ≡ true = t.1 in
    let z : operand_reads_of x 18 ≡ false = (unread (18 == n) (operand_reads_of x 18) (sums_with_carry op) set keep (chosen_true (is_sum op) (gives_carry x && true) given)).1 in
    cc) in
    rw (c, r) refl

unmoved : (r g : Bool) → (r && (true && (g && true))) ≡ false → r ≡ true → g ≡ true → ⊥
unmoved true true e h k = absurd cc
unmoved true false e h k = absurd cc
unmoved false g e h k = absurd cc

move_flags : (op : MoveOp) (s : Bool) (d : ℕ) (x : Operand) → (reads_of (Move (record { op = op; s = s; d = d; x = x })) 18 && may_set_of (Move (record { op = op; s = s; d = d; x = x })) 18) ≡ false → (s && is_rrx x) ≡ false
unfolding reads_of sets_flags_of
move_flags op false d x keep = refl
move_flags op true d x keep = no_true (is_rrx x) (λ e. let t = turned_carry x e in unmoved (operand_reads_of x 18) (gives_carry x) keep t.1 t.0)

-- SP STANDS WHERE IT MAY

names_is : (x : Operand) → names 13 x ≡ operand_names_stack x
unfolding names
names_is (Imm i) = refl
names_is (Reg m kind amount) = refl

last : (a b c : Bool) → (a || (b || c)) ≡ false → c ≡ false
last true b c e = absurd cc
last false true c e = absurd cc
last false false c e = e

alu_stack : (op : AluOp) (s : Bool) (d n : ℕ) (x : Operand) (q : ℕ) → operand_names_stack x ≡ false → (q == 13) ≡ false → misplaces_stack (Alu (record { op = op; s = s; d = d; n = n; x = x })) ≡ false → has_odd_sp op q n x ≡ false
unfolding has_odd_sp
alu_stack alu.And s d n x q o qs m = let names_not : names 13 x ≡ false = names_is x ∙ o in let n_not : (n == 13) ≡ false = last (operand_names_stack x && not (false && (is_copy Mov s x && (n == d)))) (d == 13) (n == 13) m in rw (names_not, qs, n_not) refl
alu_stack alu.Bic s d n x q o qs m = let names_not : names 13 x ≡ false = names_is x ∙ o in let n_not : (n == 13) ≡ false = last (operand_names_stack x && not (false && (is_copy Mov s x && (n == d)))) (d == 13) (n == 13) m in rw (names_not, qs, n_not) refl
alu_stack alu.Orr s d n x q o qs m = let names_not : names 13 x ≡ false = names_is x ∙ o in let n_not : (n == 13) ≡ false = last (operand_names_stack x && not (false && (is_copy Mov s x && (n == d)))) (d == 13) (n == 13) m in rw (names_not, qs, n_not) refl
alu_stack alu.Orn s d n x q o qs m = let names_not : names 13 x ≡ false = names_is x ∙ o in let n_not : (n == 13) ≡ false = last (operand_names_stack x && not (false && (is_copy Mov s x && (n == d)))) (d == 13) (n == 13) m in rw (names_not, qs, n_not) refl
alu_stack alu.Eor s d n x q o qs m = let names_not : names 13 x ≡ false = names_is x ∙ o in let n_not : (n == 13) ≡ false = last (operand_names_stack x && not (false && (is_copy Mov s x && (n == d)))) (d == 13) (n == 13) m in rw (names_not, qs, n_not) refl
alu_stack alu.Add s d n x q o qs m = let names_not : names 13 x ≡ false = names_is x ∙ o in rw (names_not, qs) refl
alu_stack alu.Adc s d n x q o qs m = let names_not : names 13 x ≡ false = names_is x ∙ o in let n_not : (n == 13) ≡ false = last (operand_names_stack x && not (false && (is_copy Mov s x && (n == d)))) (d == 13) (n == 13) m in rw (names_not, qs, n_not) refl
alu_stack alu.Sbc s d n x q o qs m = let names_not : names 13 x ≡ false = names_is x ∙ o in let n_not : (n == 13) ≡ false = last (operand_names_stack x && not (false && (is_copy Mov s x && (n == d)))) (d == 13) (n == 13) m in rw (names_not, qs, n_not) refl
alu_stack alu.Sub s d n x q o qs m = let names_not : names 13 x ≡ false = names_is x ∙ o in rw (names_not, qs) refl
alu_stack alu.Rsb s d n x q o qs m = let names_not : names 13 x ≡ false = names_is x ∙ o in let n_not : (n == 13) ≡ false = last (operand_names_stack x && not (false && (is_copy Mov s x && (n == d)))) (d == 13) (n == 13) m in rw (names_not, qs, n_not) refl

move_stack : (op : MoveOp) (s : Bool) (d : ℕ) (x : Operand) (q : ℕ) → (q == 13) ≡ false → misplaces_stack (Move (record { op = op; s = s; d = d; x = x })) ≡ false →
    (if is_copy op s x then (q == 13) && names 13 x else (q == 13) || names 13 x) ≡ false
move_stack op s d x q qs m = go (is_copy op s x) m
  where
    go : (b : Bool) → (if b then (d == 13) && operand_names_stack x else (d == 13) || operand_names_stack x) ≡ false → (if b then (q == 13) && names 13 x else (q == 13) || names 13 x) ≡ false
    go true e = rw qs refl
    go false e = rw qs (names_is x ∙ (either (d == 13) (operand_names_stack x) e).1)

-- THE VARIANTS

-- what is known of an instruction of the class
pub record Known (i : Instr) : Type 0 where
  pub formed : IsFormed i
  pub placed_right : misplaces_stack i ≡ false
  pub stack : writes_of i 13 ≡ false
  pub flags : (reads_of i 18 && may_set_of i 18) ≡ false

alu_row : Laws → (op : AluOp) (s : Bool) (d n : ℕ) (x : Operand) (q : ℕ) → q < 13 → Known (Alu (record { op = op; s = s; d = d; n = n; x = x })) → operand_names_stack x ≡ false →
    HasRow (Alu (record { op = op; s = s; d = q; n = n; x = x }))
unfolding has_full
alu_row laws op s d n x q low k o =
    let named = k.formed.registers in
    let a : has_odd_sp op q n x ≡ false = alu_stack op s d n x q o (no_stack q low) k.placed_right in
    let f : (s && (sums_with_carry op || is_rrx x)) ≡ false = alu_flags op s d n x k.flags in
    laws.rows (Alu (record { op = op; s = s; d = q; n = n; x = x })) (small q low, named.1, named.2) k.formed.fields (rw (a, f) refl)

stack_sum_row : Laws → (d q : ℕ) → d ≤ 14 → (d == 13) ≡ false → q < 13 → HasRow (register_sum alu.Add false q 13 d)
unfolding has_full has_odd_sp names is_rrx
stack_sum_row laws d q ld ds low =
    let qs : (q == 13) ≡ false = no_stack q low in
    let sp : 13 ≤ 14 = omega arith in
    laws.rows (register_sum alu.Add false q 13 d) (small q low, sp, ld) refl (rw (ds, qs) refl)

alu_coded : Laws → CodeLaws → (i : AluFields) (q copies : ℕ) → q < 13 → Known (Alu i) → AreCoded (as_steps copies (through_one (Alu i) q))
unfolding writes_of
alu_coded laws b i q copies low k = go (operand_names_stack i.x) refl
  where
    go : (o : Bool) → operand_names_stack i.x ≡ o → AreCoded (as_steps copies (if o then register_sum alu.Add false q 13 i.d ∷ moving false i.d q ∷ [] else sent (Alu i) q ∷ moving false i.d q ∷ []))
    go true e = (stack_sum_row laws i.d q k.formed.registers.0 (turned 13 i.d k.stack) low, (move_row b i.d q k.formed.registers.0 low, tt))
    go false e = (alu_row laws i.op i.s i.d i.n i.x q low k e, (move_row b i.d q k.formed.registers.0 low, tt))

move_of_row : Laws → (op : MoveOp) (s : Bool) (d : ℕ) (x : Operand) (q : ℕ) → q < 13 → Known (Move (record { op = op; s = s; d = d; x = x })) → HasRow (Move (record { op = op; s = s; d = q; x = x }))
unfolding has_full
move_of_row laws op s d x q low k =
    let a : (if is_copy op s x then (q == 13) && names 13 x else (q == 13) || names 13 x) ≡ false = move_stack op s d x q (no_stack q low) k.placed_right in
    let f : (s && is_rrx x) ≡ false = move_flags op s d x k.flags in
    laws.rows (Move (record { op = op; s = s; d = q; x = x })) (small q low, k.formed.registers.1) k.formed.fields (both_right (if is_copy op s x then (q == 13) && names 13 x else (q == 13) || names 13 x) (s && is_rrx x) a f)
  where
    both_right : (u v : Bool) → u ≡ false → v ≡ false → (not u && not v) ≡ true
    both_right true v e f = absurd cc
    both_right false true e f = absurd cc
    both_right false false e f = refl

field_row : Laws → (op : FieldOp) (d : ℕ) (n : Option ℕ) (lsb width q : ℕ) → q < 13 → IsSource n → is_field op n lsb width ≡ true → is_source n 13 ≡ false → HasRow (Field (record { op = op; d = q; n = n; lsb = lsb; width = width }))
unfolding has_full
field_row laws op d None lsb width q low named fits s = let qs : (q == 13) ≡ false = no_stack q low in laws.rows (Field (record { op = op; d = q; n = None; lsb = lsb; width = width })) (small q low, tt) fits (rw qs refl)
field_row laws op d (Some n) lsb width q low named fits s =
    let qs : (q == 13) ≡ false = no_stack q low in
    let ns : (n == 13) ≡ false = turned 13 n s in
    laws.rows (Field (record { op = op; d = q; n = Some n; lsb = lsb; width = width })) (small q low, named) fits (rw (qs, ns) refl)

insert_row : Laws → (d lsb width q : ℕ) → d ≤ 14 → (d == 13) ≡ false → q < 13 → (nat_le 1 width && nat_le (lsb + width) 32) ≡ true → HasRow (inserting d q lsb width)
unfolding has_full
insert_row laws d lsb width q ld ds low fits =
    let qs : (q == 13) ≡ false = no_stack q low in
    laws.rows (inserting d q lsb width) (ld, small q low) fits (rw (ds, qs) refl)

fits_apart : (h u v : Bool) → ((h && u) && v) ≡ true → (u && v) ≡ true
fits_apart true u v e = e
fits_apart false u v e = absurd cc

field_coded : Laws → CodeLaws → (i : FieldFields) (q copies : ℕ) → q < 13 → Known (Field i) → AreCoded (as_steps copies (through_one (Field i) q))
field_coded laws b i q copies low k = go (keeps_bits i.op)
  where
    go : (o : Bool) → AreCoded (as_steps copies (if o then moving false q i.d ∷ inserting i.d q i.lsb i.width ∷ [] else sent (Field i) q ∷ moving false i.d q ∷ []))
    go true =
        let named = k.formed.registers in
        let qs : (q == 13) ≡ false = no_stack q low in (
          b.moves q i.d (small q low) named.0 (rw qs refl),
          (insert_row laws i.d i.lsb i.width q named.0 (either (i.d == 13) (is_source i.n 13) k.placed_right).0 low (fits_apart _ (nat_le 1 i.width) (nat_le (i.lsb + i.width) 32) k.formed.fields), tt),
        )
    go false =
        let named = k.formed.registers in
        (field_row laws i.op i.d i.n i.lsb i.width q low named.1 k.formed.fields (either (i.d == 13) (is_source i.n 13) k.placed_right).1, (move_row b i.d q named.0 low, tt))

long_row : Laws → (op : LongMulOp) (lo hi n m : ℕ) → lo ≤ 14 → hi ≤ 14 → n ≤ 14 → m ≤ 14 → (lo == hi) ≡ false → (lo == 13) ≡ false → (hi == 13) ≡ false → (n == 13) ≡ false → (m == 13) ≡ false → HasRow (long_product_to op lo hi n m)
unfolding has_full
long_row laws op lo hi n m ll lh ln lm apart los his ns ms = laws.rows (long_product_to op lo hi n m) (ll, lh, ln, lm) (rw apart refl) (rw (los, his, ns, ms) refl)

pub record Factors (i : LongMulFields) : Type 0 where
  pub hi : (i.hi == 13) ≡ false
  pub lo : (i.lo == 13) ≡ false
  pub n : (i.n == 13) ≡ false
  pub m : (i.m == 13) ≡ false

factors : (i : LongMulFields) → misplaces_stack (LongMul i) ≡ false → Factors i
factors i e =
    let lo = either (i.lo == 13) ((i.hi == 13) || ((i.n == 13) || (i.m == 13))) e in
    let hi = either (i.hi == 13) ((i.n == 13) || (i.m == 13)) lo.1 in
    let nm = either (i.n == 13) (i.m == 13) hi.1 in
    record { lo = lo.0; hi = hi.0; n = nm.0; m = nm.1 }

long_coded : Laws → CodeLaws → (i : LongMulFields) (q copies : ℕ) → q < 13 → (q == i.lo) ≡ false → (q == i.hi) ≡ false → Known (LongMul i) → AreCoded (as_steps copies (through_one (LongMul i) q))
long_coded laws b i q copies low ql qh k = go (reads_of (LongMul i) i.lo)
  where
    go : (o : Bool) → AreCoded (as_steps copies (if o then LongMul (record i { lo = q }) ∷ moving false i.lo q ∷ [] else LongMul (record i { hi = q }) ∷ moving false i.hi q ∷ []))
    go true =
        let named = k.formed.registers in
        let f = factors i k.placed_right in
        (long_row laws i.op q i.hi i.n i.m (small q low) named.1 named.2 named.3 qh (no_stack q low) f.hi f.n f.m, (move_row b i.lo q named.0 low, tt))
    go false =
        let named = k.formed.registers in
        let f = factors i k.placed_right in
        (long_row laws i.op i.lo q i.n i.m named.0 (small q low) named.2 named.3 (turned q i.lo ql) f.lo (no_stack q low) f.n f.m, (move_row b i.hi q named.1 low, tt))

place_fits : (place : Place) (q n : ℕ) → moves_base place ≡ false → place_reaches place ≡ true → place_names_stack place ≡ false → place_has_full q n place ≡ true
place_fits (Offset true imm) q n stays far s = far
place_fits (Offset false imm) q n stays far s = far
place_fits (Pre up imm) q n stays far s = absurd cc
place_fits (Post up imm) q n stays far s = absurd cc
place_fits (Index m shift) q n stays far s = rw s refl

access_row : Laws → (i : AccessFields) (q : ℕ) → q < 13 → Known (Access i) → moves_base i.place ≡ false → place_reaches i.place ≡ true → HasRow (Access (record i { t = q }))
unfolding has_full
access_row laws i q low k stays far =
    let named = k.formed.registers in
    let qs : (q == 13) ≡ false = no_stack q low in
    let fits : place_has_full q i.n i.place ≡ true = place_fits i.place q i.n stays far (either (i.t == 13) (place_names_stack i.place) k.placed_right).1 in
    laws.rows (Access (record i { t = q })) (small q low, named.1, named.2) k.formed.fields (rw qs fits)

placed_coded : CodeLaws → (s : Bool) (t q copies : ℕ) → t ≤ 14 → q < 13 → AreCoded (as_steps copies (placed (unless s t) q))
placed_coded b true t q copies lt low = tt
placed_coded b false t q copies lt low = (move_row b t q lt low, tt)

known : Laws → CodeLaws → (i : Instr) → (row : HasRow i) → IsOf class.Through i → Known i
known laws b i row of = record {
  formed = laws.formed Outside row.first row.second i row.stands;
  placed_right = (laws.apart Outside row.first row.second i row.stands).1;
  stack = b.stack Outside row.first row.second i row.stands of;
  flags = b.flags Outside row.first row.second i row.stands 18;
}

no_sp : (a b : ℕ) → ((a == 13) || (b == 13)) ≡ false → (a == 13) ≡ false
no_sp a b e = (either (a == 13) (b == 13) e).0

pub one_coded : Laws → CodeLaws → (i : Instr) (q copies : ℕ) → HasRow i → IsOf class.Through i → read_destinations i ≡ 1 → IsFree i q → AreCoded (as_steps copies (through_one i q))
unfolding has_full writes_of
one_coded laws b (Alu i) q copies row of n free = alu_coded laws b i q copies free.low (known laws b (Alu i) row of)
one_coded laws b (Move i) q copies row of n free = let k = known laws b (Move i) row of in (move_of_row laws i.op i.s i.d i.x q free.low k, (move_row b i.d q k.formed.registers.0 free.low, tt))
one_coded laws b (ShiftBy i) q copies row of n free =
    let k = known laws b (ShiftBy i) row of in
    let named = k.formed.registers in
    let qs : (q == 13) ≡ false = no_stack q free.low in
    let nm = either (i.n == 13) (i.m == 13) (either (i.d == 13) ((i.n == 13) || (i.m == 13)) k.placed_right).1 in
    let ns : (i.n == 13) ≡ false = nm.0 in
    let ms : (i.m == 13) ≡ false = nm.1 in
    (laws.rows (ShiftBy (record i { d = q })) (small q free.low, named.1, named.2) k.formed.fields (rw (qs, ns, ms) refl), (move_row b i.d q named.0 free.low, tt))
one_coded laws b (Wide i) q copies row of n free =
    let k = known laws b (Wide i) row of in
    let named = k.formed.registers in
    let qs : (q == 13) ≡ false = no_stack q free.low in
    (laws.rows (Wide (record i { d = q })) (small q free.low, named.1) k.formed.fields (rw qs refl), (move_row b i.d q named.0 free.low, tt))
one_coded laws b (Field i) q copies row of n free = field_coded laws b i q copies free.low (known laws b (Field i) row of)
one_coded laws b (Unary i) q copies row of n free =
    let k = known laws b (Unary i) row of in
    let named = k.formed.registers in
    let qs : (q == 13) ≡ false = no_stack q free.low in
    let ms : (i.m == 13) ≡ false = (either (i.d == 13) (i.m == 13) k.placed_right).1 in
    (laws.rows (Unary (record i { d = q })) (small q free.low, named.1) k.formed.fields (rw (qs, ms) refl), (move_row b i.d q named.0 free.low, tt))
one_coded laws b (Mul i) q copies row of n free =
    let k = known laws b (Mul i) row of in
    let named = k.formed.registers in
    let qs : (q == 13) ≡ false = no_stack q free.low in
    let nm = either (i.n == 13) (i.m == 13) (either (i.d == 13) ((i.n == 13) || (i.m == 13)) k.placed_right).1 in
    let ns : (i.n == 13) ≡ false = nm.0 in
    let ms : (i.m == 13) ≡ false = nm.1 in
    let plain : i.s ≡ false = of.2 class.ThroughFlags in
    (laws.rows (Mul (record i { d = q })) (small q free.low, named.1, named.2) tt (rw (plain, qs, ns, ms) refl), (move_row b i.d q named.0 free.low, tt))
one_coded laws b (MulAcc i) q copies row of n free =
    let k = known laws b (MulAcc i) row of in
    let named = k.formed.registers in
    let qs : (q == 13) ≡ false = no_stack q free.low in
    let rest = either (i.n == 13) ((i.m == 13) || (i.a == 13)) (either (i.d == 13) ((i.n == 13) || ((i.m == 13) || (i.a == 13))) k.placed_right).1 in
    let ma = either (i.m == 13) (i.a == 13) rest.1 in
    let ns : (i.n == 13) ≡ false = rest.0 in
    let ms : (i.m == 13) ≡ false = ma.0 in
    let a_not : (i.a == 13) ≡ false = ma.1 in
    (laws.rows (MulAcc (record i { d = q })) (small q free.low, named.1, named.2, named.3) tt (rw (qs, ns, ms, a_not) refl), (move_row b i.d q named.0 free.low, tt))
one_coded laws b (LongMul i) q copies row of n free =
    let apart = either (q == i.lo) (q == i.hi) free.unwritten in
    long_coded laws b i q copies free.low apart.0 apart.1 (known laws b (LongMul i) row of)
one_coded laws b (Div i) q copies row of n free =
    let k = known laws b (Div i) row of in
    let named = k.formed.registers in
    let qs : (q == 13) ≡ false = no_stack q free.low in
    let nm = either (i.n == 13) (i.m == 13) (either (i.d == 13) ((i.n == 13) || (i.m == 13)) k.placed_right).1 in
    let ns : (i.n == 13) ≡ false = nm.0 in
    let ms : (i.m == 13) ≡ false = nm.1 in
    (laws.rows (Div (record i { d = q })) (small q free.low, named.1, named.2) tt (rw (qs, ns, ms) refl), (move_row b i.d q named.0 free.low, tt))
one_coded laws b (Access i) q copies row of n free =
    let k = known laws b (Access i) row of in
    (access_row laws i q free.low k (of.2 class.WriteBack) (b.reach Outside row.first row.second (Access i) row.stands), placed_coded b (is_store i.op) i.t q copies k.formed.registers.0 free.low)
one_coded laws b i q copies row of n free = absurd (omega (arith, n))

pub two_coded : Laws → CodeLaws → (i : LongMulFields) (q r copies : ℕ) → HasRow (LongMul i) → q < 13 → r < 13 → (q == r) ≡ false → AreCoded (as_steps copies (through_two (LongMul i) q r))
two_coded laws b i q r copies row lq lr qr =
    let named = (laws.formed Outside row.first row.second (LongMul i) row.stands).registers in
    let f = factors i (laws.apart Outside row.first row.second (LongMul i) row.stands).1 in (
      long_row laws i.op q r i.n i.m (small q lq) (small r lr) named.2 named.3 qr (no_stack q lq) (no_stack r lr) f.n f.m,
      (move_row b i.lo q named.0 lq, (move_row b i.hi r named.1 lr, tt)),
    )
