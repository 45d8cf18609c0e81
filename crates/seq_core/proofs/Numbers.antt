-- Instructions that work on numbers alone: wherever they stand, the numbers that they read make their change.
use Rattle.std.proofs.Common.{◌≡◌, ℕ, ◌+◌, ◌*◌, ◌%◌, ◌^◌, true, false, List, [], ◌∷◌, Option, Some, None, Ok, refl, ap, ◌∙◌}
use Rattle.std.specs.Prelude.{◌==◌, not, if◌then◌else◌}
use Rattle.thumb_instr.specs.declared.operations.FieldOp.{FieldOp}
use Rattle.thumb_instr.specs.declared.operations.FieldOp.TheVariants.{Sbfx, Ubfx, Bfi, Bfc}
use Rattle.thumb_instr.specs.declared.operations.LongMulOp.{LongMulOp}
use Rattle.thumb_instr.specs.declared.operations.LongMulOp.TheVariants.{Smull, Umull, Smlal, Umlal}
use Rattle.thumb_instr.specs.declared.operations.TestOp.{TestOp}
use Rattle.thumb_instr.specs.declared.operations.TestOp.TheVariants.{Tst, Teq, Cmn, Cmp}
use Rattle.thumb_instr.specs.declared.instructions.Instr.{Instr}
use Rattle.thumb_instr.specs.declared.instructions.Instr.TheVariants.{Alu, Test, ShiftBy, Wide, Field, Unary, Mul, MulAcc, LongMul, Div}
use Rattle.thumb_instr.specs.Fields.{AluFields, TestFields, ShiftByFields, WideFields, FieldFields, UnaryFields, MulFields, MulAccFields, LongMulFields, DivFields}
use Rattle.thumb_instr.specs.Sets.{reads_of, operand_reads_of, sums_with_carry}
use Rattle.thumb_table.specs.States.{Core, Site, upright, unchanged}
use Rattle.thumb_table.specs.Values.{computed, tested, wrapped, moved, unary, rotated, long_product, signed_quotient, quotient}
use Rattle.thumb_table.specs.Effects.{change, value, operand, with_flags, with_carry, with_sign, plain_write, shift_given, wide_value, field_value, source, two_words}
use Rattle.thumb_table.specs.Ordinary.{in_operand, in_source, in_field, in_sum}
use Rattle.seq_core.proofs.Tests.{there, left, both_true, ap₂, ap₃}
use Rattle.seq_core.proofs.Values.{SameNumbers, operand_same, computed_same}

-- The numbers in the registers of a list, and C where it is read, make the change.
abbrev pub Sees : Instr → List ℕ → Type 0
Sees i l = (s u : Site) (x y : Core) → SameNumbers l x y → (reads_of i 18 ≡ true → x.c ≡ y.c) → change i s x ≡ change i u y

pub alu_sees : (i : AluFields) → Sees (Alu i) (i.n ∷ in_operand i.x)
unfolding change reads_of
alu_sees i s u x y v c =
    ap (λ r. upright (with_flags i.s r (plain_write i.d r.value)))
    (ap₂ (λ n o. computed i.op n o x.c) v.0 (operand_same i.x x y v.1 (λ e. c (there (18 == i.n) _ (left _ _ e))))
    ∙ computed_same i.op (value y i.n) (operand i.x y) x.c y.c (λ e. c (there (18 == i.n) _ (there (operand_reads_of i.x 18) _ (both_true _ true e refl)))))

no_carry : (op : TestOp) (P : Type 0) → sums_with_carry (tested op) ≡ true → P
no_carry Tst P e = cc
no_carry Teq P e = cc
no_carry Cmn P e = cc
no_carry Cmp P e = cc

pub test_sees : (i : TestFields) → Sees (Test i) (i.n ∷ in_operand i.x)
unfolding change reads_of
test_sees i s u x y v c =
    ap (λ r. Ok (with_flags true r unchanged))
    (ap₂ (λ n o. computed (tested i.op) n o x.c) v.0 (operand_same i.x x y v.1 (λ e. c (there (18 == i.n) _ e)))
    ∙ computed_same (tested i.op) (value y i.n) (operand i.x y) x.c y.c (λ e. no_carry i.op _ e))

pub shift_by_sees : (i : ShiftByFields) → Sees (ShiftBy i) (i.n ∷ i.m ∷ [])
unfolding change
shift_by_sees i s u x y v c =
    ap (λ r. upright (with_carry i.s r.value r.carry (plain_write i.d r.value)))
    (ap₂ (λ n m. shift_given n i.kind (m % 256) false) v.0 v.1.0)

pub wide_sees : (i : WideFields) → Sees (Wide i) (i.n ∷ [])
unfolding change
wide_sees i s u x y v c = ap (λ n. upright (plain_write i.d (wide_value i.op n i.imm))) v.0

source_same : (n : Option ℕ) (x y : Core) → SameNumbers (in_source n) x y → source n x ≡ source n y
source_same None x y v = refl
source_same (Some n) x y v = v.0

field_same : (op : FieldOp) (d : ℕ) (n : Option ℕ) (lsb width : ℕ) (x y : Core) → SameNumbers (in_field op d n) x y → field_value op d n lsb width x ≡ field_value op d n lsb width y
field_same Sbfx d n lsb width x y v = let e = source_same n x y v in cc
field_same Ubfx d n lsb width x y v = let e = source_same n x y v in cc
field_same Bfi d n lsb width x y v = let e = source_same n x y v.1 in let f = v.0 in cc
field_same Bfc d n lsb width x y v = let f = v.0 in cc

pub field_sees : (i : FieldFields) → Sees (Field i) (in_field i.op i.d i.n)
unfolding change
field_sees i s u x y v c = ap (λ r. upright (plain_write i.d r)) (field_same i.op i.d i.n i.lsb i.width x y v)

pub unary_sees : (i : UnaryFields) → Sees (Unary i) (i.m ∷ [])
unfolding change
unary_sees i s u x y v c = ap (λ m. upright (plain_write i.d (unary i.op (rotated m i.turn)))) v.0

pub mul_sees : (i : MulFields) → Sees (Mul i) (i.n ∷ i.m ∷ [])
unfolding change
mul_sees i s u x y v c = ap₂ (λ n m. upright (with_sign i.s (wrapped (n * m)) (plain_write i.d (wrapped (n * m))))) v.0 v.1.0

pub mul_acc_sees : (i : MulAccFields) → Sees (MulAcc i) (i.n ∷ i.m ∷ i.a ∷ [])
unfolding change
mul_acc_sees i s u x y v c = ap₃ (λ n m a. upright (plain_write i.d (moved (not i.minus) a (wrapped (n * m))))) v.0 v.1.0 v.1.1.0

product_same : (op : LongMulOp) (n m lo hi : ℕ) (x y : Core) → SameNumbers (in_sum op lo hi) x y → long_product op n m (value x hi * 2 ^ 32 + wrapped (value x lo)) ≡ long_product op n m (value y hi * 2 ^ 32 + wrapped (value y lo))
product_same Smull n m lo hi x y v = refl
product_same Umull n m lo hi x y v = refl
product_same Smlal n m lo hi x y v = ap₂ (λ a b. long_product Smlal n m (b * 2 ^ 32 + wrapped a)) v.0 v.1.0
product_same Umlal n m lo hi x y v = ap₂ (λ a b. long_product Umlal n m (b * 2 ^ 32 + wrapped a)) v.0 v.1.0

pub long_mul_sees : (i : LongMulFields) → Sees (LongMul i) (i.n ∷ i.m ∷ in_sum i.op i.lo i.hi)
unfolding change
long_mul_sees i s u x y v c =
    ap (λ p. upright (two_words i.lo i.hi p))
    (ap₂ (λ n m. long_product i.op n m (value x i.hi * 2 ^ 32 + wrapped (value x i.lo))) v.0 v.1.0
    ∙ product_same i.op (value y i.n) (value y i.m) i.lo i.hi x y v.1.1)

pub div_sees : (i : DivFields) → Sees (Div i) (i.n ∷ i.m ∷ [])
unfolding change
div_sees i s u x y v c = ap₂ (λ n m. upright (plain_write i.d (if i.signed then signed_quotient n m else quotient n m))) v.0 v.1.0
