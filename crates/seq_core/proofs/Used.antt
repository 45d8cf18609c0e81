-- The registers that are used as numbers are among those that are read.
use Rattle.std.proofs.Common.{◌≡◌, ℕ, Bool, true, false, List, [], ◌∷◌, ◌++◌, Option, Some, None}
use Rattle.std.specs.Prelude.{◌==◌, ◌||◌, ◌&&◌, if◌then◌else◌, All}
use Rattle.thumb_instr.specs.declared.operations.MoveOp.{MoveOp}
use Rattle.thumb_instr.specs.declared.operations.MoveOp.TheVariants.{Mov, Mvn}
use Rattle.thumb_instr.specs.declared.operations.FieldOp.{FieldOp}
use Rattle.thumb_instr.specs.declared.operations.FieldOp.TheVariants.{Sbfx, Ubfx, Bfi, Bfc}
use Rattle.thumb_instr.specs.declared.operations.LongMulOp.{LongMulOp}
use Rattle.thumb_instr.specs.declared.operations.LongMulOp.TheVariants.{Smull, Umull, Smlal, Umlal}
use Rattle.thumb_instr.specs.declared.operations.AccessOp.{AccessOp}
use Rattle.thumb_instr.specs.declared.operations.AccessOp.TheVariants.{Ldr, Ldrb, Ldrh, Ldrsb, Ldrsh, Str, Strb, Strh}
use Rattle.thumb_instr.specs.declared.operands.Operand.{Operand}
use Rattle.thumb_instr.specs.declared.operands.Operand.TheVariants.{Imm, Reg}
use Rattle.thumb_instr.specs.declared.places.Place.{Place}
use Rattle.thumb_instr.specs.declared.places.Place.TheVariants.{Offset, Pre, Post, Index}
use Rattle.thumb_instr.specs.declared.instructions.Instr.{Instr}
use Rattle.thumb_instr.specs.declared.instructions.Instr.TheVariants.{Alu, Move, Test, ShiftBy, Wide, Half, Field, Unary, Mul, MulAcc, LongMul, Div, Access, Pair, Multi, Literal, Adr, Branch, ZeroBranch, Call, Jump, CallReg, It, Nothing, Trap}
use Rattle.thumb_instr.specs.Sets.{reads_of, operand_reads_of, is_source, keeps_bits, accumulates, is_store, place_reads_of}
use Rattle.thumb_table.specs.Effects.{is_whole}
use Rattle.thumb_table.specs.Ordinary.{used, in_operand, in_move, in_field, in_sum, in_place, in_part, in_source, is_zero_test}
use Rattle.seq_core.proofs.Tests.{here, there, left, same_number, first, rest}
use Rattle.seq_core.proofs.Lists.{Each, each_map}

abbrev pub Read : (ℕ → Bool) → List ℕ → Type 0
Read test l = Each (λ r. test r ≡ true) l

pub operand_read : (o : Operand) → Read (operand_reads_of o) (in_operand o)
operand_read (Imm i) = tt
operand_read (Reg m kind amount) = (here m _, tt)

pub move_read : (op : MoveOp) (o : Operand) → Read (operand_reads_of o) (in_move op o)
move_read Mov (Imm i) = tt
move_read Mov (Reg m kind amount) = elim (is_whole kind amount) as (λ b. Read (operand_reads_of (Reg m kind amount)) (if b then [] else m ∷ [])) [ true ↦ tt | false ↦ (here m _, tt) ]
move_read Mvn o = operand_read o

pub source_read : (n : Option ℕ) → Read (is_source n) (in_source n)
source_read None = tt
source_read (Some n) = (same_number n, tt)

pub field_read : (op : FieldOp) (d : ℕ) (n : Option ℕ) → Read (λ k. is_source n k || (keeps_bits op && (k == d))) (in_field op d n)
field_read Sbfx d n = each_map _ _ (in_source n) (λ r e. left _ _ e) (source_read n)
field_read Ubfx d n = each_map _ _ (in_source n) (λ r e. left _ _ e) (source_read n)
field_read Bfi d n = (there (is_source n d) _ (same_number d), each_map _ _ (in_source n) (λ r e. left _ _ e) (source_read n))
field_read Bfc d n = (there (is_source n d) _ (same_number d), tt)

pub sum_read : (op : LongMulOp) (lo hi : ℕ) → Read (λ k. accumulates op && ((k == lo) || (k == hi))) (in_sum op lo hi)
sum_read Smull lo hi = tt
sum_read Umull lo hi = tt
sum_read Smlal lo hi = (here lo _, (there (hi == lo) _ (same_number hi), tt))
sum_read Umlal lo hi = (here lo _, (there (hi == lo) _ (same_number hi), tt))

pub place_read : (l : Place) → Read (place_reads_of l) (in_place l)
place_read (Offset up imm) = tt
place_read (Pre up imm) = tt
place_read (Post up imm) = tt
place_read (Index m shift) = (same_number m, tt)

pub part_read : (op : AccessOp) (t : ℕ) → Read (λ k. is_store op && (k == t)) (in_part op t)
part_read Ldr t = tt
part_read Ldrb t = tt
part_read Ldrh t = tt
part_read Ldrsb t = tt
part_read Ldrsh t = tt
part_read Str t = tt
part_read Strb t = (same_number t, tt)
part_read Strh t = (same_number t, tt)

pub each_append : (P : ℕ → Type 0) (k l : List ℕ) → Each P k → Each P l → Each P (k ++ l)
each_append P [] l h g = g
each_append P (r ∷ k) l h g = (h.0, each_append P k l h.1 g)

-- every register that is used as a number is read
pub used_read : (i : Instr) → Read (reads_of i) (used i)
unfolding reads_of
used_read (Alu i) = (here i.n _, each_map _ _ (in_operand i.x) (λ r e. there (r == i.n) _ (left _ _ e)) (operand_read i.x))
used_read (Move i) = move_read i.op i.x
used_read (Test i) =
    elim (is_zero_test i.op i.x) as (λ b. Read (λ k. (k == i.n) || operand_reads_of i.x k) (if b then [] else i.n ∷ in_operand i.x)) [
      | true ↦ tt
      | false ↦ (here i.n _, each_map _ _ (in_operand i.x) (λ r e. there (r == i.n) _ e) (operand_read i.x))
    ]
used_read (ShiftBy i) = (here i.n _, (there (i.m == i.n) _ (same_number i.m), tt))
used_read (Wide i) = (same_number i.n, tt)
used_read (Half i) = tt
used_read (Field i) = field_read i.op i.d i.n
used_read (Unary i) = (same_number i.m, tt)
used_read (Mul i) = (here i.n _, (there (i.m == i.n) _ (same_number i.m), tt))
used_read (MulAcc i) = (here i.n _, (there (i.m == i.n) _ (here i.m _), (there (i.a == i.n) _ (there (i.a == i.m) _ (same_number i.a)), tt)))
used_read (LongMul i) =
    (here i.n _, (there (i.m == i.n) _ (here i.m _), each_map _ _ (in_sum i.op i.lo i.hi) (λ r e. there (r == i.n) _ (there (r == i.m) _ e)) (sum_read i.op i.lo i.hi)))
used_read (Div i) = (here i.n _, (there (i.m == i.n) _ (same_number i.m), tt))
used_read (Access i) = (
  here i.n _,
  each_append _ (in_place i.place) (in_part i.op i.t)
      (each_map _ _ (in_place i.place) (λ r e. there (r == i.n) _ (left _ _ e)) (place_read i.place))
      (each_map _ _ (in_part i.op i.t) (λ r e. there (r == i.n) _ (there (place_reads_of i.place r) _ e)) (part_read i.op i.t)),
)
used_read (Pair i) = (here i.n _, tt)
used_read (Multi i) = (here i.n _, tt)
used_read (Literal i) = tt
used_read (Adr i) = tt
used_read (Branch i) = tt
used_read (ZeroBranch i) = tt
used_read (Call i) = tt
used_read (Jump i) = tt
used_read (CallReg i) = tt
used_read (It i) = tt
used_read (Nothing i) = tt
used_read (Trap i) = tt

pub each_of : (P : ℕ → Type 0) (l : List ℕ) → All P l → Each P l
each_of P [] h = tt
each_of P (r ∷ l) h = (first P r l h, each_of P l (rest P r l h))
