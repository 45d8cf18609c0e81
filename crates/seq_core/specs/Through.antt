-- What is done by way of scratch registers.
use Rattle.std.specs.Prelude.{◌≡◌, ◌≢◌, ◌<◌, ℕ, ◌==◌, ◌||◌, ◌&&◌, not, Bool, true, false, [], ◌∷◌, Some}
use Rattle.mark_word.specs.declared.numbers.Shift.TheVariants.{Lsl}
use Rattle.thumb_instr.specs.declared.operations.AluOp.TheVariants as alu
use Rattle.thumb_instr.specs.declared.operands.Operand.TheVariants.{Reg}
use Rattle.thumb_instr.specs.declared.instructions.Instr.{Instr}
use Rattle.thumb_instr.specs.declared.instructions.Instr.TheVariants as instr
use Rattle.thumb_instr.specs.declared.operations.LongMulOp.{LongMulOp}
use Rattle.thumb_instr.specs.declared.operations.LongMulOp.TheVariants.{Smull, Umull}
use Rattle.thumb_instr.specs.Sets.{keeps_bits, is_store, moves_base}
use Rattle.thumb_instr.specs.declared.operations.AluOp.{AluOp}
use Rattle.seq_core.specs.Reading.{uses_of}
use Rattle.thumb_instr.specs.MaySet.{may_set_of}
use Rattle.seq_core.specs.Sent.{destination, sent}
use Rattle.seq_core.specs.Sequences.{Carries, Settles}
use Rattle.seq_core.specs.Groups.{always, done, only, moving, IsFree}
use Rattle.seq_core.specs.Twice.{inserting}

-- Instructions with one destination, whose value doesn't name it.
abbrev pub has_one : Instr → Bool
has_one (instr.Alu i) = true
has_one (instr.Move i) = true
has_one (instr.ShiftBy i) = true
has_one (instr.Wide i) = true
has_one (instr.Unary i) = true
has_one (instr.Mul i) = not i.s
has_one (instr.MulAcc i) = true
has_one (instr.Div i) = true
has_one (instr.Field i) = not (keeps_bits i.op)
has_one (instr.Access i) = not (is_store i.op) && not (moves_base i.place)
has_one i = false

-- flags that are set aren't read
abbrev pub KeepsFlags : Instr → Type 0
KeepsFlags i = (k : ℕ) → uses_of i k ≡ true → may_set_of i k ≡ false

-- CLASSES THROUGH AND SPSTEP, for one destination: the value goes to a scratch register, and from there to its place.
abbrev pub ThroughCarries : Type 0
ThroughCarries = (i : Instr) (d q end : ℕ) → has_one i ≡ true → destination i ≡ Some d → IsFree i q → KeepsFlags i → Carries Settles end always (done i) (only q) (done (sent i q) ∷ done (moving false d q) ∷ [])

abbrev pub register_sum : AluOp → Bool → ℕ → ℕ → ℕ → Instr
register_sum op s d n m = instr.Alu (record { op = op; s = s; d = d; n = n; x = Reg m Lsl 0 })

-- CLASS THROUGH, of `add d,sp`, which is written as n = d, m = sp
abbrev pub SpSumCarries : Type 0
SpSumCarries = (d q end : ℕ) → q < 13 → d < 15 → d ≢ q → Carries Settles end always (done (register_sum alu.Add false d d 13)) (only q) (done (register_sum alu.Add false q 13 d) ∷ done (moving false d q) ∷ [])

-- CLASS THROUGH, of BFI from the register itself
abbrev pub InsertSelfCarries : Type 0
InsertSelfCarries = (d q lsb width end : ℕ) → d < 15 → d ≢ 13 → q < 13 → d ≢ q → Carries Settles end always (done (inserting d d lsb width)) (only q) (done (moving false q d) ∷ done (inserting d q lsb width) ∷ [])

-- SMULL and UMULL
abbrev pub product_of : Bool → LongMulOp
product_of true = Smull
product_of false = Umull

abbrev pub long_product_to : LongMulOp → ℕ → ℕ → ℕ → ℕ → Instr
long_product_to op lo hi n m = instr.LongMul (record { op = op; lo = lo; hi = hi; n = n; m = m })

-- CLASS THROUGH, of long products that read both destinations
abbrev pub LongProductCarries : Type 0
LongProductCarries = (is_signed : Bool) (a b lo hi n m end : ℕ) → a < 13 → b < 13 → a ≢ b → lo ≢ a → lo ≢ b → hi ≢ a → hi ≢ b → n ≢ a → n ≢ b → m ≢ a → m ≢ b → lo ≢ 13 → hi ≢ 13 →
    Carries Settles end always (done (long_product_to (product_of is_signed) lo hi n m)) (λ k. (k == a) || (k == b)) (done (long_product_to (product_of is_signed) a b n m) ∷ done (moving false lo a) ∷ done (moving false hi b) ∷ [])

-- CLASS THROUGH, of long products that read one destination
abbrev pub LowProductCarries : Type 0
LowProductCarries = (is_signed : Bool) (q lo hi n m end : ℕ) → q < 13 → lo ≢ q → hi ≢ q → n ≢ q → m ≢ q → n ≢ hi → m ≢ hi → lo ≢ hi → lo ≢ 13 → hi ≢ 13 →
    Carries Settles end always (done (long_product_to (product_of is_signed) lo hi n m)) (only q) (done (long_product_to (product_of is_signed) q hi n m) ∷ done (moving false lo q) ∷ [])

abbrev pub HighProductCarries : Type 0
HighProductCarries = (is_signed : Bool) (q lo hi n m end : ℕ) → q < 13 → lo ≢ q → hi ≢ q → n ≢ q → m ≢ q → n ≢ lo → m ≢ lo → lo ≢ 13 → hi ≢ 13 →
    Carries Settles end always (done (long_product_to (product_of is_signed) lo hi n m)) (only q) (done (long_product_to (product_of is_signed) lo q n m) ∷ done (moving false hi q) ∷ [])
