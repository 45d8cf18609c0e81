-- Accesses whose base moves or is loaded, products that set flags, and long sums.
use Rattle.std.specs.Prelude.{◌≡◌, ◌≢◌, ◌<◌, ℕ, ◌^◌, Bool, true, false, [], ◌∷◌}
use Rattle.thumb_instr.specs.declared.operations.AluOp.TheVariants as alu
use Rattle.thumb_instr.specs.declared.operands.Operand.TheVariants.{Imm}
use Rattle.thumb_instr.specs.declared.instructions.Instr.{Instr}
use Rattle.thumb_instr.specs.declared.instructions.Instr.TheVariants as instr
use Rattle.thumb_table.specs.Effects.{of_imm, registers}
use Rattle.thumb_instr.specs.Operands.{has}
use Rattle.thumb_instr.specs.declared.operations.AccessOp.TheVariants.{Ldr}
use Rattle.mark_word.specs.Formulas.{expand_imm}
use Rattle.thumb_instr.specs.declared.operations.AluOp.{AluOp}
use Rattle.thumb_instr.specs.declared.operations.AccessOp.{AccessOp}
use Rattle.thumb_instr.specs.declared.places.Place.TheVariants.{Offset, Pre, Post}
use Rattle.thumb_instr.specs.declared.places.PairIndex.TheVariants as index
use Rattle.thumb_instr.specs.declared.register_sets.RegSet.{RegSet}
use Rattle.seq_core.specs.Sequences.{Carries, Settles}
use Rattle.seq_core.specs.Groups.{always, done, only, moving}

-- `add` or `sub` of a constant, given by its code
abbrev pub adding : Bool → AluOp
adding true = alu.Add
adding false = alu.Sub

abbrev pub summing : Bool → ℕ → ℕ → ℕ → Instr
summing up d n k = instr.Alu (record { op = adding up; s = false; d = d; n = n; x = Imm k })

-- k is the code of a constant
pub record IsConstant (k imm : ℕ) : Type 0 where
  pub value : (of_imm (expand_imm k false)).value ≡ imm
  pub small : imm < 2 ^ 32

-- an access at [n, #0]
abbrev pub access_at : AccessOp → ℕ → ℕ → Instr
access_at op t n = instr.Access (record { op = op; t = t; n = n; place = Offset true 0 })

abbrev pub pair_at : Bool → ℕ → ℕ → ℕ → Instr
pair_at load t u n = instr.Pair (record { load = load; t = t; u = u; n = n; up = true; imm = 0; index = index.Offset })

-- A scratch register beside a base register.
pub record IsBeside (n q : ℕ) : Type 0 where
  pub low : q < 13
  pub base : n < 15
  pub apart : n ≢ q

-- CLASS WRITEBACK
abbrev pub PreAccessCarries : Type 0
PreAccessCarries = (op : AccessOp) (t n q k imm end : ℕ) (up : Bool) → IsBeside n q → t ≢ n → t ≢ q → IsConstant k imm →
    Carries Settles end always (done (instr.Access (record { op = op; t = t; n = n; place = Pre up imm }))) (only q) (done (summing up q n k) ∷ done (moving false n q) ∷ done (access_at op t n) ∷ [])

abbrev pub PostAccessCarries : Type 0
PostAccessCarries = (op : AccessOp) (t n q k imm end : ℕ) (up : Bool) → IsBeside n q → t ≢ n → t ≢ q → IsConstant k imm →
    Carries Settles end always (done (instr.Access (record { op = op; t = t; n = n; place = Post up imm }))) (only q) (done (access_at op t n) ∷ done (summing up q n k) ∷ done (moving false n q) ∷ [])

abbrev pub PrePairCarries : Type 0
PrePairCarries = (load : Bool) (t u n q k imm end : ℕ) (up : Bool) → IsBeside n q → t ≢ n → u ≢ n → t ≢ q → u ≢ q → IsConstant k imm →
    Carries Settles end always (done (instr.Pair (record { load = load; t = t; u = u; n = n; up = up; imm = imm; index = index.Pre }))) (only q) (done (summing up q n k) ∷ done (moving false n q) ∷ done (pair_at load t u n) ∷ [])

abbrev pub PostPairCarries : Type 0
PostPairCarries = (load : Bool) (t u n q k imm end : ℕ) (up : Bool) → IsBeside n q → t ≢ n → u ≢ n → t ≢ q → u ≢ q → IsConstant k imm →
    Carries Settles end always (done (instr.Pair (record { load = load; t = t; u = u; n = n; up = up; imm = imm; index = index.Post }))) (only q) (done (pair_at load t u n) ∷ done (summing up q n k) ∷ done (moving false n q) ∷ [])

-- CLASS THROUGHFLAGS: a product that sets flags
abbrev pub multiplying : Bool → ℕ → ℕ → ℕ → Instr
multiplying s d n m = instr.Mul (record { s = s; d = d; n = n; m = m })

abbrev pub FlaggedProductCarries : Type 0
FlaggedProductCarries = (d n m q end : ℕ) → q < 13 → d ≢ q → n ≢ q → m ≢ q → n < 15 → m < 15 → Carries Settles end always (done (multiplying true d n m)) (only q) (done (multiplying false q n m) ∷ done (moving true d q) ∷ [])

-- CLASS BASECOPY: loads that name their base
abbrev pub loading : Bool → ℕ → RegSet → Instr
loading down n list = instr.Multi (record { load = true; down = down; back = false; n = n; list = list; pc = false })

abbrev pub pair_loading : ℕ → ℕ → ℕ → Bool → ℕ → Instr
pair_loading t u n up imm = instr.Pair (record { load = true; t = t; u = u; n = n; up = up; imm = imm; index = index.Offset })

abbrev pub BaseCopyListCarries : Type 0
BaseCopyListCarries = (down : Bool) (n q end : ℕ) (list : RegSet) → IsBeside n q → has list.0 q ≡ false → Carries Settles end always (done (loading down n list)) (only q) (done (moving false q n) ∷ done (loading down q list) ∷ [])

abbrev pub BaseCopyPairCarries : Type 0
BaseCopyPairCarries = (t u n q imm end : ℕ) (up : Bool) → IsBeside n q → t ≢ q → u ≢ q → Carries Settles end always (done (pair_loading t u n up imm)) (only q) (done (moving false q n) ∷ done (pair_loading t u q up imm) ∷ [])

-- the load of one register that was written as a list
abbrev pub BaseCopyOneCarries : Type 0
BaseCopyOneCarries = (n q end : ℕ) (list : RegSet) → IsBeside n q → registers list.0 ≡ n ∷ [] → Carries Settles end always (done (loading false n list)) (only q) (done (moving false q n) ∷ done (access_at Ldr n q) ∷ [])
