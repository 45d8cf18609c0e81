-- SMLAL and UMLAL, by a product and two sums.
use Rattle.std.specs.Prelude.{◌≢◌, ◌<◌, ℕ, ◌==◌, ◌||◌, Bool, true, false, [], ◌∷◌}
use Rattle.thumb_instr.specs.declared.operations.AluOp.TheVariants as alu
use Rattle.thumb_instr.specs.declared.operations.LongMulOp.{LongMulOp}
use Rattle.thumb_instr.specs.declared.operations.LongMulOp.TheVariants.{Smlal, Umlal}
use Rattle.thumb_instr.specs.Sets.{is_flag}
use Rattle.seq_core.specs.Sequences.{Carries, Settles}
use Rattle.seq_core.specs.Groups.{always, done, moving}
use Rattle.seq_core.specs.Through.{product_of, long_product_to, register_sum}

abbrev pub sum_of : Bool → LongMulOp
sum_of true = Smlal
sum_of false = Umlal

-- three scratch registers, apart from each other and from four others
pub record AreThree (a b c lo hi n m : ℕ) : Type 0 where
  pub low_a : a < 13
  pub low_b : b < 13
  pub low_c : c < 13
  pub ab : a ≢ b
  pub ac : a ≢ c
  pub bc : b ≢ c
  pub a_free : (lo ≢ a) × (hi ≢ a) × (n ≢ a) × (m ≢ a)
  pub b_free : (lo ≢ b) × (hi ≢ b) × (n ≢ b) × (m ≢ b)
  pub c_free : (lo ≢ c) × (hi ≢ c) × (n ≢ c) × (m ≢ c)
  pub lo_base : lo < 15
  pub hi_base : hi < 15
  pub lo_kept : lo ≢ 13
  pub hi_kept : hi ≢ 13
  pub apart : lo ≢ hi

abbrev pub LongSumCarries : Type 0
LongSumCarries = (is_signed : Bool) (a b c lo hi n m end : ℕ) → AreThree a b c lo hi n m →
    Carries Settles end always (done (long_product_to (sum_of is_signed) lo hi n m)) (λ k. (k == a) || ((k == b) || ((k == c) || is_flag k)))
    (done (long_product_to (product_of is_signed) a b n m) ∷ done (register_sum alu.Add true c lo a) ∷ done (register_sum alu.Adc false a hi b) ∷ done (moving false lo c) ∷ done (moving false hi a) ∷ [])
