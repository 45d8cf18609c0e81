-- SMLAL and UMLAL, by a product, two sums and two moves.
use Rattle.std.proofs.Common.{◌≡◌, ◌≢◌, ℕ, ◌<◌, ◌≤◌, ◌==◌, ◌||◌, Bool, true, false, [], ◌∷◌, refl, sym, arith}
use Rattle.std.specs.Prelude.{map, ◌&&◌}
use Rattle.thumb_instr.specs.declared.operations.AluOp.TheVariants as alu
use Rattle.thumb_instr.specs.declared.operations.LongMulOp.{LongMulOp}
use Rattle.thumb_instr.specs.declared.operations.LongMulOp.TheVariants.{Smull, Umull, Smlal, Umlal}
use Rattle.thumb_instr.specs.declared.refusals.ItPlace.TheVariants.{Outside}
use Rattle.thumb_instr.specs.declared.instructions.Instr.{Instr}
use Rattle.thumb_instr.specs.declared.instructions.Instr.TheVariants.{LongMul}
use Rattle.thumb_instr.specs.Fields.{LongMulFields}
use Rattle.thumb_instr.specs.Sets.{accumulates, is_flag, reads_of, writes_of}
use Rattle.thumb_instr.specs.DataRows.{has_odd_sp, is_rrx, names}
use Rattle.thumb_encode.specs.HasFull.{has_full}
use Rattle.seq_core.specs.declared.classes.Class.TheVariants as class
use Rattle.seq_core.specs.Sequences.{Carries, Settles}
use Rattle.seq_core.specs.Groups.{IsFree, always, done}
use Rattle.seq_core.specs.Coded.{MovesCoded}
use Rattle.seq_core.specs.Sums.{AreThree, LongSumCarries}
use Rattle.seq_core.specs.Through.{long_product_to, register_sum}
use Rattle.seq_core.specs.Replaced.{long_summed, without_sum}
use Rattle.seq_core.specs.Builders.{CanBuild, HasRow, loses}
use Rattle.seq_separable.proofs.Lost.{Works, either, turned}
use Rattle.seq_separable.proofs.Known.{Laws, differs, no_both, no_stack, not_true, small}

pub record SumLaws : Type 0 where
  pub sums : LongSumCarries
  pub moves : MovesCoded

-- the three registers, and the flags
abbrev three : ℕ → ℕ → ℕ → ℕ → Bool
three a b c k = (k == a) || ((k == b) || ((k == c) || is_flag k))

three_lost : (i : LongMulFields) (a b c k : ℕ) → accumulates i.op ≡ true → loses (LongMul i) (a ∷ b ∷ c ∷ []) k ≡ false → three a b c k ≡ false
three_lost i a b c k sum e =
    let parts = either ((a == k) || ((b == k) || ((c == k) || false))) (accumulates i.op && is_flag k) e in
    let first = either (a == k) ((b == k) || ((c == k) || false)) parts.0 in
    let second = either (b == k) ((c == k) || false) first.1 in
    let third = either (c == k) false second.1 in
    let ka : (k == a) ≡ false = turned a k first.0 in
    let kb : (k == b) ≡ false = turned b k second.0 in
    let kc : (k == c) ≡ false = turned c k third.0 in
    let flag : is_flag k ≡ false = kept (accumulates i.op) (is_flag k) sum parts.1 in
    rw (ka, kb, kc) flag
  where
    kept : (s f : Bool) → s ≡ true → (s && f) ≡ false → f ≡ false
    kept true f s e = e
    kept false f s e = absurd cc

sum_carries : SumLaws → (op : LongMulOp) (a b c lo hi n m end : ℕ) → accumulates op ≡ true → AreThree a b c lo hi n m →
    Carries Settles end always (done (long_product_to op lo hi n m)) (three a b c) (map done (long_summed (long_product_to op lo hi n m) a b c))
sum_carries s Smlal a b c lo hi n m end e are = s.sums true a b c lo hi n m end are
sum_carries s Umlal a b c lo hi n m end e are = s.sums false a b c lo hi n m end are
sum_carries s Smull a b c lo hi n m end e are = absurd cc
sum_carries s Umull a b c lo hi n m end e are = absurd cc

-- a scratch register is none of the four
pub record Beside (i : LongMulFields) (q : ℕ) : Type 0 where
  pub lo : i.lo ≢ q
  pub hi : i.hi ≢ q
  pub n : i.n ≢ q
  pub m : i.m ≢ q

pub beside : (i : LongMulFields) (q : ℕ) → IsFree (LongMul i) q → Beside i q
unfolding reads_of writes_of
beside i q free =
    let reads = either (q == i.n) ((q == i.m) || (accumulates i.op && ((q == i.lo) || (q == i.hi)))) free.unread in
    let second = either (q == i.m) (accumulates i.op && ((q == i.lo) || (q == i.hi))) reads.1 in
    let written = either (q == i.lo) (q == i.hi) free.unwritten in
    record { lo = differs q i.lo written.0; hi = differs q i.hi written.1; n = differs q i.n reads.0; m = differs q i.m second.0 }

product_row : Laws → (op : LongMulOp) (a b n m : ℕ) → a < 13 → b < 13 → n ≤ 14 → m ≤ 14 → (a == b) ≡ false → (n == 13) ≡ false → (m == 13) ≡ false → HasRow (long_product_to op a b n m)
unfolding has_full
product_row laws op a b n m la lb ln lm ab ns ms =
    let a_not : (a == 13) ≡ false = no_stack a la in
    let bs : (b == 13) ≡ false = no_stack b lb in
    laws.rows (long_product_to op a b n m) (small a la, small b lb, ln, lm) (rw ab refl) (rw (a_not, bs, ns, ms) refl)

add_row : Laws → (c lo a : ℕ) → c < 13 → lo ≤ 14 → a < 13 → HasRow (register_sum alu.Add true c lo a)
unfolding has_full has_odd_sp names is_rrx
add_row laws c lo a lc ll la =
    let a_not : (a == 13) ≡ false = no_stack a la in
    let cs : (c == 13) ≡ false = no_stack c lc in
    laws.rows (register_sum alu.Add true c lo a) (small c lc, ll, small a la) refl (rw (a_not, cs) refl)

adc_row : Laws → (a hi b : ℕ) → a < 13 → hi ≤ 14 → b < 13 → (hi == 13) ≡ false → HasRow (register_sum alu.Adc false a hi b)
unfolding has_full has_odd_sp names is_rrx
adc_row laws a hi b la lh lb hs =
    let a_not : (a == 13) ≡ false = no_stack a la in
    let bs : (b == 13) ≡ false = no_stack b lb in
    laws.rows (register_sum alu.Adc false a hi b) (small a la, lh, small b lb) refl (rw (bs, a_not, hs) refl)

sum_works : Laws → SumLaws → (i : LongMulFields) (a b c copies : ℕ) → CanBuild class.LongSum (LongMul i) (a ∷ b ∷ c ∷ []) copies → Works class.LongSum (LongMul i) copies (a ∷ b ∷ c ∷ [])
sum_works laws s i a b c copies can =
    let row = can.row in
    let formed = laws.formed Outside row.first row.second (LongMul i) row.stands in
    let named = formed.registers in
    let lo_low : i.lo ≤ 14 = named.0 in
    let hi_low : i.hi ≤ 14 = named.1 in
    let apart = either (i.lo == 13) ((i.hi == 13) || ((i.n == 13) || (i.m == 13))) (laws.apart Outside row.first row.second (LongMul i) row.stands).1 in
    let above = either (i.hi == 13) ((i.n == 13) || (i.m == 13)) apart.1 in
    let factors = either (i.n == 13) (i.m == 13) above.1 in
    let free_a = can.free.0 in
    let free_b = can.free.2.0 in
    let free_c = can.free.2.2.0 in
    let others_a = either (b == a) ((c == a) || false) can.free.1 in
    let others_b = either (c == b) false can.free.2.1 in
    let ab : (a == b) ≡ false = turned b a others_a.0 in
    let near_a = beside i a free_a in
    let near_b = beside i b free_b in
    let near_c = beside i c free_c in
    let are : AreThree a b c i.lo i.hi i.n i.m = record {
      low_a = free_a.low;
      low_b = free_b.low;
      low_c = free_c.low;
      ab = differs b a others_a.0;
      ac = differs c a (either (c == a) false others_a.1).0;
      bc = differs c b others_b.0;
      a_free = (near_a.lo, near_a.hi, near_a.n, near_a.m);
      b_free = (near_b.lo, near_b.hi, near_b.n, near_b.m);
      c_free = (near_c.lo, near_c.hi, near_c.n, near_c.m);
      lo_base = omega arith;
      hi_base = omega arith;
      lo_kept = λ e. unlike i.lo apart.0 e;
      hi_kept = λ e. unlike i.hi above.0 e;
      apart = λ e. distinct i.lo i.hi (not_true (i.lo == i.hi) formed.fields) e;
    } in (
      laws.plain (LongMul i) copies (long_summed (LongMul i) a b c) (three a b c) (loses (LongMul i) (a ∷ b ∷ c ∷ [])) refl refl (refl, (refl, (refl, (refl, (refl, tt))))) (λ k. three_lost i a b c k can.of)
          (λ end. sum_carries s i.op a b c i.lo i.hi i.n i.m end can.of are),
      (
        product_row laws (without_sum i.op) a b i.n i.m free_a.low free_b.low named.2 named.3 ab factors.0 factors.1,
        (
          add_row laws c i.lo a free_c.low lo_low free_a.low,
          (
            adc_row laws a i.hi b free_a.low hi_low free_b.low above.0,
            (
              s.moves i.lo c lo_low (small c free_c.low) (no_both (i.lo == 13) (c == 13) (no_stack c free_c.low)),
              (s.moves i.hi a hi_low (small a free_a.low) (no_both (i.hi == 13) (a == 13) (no_stack a free_a.low)), tt),
            ),
          ),
        ),
      ),
    )
  where
    unlike : (r : ℕ) → (r == 13) ≡ false → r ≢ 13
    unlike r e h = differs r 13 e (sym h)

    distinct : (x y : ℕ) → (x == y) ≡ false → x ≢ y
    distinct x y e h = differs x y e (sym h)

pub summed_works : Laws → SumLaws → (i : Instr) (a b c copies : ℕ) → CanBuild class.LongSum i (a ∷ b ∷ c ∷ []) copies → Works class.LongSum i copies (a ∷ b ∷ c ∷ [])
summed_works laws s (LongMul i) a b c copies can = sum_works laws s i a b c copies can
summed_works laws s i a b c copies can = let none = can.of in absurd cc
