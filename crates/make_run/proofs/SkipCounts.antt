-- How many of the first steps a schedule skips, step by step.
use Rattle.std.proofs.Common.{◌≡◌, ◌<◌, ℕ, ◌+◌, Bool, true, false, take, get_or, ap, ◌∙◌, arith}
use Rattle.std.specs.Prelude.{count_by}
use Rattle.std.specs.List.{range_with_len}
use Rattle.std.proofs.lemmas.List.FromFn.{length-range_with_len, get_or-range_with_len}
use Rattle.std.proofs.lemmas.List.Sums.{count_by_more_yes, count_by_more_no}

module _ (p : ℕ → Bool) (n i : ℕ) (low : i < n) where
  there : get_or (range_with_len 0 n) i 0 ≡ i
  there = let at = get_or-range_with_len 0 n i 0 low in omega arith

  pub counted_yes : p i ≡ true → count_by p (take (i + 1) (range_with_len 0 n)) ≡ count_by p (take i (range_with_len 0 n)) + 1
  counted_yes e = count_by_more_yes p (range_with_len 0 n) i 0 (omega (arith, length-range_with_len 0 n)) (ap p there ∙ e)

  pub counted_no : p i ≡ false → count_by p (take (i + 1) (range_with_len 0 n)) ≡ count_by p (take i (range_with_len 0 n))
  counted_no e = count_by_more_no p (range_with_len 0 n) i 0 (omega (arith, length-range_with_len 0 n)) (ap p there ∙ e)
