-- The relation on addresses of code.
use Rattle.std.proofs.Common.{◌≡◌, ◌≢◌, ℕ, ◌+◌, ◌%◌, ◌^◌, ◌<◌, ⊎_elim, Some, sym, ap, ◌∙◌, arith}
use Rattle.sim_charts.specs.Charts.{Chart, Point}
use Rattle.sim_charts.specs.Words.{IsCodeWord, IsTaking}
use Rattle.sim_charts.specs.Alike.{EntryTo, ReturnTo, BackOf, by_chart}
use Rattle.sim_charts.specs.Addresses.{IsProperChart}

same_point : (chart : Chart) (a b : ℕ) (p q : Point) → a ≡ b → chart a ≡ Some p → chart b ≡ Some q → p ≡ q
same_point chart a b p q e ea eb = some_is p q (sym ea ∙ ap chart e ∙ eb)
  where
    some_is : (p q : Point) → Some p ≡ Some q → p ≡ q
    some_is p q e = cc

module _ (chart : Chart) (proper : IsProperChart chart) where
  one_back : (a h k : ℕ) → BackOf chart a h → BackOf chart a k → h ≡ k
  one_back a h k x y =
      let e : x.0 ≡ y.0 = proper.one_call x.0 y.0 x.1 y.1 x.2 y.2 x.3 y.3 (omega (arith, x.4, y.4)) in
      let ep : x.1 ≡ y.1 = same_point chart x.0 y.0 x.1 y.1 e x.2 y.2 in
      x.5 ∙ ap (λ (p : Point). p.back + 1) ep ∙ sym y.5

  not_end : (a h : ℕ) → BackOf chart a h → a ≢ 0x7FFFFFFF
  not_end a h x e = let l = proper.low x.0 x.1 x.2 in absurd (omega (arith, x.4, l.0))

  one_return : (a h k : ℕ) → ReturnTo chart a h → ReturnTo chart a k → h ≡ k
  one_return a h k x y = ⊎_elim
      (λ (u : (a ≡ 0x7FFFFFFF) × (h ≡ 0x7FFFFFFF)). ⊎_elim
      (λ (v : (a ≡ 0x7FFFFFFF) × (k ≡ 0x7FFFFFFF)). u.1 ∙ sym v.1)
      (λ (v : BackOf chart a k). absurd (not_end a k v u.0))
      y)
      (λ (u : BackOf chart a h). ⊎_elim
      (λ (v : (a ≡ 0x7FFFFFFF) × (k ≡ 0x7FFFFFFF)). absurd (not_end a h u v.0))
      (λ (v : BackOf chart a k). one_back a h k u v)
      y)
      x

  one_entry : (a h k : ℕ) → EntryTo chart a h → EntryTo chart a k → h ≡ k
  one_entry a h k x y =
      let e : x.0 ≡ y.0 = omega (arith, x.4, y.4) in
      let ep : x.1 ≡ y.1 = same_point chart x.0 y.0 x.1 y.1 e x.2 y.2 in
      x.5 ∙ ap (λ (p : Point). p.place + 1) ep ∙ sym y.5

  back_odd : (a h : ℕ) → BackOf chart a h → (a % 2 ≡ 1) × (h % 2 ≡ 1)
  back_odd a h x =
      let v = proper.even x.0 x.1 x.2 in
      let w = proper.narrow x.0 x.1 x.2 in
      (⊎_elim (λ (n : x.1.width ≡ 2). omega (arith, x.4, v.0, n)) (λ (n : x.1.width ≡ 4). omega (arith, x.4, v.0, n)) w, omega (arith, x.5, v.2))

  back_low : (a h : ℕ) → BackOf chart a h → (a < 2 ^ 31) × (h < 2 ^ 31)
  back_low a h x = let l = proper.low x.0 x.1 x.2 in (omega (arith, x.4, l.0), omega (arith, x.5, l.2))

  -- both are addresses of code
  entry_words : (a h : ℕ) → EntryTo chart a h → IsCodeWord a × IsCodeWord h
  entry_words a h x =
      let v = proper.even x.0 x.1 x.2 in
      let l = proper.low x.0 x.1 x.2 in
      (record { odd = omega (arith, x.4, v.0); below = omega (arith, x.4, l.0) }, record { odd = omega (arith, x.5, v.1); below = omega (arith, x.5, l.1) })

  return_words : (a h : ℕ) → ReturnTo chart a h → IsCodeWord a × IsCodeWord h
  return_words a h x = ⊎_elim
      (λ (u : (a ≡ 0x7FFFFFFF) × (h ≡ 0x7FFFFFFF)). (record { odd = omega (arith, u.0); below = omega (arith, u.0) }, record { odd = omega (arith, u.1); below = omega (arith, u.1) }))
      (λ (u : BackOf chart a h).
      let o = back_odd a h u in
      let l = back_low a h u in
      (record { odd = o.0; below = l.0 }, record { odd = o.1; below = l.1 }))
      x

  pub determined : IsTaking (by_chart chart)
  determined = record {
    entry_once = one_entry;
    back_once = one_return;
    entry_old = λ a h x. (entry_words a h x).0;
    entry_new = λ a h x. (entry_words a h x).1;
    back_old = λ a h x. (return_words a h x).0;
    back_new = λ a h x. (return_words a h x).1;
  }
