-- The order of places is total, and tells them apart.
use Rattle.std.proofs.Common.{◌≡◌, ℕ, Bool, true, false, cond, refl, sym, ◌∙◌, arith}
use Rattle.std.specs.Prelude.{◌==◌, nat_lt, ◌&&◌}
use Rattle.std.specs.declared.cmp.Ordering.TheVariants.{Less, Equal, Greater}
use Rattle.std.specs.Ordering.{nat_cmp, is_eq, ordering_then}
use Rattle.std.proofs.lemmas.Bool.{ltb-true, ne_eqb, true≢false}
use Rattle.std.specs.Cmp.{IsTotalOrder}
use Rattle.std.proofs.lemmas.Cmp.{nat_cmp_total, on_total, then_total}
use Rattle.std.proofs.lemmas.Map.Lookups.{CmpEqualImpliesEq, exact_unsigned, exact_pairs}
use Rattle.code_ranges.specs.Spans.{place_cmp}

same_number : (a b : ℕ) → is_eq (nat_cmp a b) ≡ (a == b)
same_number a b = go (nat_lt a b) refl
  where
    go : (l : Bool) → nat_lt a b ≡ l → is_eq (cond l Less (cond (a == b) Equal Greater)) ≡ (a == b)
    go true e = sym (ne_eqb a b (λ z. absurd (omega (arith, ltb-true a b e, z))))
    go false e = alike (a == b)
      where
        alike : (t : Bool) → is_eq (cond t Equal Greater) ≡ t
        alike true = refl
        alike false = refl

pub same_place : (a b j x : ℕ) → is_eq (place_cmp (a, b) (j, x)) ≡ ((a == j) && (b == x))
same_place a b j x = go (nat_lt a j) refl (a == j) refl
  where
    go : (l : Bool) → nat_lt a j ≡ l → (t : Bool) → (a == j) ≡ t → is_eq (ordering_then (cond l Less (cond t Equal Greater)) (nat_cmp b x)) ≡ (t && (b == x))
    go true e true f = absurd (true≢false (sym f ∙ ne_eqb a j (λ z. absurd (omega (arith, ltb-true a j e, z)))))
    go true e false f = refl
    go false e true f = same_number b x
    go false e false f = refl

pub place_total : IsTotalOrder place_cmp
place_total = then_total (on_total (λ (p : ℕ × ℕ). p.0) nat_cmp_total) (on_total (λ (p : ℕ × ℕ). p.1) nat_cmp_total)

pub place_exact : CmpEqualImpliesEq place_cmp
place_exact = exact_pairs nat_cmp nat_cmp exact_unsigned exact_unsigned
