-- Numbers in rising order, each once.
use Rattle.std.proofs.Common.{◌≡◌, ◌≤◌, ◌<◌, ℕ, zero, suc, ◌+◌, List, [], ◌∷◌, sym, ap, ◌∙◌, subst, inl, inr, ◌⊎◌, arith}
use Rattle.std.specs.Prelude.{Contains, ◌↔◌, slice_index}
use Rattle.std.specs.List.Sorted.{IsStrictlyIncreasing}
use Rattle.std.proofs.lemmas.Bool.{cases_lt}
use Rattle.elf_model.proofs.Elements.{contains_cases, contains_here, contains_later, contains_none}
use Rattle.flat_link.proofs.ListFacts.{InOrder, none, before}

abbrev pub Less : ℕ → ℕ → Type 0
Less a b = a < b

either : (x : ℕ) (xs : List ℕ) (a : ℕ) → (x ≡ a) ⊎ Contains xs a → Contains (x ∷ xs) a
either x xs a (inl e) = subst (λ (z : ℕ). Contains (x ∷ xs) z) e (contains_here x xs)
either x xs a (inr c) = contains_later x xs a c

record Inserted (x : ℕ) (xs : List ℕ) : Type 0 where
  pub list : List ℕ
  pub order : InOrder Less list
  pub there : (a : ℕ) → Contains list a → (x ≡ a) ⊎ Contains xs a
  pub back : (a : ℕ) → (x ≡ a) ⊎ Contains xs a → Contains list a

inserted : (x : ℕ) (xs : List ℕ) → InOrder Less xs → Inserted x xs
inserted x _ none = record { list = x ∷ []; order = before x [] (λ y c. absurd (contains_none y c)) none; there = contains_cases x []; back = either x [] }
inserted x _ (before y ys h more) =
    elim (cases_lt x y) [
      | inl less ↦ record {
        list = x ∷ y ∷ ys;
        order = before x (y ∷ ys) (λ z c. elim (contains_cases y ys z c) [ inl e ↦ subst (λ (m : ℕ). x < m) e less | inr r ↦ let l = h z r in omega arith ]) (before y ys h more);
        there = contains_cases x (y ∷ ys);
        back = either x (y ∷ ys);
      }
      | inr high ↦ elim (cases_lt y x) [
        | inl less ↦ behind less (inserted x ys more)
        | inr low ↦
            let same : y ≡ x = omega arith in
            record {
              list = y ∷ ys;
              order = before y ys h more;
              there = λ a c. inr c;
              back = λ a e. elim e [ inl i ↦ either y ys a (inl (same ∙ i)) | inr c ↦ c ];
            }
      ]
    ]
  where
    behind : y < x → Inserted x ys → Inserted x (y ∷ ys)
    behind less r = record {
      list = y ∷ r.list;
      order = before y r.list (λ z c. elim (r.there z c) [ inl e ↦ subst (λ (m : ℕ). y < m) e less | inr d ↦ h z d ]) r.order;
      there = λ a c. elim (contains_cases y r.list a c) [ inl e ↦ inr (either y ys a (inl e)) | inr d ↦ elim (r.there a d) [ inl e ↦ inl e | inr q ↦ inr (contains_later y ys a q) ] ];
      back = λ a e. elim e [
        | inl i ↦ contains_later y r.list a (r.back a (inl i))
        | inr c ↦ elim (contains_cases y ys a c) [ inl i ↦ either y r.list a (inl i) | inr q ↦ contains_later y r.list a (r.back a (inr q)) ]
      ];
    }

-- the same numbers in order
pub record Sorted (xs : List ℕ) : Type 0 where
  pub list : List ℕ
  pub order : InOrder Less list
  pub there : (a : ℕ) → Contains list a → Contains xs a
  pub back : (a : ℕ) → Contains xs a → Contains list a

pub sorted : (xs : List ℕ) → Sorted xs
sorted [] = record { list = []; order = none; there = λ a c. c; back = λ a c. c }
sorted (x ∷ xs) =
    let s = sorted xs in
    let r = inserted x s.list s.order in
    record {
      list = r.list;
      order = r.order;
      there = λ a c. elim (r.there a c) [ inl e ↦ either x xs a (inl e) | inr d ↦ contains_later x xs a (s.there a d) ];
      back = λ a c. elim (contains_cases x xs a c) [ inl e ↦ r.back a (inl e) | inr d ↦ r.back a (inr (s.back a d)) ];
    }

pub increasing : (xs : List ℕ) → InOrder Less xs → IsStrictlyIncreasing xs
increasing _ none k less = absurd (omega arith)
increasing _ (before x [] h more) k less = absurd (omega arith)
increasing _ (before x (y ∷ ys) h more) zero less = h y (contains_here y ys)
increasing _ (before x (y ∷ ys) h more) (suc k) less =
    let e : suc k + 1 ≡ suc (k + 1) = omega arith in
    subst (λ (i : ℕ). slice_index (x ∷ y ∷ ys) (suc k) < slice_index (x ∷ y ∷ ys) i) (sym e) (increasing (y ∷ ys) more k (omega arith))
