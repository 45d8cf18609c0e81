-- Sets of listed places, and lists that grow by what each of others gives.
use Rattle.std.proofs.Common.{◌≡◌, ◌↔◌, ◌<◌, ◌≤◌, ℕ, zero, suc, ◌+◌, List, [], ◌∷◌, ◌++◌, length, map, drop, get_or, refl, sym, ap, ◌∙◌, subst, arith, append_assoc, append-nil, add-one}
use Rattle.std.specs.Prelude.{Contains}
use Rattle.std.specs.List.{zip}
use Rattle.std.proofs.Math.Seq.{drop-cons}
use Rattle.std.proofs.lemmas.List.{drop_all}
use Rattle.flow_recover.specs.declared.flows.PoolWord.{PoolWord}
use Rattle.flow_recover.specs.Gains.{IsFrom}
use Rattle.emit_object.specs.WordPlaces.{pool_place}

-- a place gives itself
abbrev pub IsSame : ℕ × ℕ → ℕ × ℕ → Type 0
IsSame q p = (q.0 ≡ p.0) × (q.1 ≡ p.1)

pub all_same : (list : List (ℕ × ℕ)) (p : ℕ × ℕ) → IsFrom IsSame list p ↔ Contains list p
all_same list p = (
  λ h. subst (λ (z : ℕ × ℕ). Contains list z) (λ i. (h.gives.0 i, h.gives.1 i)) h.there,
  λ h. record { source = p; there = h; gives = (refl, refl) },
)

-- pool words and their places, by numbers
module _ {X Y : Type 0} where
  pub zip_length : (xs : List X) (ys : List Y) → length ys ≡ length xs → length (zip xs ys) ≡ length xs
  zip_length [] ys l = refl
  zip_length (x ∷ xs) [] l = absurd (omega arith)
  zip_length (x ∷ xs) (y ∷ ys) l = ap suc (zip_length xs ys (omega arith))

  zip_at : (xs : List X) (ys : List Y) (k : ℕ) (d : X) (u : Y) → length ys ≡ length xs → k < length xs → get_or (zip xs ys) k (d, u) ≡ (get_or xs k d, get_or ys k u)
  zip_at [] ys k d u l low = absurd (omega arith)
  zip_at (x ∷ xs) [] k d u l low = absurd (omega arith)
  zip_at (x ∷ xs) (y ∷ ys) zero d u l low = refl
  zip_at (x ∷ xs) (y ∷ ys) (suc k) d u l low = zip_at xs ys k d u (omega arith) (omega arith)

module _ (words : List PoolWord) (places : List ℕ) (same : length places ≡ length words) where
  abbrev all : List (PoolWord × ℕ)
  all = zip words places

  -- one more
  pub pool_more : (k : ℕ) (d : PoolWord) (now new : List (ℕ × ℕ)) → k < length words → now ++ map pool_place (drop k all) ≡ map pool_place all → new ≡ now ++ ((get_or words k d).section, get_or places k 0) ∷ []
      → new ++ map pool_place (drop (k + 1) all) ≡ map pool_place all
  pool_more k d now new low before is =
      let e : PoolWord × ℕ = (get_or words k d, get_or places k 0) in
      let cut : drop k all ≡ e ∷ drop (k + 1) all =
      drop-cons all k (d, 0) (omega (arith, zip_length words places same)) ∙ ap (λ (z : PoolWord × ℕ). z ∷ drop (suc k) all) (zip_at words places k d 0 same low)
      ∙ ap (λ (n : ℕ). e ∷ drop n all) (sym (add-one k)) in
      ap (λ (l : List (ℕ × ℕ)). l ++ map pool_place (drop (k + 1) all)) is ∙ append_assoc now (pool_place e ∷ []) (map pool_place (drop (k + 1) all))
      ∙ ap (λ (l : List (PoolWord × ℕ)). now ++ map pool_place l) (sym cut) ∙ before

  pub pool_all : (k : ℕ) (now : List (ℕ × ℕ)) → length words ≤ k → now ++ map pool_place (drop k all) ≡ map pool_place all → now ≡ map pool_place all
  pool_all k now high before = sym (append-nil now) ∙ ap (λ (l : List (PoolWord × ℕ)). now ++ map pool_place l) (sym (drop_all k all (omega (arith, zip_length words places same, high)))) ∙ before
