-- Registers that are used as numbers.
use Rattle.std.proofs.Common.{◌≡◌, ℕ, Bool, true, false, List, [], ◌∷◌, ◌++◌, IsTrue}
use Rattle.std.specs.Prelude.{All}
use Rattle.std.proofs.lemmas.List.Elements.{All-nil, All-cons, All-head, All-tail, All-append}

pub front : (P : ℕ → Type 0) (xs ys : List ℕ) → All P (xs ++ ys) → All P xs
front P [] ys h = All-nil P
front P (x ∷ xs) ys h = All-cons P x xs (All-head P x (xs ++ ys) h) (front P xs ys (All-tail P x (xs ++ ys) h))

pub behind : (P : ℕ → Type 0) (xs ys : List ℕ) → All P (xs ++ ys) → All P ys
behind P [] ys h = h
behind P (x ∷ xs) ys h = behind P xs ys (All-tail P x (xs ++ ys) h)

-- two tests, of which the first holds or fails
pub then_both : (P : ℕ → Type 0) (xs ys : List ℕ) (a b : Bool) → a ≡ true → (IsTrue a → All P xs) × (All P xs → IsTrue a) → (IsTrue b → All P ys) × (All P ys → IsTrue b)
    → (IsTrue b → All P (xs ++ ys)) × (All P (xs ++ ys) → IsTrue b)
then_both P xs ys a b e first second = (λ t. All-append P xs ys (first.0 e) (second.0 t), λ h. second.1 (behind P xs ys h))

pub else_none : (P : ℕ → Type 0) (xs ys : List ℕ) (a : Bool) → a ≡ false → (IsTrue a → All P xs) × (All P xs → IsTrue a)
    → (IsTrue a → All P (xs ++ ys)) × (All P (xs ++ ys) → IsTrue a)
else_none P xs ys a e first = (λ t. let no : a ≡ true = t in absurd (cc), λ h. first.1 (front P xs ys h))
