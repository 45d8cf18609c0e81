-- A text may be compared with a short name by its first bytes alone.
use Rattle.std.proofs.Common.{◌≡◌, ◌<◌, ℕ, zero, suc, ◌+◌, Bool, true, false, cond, not, ◌&&◌, List, [], ◌∷◌, length, take, refl, sym, ap, ◌∙◌, arith}
use Rattle.std.specs.Prelude.{nat_eq}
use Rattle.std.specs.List.{before_first, position_or_len}
use Rattle.elf_model.specs.Fields.{same_name}

stops : (z : ℕ → Bool) (x : ℕ) (xs : List ℕ) → z x ≡ true → before_first z (x ∷ xs) ≡ []
stops z x xs e = ap (λ (t : Bool). take (cond (not t) (1 + position_or_len z xs) 0) (x ∷ xs)) e

goes_on : (z : ℕ → Bool) (x : ℕ) (xs : List ℕ) → z x ≡ false → before_first z (x ∷ xs) ≡ x ∷ before_first z xs
goes_on z x xs e =
    let next : 1 + position_or_len z xs ≡ suc (position_or_len z xs) = omega arith in
    ap (λ (t : Bool). take (cond (not t) (1 + position_or_len z xs) 0) (x ∷ xs)) e ∙ ap (λ (n : ℕ). take n (x ∷ xs)) next

-- the text of the first bytes is the first bytes of the text
first_bytes : (z : ℕ → Bool) (m : ℕ) (xs : List ℕ) → before_first z (take m xs) ≡ take m (before_first z xs)
first_bytes z zero xs = refl
first_bytes z (suc m) [] = refl
first_bytes z (suc m) (x ∷ xs) = go (z x) refl (first_bytes z m xs)
  where
    go : (t : Bool) → z x ≡ t → before_first z (take m xs) ≡ take m (before_first z xs) → before_first z (x ∷ take m xs) ≡ take (suc m) (before_first z (x ∷ xs))
    go true e rest = stops z x (take m xs) e ∙ sym (ap (take (suc m)) (stops z x xs e))
    go false e rest = goes_on z x (take m xs) e ∙ ap (λ (ys : List ℕ). x ∷ ys) rest ∙ sym (ap (take (suc m)) (goes_on z x xs e))

same_start : (ys name : List ℕ) (m : ℕ) → length name < m → same_name (take m ys) name ≡ same_name ys name
same_start ys name zero l = absurd (omega arith)
same_start [] name (suc m) l = refl
same_start (y ∷ ys) [] (suc m) l = refl
same_start (y ∷ ys) (n ∷ name) (suc m) l = ap (λ (t : Bool). nat_eq y n && t) (same_start ys name m (omega arith))

pub short_name : (z : ℕ → Bool) (m : ℕ) (xs name : List ℕ) → length name < m → same_name (before_first z (take m xs)) name ≡ same_name (before_first z xs) name
short_name z m xs name l = ap (λ (ys : List ℕ). same_name ys name) (first_bytes z m xs) ∙ same_start (before_first z xs) name m l
