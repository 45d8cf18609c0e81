-- Texts that are cut at a byte.
use Rattle.std.proofs.Common.{◌≡◌, ◌≢◌, ◌<◌, ℕ, suc, List, [], ◌∷◌, ◌++◌, length, get_or, refl, arith}

-- a text without this byte
abbrev pub Lacks : ℕ → List ℕ → Type 0
Lacks c bs = (i : ℕ) → i < length bs → get_or bs i 0 ≢ c

lacks_head : (c b : ℕ) (bs : List ℕ) → Lacks c (b ∷ bs) → b ≢ c
lacks_head c b bs none = none 0 (omega arith)

lacks_tail : (c b : ℕ) (bs : List ℕ) → Lacks c (b ∷ bs) → Lacks c bs
lacks_tail c b bs none i below = none (suc i) (omega arith)

-- A text is cut at the first of a byte in one way.
pub same_cut : (c : ℕ) (xs ys xs' ys' : List ℕ) → xs ++ c ∷ ys ≡ xs' ++ c ∷ ys' → Lacks c xs → Lacks c xs' → (xs ≡ xs') × (ys ≡ ys')
same_cut c [] ys [] ys' e none none' = (refl, cc)
same_cut c [] ys (x' ∷ xs') ys' e none none' = let h : x' ≡ c = cc in absurd (lacks_head c x' xs' none' h)
same_cut c (x ∷ xs) ys [] ys' e none none' = let h : x ≡ c = cc in absurd (lacks_head c x xs none h)
same_cut c (x ∷ xs) ys (x' ∷ xs') ys' e none none' =
    let h : x ≡ x' = cc in
    let t : xs ++ c ∷ ys ≡ xs' ++ c ∷ ys' = cc in
    let rest = same_cut c xs ys xs' ys' t (lacks_tail c x xs none) (lacks_tail c x' xs' none') in
    (let r = rest.0 in cc, rest.1)

-- A text that is cut has the byte.
pub cut_holds : (c : ℕ) (xs ys : List ℕ) → Lacks c (xs ++ c ∷ ys) → ⊥
cut_holds c [] ys none = lacks_head c c ys none refl
cut_holds c (x ∷ xs) ys none = cut_holds c xs ys (lacks_tail c x (xs ++ c ∷ ys) none)
