-- Elements of lists by their numbers: in what is left of a list, and where those that come first are counted.
use Rattle.std.specs.Prelude.{◌≡◌, ◌≤◌, ℕ, zero, suc, ◌+◌, ◌==◌, ◌||◌, not, Bool, true, false, cond, List, [], ◌∷◌, ◌++◌, length, take, filter, Some, slice_get, Contains, refl}
use Rattle.std.specs.List.{count_by, list_any}
use Rattle.std.proofs.Common.{arith, inl, inr, ap, ◌∙◌, subst}
use Rattle.std.proofs.lemmas.Bool.{cases_Bool, both_ways, and_parts, or_parts}
use Rattle.std.proofs.lemmas.Option.{none-some, same_Some}
use Rattle.elf_model.specs.declared.objects.Symbol.{Symbol}
use Rattle.elf_model.specs.Constants.{local}
use Rattle.elf_model.specs.Objects.{locals_first}
use Rattle.elf_model.proofs.Lists.{count_cons}
use Rattle.elf_model.proofs.Elements.{contains_cases, contains_none, contains_here, contains_later}
use Rattle.hardened_form.specs.Symbols.{is_shared}

-- the number of an element among those that are left
pub left_at : {X : Type 0} (p : X → Bool) (xs : List X) (k : ℕ) (x : X) → slice_get xs k ≡ Some x → p x ≡ true → slice_get (filter p xs) (count_by p (take k xs)) ≡ Some x
left_at p [] k x e h = absurd (none-some x e)
left_at p (y ∷ ys) zero x e h =
    let same = same_Some y x e in
    let yes : p y ≡ true = ap p same ∙ h in
    ap (λ (b : Bool). slice_get (cond b (y ∷ filter p ys) (filter p ys)) 0) yes ∙ ap (λ (z : _). Some z) same
left_at p (y ∷ ys) (suc k) x e h =
    elim (cases_Bool (p y)) [
      | inl t ↦
          let n : count_by p (y ∷ take k ys) ≡ suc (count_by p (take k ys)) = count_cons p y (take k ys) ∙ (ap (λ (b : Bool). cond b (1 + count_by p (take k ys)) (count_by p (take k ys))) t ∙ omega arith) in
          ap (λ (b : Bool). slice_get (cond b (y ∷ filter p ys) (filter p ys)) (count_by p (y ∷ take k ys))) t ∙ (ap (λ (m : ℕ). slice_get (y ∷ filter p ys) m) n ∙ left_at p ys k x e h)
      | inr f ↦
          let n : count_by p (y ∷ take k ys) ≡ count_by p (take k ys) = count_cons p y (take k ys) ∙ ap (λ (b : Bool). cond b (1 + count_by p (take k ys)) (count_by p (take k ys))) f in
          ap (λ (b : Bool). slice_get (cond b (y ∷ filter p ys) (filter p ys)) (count_by p (y ∷ take k ys))) f ∙ (ap (λ (m : ℕ). slice_get (filter p ys) m) n ∙ left_at p ys k x e h)
    ]

count_yes : {X : Type 0} (p : X → Bool) (x : X) (xs : List X) → p x ≡ true → count_by p (x ∷ xs) ≡ 1 + count_by p xs
count_yes p x xs t = count_cons p x xs ∙ ap (λ (b : Bool). cond b (1 + count_by p xs) (count_by p xs)) t

count_no : {X : Type 0} (p : X → Bool) (x : X) (xs : List X) → p x ≡ false → count_by p (x ∷ xs) ≡ count_by p xs
count_no p x xs f = count_cons p x xs ∙ ap (λ (b : Bool). cond b (1 + count_by p xs) (count_by p xs)) f

pub count_append : {X : Type 0} (p : X → Bool) (xs ys : List X) → count_by p (xs ++ ys) ≡ count_by p xs + count_by p ys
count_append p [] ys = omega arith
count_append p (x ∷ xs) ys =
    let h = count_append p xs ys in
    elim (cases_Bool (p x)) [
      | inl t ↦ let a = count_yes p x (xs ++ ys) t in let b = count_yes p x xs t in omega (arith, a, b, h)
      | inr f ↦ let a = count_no p x (xs ++ ys) f in let b = count_no p x xs f in omega (arith, a, b, h)
    ]

pub count_all : {X : Type 0} (p : X → Bool) (xs : List X) → ((x : X) → Contains xs x → p x ≡ true) → count_by p xs ≡ length xs
count_all p [] h = refl
count_all p (x ∷ xs) h = let a = count_yes p x xs (h x (contains_here x xs)) in let b = count_all p xs (λ z c. h z (contains_later x xs z c)) in omega (arith, a, b)

pub count_none : {X : Type 0} (p : X → Bool) (xs : List X) → ((x : X) → Contains xs x → p x ≡ false) → count_by p xs ≡ 0
count_none p [] h = refl
count_none p (x ∷ xs) h = count_no p x xs (h x (contains_here x xs)) ∙ count_none p xs (λ z c. h z (contains_later x xs z c))

-- what passes a test and what does not
pub count_both : {X : Type 0} (p q : X → Bool) → ((x : X) → q x ≡ not (p x)) → (xs : List X) → count_by p xs + count_by q xs ≡ length xs
count_both p q other [] = refl
count_both p q other (x ∷ xs) =
    let h = count_both p q other xs in
    elim (cases_Bool (p x)) [
      | inl t ↦ let a = count_yes p x xs t in let b = count_no q x xs (other x ∙ ap not t) in omega (arith, a, b, h)
      | inr f ↦ let a = count_no p x xs f in let b = count_yes q x xs (other x ∙ ap not f) in omega (arith, a, b, h)
    ]

pub none_of : {X : Type 0} (p : X → Bool) (xs : List X) → list_any p xs ≡ false → (x : X) → Contains xs x → p x ≡ false
none_of p [] h x c = absurd (contains_none x c)
none_of p (y ∷ ys) h x c =
    let both = or_parts (p y) (list_any p ys) h in
    elim (contains_cases y ys x c) [ inl e ↦ subst (λ (z : _). p z ≡ false) e both.0 | inr r ↦ none_of p ys both.1 x r ]

-- local symbols come first
abbrev pub is_local : Symbol → Bool
is_local s = s.bind == local

first_parts : (s : Symbol) (rest : List Symbol) → locals_first (s ∷ rest) ≡ true → (is_local s ≡ false → list_any is_local rest ≡ false) × (locals_first rest ≡ true)
first_parts s rest h =
    let both = and_parts ((s.bind == local) || not (list_any is_local rest)) (locals_first rest) h in
    (λ f. go (list_any is_local rest) refl (subst (λ (b : Bool). (b || not (list_any is_local rest)) ≡ true) f both.0), both.1)
  where
    go : (b : Bool) → list_any is_local rest ≡ b → (not (list_any is_local rest)) ≡ true → list_any is_local rest ≡ false
    go true e n = absurd (both_ways false refl (subst (λ (b : Bool). not b ≡ true) e n))
    go false e n = e

pub shared_at : (xs : List Symbol) → locals_first xs ≡ true → (k : ℕ) (s : Symbol) → slice_get xs k ≡ Some s → count_by is_local xs ≤ k → is_local s ≡ false
shared_at [] h k s e l = absurd (none-some s e)
shared_at (y ∷ ys) h zero s e l =
    elim (cases_Bool (is_local y)) [
      | inl t ↦ let a = count_yes is_local y ys t in absurd (omega (arith, a, l))
      | inr f ↦ subst (λ (z : Symbol). is_local z ≡ false) (same_Some y s e) f
    ]
shared_at (y ∷ ys) h (suc k) s e l =
    let parts = first_parts y ys h in
    elim (cases_Bool (is_local y)) [
      | inl t ↦ let a = count_yes is_local y ys t in shared_at ys parts.1 k s e (omega (arith, a, l))
      | inr f ↦ let z = count_none is_local ys (none_of is_local ys (parts.0 f)) in shared_at ys parts.1 k s e (omega (arith, z))
    ]

-- the number of a symbol that other objects see, among those
pub shared_number : (xs : List Symbol) → locals_first xs ≡ true → (k : ℕ) (s : Symbol) → slice_get xs k ≡ Some s → is_local s ≡ false → k ≡ count_by is_local xs + count_by is_shared (take k xs)
shared_number [] h k s e n = absurd (none-some s e)
shared_number (y ∷ ys) h zero s e n =
    let f : is_local y ≡ false = ap is_local (same_Some y s e) ∙ n in
    let z = count_none is_local ys (none_of is_local ys ((first_parts y ys h).0 f)) in
    let a = count_no is_local y ys f in
    omega (arith, a, z)
shared_number (y ∷ ys) h (suc k) s e n =
    let parts = first_parts y ys h in
    let r = shared_number ys parts.1 k s e n in
    elim (cases_Bool (is_local y)) [
      | inl t ↦
          let a = count_yes is_local y ys t in
          let b : count_by is_shared (y ∷ take k ys) ≡ count_by is_shared (take k ys) = count_no is_shared y (take k ys) (ap not t) in
          omega (arith, a, b, r)
      | inr f ↦
          let z = count_none is_local ys (none_of is_local ys (parts.0 f)) in
          let a = count_no is_local y ys f in
          let b : count_by is_shared (y ∷ take k ys) ≡ 1 + count_by is_shared (take k ys) = count_yes is_shared y (take k ys) (ap not f) in
          omega (arith, a, b, r, z)
    ]
