-- Lists that grow at their ends.
use Rattle.std.proofs.Common.{◌≡◌, ℕ, zero, suc, ◌+◌, ◌<◌, ◌⊎◌, inl, inr, List, [], ◌∷◌, ◌++◌, length, take, filter, Bool, cond, refl, sym, ap, ◌∙◌, subst, arith, Some, add-one, get_or}
use Rattle.std.proofs.lemmas.Option.{slice_get_read}
use Rattle.std.specs.Prelude.{slice_get, Contains}
use Rattle.std.specs.List.{AllZip, zip, AllByRecursion}
use Rattle.std.specs.List.Sorted.{IsStrictlySortedBy}
use Rattle.std.specs.declared.cmp.Ordering.{Ordering}
use Rattle.std.specs.declared.cmp.Ordering.TheVariants.{Less}
use Rattle.std.proofs.lemmas.List.Elements.{filter-append}
use Rattle.elf_model.proofs.Elements.{contains_here, contains_later}

pub zip_push : {A B : Type 0} (xs : List A) (ys : List B) (x : A) (y : B) → length ys ≡ length xs → zip (xs ++ x ∷ []) (ys ++ y ∷ []) ≡ zip xs ys ++ (x, y) ∷ []
zip_push [] [] x y e = refl
zip_push [] (b ∷ ys) x y e = absurd (cc)
zip_push (a ∷ xs) [] x y e = absurd (cc)
zip_push (a ∷ xs) (b ∷ ys) x y e = ap (λ l. (a, b) ∷ l) (zip_push xs ys x y (omega arith))

pub all_zip_push : {A B : Type 0} (R : A → B → Type 0) (xs : List A) (ys : List B) (x : A) (y : B) → AllZip R xs ys → R x y → AllZip R (xs ++ x ∷ []) (ys ++ y ∷ [])
all_zip_push R [] [] x y all r = (r, tt)
all_zip_push R [] (b ∷ ys) x y all r = absurd all
all_zip_push R (a ∷ xs) [] x y all r = absurd all
all_zip_push R (a ∷ xs) (b ∷ ys) x y all r = (all.0, all_zip_push R xs ys x y all.1 r)

take_next : {A : Type 0} (xs : List A) (k : ℕ) (x : A) → slice_get xs k ≡ Some x → take (suc k) xs ≡ take k xs ++ x ∷ []
take_next [] zero x e = absurd (cc)
take_next [] (suc k) x e = absurd (cc)
take_next (a ∷ xs) zero x e = let s : a ≡ x = cc in ap (λ b. b ∷ []) s
take_next (a ∷ xs) (suc k) x e = ap (λ l. a ∷ l) (take_next xs k x e)

pub take_push : {A : Type 0} (xs : List A) (k : ℕ) (x : A) → slice_get xs k ≡ Some x → take (k + 1) xs ≡ take k xs ++ x ∷ []
take_push xs k x e = rw (add-one k) (take_next xs k x e)

-- the next items of two lists are alike, too
pub all_zip_next : {A B : Type 0} (R : A → B → Type 0) (xs : List A) (ys : List B) (i : ℕ) (x : A) (y : B) → i < length xs → x ≡ get_or xs i x → AllZip R (take i xs) ys → R x y → AllZip R (take (i + 1) xs) (ys ++ y ∷ [])
all_zip_next R xs ys i x y lt e all r = subst (λ (l : List _). AllZip R l (ys ++ y ∷ [])) (sym (take_push xs i x (slice_get_read xs (length xs) i x refl lt e))) (all_zip_push R (take i xs) ys x y all r)

pub filter_push : {A : Type 0} (p : A → Bool) (xs : List A) (x : A) (b : Bool) → p x ≡ b → filter p (xs ++ x ∷ []) ≡ filter p xs ++ cond b (x ∷ []) []
filter_push {A = A} p xs x b e = filter-append p xs (x ∷ []) ∙ ap (λ (l : List A). filter p xs ++ l) (ap (λ (c : Bool). cond c (x ∷ []) []) e)

-- A list that rises goes on rising with what is above all of it.
all_below_push : {A : Type 0} (P : A → Type 0) (xs : List A) (x : A) → AllByRecursion P xs → P x → AllByRecursion P (xs ++ x ∷ [])
all_below_push P [] x all p = (p, tt)
all_below_push P (a ∷ xs) x all p = (all.0, all_below_push P xs x all.1 p)

pub rising_push : {K : Type 0} (c : K → K → Ordering) (xs : List K) (x : K) → IsStrictlySortedBy c xs → ((y : K) → Contains xs y → c y x ≡ Less) → IsStrictlySortedBy c (xs ++ x ∷ [])
unfolding IsStrictlySortedBy
rising_push c [] x s below = (tt, tt)
rising_push c (a ∷ xs) x s below = (all_below_push (λ y. c a y ≡ Less) xs x s.0 (below a (contains_here a xs)), rising_push c xs x s.1 (λ y h. below y (contains_later a xs y h)))

pub get_push_cases : {A : Type 0} (xs : List A) (x y : A) (j : ℕ) → slice_get (xs ++ x ∷ []) j ≡ Some y → (slice_get xs j ≡ Some y) ⊎ ((j ≡ length xs) × (x ≡ y))
get_push_cases [] x y zero e = inr (refl, (cc))
get_push_cases [] x y (suc j) e = absurd (cc)
get_push_cases (a ∷ xs) x y zero e = inl e
get_push_cases (a ∷ xs) x y (suc j) e = elim (get_push_cases xs x y j e) [ inl old ↦ inl old | inr new ↦ inr (ap (λ (n : ℕ). suc n) new.0, new.1) ]

pub empty_list : {A : Type 0} (xs : List A) → ((x : A) → Contains xs x → ⊥) → xs ≡ []
empty_list [] none = refl
empty_list (a ∷ xs) none = absurd (none a (contains_here a xs))
