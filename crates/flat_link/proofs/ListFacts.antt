-- Lists that a loop walks over: what comes next, and what is made so far.
use Rattle.std.proofs.Common.{◌≡◌, ◌<◌, ℕ, zero, suc, ◌+◌, Bool, true, false, cond, List, [], ◌∷◌, ◌++◌, length, drop, take, get_or, filter, sym, ap, ◌∙◌, subst, inl, inr, arith, append_assoc, Some}
use Rattle.std.specs.Prelude.{◌⊎◌, Contains, slice_get, find}
use Rattle.std.specs.List.{list_all}
use Rattle.std.proofs.Math.Seq.{drop-cons}
use Rattle.std.proofs.lemmas.Bool.{cases_Bool, both_ways}
use Rattle.std.proofs.lemmas.Option.{none-some, same_Some}
use Rattle.std.proofs.lemmas.List.Folds.{list_all_at}
use Rattle.std.proofs.lemmas.List.Elements.{Contains-append_cases}
use Rattle.elf_model.proofs.Elements.{contains_cases, contains_here, contains_later, contains_none, contains_filter, contains_at}

-- the element that comes next
pub next : {X : Type 0} (xs : List X) (i : ℕ) (x : X) → i < length xs → x ≡ get_or xs i x → drop i xs ≡ x ∷ drop (i + 1) xs
next xs i x l e =
    let s : suc i ≡ i + 1 = omega arith in
    drop-cons xs i x l ∙ ap (λ (y : _). y ∷ drop (suc i) xs) (sym e) ∙ ap (λ (k : ℕ). x ∷ drop k xs) s

-- an element by its number
pub there_at : {X : Type 0} (xs : List X) (i : ℕ) (x : X) → i < length xs → x ≡ get_or xs i x → slice_get xs i ≡ Some x
there_at [] i x l e = absurd (omega arith)
there_at (y ∷ ys) zero x l e = ap (λ (z : _). Some z) (sym e)
there_at (y ∷ ys) (suc i) x l e = there_at ys i x (omega arith) e

-- one element more
pub taken : {X : Type 0} (xs : List X) (i : ℕ) (x : X) → i < length xs → x ≡ get_or xs i x → take (i + 1) xs ≡ take i xs ++ x ∷ []
taken [] i x l e = absurd (omega arith)
taken (y ∷ ys) zero x l e = ap (λ (z : _). z ∷ []) (sym e)
taken (y ∷ ys) (suc i) x l e = let s : suc i + 1 ≡ suc (i + 1) = omega arith in ap (λ (k : ℕ). take k (y ∷ ys)) s ∙ ap (λ (t : List _). y ∷ t) (taken ys i x (omega arith) e)

pub has_at : {X : Type 0} (xs : List X) (i : ℕ) (x : X) → i < length xs → x ≡ get_or xs i x → Contains xs x
has_at xs i x l e = (i, l, sym e)

-- what all have, each has
pub each : {X : Type 0} (p : X → Bool) (xs : List X) (i : ℕ) (x : X) → list_all p xs ≡ true → i < length xs → x ≡ get_or xs i x → p x ≡ true
each p xs i x h l e =
    elim (cases_Bool (p x)) [
      | inl y ↦ y
      | inr n ↦ absurd (both_ways (list_all p xs) (list_all_at p xs i x l (subst (λ (y : _). p y ≡ false) e n)) h)
    ]

-- What is made so far, and what the rest will give: one step of a walk.
pub walk : {Y : Type 0} (done new made rest left z : List Y) → left ≡ made ++ rest → new ≡ done ++ made → done ++ left ≡ z → new ++ rest ≡ z
walk done new made rest left z l n h =
    ap (λ (t : List _). t ++ rest) n ∙ append_assoc done made rest ∙ ap (λ (t : List _). done ++ t) (sym l) ∙ h

-- the same, where nothing is made
pub walk_on : {Y : Type 0} (done new rest left z : List Y) → left ≡ rest → new ≡ done → done ++ left ≡ z → new ++ rest ≡ z
walk_on done new rest left z l n h = ap (λ (t : List _). t ++ rest) n ∙ ap (λ (t : List _). done ++ t) (sym l) ∙ h

-- each element is followed by those that R has it before
pub data InOrder {X : Type 0} (R : X → X → Type 0) : List X → Type 0 where
  none : InOrder R []
  before : (x : X) (xs : List X) → ((y : X) → Contains xs y → R x y) → InOrder R xs → InOrder R (x ∷ xs)

pub order_filter : {X : Type 0} (R : X → X → Type 0) (p : X → Bool) (xs : List X) → InOrder R xs → InOrder R (filter p xs)
order_filter R p _ none = none
order_filter R p _ (before x xs h more) =
    elim (cases_Bool (p x)) [
      | inl y ↦
          subst (λ (l : List _). InOrder R l) (sym (ap (λ (b : Bool). cond b (x ∷ filter p xs) (filter p xs)) y))
          (before x (filter p xs) (λ z c. h z (contains_filter p xs z c).0) (order_filter R p xs more))
      | inr n ↦ subst (λ (l : List _). InOrder R l) (sym (ap (λ (b : Bool). cond b (x ∷ filter p xs) (filter p xs)) n)) (order_filter R p xs more)
    ]

-- the first that passes is the one that was found, or comes before each other that passes
pub found_first : {X : Type 0} (R : X → X → Type 0) (p : X → Bool) (xs : List X) (f d : X) → InOrder R xs → find p xs ≡ Some f → Contains xs d → p d ≡ true → (f ≡ d) ⊎ R f d
found_first R p _ f d none e c y = absurd (contains_none d c)
found_first R p _ f d (before x xs h more) e c y =
    elim (cases_Bool (p x)) [
      | inl t ↦
          let same : x ≡ f = same_Some x f (sym (ap (λ (b : Bool). cond b (Some x) (find p xs)) t) ∙ e) in
          elim (contains_cases x xs d c) [
            | inl q ↦ inl (sym same ∙ q)
            | inr r ↦ inr (subst (λ (z : _). R z d) same (h d r))
          ]
      | inr n ↦
          elim (contains_cases x xs d c) [
            | inl q ↦ absurd (both_ways (p x) n (subst (λ (z : _). p z ≡ true) (sym q) y))
            | inr r ↦ found_first R p xs f d more (sym (ap (λ (b : Bool). cond b (Some x) (find p xs)) n) ∙ e) r y
          ]
    ]

-- an element that stands before another
pub order_at : {X : Type 0} (R : X → X → Type 0) (xs : List X) (i j : ℕ) (x y : X) → InOrder R xs → i < j → slice_get xs i ≡ Some x → slice_get xs j ≡ Some y → R x y
order_at R _ i j x y none l a b = absurd (none-some x a)
order_at R _ i zero x y (before z zs h more) l a b = absurd (omega arith)
order_at R _ zero (suc j) x y (before z zs h more) l a b =
    subst (λ (w : _). R w y) (same_Some z x a) (h y (contains_at zs j y b))
order_at R _ (suc i) (suc j) x y (before z zs h more) l a b = order_at R zs i j x y more (omega arith) a b

-- of two elements, one stands before the other, or they are one
pub order_cases : {X : Type 0} (R : X → X → Type 0) (xs : List X) (x y : X) → InOrder R xs → Contains xs x → Contains xs y → (x ≡ y) ⊎ (R x y ⊎ R y x)
order_cases R _ x y none c d = absurd (contains_none x c)
order_cases R _ x y (before z zs h more) c d =
    elim (contains_cases z zs x c) [
      | inl e ↦
          elim (contains_cases z zs y d) [
            | inl f ↦ inl (sym e ∙ f)
            | inr s ↦ inr (inl (subst (λ (w : _). R w y) e (h y s)))
          ]
      | inr r ↦
          elim (contains_cases z zs y d) [
            | inl f ↦ inr (inr (subst (λ (w : _). R w x) f (h x r)))
            | inr s ↦ order_cases R zs x y more r s
          ]
    ]

pub order_append : {X : Type 0} (R : X → X → Type 0) (xs ys : List X) → InOrder R xs → InOrder R ys → ((x y : X) → Contains xs x → Contains ys y → R x y) → InOrder R (xs ++ ys)
order_append R _ ys none h far = h
order_append R _ ys (before x xs b more) h far =
    before x (xs ++ ys) (λ y c. elim (Contains-append_cases xs ys y c) [ inl l ↦ b y l | inr r ↦ far x y (contains_here x xs) r ])
    (order_append R xs ys more h (λ z y c d. far z y (contains_later x xs z c) d))
