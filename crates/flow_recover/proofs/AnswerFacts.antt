-- What a test says, an option of what is found, and a call that succeeds.
use Rattle.std.proofs.Common.{◌≡◌, ◌↔◌, Bool, true, false, not, refl, sym, ap, ◌∙◌, subst, Option, Some, None, Ok, Err, IfSome, OnOk, Result}
use Rattle.std.proofs.lemmas.Option.{none-some, same_Some}

pub not_true : (b : Bool) → not b ≡ true → b ≡ false
not_true true t = sym t
not_true false t = refl

pub never_true : (b : Bool) → (b ≡ true → ⊥) → not b ≡ true
never_true true h = absurd (h refl)
never_true false h = refl

pub if_some : {X : Type 0} (r : Option X) (P : X → Type 0) → ((x : X) → r ≡ Some x → P x) → IfSome r P
if_some None P h = tt
if_some (Some x) P h = h x refl

-- an option that is equal to one that decides
pub same_option : {X : Type 0} (P : X → Type 0) (r q : Option X) → r ≡ q → ((x : X) → (q ≡ Some x) ↔ P x) → (x : X) → (r ≡ Some x) ↔ P x
same_option P r q e h x = (λ s. (h x).0 (sym e ∙ s), λ p. e ∙ (h x).1 p)

-- where there is none, and where there is this one alone
pub none_is : {X : Type 0} (P : X → Type 0) → ((x : X) → P x → ⊥) → (x : X) → (None ≡ Some x) ↔ P x
none_is P never x = (λ e. absurd (none-some x e), λ p. absurd (never x p))

pub some_is : {X : Type 0} (P : X → Type 0) (y : X) → P y → ((x : X) → P x → y ≡ x) → (x : X) → (Some y ≡ Some x) ↔ P x
some_is P y here one x = (λ e. subst P (same_Some y x e) here, λ p. ap (λ (z : _). Some z) (one x p))

pub none_of : {X : Type 0} (P : X → Type 0) → ((x : X) → (None ≡ Some x) ↔ P x) → (x : X) → P x → ⊥
none_of P h x p = none-some x ((h x).1 p)

pub this_of : {X : Type 0} (P : X → Type 0) (y : X) → ((x : X) → (Some y ≡ Some x) ↔ P x) → P y
this_of P y h = (h y).0 refl

pub one_of : {X : Type 0} (P : X → Type 0) (y : X) → ((x : X) → (Some y ≡ Some x) ↔ P x) → (x : X) → P x → y ≡ x
one_of P y h x p = same_Some y x ((h x).1 p)

-- what holds where a call succeeds, from what it ensures
pub if_done : {X E : Type 0} (r : Result X E) (P Q : Type 0) → OnOk r P → (P → Q) → OnOk r Q
if_done (Ok x) P Q h f = f h
if_done (Err e) P Q h f = tt
