-- Lists, and sets of places, that gain what has a property: one element, none, and what each turn of a loop gives.
use Rattle.std.proofs.Common.{◌≡◌, ◌↔◌, ◌⊎◌, ◌<◌, ◌≤◌, ◌+◌, ℕ, Bool, true, false, cond, List, [], ◌∷◌, ◌++◌, length, take, get_or, refl, sym, ap, ◌∙◌, subst, inl, inr, Option, Some, None}
use Rattle.std.specs.Prelude.{Contains, ◌==◌, ◌&&◌}
use Rattle.std.specs.BTreeSet.{BTreeSet, contains}
use Rattle.std.specs.List.{list_any}
use Rattle.std.specs.Ordering.{is_eq}
use Rattle.std.proofs.lemmas.Bool.{and_parts, and_from, eqb-true, eq-eqb, true≢false}
use Rattle.std.proofs.lemmas.List.{take_more, take_all}
use Rattle.std.proofs.lemmas.List.Elements.{Contains-push, Contains-push_cases, Contains-append_left}
use Rattle.std.proofs.lemmas.Option.{none-some, same_Some}
use Rattle.flow_recover.specs.Gains.{Gains, has_place, PlacesGain, IsFrom}
use Rattle.code_ranges.specs.Spans.{place_cmp}
use Rattle.elf_model.proofs.Elements.{contains_none}
use Rattle.code_ranges.proofs.PlaceOrder.{same_place}

-- one element, or one place, is had before and after
abbrev pub Gain : Type 0 → Type 0 → Type 0 → Type 0
Gain new old P = new ↔ (old ⊎ P)

pub gain_none : (A P : Type 0) → (P → ⊥) → Gain A A P
gain_none A P never = (λ a. inl a, λ s. elim s [ inl a ↦ a | inr p ↦ absurd (never p) ])

pub gain_same : (A B P Q : Type 0) → (P → Q) → (Q → P) → Gain A B P → Gain A B Q
gain_same A B P Q to from g = (
  λ a. elim (g.0 a) [ inl b ↦ inl b | inr p ↦ inr (to p) ],
  λ s. elim s [ inl b ↦ g.1 (inl b) | inr q ↦ g.1 (inr (from q)) ],
)

pub gain_both : (A B C P Q : Type 0) → Gain B A P → Gain C B Q → Gain C A (P ⊎ Q)
gain_both A B C P Q g h = (
  λ c. elim (h.0 c) [
    | inl b ↦ elim (g.0 b) [ inl a ↦ inl a | inr p ↦ inr (inl p) ]
    | inr q ↦ inr (inr q)
  ],
  λ s. elim s [
    | inl a ↦ h.1 (inl (g.1 (inl a)))
    | inr e ↦ elim e [ inl p ↦ h.1 (inl (g.1 (inr p))) | inr q ↦ h.1 (inr q) ]
  ],
)

-- a list gains one element, and none
pub push_gains : {X : Type 0} (xs : List X) (y x : X) → Gain (Contains (xs ++ y ∷ []) x) (Contains xs x) (y ≡ x)
push_gains xs y x = (
  λ h. Contains-push_cases xs y x h,
  λ s. elim s [
    | inl h ↦ Contains-append_left xs (y ∷ []) x h
    | inr e ↦ subst (λ (z : _). Contains (xs ++ y ∷ []) z) e (Contains-push xs y)
  ],
)

pub gains_one : {Y : Type 0} (P : Y → Type 0) (xs : List Y) (x : Y) → P x → ((y : Y) → P y → x ≡ y) → Gains P xs (xs ++ x ∷ [])
gains_one P xs x is only y = gain_same (Contains (xs ++ x ∷ []) y) (Contains xs y) (x ≡ y) (P y) (λ e. subst P e is) (λ p. only y p) (push_gains xs x y)

pub gains_none : {Y : Type 0} (P : Y → Type 0) (xs : List Y) → ((y : Y) → P y → ⊥) → Gains P xs xs
gains_none P xs never y = gain_none (Contains xs y) (P y) (never y)

-- the same property in other words
pub gains_as : {Y : Type 0} (P Q : Y → Type 0) (xs new : List Y) → ((y : Y) → P y ↔ Q y) → Gains P xs new → Gains Q xs new
gains_as P Q xs new same gains y = gain_same (Contains new y) (Contains xs y) (P y) (Q y) (same y).0 (same y).1 (gains y)

-- what an answer tells of a property is what the list gains by it
abbrev pub Tells : {X Y : Type 0} → (X → Y) → Option X → (Y → Type 0) → Type 0
Tells {X} {Y} f o P = (y : Y) → P y ↔ ((x : X) × (o ≡ Some x) × (f x ≡ y))

pub gains_some : {X Y : Type 0} (P : Y → Type 0) (f : X → Y) (o : Option X) (xs : List Y) (x : X) → Tells f o P → o ≡ Some x → Gains P xs (xs ++ f x ∷ [])
gains_some P f o xs x tells e =
    gains_one P xs (f x) ((tells (f x)).1 (x, e, refl)) (λ y p. let w = (tells y).0 p in ap f (same_Some x w.0 (sym e ∙ w.1)) ∙ w.2)

pub gains_nothing : {X Y : Type 0} (P : Y → Type 0) (f : X → Y) (o : Option X) (xs : List Y) → Tells f o P → o ≡ None → Gains P xs xs
gains_nothing P f o xs tells e = gains_none P xs (λ y p. let w = (tells y).0 p in none-some w.0 (sym e ∙ w.1))

-- a set gains one place; an empty one has none
pub no_place : (places : BTreeSet (ℕ × ℕ)) → places.keys ≡ [] → (j x : ℕ) → has_place places j x ≡ true → ⊥
no_place places e j x h = true≢false (sym h ∙ ap (λ (l : List (ℕ × ℕ)). list_any (λ q. is_eq (place_cmp (j, x) q)) l) e)

pub place_more : (old new : BTreeSet (ℕ × ℕ)) (a b : ℕ) → ((q : ℕ × ℕ) → contains place_cmp new q ≡ cond (is_eq (place_cmp (a, b) q)) true (contains place_cmp old q)) → PlacesGain (λ j x. (a ≡ j) × (b ≡ x)) old new
place_more old new a b h j x = go (has_place old j x) (has_place new j x) (h (j, x) ∙ ap (λ (t : Bool). cond t true (has_place old j x)) (same_place a b j x))
  where
    go : (p q : Bool) → q ≡ cond ((a == j) && (b == x)) true p → Gain (q ≡ true) (p ≡ true) ((a ≡ j) × (b ≡ x))
    go p q e = test ((a == j) && (b == x)) refl e
      where
        test : (t : Bool) → ((a == j) && (b == x)) ≡ t → q ≡ cond t true p → Gain (q ≡ true) (p ≡ true) ((a ≡ j) × (b ≡ x))
        test true f e = (λ z. inr (let w = and_parts (a == j) (b == x) f in (eqb-true a j w.0, eqb-true b x w.1)), λ z. e)
        test false f e = (
          λ z. inl (sym e ∙ z),
          λ s. elim s [
            | inl z ↦ e ∙ z
            | inr z ↦ absurd (true≢false (sym (and_from (a == j) (b == x) (eq-eqb a j z.0) (eq-eqb b x z.1)) ∙ f))
          ],
        )

-- what each of a list gives, for one element more
from_none : {X Y : Type 0} (P : X → Y → Type 0) (y : Y) → IsFrom P [] y → ⊥
from_none P y e = contains_none e.source e.there

from_push : {X Y : Type 0} (P : X → Y → Type 0) (xs : List X) (x : X) (y : Y) → IsFrom P xs y ⊎ P x y → IsFrom P (xs ++ x ∷ []) y
from_push P xs x y s = elim s [
  | inl e ↦ record { source = e.source; there = Contains-append_left xs (x ∷ []) e.source e.there; gives = e.gives }
  | inr p ↦ record { source = x; there = Contains-push xs x; gives = p }
]

push_from : {X Y : Type 0} (P : X → Y → Type 0) (xs : List X) (x : X) (y : Y) → IsFrom P (xs ++ x ∷ []) y → IsFrom P xs y ⊎ P x y
push_from P xs x y e = elim (Contains-push_cases xs x e.source e.there) [
  | inl h ↦ inl (record { source = e.source; there = h; gives = e.gives })
  | inr same ↦ inr (subst (λ (z : _). P z y) (sym same) e.gives)
]

module _ {X Y : Type 0} (P : X → Y → Type 0) (xs : List X) where
  from_more : (i : ℕ) (d : X) (y : Y) → i < length xs → IsFrom P (take i xs) y ⊎ P (get_or xs i d) y → IsFrom P (take (i + 1) xs) y
  from_more i d y low s = subst (λ (l : List X). IsFrom P l y) (sym (take_more xs i d low)) (from_push P (take i xs) (get_or xs i d) y s)

  more_from : (i : ℕ) (d : X) (y : Y) → i < length xs → IsFrom P (take (i + 1) xs) y → IsFrom P (take i xs) y ⊎ P (get_or xs i d) y
  more_from i d y low e = push_from P (take i xs) (get_or xs i d) y (subst (λ (l : List X). IsFrom P l y) (take_more xs i d low) e)

  -- before the loop, before a turn and behind it
  turn_more : (A B C : Type 0) (i : ℕ) (d : X) (y : Y) → i < length xs → Gain B A (IsFrom P (take i xs) y) → Gain C B (P (get_or xs i d) y) → Gain C A (IsFrom P (take (i + 1) xs) y)
  turn_more A B C i d y low g h =
      gain_same C A (IsFrom P (take i xs) y ⊎ P (get_or xs i d) y) (IsFrom P (take (i + 1) xs) y) (from_more i d y low) (more_from i d y low)
      (gain_both A B C (IsFrom P (take i xs) y) (P (get_or xs i d) y) g h)

  turn_all : (A B : Type 0) (i : ℕ) (y : Y) → length xs ≤ i → Gain B A (IsFrom P (take i xs) y) → Gain B A (IsFrom P xs y)
  turn_all A B i y high g = subst (λ (l : List X). Gain B A (IsFrom P l y)) (take_all i xs high) g

  -- the turns of a loop that adds to a list
  pub gains_start : (old : List Y) → Gains (IsFrom P []) old old
  gains_start old y = gain_none (Contains old y) (IsFrom P [] y) (from_none P y)

  pub gains_more : (i : ℕ) (d : X) (old now new : List Y) → i < length xs → Gains (IsFrom P (take i xs)) old now → Gains (P (get_or xs i d)) now new → Gains (IsFrom P (take (i + 1) xs)) old new
  gains_more i d old now new low before turn y = turn_more (Contains old y) (Contains now y) (Contains new y) i d y low (before y) (turn y)

  pub gains_all : (i : ℕ) (old new : List Y) → length xs ≤ i → Gains (IsFrom P (take i xs)) old new → Gains (IsFrom P xs) old new
  gains_all i old new high before y = turn_all (Contains old y) (Contains new y) i y high (before y)

  -- one turn over elements that a call gave, at one of them
  pub gains_item : (items : List X) (i : ℕ) (d x : X) (old now new : List Y) → items ≡ xs → i < length items → x ≡ get_or items i d → Gains (IsFrom P (take i xs)) old now → Gains (P x) now new
      → Gains (IsFrom P (take (i + 1) xs)) old new
  gains_item items i d x old now new same low is before turn =
      gains_more i d old now new (subst (λ (l : List X). i < length l) same low) before
      (subst (λ (z : X). Gains (P z) now new) (is ∙ ap (λ (l : List X). get_or l i d) same) turn)

-- the turns of a loop that adds to a set of places
module _ {X : Type 0} (P : X → ℕ × ℕ → Type 0) (xs : List X) where
  pub places_start : (old : BTreeSet (ℕ × ℕ)) → PlacesGain (λ j x. IsFrom P [] (j, x)) old old
  places_start old j x = gain_none (has_place old j x ≡ true) (IsFrom P [] (j, x)) (from_none P (j, x))

  pub places_more : (i : ℕ) (d : X) (old now new : BTreeSet (ℕ × ℕ)) → i < length xs → PlacesGain (λ j x. IsFrom P (take i xs) (j, x)) old now → PlacesGain (λ j x. P (get_or xs i d) (j, x)) now new
      → PlacesGain (λ j x. IsFrom P (take (i + 1) xs) (j, x)) old new
  places_more i d old now new low before turn j x = turn_more P xs (has_place old j x ≡ true) (has_place now j x ≡ true) (has_place new j x ≡ true) i d (j, x) low (before j x) (turn j x)

  pub places_item : (i : ℕ) (z : X) (old now new : BTreeSet (ℕ × ℕ)) → i < length xs → z ≡ get_or xs i z → PlacesGain (λ j x. IsFrom P (take i xs) (j, x)) old now → PlacesGain (λ j x. P z (j, x)) now new
      → PlacesGain (λ j x. IsFrom P (take (i + 1) xs) (j, x)) old new
  places_item i z old now new low is before turn = places_more i z old now new low before (subst (λ (y : X). PlacesGain (λ j x. P y (j, x)) now new) is turn)

  pub places_all : (i : ℕ) (old new : BTreeSet (ℕ × ℕ)) → length xs ≤ i → PlacesGain (λ j x. IsFrom P (take i xs) (j, x)) old new → PlacesGain (λ j x. IsFrom P xs (j, x)) old new
  places_all i old new high before j x = turn_all P xs (has_place old j x ≡ true) (has_place new j x ≡ true) i (j, x) high (before j x)
