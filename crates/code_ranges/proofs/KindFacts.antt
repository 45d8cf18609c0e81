-- What begins at a place is what the last mapping symbol there says.
use Rattle.std.proofs.Common.{◌≡◌, ◌<◌, ℕ, zero, suc, Bool, true, false, List, [], ◌∷◌, refl, sym, ap, ◌∙◌, inl, inr, arith, Option, Some, None}
use Rattle.std.specs.Prelude.{◌&&◌, ◌||◌, is_some, slice_get}
use Rattle.std.specs.Option.{option_or}
use Rattle.std.specs.List.{list_any}
use Rattle.std.proofs.Math.Bool.{and-true}
use Rattle.std.proofs.lemmas.Bool.{cases_Bool, and_from, and_left, and_right, cond-true, cond-false, true≢false, false_from_ne_true}
use Rattle.std.proofs.lemmas.Option.{none-some, same_Some}
use Rattle.elf_model.specs.declared.objects.Symbol.{Symbol}
use Rattle.elf_model.specs.declared.ranges.RangeKind.{RangeKind}
use Rattle.elf_model.specs.Objects.{ObjectParts}
use Rattle.elf_model.specs.Ranges.{is_mapping, kind_of, stands_at, is_mapped, IsBeginning}
use Rattle.elf_model.proofs.MappingSymbols.{kind_from_name, name_from_kind, mapping_is_some}
use Rattle.code_ranges.specs.Spans.{kind_by, kind_at}

by_parts : (j x : ℕ) (s : Symbol) (kind : RangeKind) → kind_by j x s ≡ Some kind → (stands_at j x s.home s.value ≡ true) × (kind_of s ≡ Some kind)
by_parts j x s kind h =
    elim (cases_Bool (stands_at j x s.home s.value)) [
      | inl y ↦ (y, sym (cond-true (stands_at j x s.home s.value) (kind_of s) None y) ∙ h)
      | inr n ↦ absurd (none-some kind (sym (cond-false (stands_at j x s.home s.value) (kind_of s) None n) ∙ h))
    ]

by_from : (j x : ℕ) (s : Symbol) (kind : RangeKind) → stands_at j x s.home s.value ≡ true → kind_of s ≡ Some kind → kind_by j x s ≡ Some kind
by_from j x s kind y e = cond-true (stands_at j x s.home s.value) (kind_of s) None y ∙ e

-- a mapping symbol stands at a place exactly where it says what begins there
by_mapping : (j x : ℕ) (s : Symbol) → (is_mapping s && stands_at j x s.home s.value) ≡ is_some (kind_by j x s)
by_mapping j x s =
    elim (cases_Bool (stands_at j x s.home s.value)) [
      | inl y ↦
          ap (λ (b : Bool). is_mapping s && b) y ∙ and-true (is_mapping s) ∙ mapping_is_some s ∙ ap (λ (k : Option RangeKind). is_some k) (sym (cond-true (stands_at j x s.home s.value) (kind_of s) None y))
      | inr n ↦ and_right (is_mapping s) (stands_at j x s.home s.value) n ∙ ap (λ (k : Option RangeKind). is_some k) (sym (cond-false (stands_at j x s.home s.value) (kind_of s) None n))
    ]

is_none_from : (o : Option RangeKind) → is_some o ≡ false → o ≡ None
is_none_from None h = refl
is_none_from (Some k) h = absurd (true≢false h)

none_by : (j x : ℕ) (s : Symbol) → (is_mapping s ≡ true → stands_at j x s.home s.value ≡ false) → kind_by j x s ≡ None
none_by j x s h =
    is_none_from (kind_by j x s) (sym (by_mapping j x s)
    ∙ elim (cases_Bool (is_mapping s)) [
      | inl y ↦ and_right (is_mapping s) (stands_at j x s.home s.value) (h y)
      | inr n ↦ and_left (is_mapping s) (stands_at j x s.home s.value) n
    ])

by_none : (j x : ℕ) (s : Symbol) → kind_by j x s ≡ None → is_mapping s ≡ true → stands_at j x s.home s.value ≡ false
by_none j x s e y =
    false_from_ne_true (stands_at j x s.home s.value) (λ z. true≢false (sym (and_from (is_mapping s) (stands_at j x s.home s.value) y z) ∙ by_mapping j x s ∙ ap (λ (k : Option RangeKind). is_some k) e))

-- where nothing begins no symbol says that something does
none_at : (xs : List Symbol) (j x : ℕ) → kind_at xs j x ≡ None → (k : ℕ) (other : Symbol) → slice_get xs k ≡ Some other → kind_by j x other ≡ None
none_at [] j x h k other at = absurd (none-some other at)
none_at (s ∷ rest) j x h zero other at = go (kind_at rest j x) h
  where
    go : (o : Option RangeKind) → option_or o (kind_by j x s) ≡ None → kind_by j x other ≡ None
    go None e = ap (kind_by j x) (sym (same_Some s other at)) ∙ e
    go (Some a) e = absurd (none-some a (sym e))
none_at (s ∷ rest) j x h (suc k) other at = go (kind_at rest j x) refl h (λ e. none_at rest j x e k other at)
  where
    go : (o : Option RangeKind) → kind_at rest j x ≡ o → option_or o (kind_by j x s) ≡ None → (kind_at rest j x ≡ None → kind_by j x other ≡ None) → kind_by j x other ≡ None
    go None f e more = more f
    go (Some a) f e more = absurd (none-some a (sym e))

all_none : (xs : List Symbol) (j x : ℕ) → ((k : ℕ) (other : Symbol) → slice_get xs k ≡ Some other → kind_by j x other ≡ None) → kind_at xs j x ≡ None
all_none [] j x h = refl
all_none (s ∷ rest) j x h = ap (λ (o : Option RangeKind). option_or o (kind_by j x s)) (all_none rest j x (λ k other at. h (suc k) other at)) ∙ h zero s refl

-- the last symbol that says what begins at a place
pub record IsLastKind (xs : List Symbol) (kind : RangeKind) (j x : ℕ) : Type 0 where
  pub index : ℕ
  pub symbol : Symbol
  pub there : slice_get xs index ≡ Some symbol
  pub says : kind_by j x symbol ≡ Some kind
  pub last : (k : ℕ) (other : Symbol) → index < k → slice_get xs k ≡ Some other → kind_by j x other ≡ None

pub last_kind : (xs : List Symbol) (kind : RangeKind) (j x : ℕ) → kind_at xs j x ≡ Some kind → IsLastKind xs kind j x
last_kind [] kind j x h = absurd (none-some kind h)
last_kind (s ∷ rest) kind j x h = go (kind_at rest j x) refl h (last_kind rest kind j x)
  where
    behind_first : kind_at rest j x ≡ None → (k : ℕ) (other : Symbol) → 0 < k → slice_get (s ∷ rest) k ≡ Some other → kind_by j x other ≡ None
    behind_first e zero other l at = absurd (omega (arith, l))
    behind_first e (suc k) other l at = none_at rest j x e k other at

    behind : (r : IsLastKind rest kind j x) (k : ℕ) (other : Symbol) → suc r.index < k → slice_get (s ∷ rest) k ≡ Some other → kind_by j x other ≡ None
    behind r zero other l at = absurd (omega (arith, l))
    behind r (suc k) other l at = r.last k other (omega (arith, l)) at

    go : (o : Option RangeKind) → kind_at rest j x ≡ o → option_or o (kind_by j x s) ≡ Some kind → (kind_at rest j x ≡ Some kind → IsLastKind rest kind j x) → IsLastKind (s ∷ rest) kind j x
    go None e h more = record { index = zero; symbol = s; there = refl; says = h; last = behind_first e }
    go (Some a) e h more =
        let r = more (e ∙ h) in
        record { index = suc r.index; symbol = r.symbol; there = r.there; says = r.says; last = behind r }

kind_from : (xs : List Symbol) (kind : RangeKind) (j x i : ℕ) (s : Symbol) → slice_get xs i ≡ Some s → kind_by j x s ≡ Some kind
    → ((k : ℕ) (other : Symbol) → i < k → slice_get xs k ≡ Some other → kind_by j x other ≡ None) → kind_at xs j x ≡ Some kind
kind_from [] kind j x i s e h last = absurd (none-some s e)
kind_from (t ∷ rest) kind j x zero s e h last =
    ap (λ (o : Option RangeKind). option_or o (kind_by j x t)) (all_none rest j x (λ k other at. last (suc k) other (omega arith) at)) ∙ ap (kind_by j x) (same_Some t s e) ∙ h
kind_from (t ∷ rest) kind j x (suc i) s e h last =
    ap (λ (o : Option RangeKind). option_or o (kind_by j x t)) (kind_from rest kind j x i s e h (λ k other l at. last (suc k) other (omega (arith, l)) at))

pub beginning : (o : ObjectParts) (kind : RangeKind) (j x : ℕ) → kind_at o.symbols j x ≡ Some kind → IsBeginning o kind j x
beginning o kind j x h =
    let r = last_kind o.symbols kind j x h in
    let p = by_parts j x r.symbol kind r.says in
    record {
      index = r.index;
      symbol = r.symbol;
      is_there = r.there;
      is_kind = name_from_kind r.symbol kind p.1;
      stands = p.0;
      last = λ k other l at y. by_none j x other (r.last k other l at) y;
    }

pub kind_here : (o : ObjectParts) (kind : RangeKind) (j x : ℕ) → IsBeginning o kind j x → kind_at o.symbols j x ≡ Some kind
kind_here o kind j x b =
    kind_from o.symbols kind j x b.index b.symbol b.is_there (by_from j x b.symbol kind b.stands (kind_from_name b.symbol kind b.is_kind)) (λ k other l at. none_by j x other (b.last k other l at))

any_kind : (xs : List Symbol) (j x : ℕ) → list_any (λ (s : Symbol). is_mapping s && stands_at j x s.home s.value) xs ≡ is_some (kind_at xs j x)
any_kind [] j x = refl
any_kind (s ∷ rest) j x =
    ap (λ (b : Bool). b || list_any (λ (s : Symbol). is_mapping s && stands_at j x s.home s.value) rest) (by_mapping j x s)
    ∙ ap (λ (b : Bool). is_some (kind_by j x s) || b) (any_kind rest j x) ∙ go (kind_by j x s) (kind_at rest j x)
  where
    go : (a b : Option RangeKind) → (is_some a || is_some b) ≡ is_some (option_or b a)
    go None None = refl
    go None (Some b) = refl
    go (Some a) None = refl
    go (Some a) (Some b) = refl

-- a mapping symbol stands where something begins
pub mapped_is : (o : ObjectParts) (j x : ℕ) → is_mapped o j x ≡ is_some (kind_at o.symbols j x)
mapped_is o j x = any_kind o.symbols j x

pub mapped_from : (o : ObjectParts) (j x : ℕ) (kind : RangeKind) → kind_at o.symbols j x ≡ Some kind → is_mapped o j x ≡ true
mapped_from o j x kind h = mapped_is o j x ∙ ap (λ (k : Option RangeKind). is_some k) h

pub some_kind : (o : ObjectParts) (j x : ℕ) → is_mapped o j x ≡ true → (kind : RangeKind) × (kind_at o.symbols j x ≡ Some kind)
some_kind o j x h = go (kind_at o.symbols j x) refl (sym (mapped_is o j x) ∙ h)
  where
    go : (k : Option RangeKind) → kind_at o.symbols j x ≡ k → is_some k ≡ true → (kind : RangeKind) × (kind_at o.symbols j x ≡ Some kind)
    go None e y = absurd (true≢false (sym y))
    go (Some kind) e y = (kind, e)
