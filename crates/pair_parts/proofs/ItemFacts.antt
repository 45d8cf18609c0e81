-- Units and words in a list of items that stand one behind the other.
use Rattle.std.proofs.Common.{◌≡◌, ◌≤◌, ◌<◌, ℕ, ◌%◌, Bool, true, false, cond, List, [], ◌∷◌, filter, sym, ap, ◌∙◌, subst, inl, inr, arith}
use Rattle.std.specs.Prelude.{Contains}
use Rattle.std.specs.declared.cmp.Ordering.TheVariants.{Less}
use Rattle.elf_model.proofs.Elements.{contains_cases, contains_here, contains_later, contains_none, contains_filter}
use Rattle.code_ranges.specs.Spans.{place_cmp}
use Rattle.code_ranges.proofs.PlaceOrder.{place_total}
use Rattle.code_ranges.proofs.InOrder.{Rises, never_less, never_itself}
use Rattle.hardened_form.specs.Items.{Item, old_place, new_start, StandFrom}
use Rattle.branch_layout.proofs.WithinFacts.{IsEven, starts, stands_between}

abbrev pub Before : Item → Item → Type 0
Before a b = place_cmp (old_place a) (old_place b) ≡ Less

pub rises_filter : {X : Type 0} (before : X → X → Type 0) (p : X → Bool) (xs : List X) → Rises before xs → Rises before (filter p xs)
rises_filter before p [] r = tt
rises_filter before p (x ∷ xs) r = go (p x) (rises_filter before p xs r.1)
  where
    go : (b : Bool) → Rises before (filter p xs) → Rises before (cond b (x ∷ filter p xs) (filter p xs))
    go true rest = ((λ z h. r.0 z (contains_filter p xs z h).0), rest)
    go false rest = rest

-- they end at one place
pub stands_once : (items : List Item) (x a b : ℕ) → StandFrom x items a → StandFrom x items b → a ≡ b
stands_once [] x a b s t = sym s ∙ t
stands_once (it ∷ rest) x a b s t = stands_once rest it.end a b s.1 t.1

-- two that have an offset in common are one
pub one_at : (x : ℕ) (items : List Item) (size : ℕ) → ((it : Item) → Contains items it → IsEven it) → StandFrom x items size → x % 2 ≡ 0 → (a b : Item) → Contains items a → Contains items b
    → (at : ℕ) → a.new ≤ at → at < a.end → b.new ≤ at → at < b.end → a ≡ b
one_at x [] size even s e a b h k at la ha lb hb = absurd (contains_none a h)
one_at x (i ∷ items) size even s e a b h k at la ha lb hb =
    let here = even i (contains_here i items) in
    let later : ((it : Item) → Contains items it → IsEven it) = λ it g. even it (contains_later i items it g) in
    let new : i.new ≡ new_start i.word x = s.0 in
    let start = starts i.word x e in
    let behind = here.end in
    let bytes = here.even in
    let two = start.1 in
    let even_end : i.end % 2 ≡ 0 = omega arith in
    elim (contains_cases i items a h) [
      | inl first ↦ elim (contains_cases i items b k) [
        | inl second ↦ sym first ∙ second
        | inr second ↦
            let low = (stands_between i.end items size later s.1 even_end b second).low in
            let m : i.end ≡ a.end = ap (λ (it : Item). it.end) first in
            absurd (omega arith)
      ]
      | inr first ↦ elim (contains_cases i items b k) [
        | inl second ↦
            let low = (stands_between i.end items size later s.1 even_end a first).low in
            let m : i.end ≡ b.end = ap (λ (it : Item). it.end) second in
            absurd (omega arith)
        | inr second ↦ one_at i.end items size later s.1 even_end a b first second at la ha lb hb
      ]
    ]

-- The first of them stands where they begin.
first_stands : (items : List Item) (x size : ℕ) (a b : Item) → Rises Before items → StandFrom x items size → ((z : Item) → Contains items z → Before a z) → Contains items b
    → ((z : Item) → Contains items z → Before a z → Before z b → ⊥) → b.new ≡ new_start b.word x
first_stands [] x size a b rise stand above h none = absurd (contains_none b h)
first_stands (i ∷ rest) x size a b rise stand above h none =
    elim (contains_cases i rest b h) [
      | inl e ↦ subst (λ (z : Item). z.new ≡ new_start z.word x) e stand.0
      | inr g ↦ absurd (none i (contains_here i rest) (above i (contains_here i rest)) (rise.0 b g))
    ]

-- Of two with nothing between them the second stands where the first ends.
pub next_stands : (items : List Item) (x size : ℕ) (a b : Item) → Rises Before items → StandFrom x items size → Contains items a → Contains items b → Before a b
    → ((z : Item) → Contains items z → Before a z → Before z b → ⊥) → b.new ≡ new_start b.word a.end
next_stands [] x size a b rise stand ha hb less none = absurd (contains_none a ha)
next_stands (i ∷ rest) x size a b rise stand ha hb less none =
    elim (contains_cases i rest a ha) [
      | inl e ↦ elim (contains_cases i rest b hb) [
        | inl f ↦ absurd (never_itself place_cmp place_total (old_place a) (old_place b) (ap old_place (sym e ∙ f)) less)
        | inr g ↦
            subst (λ (z : Item). b.new ≡ new_start b.word z.end) e
            (first_stands rest i.end size a b rise.1 stand.1 (λ z c. subst (λ (y : Item). Before y z) e (rise.0 z c)) g (λ z c. none z (contains_later i rest z c)))
      ]
      | inr q ↦ elim (contains_cases i rest b hb) [
        | inl f ↦ absurd (never_less place_cmp place_total (old_place a) (old_place b) less (subst (λ (y : Item). Before y a) f (rise.0 a q)))
        | inr g ↦ next_stands rest i.end size a b rise.1 stand.1 q g less (λ z c. none z (contains_later i rest z c))
      ]
    ]
