-- Behind each IT stands a point of its section that is none, and points stand in the order of their places.
use Rattle.std.proofs.Common.{◌≡◌, ◌⊎◌, ◌<◌, ◌≤◌, ℕ, zero, suc, ◌+◌, Bool, true, false, cond, List, [], ◌∷◌, length, filter, refl, sym, ap, ◌∙◌, subst, inl, inr, arith, Some}
use Rattle.std.specs.Prelude.{slice_get, Contains}
use Rattle.std.specs.declared.cmp.Ordering.TheVariants.{Less}
use Rattle.std.proofs.lemmas.Option.{none-some, same_Some, slice_get_within}
use Rattle.elf_model.specs.Objects.{ObjectParts}
use Rattle.elf_model.proofs.Elements.{contains_at, contains_filter}
use Rattle.thumb_instr.specs.declared.instructions.Instr.{Instr}
use Rattle.thumb_instr.specs.declared.instructions.Instr.TheVariants as instr
use Rattle.thumb_instr.specs.Fields.{ItFields}
use Rattle.code_ranges.specs.Spans.{place_cmp}
use Rattle.code_ranges.proofs.InOrder.{Rises, never_less, rises_keys}
use Rattle.code_ranges.proofs.PlaceOrder.{place_total}
use Rattle.flow_recover.specs.declared.flows.Point.{Point}
use Rattle.flow_recover.specs.Flows.{FlowParts}
use Rattle.flow_recover.specs.Points.{place_of_point, end_of, PointsRise}
use Rattle.flow_recover.specs.WholeFlows.{IsFlow}
use Rattle.it_expand.specs.Expanded.{body_of}
use Rattle.unit_layouts.proofs.Targets.{it_next}

-- LISTS THAT RISE

module _ {X : Type 0} (before : X → X → Type 0) (never : (a b : X) → before a b → before b a → ⊥) where
  -- what is before another stands before it
  pub index_less : (xs : List X) (p q : ℕ) (x y : X) → Rises before xs → slice_get xs p ≡ Some x → slice_get xs q ≡ Some y → before x y → p < q
  index_less [] p q x y s e f b = absurd (none-some x e)
  index_less (z ∷ zs) zero zero x y s e f b =
      let same : x ≡ y = sym (same_Some z x e) ∙ same_Some z y f in
      let low : before y y = subst (λ (w : X). before w y) same b in
      absurd (never y y low low)
  index_less (z ∷ zs) zero (suc q) x y s e f b = omega arith
  index_less (z ∷ zs) (suc p) zero x y s e f b = absurd (never x y b (subst (λ (w : X). before w x) (same_Some z y f) (s.0 x (contains_at zs p x e))))
  index_less (z ∷ zs) (suc p) (suc q) x y s e f b = let rest = index_less zs p q x y s.1 e f b in omega arith

  -- and what stands before another is before it
  pub less_at : (xs : List X) (p q : ℕ) (x y : X) → Rises before xs → slice_get xs p ≡ Some x → slice_get xs q ≡ Some y → p < q → before x y
  less_at [] p q x y s e f l = absurd (none-some x e)
  less_at (z ∷ zs) p zero x y s e f l = absurd (omega arith)
  less_at (z ∷ zs) zero (suc q) x y s e f l = subst (λ (w : X). before w y) (same_Some z x e) (s.0 y (contains_at zs q y f))
  less_at (z ∷ zs) (suc p) (suc q) x y s e f l = less_at zs p q x y s.1 e f (omega arith)

  rises_kept : (p : X → Bool) (x : X) (xs : List X) (b : Bool) → ((z : X) → Contains xs z → before x z) → Rises before (filter p xs) → Rises before (cond b (x ∷ filter p xs) (filter p xs))
  rises_kept p x xs true above rest = ((λ z h. above z (contains_filter p xs z h).0), rest)
  rises_kept p x xs false above rest = rest

  pub rises_filter : (p : X → Bool) (xs : List X) → Rises before xs → Rises before (filter p xs)
  rises_filter p [] s = tt
  rises_filter p (x ∷ xs) s = rises_kept p x xs (p x) s.0 (rises_filter p xs s.1)

-- POINTS

abbrev Before : Point → Point → Type 0
Before x y = place_cmp (place_of_point x) (place_of_point y) ≡ Less

body_cases : (i : Instr) → ((f : ItFields) × (i ≡ instr.It f)) ⊎ (body_of i ≡ Some i)
body_cases (instr.It f) = inl (f, refl)
body_cases i = inr refl

place_less : (j a b : ℕ) → a < b → place_cmp (j, a) (j, b) ≡ Less
place_less j a b l = grind arith

-- the instruction of a point that is no IT, at it or behind it
pub record IsBehind (f : FlowParts) (k : ℕ) (x : Point) : Type 0 where
  pub index : ℕ
  pub point : Point
  pub there : slice_get f.points index ≡ Some point
  pub behind : k ≤ index
  pub section : point.section ≡ x.section
  pub body : body_of point.instr ≡ Some point.instr

end_more : (x : Point) → x.offset < end_of x
end_more x = go x.wide
  where
    go : (b : Bool) → x.offset < x.offset + cond b 4 2
    go true = omega arith
    go false = omega arith

module _ (o : ObjectParts) (f : FlowParts) (flow : IsFlow o f) (rise : PointsRise f) where
  pub points_order : Rises Before f.points
  points_order = rises_keys place_of_point place_cmp f.points rise.order

  body_behind : (fuel k : ℕ) (x : Point) → slice_get f.points k ≡ Some x → length f.points ≤ k + fuel → IsBehind f k x
  body_behind zero k x at few = let low = slice_get_within f.points k x at in absurd (omega arith)
  body_behind (suc fuel) k x at few = elim (body_cases x.instr) [
    | inr body ↦ record { index = k; point = x; there = at; behind = omega arith; section = refl; body = body }
    | inl it ↦
        let next = it_next o f flow k x at it.0 it.1 in
        let y : Point = next.1.point in
        let section : x.section ≡ y.section = sym next.1.section in
        let more = end_more x in
        let offset : y.offset ≡ end_of x = next.1.offset in
        let first : Before x y = ap (λ (j : ℕ). place_cmp (j, x.offset) (y.section, y.offset)) section ∙ place_less y.section x.offset y.offset (omega arith) in
        let later : k < next.0 = index_less Before (λ a b. never_less place_cmp place_total (place_of_point a) (place_of_point b)) f.points k next.0 x y points_order at next.1.there first in
        let rest = body_behind fuel next.0 y next.1.there (omega arith) in
        let on : next.0 ≤ rest.index = rest.behind in
        record { index = rest.index; point = rest.point; there = rest.there; behind = omega arith; section = rest.section ∙ sym section; body = rest.body }
  ]

  pub is_behind : (k : ℕ) (x : Point) → slice_get f.points k ≡ Some x → IsBehind f k x
  is_behind k x at = body_behind (length f.points) k x at (omega arith)
