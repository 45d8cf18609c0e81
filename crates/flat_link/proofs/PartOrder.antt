-- Parts stand in the order of objects and sections, one behind the other.
use Rattle.std.proofs.Common.{◌≡◌, ◌≤◌, ◌<◌, ℕ, ◌+◌, Bool, true, cond, List, [], ◌∷◌, refl, sym, ap, ◌∙◌, subst, inl, inr, arith, Some}
use Rattle.std.specs.Prelude.{◌⊎◌, Contains, slice_get, ◌==◌, ◌&&◌, not, max}
use Rattle.std.proofs.lemmas.Bool.{and_parts, and_from, cases_Bool, eqb-true, eq-eqb, both_ways, not-true}
use Rattle.std.proofs.lemmas.Option.{same_Some}
use Rattle.std.proofs.lemmas.List.Elements.{Contains-append_cases}
use Rattle.elf_model.specs.declared.objects.Section.{Section}
use Rattle.elf_model.specs.Objects.{ObjectParts, is_code, is_data, is_alloc}
use Rattle.elf_model.specs.Canonical.{round_up}
use Rattle.elf_model.proofs.Elements.{found, finds}
use Rattle.thumb_table.specs.declared.placements.Placement.{Placement}
use Rattle.thumb_table.specs.Layouts.{Placed, chosen, all_chosen, placed, code_parts, data_parts, all_placed, part_of}
use Rattle.flat_link.specs.Layout.{AreObjects}
use Rattle.flat_link.proofs.ListFacts.{InOrder, none, before, order_append, order_cases}
use Rattle.flat_link.proofs.RawBytes.{AllGood, begun, begins, rest_good}
use Rattle.flat_link.proofs.PartFacts.{chosen_is, all_chosen_is, unplaced, comes_from, code_good, data_good}

-- of an object before, or of a section before
abbrev pub Earlier : Placed → Placed → Type 0
Earlier p q = (p.object < q.object) ⊎ ((p.object ≡ q.object) × (p.index < q.index))

pub record StandsBehind (p q : Placed) : Type 0 where
  pub earlier : Earlier p q
  pub ends : p.start + p.section.size ≤ q.start

chosen_order : (sort : Section → Bool) (i j k : ℕ) (sections : List Section) → InOrder Earlier (chosen sort i j k sections)
chosen_order sort i j k [] = none
chosen_order sort i j k (s ∷ rest) =
    let first : Placed = record { object = i; index = j; ordinal = k; start = 0; section = s } in
    elim (cases_Bool (sort s)) [
      | inl y ↦
          subst (λ (l : List Placed). InOrder Earlier l) (sym (ap (λ (b : Bool). cond b (first ∷ chosen sort i (j + 1) (k + 1) rest) (chosen sort i (j + 1) k rest)) y))
          (before first (chosen sort i (j + 1) (k + 1) rest) (λ q c. let h = chosen_is sort i (j + 1) (k + 1) rest q c in let n = h.index in inr (sym h.object, omega arith)) (chosen_order sort i (j + 1) (k + 1) rest))
      | inr n ↦
          subst (λ (l : List Placed). InOrder Earlier l) (sym (ap (λ (b : Bool). cond b (first ∷ chosen sort i (j + 1) (k + 1) rest) (chosen sort i (j + 1) k rest)) n)) (chosen_order sort i (j + 1) k rest)
    ]

all_order : (sort : Section → Bool) (i : ℕ) (objects : List ObjectParts) → InOrder Earlier (all_chosen sort i objects)
all_order sort i [] = none
all_order sort i (o ∷ rest) =
    order_append Earlier (chosen sort i 0 0 o.sections) (all_chosen sort (i + 1) rest) (chosen_order sort i 0 0 o.sections) (all_order sort (i + 1) rest)
    (λ p q c d. let a = (chosen_is sort i 0 0 o.sections p c).object in let h = all_chosen_is sort (i + 1) rest q d in let b = h.file in inl (omega arith))

as_early : (p q r : Placed) → Earlier p q → q.object ≡ r.object → q.index ≡ r.index → Earlier p r
as_early p q r (inl l) e f = inl (omega arith)
as_early p q r (inr h) e f = let a = h.0 in let b = h.1 in inr (a ∙ e, omega arith)

placed_order : (alignment : Section → ℕ) (from : ℕ) (ps : List Placed) → InOrder Earlier ps → AllGood alignment ps → InOrder StandsBehind (placed alignment from ps)
placed_order alignment from _ none good = none
placed_order alignment from _ (before p ps h more) good =
    let further = round_up from (alignment p.section) + p.section.size in
    before (begun alignment from p) (placed alignment further ps)
    (λ q c. let u = unplaced alignment further ps q c in
    record { earlier = as_early p u.0 q (h u.0 u.1) u.3 u.4; ends = begins alignment further ps (rest_good alignment p ps good) q c })
    (placed_order alignment further ps more (rest_good alignment p ps good))

pub code_order : (objects : List ObjectParts) (at : Placement) → AreObjects objects → InOrder StandsBehind (code_parts objects at)
code_order objects at sound = placed_order (λ s. max 4 s.align) at.base (all_chosen is_code 0 objects) (all_order is_code 0 objects) (code_good objects sound)

pub data_order : (objects : List ObjectParts) (at : Placement) → AreObjects objects → InOrder StandsBehind (data_parts objects at)
data_order objects at sound = placed_order (λ s. s.align) (at.base + at.room) (all_chosen is_data 0 objects) (all_order is_data 0 objects) (data_good objects sound)

not_earlier : (p q : Placed) → p.object ≡ q.object → p.index ≡ q.index → Earlier p q → ⊥
not_earlier p q e f (inl l) = omega arith
not_earlier p q e f (inr h) = let b = h.1 in omega arith

-- one part of a section
one_in : (ps : List Placed) → InOrder StandsBehind ps → (p q : Placed) → Contains ps p → Contains ps q → p.object ≡ q.object → p.index ≡ q.index → p ≡ q
one_in ps order p q c d e f =
    elim (order_cases StandsBehind ps p q order c d) [
      | inl same ↦ same
      | inr h ↦ elim h [ inl a ↦ absurd (not_earlier p q e f a.earlier) | inr b ↦ absurd (not_earlier q p (sym e) (sym f) b.earlier) ]
    ]

pub no_data : (s : Section) → is_code s ≡ true → is_data s ≡ true → ⊥
no_data s c d = both_ways (is_code s) (not-true (is_code s) (and_parts (is_alloc s.flags) (not (is_code s)) d).1) c

not_both : (objects : List ObjectParts) (at : Placement) (p q : Placed) → Contains (code_parts objects at) p → Contains (data_parts objects at) q → p.object ≡ q.object → p.index ≡ q.index → ⊥
not_both objects at p q c d e f =
    let a = comes_from is_code (λ s. max 4 s.align) at.base objects p c in
    let b = comes_from is_data (λ s. s.align) (at.base + at.room) objects q d in
    let x = a.file in
    let y = b.file in
    let n : a.number ≡ b.number = omega arith in
    let same : a.object ≡ b.object = same_Some a.object b.object (sym a.there ∙ (ap (slice_get objects) n ∙ b.there)) in
    let section : p.section ≡ q.section = same_Some p.section q.section (sym a.section ∙ (ap (λ (o : ObjectParts). slice_get o.sections p.index) same ∙ (ap (slice_get b.object.sections) f ∙ b.section))) in
    no_data q.section (ap is_code (sym section) ∙ a.is_sort) b.is_sort

pub one_of_all : (objects : List ObjectParts) (at : Placement) → AreObjects objects → (p q : Placed) → Contains (all_placed objects at) p → Contains (all_placed objects at) q → p.object ≡ q.object → p.index ≡ q.index → p ≡ q
one_of_all objects at sound p q c d e f =
    elim (Contains-append_cases (code_parts objects at) (data_parts objects at) p c) [
      | inl a ↦ elim (Contains-append_cases (code_parts objects at) (data_parts objects at) q d) [
        | inl b ↦ one_in (code_parts objects at) (code_order objects at sound) p q a b e f
        | inr b ↦ absurd (not_both objects at p q a b e f)
      ]
      | inr a ↦ elim (Contains-append_cases (code_parts objects at) (data_parts objects at) q d) [
        | inl b ↦ absurd (not_both objects at q p b a (sym e) (sym f))
        | inr b ↦ one_in (data_parts objects at) (data_order objects at sound) p q a b e f
      ]
    ]

-- a part is the one of its section
pub the_part : (objects : List ObjectParts) (at : Placement) → AreObjects objects → (p : Placed) → Contains (all_placed objects at) p → part_of (all_placed objects at) p.object p.index ≡ Some p
the_part objects at sound p c =
    let test : Placed → Bool = λ q. (q.object == p.object) && (q.index == p.index) in
    let f = finds test (all_placed objects at) p c (and_from (p.object == p.object) (p.index == p.index) (eq-eqb p.object p.object refl) (eq-eqb p.index p.index refl)) in
    let g = found test (all_placed objects at) f.0 f.1 in
    let h = and_parts (f.0.object == p.object) (f.0.index == p.index) g.1 in
    f.1 ∙ ap (λ (q : Placed). Some q) (one_of_all objects at sound f.0 p g.0 c (eqb-true f.0.object p.object h.0) (eqb-true f.0.index p.index h.1))
