-- The first fault of a layout.
use Rattle.std.proofs.Common.{◌≡◌, ◌≤◌, ◌<◌, ◌⊎◌, ℕ, inl, inr, List, map, Bool, true, false, refl, sym, ap, ◌∙◌, subst, arith, Some}
use Rattle.std.specs.Prelude.{slice_get, nat_lt, ◌==◌, ◌&&◌, ◌||◌}
use Rattle.std.specs.Option.{option_map}
use Rattle.std.specs.List.Sorted.{IsStrictlySortedBy}
use Rattle.std.proofs.lemmas.Bool.{ltb-true, ltb-false, eqb-true}
use Rattle.std.proofs.lemmas.Option.{same_Some, slice_get-map}
use Rattle.elf_model.specs.declared.refusals.Refusal.{Refusal}
use Rattle.elf_model.specs.declared.refusals.Refusal.TheVariants.{OutOfReach, CodeTooBig}
use Rattle.elf_model.specs.declared.refusals.Spot.{Spot}
use Rattle.elf_model.specs.Refusals.{number_of}
use Rattle.code_ranges.specs.Spans.{place_cmp}
use Rattle.code_ranges.specs.CodeRanges.{comes_before}
use Rattle.code_ranges.proofs.MarkFacts.{less}
use Rattle.seq_core.specs.declared.units.Unit.{Unit as SeqUnit}
use Rattle.branch_layout.specs.Placings.{Placing, unit_point}
use Rattle.branch_layout.specs.Faults.{IsFar, LayFault, IsFirstFault}
use Rattle.branch_layout.specs.Faults.LayFault.{out_of_reach as far_fault, too_big as big_fault}
use Rattle.branch_layout.specs.Standing.{NoneFar, IsFirstFar, NoneBig, IsFirstBig, out_of_reach, too_big, IsUnitFirst, IsEarlier}
use Rattle.branch_layout.proofs.Ahead.{later_above}

not_before : (r : Refusal) (section offset : ℕ) (spot : Spot) → (section < spot.section → ⊥) → (section ≡ spot.section → offset < spot.offset → ⊥) → (section ≡ spot.section → offset ≡ spot.offset → number_of r < number_of spot.refusal → ⊥)
    → comes_before r section offset spot ≡ false
not_before r section offset spot f g h = go (nat_lt section spot.section) refl (section == spot.section) refl (nat_lt offset spot.offset) refl (offset == spot.offset) refl (nat_lt (number_of r) (number_of spot.refusal)) refl
  where
    go : (a : Bool) → nat_lt section spot.section ≡ a → (b : Bool) → (section == spot.section) ≡ b → (c : Bool) → nat_lt offset spot.offset ≡ c → (d : Bool) → (offset == spot.offset) ≡ d
        → (e : Bool) → nat_lt (number_of r) (number_of spot.refusal) ≡ e → (a || (b && (c || (d && e)))) ≡ false
    go true ea b eb c ec d ed e ee = absurd (f (ltb-true section spot.section ea))
    go false ea false eb c ec d ed e ee = refl
    go false ea true eb true ec d ed e ee = absurd (g (eqb-true section spot.section eb) (ltb-true offset spot.offset ec))
    go false ea true eb false ec false ed e ee = refl
    go false ea true eb false ec true ed false ee = refl
    go false ea true eb false ec true ed true ee = absurd (h (eqb-true section spot.section eb) (eqb-true offset spot.offset ed) (ltb-true (number_of r) (number_of spot.refusal) ee))

-- of two units in order
abbrev IsUpTo : SeqUnit → SeqUnit → Type 0
IsUpTo u v = (u.section < v.section) ⊎ ((u.section ≡ v.section) × (u.old ≤ v.old))

in_order : (units : List SeqUnit) (i k : ℕ) (u v : SeqUnit) → IsStrictlySortedBy place_cmp (map unit_point units) → i ≤ k → slice_get units i ≡ Some u → slice_get units k ≡ Some v → IsUpTo u v
in_order units i k u v order le e f = go (nat_lt i k) refl
  where
    go : (b : Bool) → nat_lt i k ≡ b → IsUpTo u v
    go true lt =
        let low = less (unit_point u) (unit_point v) (later_above (map unit_point units) i k (unit_point u) (unit_point v) order (ltb-true i k lt) (slice_get-map unit_point units i ∙ ap (option_map unit_point) e) (slice_get-map unit_point units k ∙ ap (option_map unit_point) f)) in
        elim low [ inl l ↦ inl l | inr s ↦ let t : u.old < v.old = s.1 in inr (s.0, omega arith) ]
    go false ge =
        let g : k ≤ i = ltb-false i k ge in
        let same_index : i ≡ k = omega arith in
        let same : u ≡ v = same_Some u v (sym e ∙ ap (slice_get units) same_index ∙ f) in
        let old : u.old ≡ v.old = ap (λ (w : SeqUnit). w.old) same in
        inr (ap (λ (w : SeqUnit). w.section) same, omega arith)

not_below : (i k : ℕ) → (i < k → ⊥) → k ≤ i
not_below i k h = go (nat_lt i k) refl
  where
    go : (b : Bool) → nat_lt i k ≡ b → k ≤ i
    go true e = absurd (h (ltb-true i k e))
    go false e = ltb-false i k e

module _ (units : List SeqUnit) (p : Placing) (order : IsStrictlySortedBy place_cmp (map unit_point units)) where
  never_far : (k d : ℕ) → NoneFar units p → IsFar units p k d → ⊥
  never_far k d far f =
      let low : d ≤ 4095 = far k f.unit f.stretch d f.there f.placed f.loads in
      let high : 4095 < d = f.far in
      omega arith

  pub no_fault : NoneFar units p → NoneBig p.sizes → (w : Refusal) (section offset : ℕ) → ¬ LayFault units p w section offset
  no_fault far big w section offset (far_fault k d f es eo ew) = never_far k d far f
  no_fault far big w section offset (big_fault b eo ew) = big section b

  -- a unit's fault comes before those of other units
  far_before_far : (k d : ℕ) (x : IsFirstFar units p k d) (i e : ℕ) (y : IsFar units p i e) (r : Refusal) (section offset : ℕ) → section ≡ y.unit.section → offset ≡ y.unit.old → r ≡ OutOfReach e
      → comes_before r section offset (out_of_reach x.far.unit d) ≡ false
  far_before_far k d x i e y r section offset es eo er =
      let later : k ≤ i = not_below i k (λ lt. x.none i e lt y) in
      let low = in_order units k i x.far.unit y.unit order later x.far.there y.there in
      let number : number_of r ≡ 24 = ap number_of er in
      not_before r section offset (out_of_reach x.far.unit d)
      (λ lt. elim low [ inl l ↦ omega arith | inr s ↦ let t : x.far.unit.section ≡ y.unit.section = s.0 in omega arith ])
      (λ same lt. elim low [ inl l ↦ omega arith | inr s ↦ let t : x.far.unit.old ≤ y.unit.old = s.1 in omega arith ])
      (λ same at lt. omega arith)

  far_before_big : (u : SeqUnit) (d j i : ℕ) → IsUnitFirst u j → j ≤ i → (r : Refusal) (offset : ℕ) → offset ≡ 0 → r ≡ CodeTooBig → comes_before r i offset (out_of_reach u d) ≡ false
  far_before_big u d j i first le r offset eo er =
      let number : number_of r ≡ 25 = ap number_of er in
      not_before r i offset (out_of_reach u d)
      (λ lt. elim first [ inl l ↦ omega arith | inr s ↦ let t : u.section ≡ j = s.0 in omega arith ])
      (λ same lt. elim first [ inl l ↦ omega arith | inr s ↦ let t : u.old ≡ 0 = s.1 in omega arith ])
      (λ same at lt. omega arith)

  big_before_big : (j i : ℕ) → j ≤ i → (r : Refusal) (offset : ℕ) → offset ≡ 0 → r ≡ CodeTooBig → comes_before r i offset (too_big j) ≡ false
  big_before_big j i le r offset eo er =
      let number : number_of r ≡ 25 = ap number_of er in
      not_before r i offset (too_big j) (λ lt. omega arith) (λ same lt. omega arith) (λ same at lt. omega arith)

  big_before_far : (u v : SeqUnit) (j : ℕ) → (IsUnitFirst u j → ⊥) → IsUpTo u v → (r : Refusal) (section offset : ℕ) → section ≡ v.section → offset ≡ v.old → comes_before r section offset (too_big j) ≡ false
  big_before_far u v j behind low r section offset es eo =
      let above : j ≤ u.section = not_below u.section j (λ lt. behind (inl lt)) in
      let not_first : (u.section ≡ j → u.old ≡ 0 → ⊥) = λ s z. behind (inr (s, z)) in
      not_before r section offset (too_big j)
      (λ lt. elim low [ inl l ↦ omega arith | inr s ↦ let t : u.section ≡ v.section = s.0 in omega arith ])
      (λ same lt. omega arith)
      (λ same at lt. elim low [ inl l ↦ omega arith | inr s ↦ let t : u.section ≡ v.section = s.0 in let o : u.old ≤ v.old = s.1 in not_first (omega arith) (omega arith) ])

  pub only_far : (k d : ℕ) (x : IsFirstFar units p k d) → NoneBig p.sizes → IsFirstFault units p (out_of_reach x.far.unit d)
  only_far k d x big = record { fault = far_fault k d x.far refl refl refl; file = refl; first = first }
    where
      first : (r : Refusal) (section offset : ℕ) → LayFault units p r section offset → comes_before r section offset (out_of_reach x.far.unit d) ≡ false
      first r section offset (far_fault i e y es eo er) = far_before_far k d x i e y r section offset es eo er
      first r section offset (big_fault b eo er) = absurd (big section b)

  pub only_big : (j : ℕ) → NoneFar units p → IsFirstBig p.sizes j → IsFirstFault units p (too_big j)
  only_big j far x = record { fault = big_fault x.big refl refl; file = refl; first = first }
    where
      first : (r : Refusal) (section offset : ℕ) → LayFault units p r section offset → comes_before r section offset (too_big j) ≡ false
      first r section offset (far_fault i e y es eo er) = absurd (never_far i e far y)
      first r section offset (big_fault b eo er) = big_before_big j section (not_below section j (λ lt. x.none section lt b)) r offset eo er

  unit_earlier : (k d j : ℕ) (x : IsFirstFar units p k d) → IsFirstBig p.sizes j → IsUnitFirst x.far.unit j → IsFirstFault units p (out_of_reach x.far.unit d)
  unit_earlier k d j x y before = record { fault = far_fault k d x.far refl refl refl; file = refl; first = first }
    where
      first : (r : Refusal) (section offset : ℕ) → LayFault units p r section offset → comes_before r section offset (out_of_reach x.far.unit d) ≡ false
      first r section offset (far_fault i e z es eo er) = far_before_far k d x i e z r section offset es eo er
      first r section offset (big_fault b eo er) = far_before_big x.far.unit d j section before (not_below section j (λ lt. y.none section lt b)) r offset eo er

  section_earlier : (k d j : ℕ) (x : IsFirstFar units p k d) → IsFirstBig p.sizes j → (IsUnitFirst x.far.unit j → ⊥) → IsFirstFault units p (too_big j)
  section_earlier k d j x y behind = record { fault = big_fault y.big refl refl; file = refl; first = first }
    where
      first : (r : Refusal) (section offset : ℕ) → LayFault units p r section offset → comes_before r section offset (too_big j) ≡ false
      first r section offset (far_fault i e z es eo er) =
          big_before_far x.far.unit z.unit j behind (in_order units k i x.far.unit z.unit order (not_below i k (λ lt. x.none i e lt z)) x.far.there z.there) r section offset es eo
      first r section offset (big_fault b eo er) = big_before_big j section (not_below section j (λ lt. y.none section lt b)) r offset eo er

  pub of_both : (k d j : ℕ) (x : IsFirstFar units p k d) → IsFirstBig p.sizes j → (spot : Spot) → IsEarlier x.far.unit d j spot → IsFirstFault units p spot
  of_both k d j x y spot (inl e) = subst (IsFirstFault units p) (sym e.1) (unit_earlier k d j x y e.0)
  of_both k d j x y spot (inr e) = subst (IsFirstFault units p) (sym e.1) (section_earlier k d j x y e.0)
