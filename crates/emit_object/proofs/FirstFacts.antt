-- The first unit or word of a section from an old offset on, among all items in their order.
use Rattle.std.proofs.Common.{◌≡◌, ◌↔◌, ◌<◌, ◌≤◌, ◌⊎◌, ℕ, zero, suc, Bool, true, false, cond, List, [], ◌∷◌, ◌++◌, length, map, get_or, refl, sym, ap, ◌∙◌, subst, inl, inr, arith, Option, Some, None}
use Rattle.std.specs.Prelude.{Contains, slice_get, find, nat_lt, nat_le, ◌==◌, ◌&&◌}
use Rattle.std.specs.Option.{option_map}
use Rattle.std.specs.List.Sorted.{IsStrictlySortedBy, IsPartitionedBy, IsPartitionPoint}
use Rattle.std.specs.declared.cmp.Ordering.TheVariants.{Less}
use Rattle.std.proofs.lemmas.Bool.{cases_Bool, cases_lt, true≢false, and_parts, eqb-true, ltb-true, ltb-false}
use Rattle.std.proofs.lemmas.Bool.Decides.{nat_tests}
use Rattle.std.proofs.lemmas.List.Elements.{Contains-append_left, Contains-append_right, Contains-append_cases}
use Rattle.std.proofs.lemmas.Map.Keys.{Less-from_sorted}
use Rattle.std.proofs.lemmas.Option.{none-some, same_Some, slice_get_within, get_or_from_slice_get, slice_get-map}
use Rattle.std.proofs.lemmas.List as lists
use Rattle.elf_model.proofs.Elements.{contains_cases, contains_here, contains_later, contains_none, found, finds}
use Rattle.code_ranges.specs.Spans.{place_cmp}
use Rattle.code_ranges.proofs.InOrder.{Rises}
use Rattle.code_ranges.proofs.MarkFacts.{less}
use Rattle.hardened_form.specs.Items.{Item, old_place}
use Rattle.hardened_form.specs.Standing.{is_from, new_or, first_from}
use Rattle.emit_object.specs.FirstItems.{is_earlier, IsFirstFrom, old_and_new, first_of, nearer_or}

-- an item stood before another one
abbrev pub Before : Item → Item → Type 0
Before a b = place_cmp (old_place a) (old_place b) ≡ Less

earlier_from : (p q r : ℕ × ℕ) → place_cmp p q ≡ Less → is_earlier q r ≡ true → is_earlier p r ≡ true
earlier_from p q r h e = elim (less p q h) [
  | inl l ↦ grind (arith, nat_tests)
  | inr s ↦ let a = s.0 in let b = s.1 in grind (arith, nat_tests)
]

-- places that rise are parted by a place
pub parted : (X : Type 0) (key : X → ℕ × ℕ) (xs : List X) (p : ℕ × ℕ) → IsStrictlySortedBy place_cmp (map key xs) → IsPartitionedBy (λ x. is_earlier (key x) p) xs
parted X key xs p rise i j d low high h = elim (cases_lt i j) [
  | inr e ↦ let same : i ≡ j = omega arith in subst (λ (k : ℕ). is_earlier (key (get_or xs k d)) p ≡ true) (sym same) h
  | inl l ↦
      let long : length (map key xs) ≡ length xs = lists.length-map xs key in
      let below = Less-from_sorted place_cmp (map key xs) i j (key d) rise l (omega arith) in
      let at_i : get_or (map key xs) i (key d) ≡ key (get_or xs i d) = lists.get_or-map key xs i d (key d) (omega arith) in
      let at_j : get_or (map key xs) j (key d) ≡ key (get_or xs j d) = lists.get_or-map key xs j d (key d) (omega arith) in
      earlier_from (key (get_or xs i d)) (key (get_or xs j d)) p (ap (λ (q : ℕ × ℕ). place_cmp q (key (get_or xs j d))) (sym at_i) ∙ ap (λ (q : ℕ × ℕ). place_cmp (get_or (map key xs) i (key d)) q) (sym at_j) ∙ below) h
]

-- so what a search answers is the first from there on
pub first_index : (X : Type 0) (key : X → ℕ × ℕ) (xs : List X) (p : ℕ × ℕ) (k : ℕ) → IsPartitionPoint (λ x. is_earlier (key x) p ≡ true) (λ x. is_earlier (key x) p ≡ false) xs k → IsFirstFrom (map key xs) p k
first_index X key xs p k h = record {
  before = λ i q l at. let x = back i q at in subst (λ (z : ℕ × ℕ). is_earlier z p ≡ true) x.1.1 (subst (λ (z : X). is_earlier (key z) p ≡ true) (get_or_from_slice_get xs i x.0 x.0 x.1.0) (h.0 i x.0 (omega arith) l));
  behind = λ i q l at. let x = back i q at in subst (λ (z : ℕ × ℕ). is_earlier z p ≡ false) x.1.1 (subst (λ (z : X). is_earlier (key z) p ≡ false) (get_or_from_slice_get xs i x.0 x.0 x.1.0) (h.1 i x.0 l (slice_get_within xs i x.0 x.1.0)));
}
  where
    back : (i : ℕ) (q : ℕ × ℕ) → slice_get (map key xs) i ≡ Some q → (x : X) × ((slice_get xs i ≡ Some x) × (key x ≡ q))
    back i q at = go (slice_get xs i) refl (sym (slice_get-map key xs i) ∙ at)
      where
        go : (e : Option X) → slice_get xs i ≡ e → option_map key e ≡ Some q → (x : X) × ((slice_get xs i ≡ Some x) × (key x ≡ q))
        go None e h = absurd (none-some q h)
        go (Some x) e h = (x, (e, same_Some (key x) q h))

module _ (j x : ℕ) where
  -- by where an item stands it is from there on, or not
  from_is : (it : Item) → is_earlier (old_place it) (j, x) ≡ false → (it.section == j) ≡ true → is_from j x it ≡ true
  from_is it h e = grind (arith, nat_tests)

  not_earlier : (it : Item) → is_earlier (old_place it) (j, x) ≡ true → is_from j x it ≡ false
  not_earlier it h = grind (arith, nat_tests)

  not_elsewhere : (it : Item) → (it.section == j) ≡ false → is_from j x it ≡ false
  not_elsewhere it h = ap (λ (b : Bool). b && nat_le x it.old) h

  not_behind : (a b : Item) → is_earlier (old_place a) (j, x) ≡ false → (a.section == j) ≡ false → Before a b → is_from j x b ≡ false
  not_behind a b h e l = elim (less (old_place a) (old_place b) l) [
    | inl low ↦ grind (arith, nat_tests)
    | inr s ↦ let same : a.section ≡ b.section = s.0 in grind (arith, nat_tests)
  ]

  none_from : (items : List Item) → ((z : Item) → Contains items z → is_from j x z ≡ false) → find (is_from j x) items ≡ None
  none_from [] none = refl
  none_from (it ∷ rest) none =
      ap (λ (b : Bool). cond b (Some it) (find (is_from j x) rest)) (none it (contains_here it rest)) ∙ none_from rest (λ z h. none z (contains_later it rest z h))

  -- what an item at a number is, if it is of the section
  abbrev pub entry_at : Option Item → Option (ℕ × ℕ)
  entry_at None = None
  entry_at (Some it) = cond (it.section == j) (Some (old_and_new it)) None

  pub first_entry : (items : List Item) (k : ℕ) → Rises Before items → IsFirstFrom (map old_place items) (j, x) k → entry_at (slice_get items k) ≡ first_of items j x
  first_entry [] k rise first = refl
  first_entry (it ∷ rest) (suc k) rise first =
      let later : IsFirstFrom (map old_place rest) (j, x) k = record { before = λ i q l at. first.before (suc i) q (omega arith) at; behind = λ i q l at. first.behind (suc i) q (omega arith) at } in
      let gone : is_from j x it ≡ false = not_earlier it (first.before 0 (old_place it) (omega arith) refl) in
      first_entry rest k rise.1 later ∙ sym (ap (λ (b : Bool). option_map old_and_new (cond b (Some it) (find (is_from j x) rest))) gone)
  first_entry (it ∷ rest) zero rise first =
      let late : is_earlier (old_place it) (j, x) ≡ false = first.behind 0 (old_place it) (omega arith) refl in
      elim (cases_Bool (it.section == j)) [
        | inl e ↦
            ap (λ (b : Bool). cond b (Some (old_and_new it)) None) e
            ∙ sym (ap (λ (b : Bool). option_map old_and_new (cond b (Some it) (find (is_from j x) rest))) (from_is it late e))
        | inr n ↦
            let none : find (is_from j x) (it ∷ rest) ≡ None =
            ap (λ (b : Bool). cond b (Some it) (find (is_from j x) rest)) (not_elsewhere it n)
            ∙ none_from rest (λ z h. not_behind it z late n (rise.0 z h)) in
            ap (λ (b : Bool). cond b (Some (old_and_new it)) None) n ∙ sym (ap (option_map old_and_new) none)
      ]

  -- the first of a list that rises is behind no other
  least : (items : List Item) (a b : Item) → Rises Before items → find (is_from j x) items ≡ Some a → Contains items b → is_from j x b ≡ true → (a ≡ b) ⊎ Before a b
  least [] a b rise e h f = absurd (contains_none b h)
  least (it ∷ rest) a b rise e h f = elim (cases_Bool (is_from j x it)) [
    | inl t ↦
        let same : it ≡ a = same_Some it a (sym (ap (λ (c : Bool). cond c (Some it) (find (is_from j x) rest)) t) ∙ e) in
        elim (contains_cases it rest b h) [
          | inl s ↦ inl (sym same ∙ s)
          | inr r ↦ inr (subst (λ (z : Item). Before z b) same (rise.0 b r))
        ]
    | inr n ↦
        elim (contains_cases it rest b h) [
          | inl s ↦ absurd (true≢false (sym f ∙ ap (is_from j x) (sym s) ∙ n))
          | inr r ↦ least rest a b rise.1 (sym (ap (λ (c : Bool). cond c (Some it) (find (is_from j x) rest)) n) ∙ e) r f
        ]
  ]

  -- in one list or the other
  module _ (items ones others : List Item) (rise : Rises Before items) (rise_ones : Rises Before ones) (rise_others : Rises Before others)
      (same : (it : Item) → Contains items it ↔ Contains (ones ++ others) it) (size : ℕ) where
    of_one : (it : Item) → Contains ones it → Contains items it
    of_one it h = (same it).1 (Contains-append_left ones others it h)

    of_other : (it : Item) → Contains others it → Contains items it
    of_other it h = (same it).1 (Contains-append_right ones others it h)

    is_there : (xs : List Item) (a : Item) → find (is_from j x) xs ≡ None → Contains xs a → is_from j x a ≡ true → ⊥
    is_there xs a none h f = let first = finds (is_from j x) xs a h f in none-some first.0 (sym none ∙ first.1)

    -- two that are from there on, of which neither is before the other
    not_less : (a b : Item) → is_from j x a ≡ true → is_from j x b ≡ true → (a ≡ b) ⊎ Before a b → a.old ≤ b.old
    not_less a b f g (inl e) = let same_old : a.old ≡ b.old = ap (λ (z : Item). z.old) e in omega arith
    not_less a b f g (inr l) =
        let in_a : a.section ≡ j = eqb-true a.section j (and_parts (a.section == j) (nat_le x a.old) f).0 in
        let in_b : b.section ≡ j = eqb-true b.section j (and_parts (b.section == j) (nat_le x b.old) g).0 in
        elim (less (old_place a) (old_place b) l) [ inl low ↦ absurd (omega arith) | inr s ↦ let low : a.old < b.old = s.1 in omega arith ]

    below : (a b : Item) → is_from j x a ≡ true → is_from j x b ≡ true → Before a b → a.old < b.old
    below a b f g l =
        let in_a : a.section ≡ j = eqb-true a.section j (and_parts (a.section == j) (nat_le x a.old) f).0 in
        let in_b : b.section ≡ j = eqb-true b.section j (and_parts (b.section == j) (nat_le x b.old) g).0 in
        elim (less (old_place a) (old_place b) l) [ inl low ↦ absurd (omega arith) | inr s ↦ s.1 ]

    once : (a b : Item) → is_from j x a ≡ true → is_from j x b ≡ true → (a ≡ b) ⊎ Before a b → (b ≡ a) ⊎ Before b a → a ≡ b
    once a b f g (inl e) k = e
    once a b f g (inr l) (inl e) = sym e
    once a b f g (inr l) (inr k) = let p = below a b f g l in let q = below b a g f k in absurd (omega arith)

    -- the first of all and the first of a list that has it are one
    alike : (xs : List Item) (a c : Item) → Rises Before xs → ((it : Item) → Contains xs it → Contains items it) → find (is_from j x) xs ≡ Some a → find (is_from j x) items ≡ Some c → Contains xs c → a ≡ c
    alike xs a c rises within e g h =
        let at = found (is_from j x) xs a e in
        let all = found (is_from j x) items c g in
        once a c at.1 all.1 (least xs a c rises e h all.1) (least items c a rise g (within a at.0) at.1)

    pub among : nearer_or (first_of ones j x) (first_of others j x) size ≡ first_from items j x size
    among = go (find (is_from j x) ones) (find (is_from j x) others) (find (is_from j x) items) refl refl refl
      where
        nearer : (a b c : Item) → find (is_from j x) ones ≡ Some a → find (is_from j x) others ≡ Some b → find (is_from j x) items ≡ Some c → (t : Bool) → nat_lt b.old a.old ≡ t → cond t b.new a.new ≡ c.new
        nearer a b c e f g t lt =
            let one = found (is_from j x) ones a e in
            let other = found (is_from j x) others b f in
            let all = found (is_from j x) items c g in
            elim (Contains-append_cases ones others c ((same c).0 all.0)) [
              | inl h ↦ by_one t lt (alike ones a c rise_ones of_one e g h) (not_less c b all.1 other.1 (least items c b rise g (of_other b other.0) other.1))
              | inr h ↦ by_other t lt (alike others b c rise_others of_other f g h) (least items c a rise g (of_one a one.0) one.1) all.1 one.1
            ]
          where
            by_one : (t : Bool) → nat_lt b.old a.old ≡ t → a ≡ c → c.old ≤ b.old → cond t b.new a.new ≡ c.new
            by_one true lt s le = let low = ltb-true b.old a.old lt in let so : a.old ≡ c.old = ap (λ (z : Item). z.old) s in absurd (omega arith)
            by_one false lt s le = ap (λ (z : Item). z.new) s

            by_other : (t : Bool) → nat_lt b.old a.old ≡ t → b ≡ c → (c ≡ a) ⊎ Before c a → is_from j x c ≡ true → is_from j x a ≡ true → cond t b.new a.new ≡ c.new
            by_other true lt s order ca aa = ap (λ (z : Item). z.new) s
            by_other false lt s (inl e) ca aa = ap (λ (z : Item). z.new) (sym e)
            by_other false lt s (inr l) ca aa =
                let high = ltb-false b.old a.old lt in
                let so : b.old ≡ c.old = ap (λ (z : Item). z.old) s in
                let low = below c a ca aa l in
                absurd (omega arith)

        go : (a b c : Option Item) → find (is_from j x) ones ≡ a → find (is_from j x) others ≡ b → find (is_from j x) items ≡ c → nearer_or (option_map old_and_new a) (option_map old_and_new b) size ≡ new_or c size
        go None None None e f g = refl
        go None None (Some c) e f g =
            let all = found (is_from j x) items c g in
            absurd (elim (Contains-append_cases ones others c ((same c).0 all.0)) [ inl h ↦ is_there ones c e h all.1 | inr h ↦ is_there others c f h all.1 ])
        go (Some a) b None e f g = let at = found (is_from j x) ones a e in absurd (is_there items a g (of_one a at.0) at.1)
        go None (Some b) None e f g = let at = found (is_from j x) others b f in absurd (is_there items b g (of_other b at.0) at.1)
        go (Some a) None (Some c) e f g =
            let all = found (is_from j x) items c g in
            elim (Contains-append_cases ones others c ((same c).0 all.0)) [
              | inl h ↦ ap (λ (z : Item). z.new) (alike ones a c rise_ones of_one e g h)
              | inr h ↦ absurd (is_there others c f h all.1)
            ]
        go None (Some b) (Some c) e f g =
            let all = found (is_from j x) items c g in
            elim (Contains-append_cases ones others c ((same c).0 all.0)) [
              | inl h ↦ absurd (is_there ones c e h all.1)
              | inr h ↦ ap (λ (z : Item). z.new) (alike others b c rise_others of_other f g h)
            ]
        go (Some a) (Some b) (Some c) e f g = nearer a b c e f g (nat_lt b.old a.old) refl
