-- The listed marks are the places of the mapping symbols.
use Rattle.std.proofs.Common.{◌≡◌, ◌↔◌, ◌<◌, ◌≤◌, ℕ, suc, ◌+◌, ◌-◌, Bool, true, false, cond, List, [], ◌∷◌, ◌++◌, length, map, refl, sym, ap, ◌∙◌, subst, inl, inr, ◌⊎◌, arith, Option, Some, None}
use Rattle.std.specs.Prelude.{Contains, slice_get, slice_index, ◌==◌, ◌||◌, ◌&&◌, nat_lt, nat_le, not, flat_map}
use Rattle.std.specs.List.{list_any, zip}
use Rattle.std.specs.Option.{option_to_list}
use Rattle.std.specs.BTreeSet.{BTreeSet}
use Rattle.std.specs.List.Sorted.{IsStrictlySortedBy}
use Rattle.std.proofs.lemmas.Bool.{true≢false, or_cases, and_parts, and_from, eqb-true, eq-eqb, ltb-true, leb-true}
use Rattle.std.proofs.lemmas.Bool.Decides.{nat_tests}
use Rattle.std.proofs.lemmas.List.Elements.{Contains-append_left, Contains-append_right, Contains-append_cases}
use Rattle.elf_model.specs.declared.objects.Section.{Section}
use Rattle.elf_model.specs.Objects.{ObjectParts, is_code}
use Rattle.elf_model.proofs.Elements.{contains_cases, contains_here, contains_later, contains_none, contains_map, map_contains}
use Rattle.code_ranges.specs.Spans.{place_cmp}
use Rattle.flow_recover.specs.declared.flows.Point.{Point}
use Rattle.flow_recover.specs.declared.flows.PoolWord.{PoolWord}
use Rattle.flow_recover.specs.Flows.{FlowParts}
use Rattle.seq_core.specs.Places.{PlacedParts, LayoutParts}
use Rattle.hardened_form.specs.Places.{UnitPlace}
use Rattle.hardened_form.specs.Standing.{units, pool}
use Rattle.hardened_form.specs.MappingSymbols.{Mapping, pool_word_in, island_in, words_in, has_word, follows_word, has_unit, IsMapping, place_of_mapping, AreMappings}
use Rattle.hardened_form.specs.MappingSymbols.{IsMapping as mapping}
use Rattle.branch_layout.specs.Laid.{laid_place as unit_place, laid_places as places_of}
use Rattle.emit_object.specs.WordPlaces.{pool_place, island_by, island_place, begin_place, islands, begins, IsSetOf}
use Rattle.emit_object.specs.Marks.{has, follows, is_first, word_marks, first_marks, mapping_at}
use Rattle.emit_object.specs.Laid.{Matches, HasSizes}
use Rattle.emit_object.proofs.MarkFacts.{in_one, one_in, in_marks, marks_in, in_first, first_in}

-- what passes a test
pub any_is : {X : Type 0} (test : X → Bool) (xs : List X) → list_any test xs ≡ true → (w : X) × (Contains xs w × (test w ≡ true))
any_is test [] h = absurd (true≢false (sym h))
any_is test (x ∷ xs) h = elim (or_cases (test x) (list_any test xs) h) [
  | inl t ↦ (x, (contains_here x xs, t))
  | inr r ↦ let q = any_is test xs r in (q.0, (contains_later x xs q.0 q.1.0, q.1.1))
]

any_from : {X : Type 0} (test : X → Bool) (xs : List X) (w : X) → Contains xs w → test w ≡ true → list_any test xs ≡ true
any_from test [] w h t = absurd (contains_none w h)
any_from test (x ∷ xs) w h t = elim (contains_cases x xs w h) [
  | inl e ↦ first (test x) (list_any test xs) (ap test e ∙ t)
  | inr m ↦ second (test x) (list_any test xs) (any_from test xs w m t)
]
  where
    first : (a b : Bool) → a ≡ true → (a || b) ≡ true
    first true b e = refl
    first false b e = absurd (true≢false (sym e))

    second : (a b : Bool) → b ≡ true → (a || b) ≡ true
    second true b e = refl
    second false b e = e

less_than : (a b : ℕ) → a < b → nat_lt a b ≡ true
less_than a b lt = grind (arith, nat_tests)

at_least : (a b : ℕ) → a ≤ b → nat_le a b ≡ true
at_least a b le = grind (arith, nat_tests)

not_true : (b : Bool) → not b ≡ true → b ≡ false
not_true true e = absurd (true≢false (sym e))
not_true false e = refl

module _ (j y : ℕ) where
  pub pool_to : (es : List (PoolWord × ℕ)) → Contains (flat_map (pool_word_in j) es) y → Contains (map pool_place es) (j, y)
  pool_to [] h = absurd (contains_none y h)
  pool_to (e ∷ es) h = elim (Contains-append_cases (pool_word_in j e) (flat_map (pool_word_in j) es) y h) [
    | inl m ↦ go (e.0.section == j) refl m
    | inr m ↦ contains_later (pool_place e) (map pool_place es) (j, y) (pool_to es m)
  ]
    where
      go : (b : Bool) → (e.0.section == j) ≡ b → Contains (cond b (e.1 ∷ []) []) y → Contains (pool_place e ∷ map pool_place es) (j, y)
      go true s m = elim (contains_cases e.1 [] y m) [
        | inl t ↦ subst (λ (p : ℕ × ℕ). Contains (pool_place e ∷ map pool_place es) p) (λ i. (eqb-true e.0.section j s i, t i)) (contains_here (pool_place e) (map pool_place es))
        | inr n ↦ absurd (contains_none y n)
      ]
      go false s m = absurd (contains_none y m)

  pool_from : (es : List (PoolWord × ℕ)) → Contains (map pool_place es) (j, y) → Contains (flat_map (pool_word_in j) es) y
  pool_from [] h = absurd (contains_none (j, y) h)
  pool_from (e ∷ es) h = elim (contains_cases (pool_place e) (map pool_place es) (j, y) h) [
    | inl same ↦ Contains-append_left (pool_word_in j e) (flat_map (pool_word_in j) es) y
        (go (e.0.section == j) (eq-eqb e.0.section j (ap (λ (p : ℕ × ℕ). p.0) same)) (ap (λ (p : ℕ × ℕ). p.1) same))
    | inr m ↦ Contains-append_right (pool_word_in j e) (flat_map (pool_word_in j) es) y (pool_from es m)
  ]
    where
      go : (b : Bool) → b ≡ true → e.1 ≡ y → Contains (cond b (e.1 ∷ []) []) y
      go true s t = subst (λ (z : ℕ). Contains (e.1 ∷ []) z) t (contains_here e.1 [])
      go false s t = absurd (true≢false (sym s))

  -- islands of one unit
  island_to : (n : ℕ) (i : Option ℕ) (b : Bool) → (n == j) ≡ b → Contains (cond b (option_to_list i) []) y → Contains (island_by n i) (j, y)
  island_to n None true s m = absurd (contains_none y m)
  island_to n (Some z) true s m = elim (contains_cases z [] y m) [
    | inl t ↦ subst (λ (p : ℕ × ℕ). Contains ((n, z) ∷ []) p) (λ i. (eqb-true n j s i, t i)) (contains_here (n, z) [])
    | inr k ↦ absurd (contains_none y k)
  ]
  island_to n i false s m = absurd (contains_none y m)

  island_from : (n : ℕ) (i : Option ℕ) → Contains (island_by n i) (j, y) → Contains (cond (n == j) (option_to_list i) []) y
  island_from n None m = absurd (contains_none (j, y) m)
  island_from n (Some z) m = elim (contains_cases (n, z) [] (j, y) m) [
    | inl same ↦ go (n == j) (eq-eqb n j (ap (λ (p : ℕ × ℕ). p.0) same)) (ap (λ (p : ℕ × ℕ). p.1) same)
    | inr k ↦ absurd (contains_none (j, y) k)
  ]
    where
      go : (b : Bool) → b ≡ true → z ≡ y → Contains (cond b (z ∷ []) []) y
      go true s t = subst (λ (k : ℕ). Contains (z ∷ []) k) t (contains_here z [])
      go false s t = absurd (true≢false (sym s))

  abbrev Alike : List Point → List PlacedParts → Type 0
  Alike xs us = (k : ℕ) (x : Point) (u : PlacedParts) → slice_get xs k ≡ Some x → slice_get us k ≡ Some u → u.unit.section ≡ x.section

  pub islands_to : (xs : List Point) (us : List PlacedParts) → Alike xs us → Contains (flat_map (island_in j) (zip xs (map unit_place us))) y → Contains (islands us) (j, y)
  islands_to [] us same h = absurd (contains_none y h)
  islands_to (x ∷ xs) [] same h = absurd (contains_none y h)
  islands_to (x ∷ xs) (u ∷ us) same h = elim (Contains-append_cases (island_in j (x, unit_place u)) (flat_map (island_in j) (zip xs (map unit_place us))) y h) [
    | inl m ↦ Contains-append_left (island_place u) (islands us) (j, y)
        (subst (λ (n : ℕ). Contains (island_by n u.island) (j, y)) (sym (same 0 x u refl refl)) (island_to x.section u.island (x.section == j) refl m))
    | inr m ↦ Contains-append_right (island_place u) (islands us) (j, y) (islands_to xs us (λ k. same (suc k)) m)
  ]

  islands_from : (xs : List Point) (us : List PlacedParts) → length us ≡ length xs → Alike xs us → Contains (islands us) (j, y) → Contains (flat_map (island_in j) (zip xs (map unit_place us))) y
  islands_from [] [] l same h = absurd (contains_none (j, y) h)
  islands_from [] (u ∷ us) l same h = absurd (omega arith)
  islands_from (x ∷ xs) [] l same h = absurd (omega arith)
  islands_from (x ∷ xs) (u ∷ us) l same h = elim (Contains-append_cases (island_place u) (islands us) (j, y) h) [
    | inl m ↦ Contains-append_left (island_in j (x, unit_place u)) (flat_map (island_in j) (zip xs (map unit_place us))) y
        (island_from x.section u.island (subst (λ (n : ℕ). Contains (island_by n u.island) (j, y)) (same 0 x u refl refl) m))
    | inr m ↦ Contains-append_right (island_in j (x, unit_place u)) (flat_map (island_in j) (zip xs (map unit_place us))) y (islands_from xs us (omega arith) (λ k. same (suc k)) m)
  ]

  -- where units with bytes begin
  abbrev begins_at : Point × UnitPlace → Bool
  begins_at e = (e.0.section == j) && ((e.1.start == y) && nat_lt e.1.start e.1.end)

  longer : (a b : ℕ) → nat_lt a (a + b) ≡ nat_lt 0 b
  longer a b = grind (arith, nat_tests)

  begins_to : (xs : List Point) (us : List PlacedParts) → Alike xs us → list_any begins_at (zip xs (map unit_place us)) ≡ true → Contains (begins us) (j, y)
  begins_to [] us same h = absurd (true≢false (sym h))
  begins_to (x ∷ xs) [] same h = absurd (true≢false (sym h))
  begins_to (x ∷ xs) (u ∷ us) same h = elim (or_cases (begins_at (x, unit_place u)) (list_any begins_at (zip xs (map unit_place us))) h) [
    | inl t ↦
        let a = and_parts (x.section == j) ((u.start == y) && nat_lt u.start (u.start + u.length)) t in
        let b = and_parts (u.start == y) (nat_lt u.start (u.start + u.length)) a.1 in
        let section = same 0 x u refl refl ∙ eqb-true x.section j a.0 in
        let start = eqb-true u.start y b.0 in
        Contains-append_left (begin_place u) (begins us) (j, y)
        (subst (λ (p : ℕ × ℕ). Contains (begin_place u) p) (λ i. (section i, start i)) (one_in (nat_lt 0 u.length) (u.unit.section, u.start) (sym (longer u.start u.length) ∙ b.1)))
    | inr m ↦ Contains-append_right (begin_place u) (begins us) (j, y) (begins_to xs us (λ k. same (suc k)) m)
  ]

  begins_from : (xs : List Point) (us : List PlacedParts) → length us ≡ length xs → Alike xs us → Contains (begins us) (j, y) → list_any begins_at (zip xs (map unit_place us)) ≡ true
  begins_from [] [] l same h = absurd (contains_none (j, y) h)
  begins_from [] (u ∷ us) l same h = absurd (omega arith)
  begins_from (x ∷ xs) [] l same h = absurd (omega arith)
  begins_from (x ∷ xs) (u ∷ us) l same h = elim (Contains-append_cases (begin_place u) (begins us) (j, y) h) [
    | inl m ↦
        let q = in_one (nat_lt 0 u.length) (u.unit.section, u.start) (j, y) m in
        let section = sym (same 0 x u refl refl) ∙ ap (λ (p : ℕ × ℕ). p.0) q.1 in
        let start = ap (λ (p : ℕ × ℕ). p.1) q.1 in
        any_from begins_at (zip (x ∷ xs) (map unit_place (u ∷ us))) (x, unit_place u) (contains_here (x, unit_place u) (zip xs (map unit_place us)))
        (and_from (x.section == j) ((u.start == y) && nat_lt u.start (u.start + u.length)) (eq-eqb x.section j section) (and_from (u.start == y) (nat_lt u.start (u.start + u.length)) (eq-eqb u.start y start) (longer u.start u.length ∙ q.0)))
    | inr m ↦
        let q = any_is begins_at (zip xs (map unit_place us)) (begins_from xs us (omega arith) (λ k. same (suc k)) m) in
        any_from begins_at (zip (x ∷ xs) (map unit_place (u ∷ us))) q.0 (contains_later (x, unit_place u) (zip xs (map unit_place us)) q.0 q.1.0) q.1.1
  ]

module _ (f : FlowParts) (l : LayoutParts) (m : Matches f l) where
  abbrev pub all_words : List (ℕ × ℕ)
  all_words = map pool_place (zip f.words l.words) ++ islands l.units

  pub in_to : (j y : ℕ) → Contains (words_in f (places_of l) j) y → Contains all_words (j, y)
  in_to j y h = elim (Contains-append_cases (flat_map (pool_word_in j) (pool f (places_of l))) (flat_map (island_in j) (units f (places_of l))) y h) [
    | inl a ↦ Contains-append_left (map pool_place (zip f.words l.words)) (islands l.units) (j, y) (pool_to j y (zip f.words l.words) a)
    | inr b ↦ Contains-append_right (map pool_place (zip f.words l.words)) (islands l.units) (j, y) (islands_to j y f.points l.units m.sections b)
  ]

  in_from : (j y : ℕ) → Contains all_words (j, y) → Contains (words_in f (places_of l) j) y
  in_from j y h = elim (Contains-append_cases (map pool_place (zip f.words l.words)) (islands l.units) (j, y) h) [
    | inl a ↦ Contains-append_left (flat_map (pool_word_in j) (pool f (places_of l))) (flat_map (island_in j) (units f (places_of l))) y (pool_from j y (zip f.words l.words) a)
    | inr b ↦ Contains-append_right (flat_map (pool_word_in j) (pool f (places_of l))) (flat_map (island_in j) (units f (places_of l))) y (islands_from j y f.points l.units m.units m.sections b)
  ]

  module _ (words starts : BTreeSet (ℕ × ℕ)) (are_words : IsSetOf words all_words) (are_starts : IsSetOf starts (begins l.units)) where
    word_to : (j x : ℕ) → has_word f (places_of l) j x ≡ true → has words j x ≡ true
    word_to j x h =
        let q = any_is (λ (w : ℕ). w == x) (words_in f (places_of l) j) h in
        (are_words (j, x)).1 (subst (λ (z : ℕ). Contains all_words (j, z)) (eqb-true q.0 x q.1.1) (in_to j q.0 q.1.0))

    word_from : (j x : ℕ) → has words j x ≡ true → has_word f (places_of l) j x ≡ true
    word_from j x h = any_from (λ (w : ℕ). w == x) (words_in f (places_of l) j) x (in_from j x ((are_words (j, x)).0 h)) (eq-eqb x x refl)

    follow_to : (j x : ℕ) → follows_word f (places_of l) j x ≡ true → (w : ℕ) × ((has words j w ≡ true) × (w + 4 ≡ x))
    follow_to j x h =
        let q = any_is (λ (w : ℕ). w + 4 == x) (words_in f (places_of l) j) h in
        (q.0, ((are_words (j, q.0)).1 (in_to j q.0 q.1.0), eqb-true (q.0 + 4) x q.1.1))

    follow_from : (j w : ℕ) → has words j w ≡ true → follows_word f (places_of l) j (w + 4) ≡ true
    follow_from j w h = any_from (λ (z : ℕ). z + 4 == w + 4) (words_in f (places_of l) j) w (in_from j w ((are_words (j, w)).0 h)) (eq-eqb (w + 4) (w + 4) refl)

    -- two tests of one fact
    same_test : (a b : Bool) → (a ≡ true → b ≡ true) → (b ≡ true → a ≡ true) → a ≡ b
    same_test true b to from = sym (to refl)
    same_test false true to from = from refl
    same_test false false to from = refl

    word_same : (j x : ℕ) → has_word f (places_of l) j x ≡ has words j x
    word_same j x = same_test (has_word f (places_of l) j x) (has words j x) (word_to j x) (word_from j x)

    follow_same : (j x : ℕ) → follows_word f (places_of l) j x ≡ follows words j x
    follow_same j x = same_test (follows_word f (places_of l) j x) (follows words j x)
        (λ h. let q = follow_to j x h in
        let back : q.0 ≡ x - 4 = omega (arith, q.1.1) in
        let high : 4 ≤ x = omega (arith, q.1.1) in
        and_from (nat_le 4 x) (has words j (x - 4)) (at_least 4 x high) (subst (λ (z : ℕ). has words j z ≡ true) back q.1.0))
        (λ h. let p = and_parts (nat_le 4 x) (has words j (x - 4)) h in
        let high = leb-true 4 x p.0 in
        let up : (x - 4) + 4 ≡ x = omega (arith, high) in
        subst (λ (z : ℕ). follows_word f (places_of l) j z ≡ true) up (follow_from j (x - 4) p.1))

    unit_same : (j x : ℕ) → has_unit f (places_of l) j x ≡ has starts j x
    unit_same j x = same_test (has_unit f (places_of l) j x) (has starts j x)
        (λ h. (are_starts (j, x)).1 (begins_to j x f.points l.units m.sections h))
        (λ h. begins_from j x f.points l.units m.units m.sections ((are_starts (j, x)).0 h))

    module _ (o h : ObjectParts) (sized : HasSizes o h l.sizes) where
      abbrev the_marks : List (ℕ × ℕ)
      the_marks = word_marks words starts all_words ++ first_marks words l.sizes 0 o.sections

      is_mapping : (p : ℕ × ℕ) → Contains the_marks p → IsMapping h f (places_of l) (mapping_at words p)
      is_mapping p c = elim (Contains-append_cases (word_marks words starts all_words) (first_marks words l.sizes 0 o.sections) p c) [
        | inl a ↦ by_word p (in_marks words starts all_words p a).word (in_marks words starts all_words p a).there (in_marks words starts all_words p a).is
        | inr b ↦ let q = in_first words l.sizes 0 o.sections p b in by_first p q.number q.section q.there q.first q.is
      ]
        where
          by_word : (p w : ℕ × ℕ) → Contains all_words w → ((follows words w.0 w.1 ≡ false) × (w ≡ p)) ⊎ ((has starts w.0 (w.1 + 4) ≡ true) × ((w.0, w.1 + 4) ≡ p)) → IsMapping h f (places_of l) (mapping_at words p)
          by_word p w here (inl (free, e)) =
              let there : has words w.0 w.1 ≡ true = (are_words w).1 here in
              subst (λ (q : ℕ × ℕ). IsMapping h f (places_of l) (mapping_at words q)) e
              (subst (λ (b : Bool). IsMapping h f (places_of l) (record { section = w.0; at = w.1; code = not b })) (sym there) (mapping.word w.0 w.1 (word_same w.0 w.1 ∙ there) (follow_same w.0 w.1 ∙ free)))
          by_word p w here (inr (begin, e)) =
              let there : has words w.0 w.1 ≡ true = (are_words w).1 here in
              let unit = unit_same w.0 (w.1 + 4) ∙ begin in
              let none : has words w.0 (w.1 + 4) ≡ false = sym (word_same w.0 (w.1 + 4)) ∙ m.apart w.0 (w.1 + 4) unit in
              subst (λ (q : ℕ × ℕ). IsMapping h f (places_of l) (mapping_at words q)) e
              (subst (λ (b : Bool). IsMapping h f (places_of l) (record { section = w.0; at = w.1 + 4; code = not b })) (sym none) (mapping.behind w.0 (w.1 + 4) (follow_from w.0 w.1 there) unit))

          by_first : (p : ℕ × ℕ) (j : ℕ) (s : Section) → slice_get o.sections j ≡ Some s → is_first words l.sizes (0 + j) s ≡ true → (0 + j, 0) ≡ p → IsMapping h f (places_of l) (mapping_at words p)
          by_first p j s at first e =
              let z : 0 + j ≡ j = omega arith in
              let f1 : is_first words l.sizes j s ≡ true = subst (λ (k : ℕ). is_first words l.sizes k s ≡ true) z first in
              let a = and_parts (is_code s && nat_lt 0 (slice_index l.sizes j)) (not (has words j 0)) f1 in
              let b = and_parts (is_code s) (nat_lt 0 (slice_index l.sizes j)) a.0 in
              let t = sized.news j s at b.0 in
              let size = sized.same j t.section t.there t.code in
              let none : has words j 0 ≡ false = not_true (has words j 0) a.1 in
              let long : 0 < t.section.size = subst (λ (n : ℕ). 0 < n) (sym size) (ltb-true 0 (slice_index l.sizes j) b.1) in
              subst (λ (q : ℕ × ℕ). IsMapping h f (places_of l) (mapping_at words q)) (ap (λ (k : ℕ). (k, 0)) (sym z) ∙ e)
              (subst (λ (b : Bool). IsMapping h f (places_of l) (record { section = j; at = 0; code = not b })) (sym none) (mapping.first j t.section t.there t.code long (word_same j 0 ∙ none)))

      -- a mapping's place is listed
      listed_at : (list : List (ℕ × ℕ)) (j x : ℕ) (b : Bool) → Contains list (j, x) → has words j x ≡ not b → Contains (map (mapping_at words) list) (record { section = j; at = x; code = b })
      listed_at list j x true here e =
          subst (λ (t : Bool). Contains (map (mapping_at words) list) (record { section = j; at = x; code = not t })) e (map_contains (mapping_at words) list (j, x) here)
      listed_at list j x false here e =
          subst (λ (t : Bool). Contains (map (mapping_at words) list) (record { section = j; at = x; code = not t })) e (map_contains (mapping_at words) list (j, x) here)

      module _ (list : List (ℕ × ℕ)) (exact : (p : ℕ × ℕ) → Contains list p ↔ Contains the_marks p) where
        has_mapping : (q : Mapping) → IsMapping h f (places_of l) q → Contains (map (mapping_at words) list) q
        has_mapping _ (mapping.first j t at code long none) =
            let s = sized.olds j t at code in
            let z : 0 + j ≡ j = omega arith in
            let free : has words j 0 ≡ false = sym (word_same j 0) ∙ none in
            let size = sized.same j t at code in
            let bytes : nat_lt 0 (slice_index l.sizes j) ≡ true = less_than 0 (slice_index l.sizes j) (subst (λ (n : ℕ). 0 < n) size long) in
            let first : is_first words l.sizes j s.section ≡ true =
            and_from (is_code s.section && nat_lt 0 (slice_index l.sizes j)) (not (has words j 0)) (and_from (is_code s.section) (nat_lt 0 (slice_index l.sizes j)) s.code bytes) (ap not free) in
            let here = first_in words l.sizes 0 o.sections j s.section s.there (subst (λ (k : ℕ). is_first words l.sizes k s.section ≡ true) (sym z) first) in
            let mark : Contains the_marks (j, 0) =
            Contains-append_right (word_marks words starts all_words) (first_marks words l.sizes 0 o.sections) (j, 0) (subst (λ (k : ℕ). Contains (first_marks words l.sizes 0 o.sections) (k, 0)) z here) in
            listed_at list j 0 true ((exact (j, 0)).1 mark) free
        has_mapping _ (mapping.word j x is free) =
            let there : has words j x ≡ true = word_to j x is in
            let mark : Contains the_marks (j, x) =
            Contains-append_left (word_marks words starts all_words) (first_marks words l.sizes 0 o.sections) (j, x)
            (marks_in words starts all_words (j, x) (j, x) ((are_words (j, x)).0 there) (inl (sym (follow_same j x) ∙ free, refl))) in
            listed_at list j x false ((exact (j, x)).1 mark) there
        has_mapping _ (mapping.behind j x behind unit) =
            let w = follow_to j x behind in
            let begin : has starts j (w.0 + 4) ≡ true = ap (has starts j) w.1.1 ∙ sym (unit_same j x) ∙ unit in
            let mark : Contains the_marks (j, x) =
            Contains-append_left (word_marks words starts all_words) (first_marks words l.sizes 0 o.sections) (j, x)
            (marks_in words starts all_words (j, w.0) (j, x) ((are_words (j, w.0)).0 w.1.0) (inr (begin, λ i. (j, w.1.1 i)))) in
            listed_at list j x true ((exact (j, x)).1 mark) (sym (word_same j x) ∙ m.apart j x unit)

        same_places : (ps : List (ℕ × ℕ)) → map place_of_mapping (map (mapping_at words) ps) ≡ ps
        same_places [] = refl
        same_places (p ∷ ps) = ap (λ (z : List (ℕ × ℕ)). p ∷ z) (same_places ps)

        pub are_mappings : IsStrictlySortedBy place_cmp list → AreMappings h f (places_of l) (map (mapping_at words) list)
        are_mappings rise = record {
          exact = λ q. (
            (λ c. let p = contains_map (mapping_at words) list q c in subst (IsMapping h f (places_of l)) p.2 (is_mapping p.0 ((exact p.0).0 p.1))),
            has_mapping q,
          );
          rise = subst (IsStrictlySortedBy place_cmp) (sym (same_places list)) rise;
        }
