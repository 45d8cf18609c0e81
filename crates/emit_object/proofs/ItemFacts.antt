-- The items of a layout, and the first of them from an old offset on.
use Rattle.std.proofs.Common.{◌≡◌, ◌<◌, ◌≤◌, ℕ, zero, suc, Bool, cond, List, [], ◌∷◌, length, map, get_or, refl, sym, ap, ◌∙◌, subst, arith, Option, Some, None}
use Rattle.std.specs.Prelude.{slice_get, ◌==◌}
use Rattle.std.specs.List.{zip}
use Rattle.std.specs.List.Sorted.{IsStrictlySortedBy}
use Rattle.std.proofs.lemmas.Option.{none-some, same_Some, slice_get_within, slice_get-map, slice_get-get_or}
use Rattle.std.proofs.lemmas.Bool.{eq-eqb, ne_eqb}
use Rattle.elf_model.proofs.Elements.{element_at}
use Rattle.std.proofs.lemmas.List.{length-map}
use Rattle.std.specs.Option.{option_map}
use Rattle.code_ranges.specs.Spans.{place_cmp}
use Rattle.code_ranges.proofs.InOrder.{Rises, rises_keys}
use Rattle.flow_recover.specs.declared.flows.Point.{Point}
use Rattle.flow_recover.specs.declared.flows.PoolWord.{PoolWord}
use Rattle.flow_recover.specs.Flows.{FlowParts}
use Rattle.flow_recover.specs.Points.{place_of_point, PointsRise}
use Rattle.flow_recover.specs.WholeFlows.{place_of_word}
use Rattle.seq_core.specs.Places.{PlacedParts, LayoutParts}
use Rattle.hardened_form.specs.Items.{Item, old_place, item_of_unit, item_of_word}
use Rattle.hardened_form.specs.Standing.{old_points, old_words, first_from}
use Rattle.branch_layout.specs.Laid.{laid_place as unit_place}
use Rattle.emit_object.specs.Laid.{Matches}
use Rattle.emit_object.specs.FirstItems.{AreItemsOf, unit_items, word_items, IsFirstFrom, first_of, nearer_or}
use Rattle.emit_object.proofs.FirstFacts.{Before, entry_at, first_entry, among}

-- what makes items keeps their old places
module _ {Y : Type 0} (make : (ℕ × ℕ) × Y → Item) (keeps : (p : ℕ × ℕ) (y : Y) → old_place (make (p, y)) ≡ p) where
  pub made_places : (ps : List (ℕ × ℕ)) (ys : List Y) → length ys ≡ length ps → map old_place (map make (zip ps ys)) ≡ ps
  made_places [] ys l = refl
  made_places (p ∷ ps) [] l = absurd (omega arith)
  made_places (p ∷ ps) (y ∷ ys) l = ap (λ (q : ℕ × ℕ). q ∷ map old_place (map make (zip ps ys))) (keeps p y) ∙ ap (λ (r : List (ℕ × ℕ)). p ∷ r) (made_places ps ys (omega arith))

  pub made_at : (ps : List (ℕ × ℕ)) (ys : List Y) (k : ℕ) (p : ℕ × ℕ) (y : Y) → slice_get ps k ≡ Some p → slice_get ys k ≡ Some y → slice_get (map make (zip ps ys)) k ≡ Some (make (p, y))
  made_at [] ys k p y e f = absurd (none-some p e)
  made_at (q ∷ ps) [] k p y e f = absurd (none-some y f)
  made_at (q ∷ ps) (z ∷ ys) zero p y e f = ap (λ (r : ℕ × ℕ). Some (make (r, z))) (same_Some q p e) ∙ ap (λ (v : Y). Some (make (p, v))) (same_Some z y f)
  made_at (q ∷ ps) (z ∷ ys) (suc k) p y e f = made_at ps ys k p y e f

  -- the first one from a place on, by its number
  module _ (ps : List (ℕ × ℕ)) (ys : List Y) (long : length ys ≡ length ps) (rise : Rises Before (map make (zip ps ys))) (j x k : ℕ) (first : IsFirstFrom ps (j, x) k) where
    entry : entry_at j x (slice_get (map make (zip ps ys)) k) ≡ first_of (map make (zip ps ys)) j x
    entry = first_entry j x (map make (zip ps ys)) k rise (subst (λ (l : List (ℕ × ℕ)). IsFirstFrom l (j, x) k) (sym (made_places ps ys long)) first)

    pub no_entry : length ps ≤ k → None ≡ first_of (map make (zip ps ys)) j x
    no_entry past = go (slice_get (map make (zip ps ys)) k) refl
      where
        go : (e : Option Item) → slice_get (map make (zip ps ys)) k ≡ e → None ≡ first_of (map make (zip ps ys)) j x
        go None e = ap (entry_at j x) (sym e) ∙ entry
        go (Some it) e =
            let low = slice_get_within (map make (zip ps ys)) k it e in
            let same : length (map make (zip ps ys)) ≡ length ps = sym (length-map (map make (zip ps ys)) old_place) ∙ ap length (made_places ps ys long) in
            absurd (omega arith)

    pub there : (p : ℕ × ℕ) (y : Y) → slice_get ps k ≡ Some p → slice_get ys k ≡ Some y → entry_at j x (Some (make (p, y))) ≡ first_of (map make (zip ps ys)) j x
    there p y e f = ap (entry_at j x) (sym (made_at ps ys k p y e f)) ∙ entry

module _ (f : FlowParts) (l : LayoutParts) where
  pub units_in_order : PointsRise f → length l.units ≡ length f.points → Rises Before (unit_items f l)
  units_in_order rises count =
      let long : length (map unit_place l.units) ≡ length (old_points f) = length-map l.units unit_place ∙ count ∙ sym (length-map f.points place_of_point) in
      rises_keys old_place place_cmp (unit_items f l) (subst (λ (ps : List (ℕ × ℕ)). IsStrictlySortedBy place_cmp ps) (sym (made_places item_of_unit (λ p u. refl) (old_points f) (map unit_place l.units) long)) rises.order)

  pub words_in_order : IsStrictlySortedBy place_cmp (map place_of_word f.words) → length l.words ≡ length f.words → Rises Before (word_items f l)
  words_in_order rise count =
      rises_keys old_place place_cmp (word_items f l)
      (subst (λ (ps : List (ℕ × ℕ)). IsStrictlySortedBy place_cmp ps) (sym (made_places item_of_word (λ p y. refl) (old_words f) l.words (count ∙ sym (length-map f.words place_of_word)))) rise)

  pub first_is : PointsRise f → IsStrictlySortedBy place_cmp (map place_of_word f.words) → Matches f l → (items : List Item) → AreItemsOf f l items → (j x size : ℕ)
      → nearer_or (first_of (unit_items f l) j x) (first_of (word_items f l) j x) size ≡ first_from items j x size
  first_is rises rise matches items are j x size =
      among j x items (unit_items f l) (word_items f l) (rises_keys old_place place_cmp items are.rise) (units_in_order rises matches.units) (words_in_order rise matches.words) are.same size

module _ (f : FlowParts) (l : LayoutParts) (j x k : ℕ) where
  module _ (rises : PointsRise f) (count : length l.units ≡ length f.points) (first : IsFirstFrom (map place_of_point f.points) (j, x) k) where
    long : length (map unit_place l.units) ≡ length (old_points f)
    long = length-map l.units unit_place ∙ count ∙ sym (length-map f.points place_of_point)

    pub no_unit : length f.points ≤ k → None ≡ first_of (unit_items f l) j x
    no_unit past = let same = length-map f.points place_of_point in no_entry item_of_unit (λ p u. refl) (old_points f) (map unit_place l.units) long (units_in_order f l rises count) j x k first (omega arith)

    pub unit_there : (p : Point) (u : PlacedParts) → slice_get f.points k ≡ Some p → slice_get l.units k ≡ Some u → cond (p.section == j) (Some (p.offset, u.start)) None ≡ first_of (unit_items f l) j x
    unit_there p u e g =
        there item_of_unit (λ p u. refl) (old_points f) (map unit_place l.units) long (units_in_order f l rises count) j x k first (place_of_point p) (unit_place u)
        (slice_get-map place_of_point f.points k ∙ ap (option_map place_of_point) e) (slice_get-map unit_place l.units k ∙ ap (option_map unit_place) g)

  module _ (rise : IsStrictlySortedBy place_cmp (map place_of_word f.words)) (count : length l.words ≡ length f.words) (first : IsFirstFrom (map place_of_word f.words) (j, x) k) where
    pool_long : length l.words ≡ length (old_words f)
    pool_long = count ∙ sym (length-map f.words place_of_word)

    pub no_word : length f.words ≤ k → None ≡ first_of (word_items f l) j x
    no_word past = let same = length-map f.words place_of_word in no_entry item_of_word (λ p y. refl) (old_words f) l.words pool_long (words_in_order f l rise count) j x k first (omega arith)

    pub word_there : (w : PoolWord) (y : ℕ) → slice_get f.words k ≡ Some w → slice_get l.words k ≡ Some y → cond (w.section == j) (Some (w.offset, y)) None ≡ first_of (word_items f l) j x
    word_there w y e g = there item_of_word (λ p y. refl) (old_words f) l.words pool_long (words_in_order f l rise count) j x k first (place_of_word w) y (slice_get-map place_of_word f.words k ∙ ap (option_map place_of_word) e) g

-- what a search for the first one shows, by the lists that it reads
module _ (f : FlowParts) (l : LayoutParts) (j x k : ℕ) (rises : PointsRise f) (count : length l.units ≡ length f.points) (points : List Point) (same : points ≡ f.points) (first : IsFirstFrom (map place_of_point points) (j, x) k) where
  is_first : IsFirstFrom (map place_of_point f.points) (j, x) k
  is_first = subst (λ (ps : List Point). IsFirstFrom (map place_of_point ps) (j, x) k) same first

  pub unit_past : length points ≤ k → None ≡ first_of (unit_items f l) j x
  unit_past past = no_unit f l j x k rises count is_first (subst (λ (ps : List Point). length ps ≤ k) same past)

  module _ (p : Point) (low : k < length points) (at : p ≡ get_or points k p) where
    point_there : slice_get f.points k ≡ Some p
    point_there = ap (λ (ps : List Point). slice_get ps k) (sym same) ∙ slice_get-get_or points k p low ∙ ap (λ (z : Point). Some z) (sym at)

    within : k < length l.units
    within = let long = ap length same in omega (arith, low, count, long)

    pub unit_other : (p.section ≡ j → ⊥) → None ≡ first_of (unit_items f l) j x
    unit_other other =
        let u = element_at l.units k within in
        sym (ap (λ (b : Bool). cond b (Some (p.offset, u.0.start)) None) (ne_eqb p.section j other)) ∙ unit_there f l j x k rises count is_first p u.0 point_there u.1

    pub unit_first : (units : List PlacedParts) (u : PlacedParts) → units ≡ l.units → u ≡ get_or units k u → p.section ≡ j → Some (p.offset, u.start) ≡ first_of (unit_items f l) j x
    unit_first units u same_units at_u here =
        let unit_there_is : slice_get l.units k ≡ Some u = slice_get-get_or l.units k u within ∙ ap (λ (us : List PlacedParts). Some (get_or us k u)) (sym same_units) ∙ ap (λ (z : PlacedParts). Some z) (sym at_u) in
        sym (ap (λ (b : Bool). cond b (Some (p.offset, u.start)) None) (eq-eqb p.section j here)) ∙ unit_there f l j x k rises count is_first p u point_there unit_there_is

module _ (f : FlowParts) (l : LayoutParts) (j x k : ℕ) (rise : IsStrictlySortedBy place_cmp (map place_of_word f.words)) (count : length l.words ≡ length f.words) (words : List PoolWord) (same : words ≡ f.words) (first : IsFirstFrom (map place_of_word words) (j, x) k) where
  is_first_word : IsFirstFrom (map place_of_word f.words) (j, x) k
  is_first_word = subst (λ (ws : List PoolWord). IsFirstFrom (map place_of_word ws) (j, x) k) same first

  pub word_past : length words ≤ k → None ≡ first_of (word_items f l) j x
  word_past past = no_word f l j x k rise count is_first_word (subst (λ (ws : List PoolWord). length ws ≤ k) same past)

  module _ (d : PoolWord) (low : k < length words) where
    word_is : slice_get f.words k ≡ Some (get_or words k d)
    word_is = ap (λ (ws : List PoolWord). slice_get ws k) (sym same) ∙ slice_get-get_or words k d low

    within_words : k < length l.words
    within_words = let long = ap length same in omega (arith, low, count, long)

    pub word_other : ((get_or words k d).section ≡ j → ⊥) → None ≡ first_of (word_items f l) j x
    word_other other =
        let y = element_at l.words k within_words in
        sym (ap (λ (b : Bool). cond b (Some ((get_or words k d).offset, y.0)) None) (ne_eqb (get_or words k d).section j other)) ∙ word_there f l j x k rise count is_first_word (get_or words k d) y.0 word_is y.1

    pub word_first : (places : List ℕ) → places ≡ l.words → (get_or words k d).section ≡ j → Some ((get_or words k d).offset, get_or places k 0) ≡ first_of (word_items f l) j x
    word_first places same_places here =
        let at : slice_get l.words k ≡ Some (get_or places k 0) = slice_get-get_or l.words k 0 within_words ∙ ap (λ (ys : List ℕ). Some (get_or ys k 0)) (sym same_places) in
        sym (ap (λ (b : Bool). cond b (Some ((get_or words k d).offset, get_or places k 0)) None) (eq-eqb (get_or words k d).section j here)) ∙ word_there f l j x k rise count is_first_word (get_or words k d) (get_or places k 0) word_is at
