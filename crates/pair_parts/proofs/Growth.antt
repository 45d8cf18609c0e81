-- No section of code grows by more than 16 times for each copy: a unit has 32 bytes at most for each, and its instruction
-- had two at least; a word has four as it had, and two at most before it.
use Rattle.std.proofs.Common.{◌≡◌, ◌≤◌, ◌<◌, ℕ, ◌+◌, ◌*◌, Bool, true, false, cond, List, [], ◌∷◌, map, Some, refl, sym, ap, ◌∙◌, subst, inl, inr, arith, Less}
use Rattle.std.specs.Prelude.{slice_get, Contains, ◌==◌}
use Rattle.std.specs.List.{zip}
use Rattle.std.proofs.Math.Nat.{mul-le-mul_left}
use Rattle.std.proofs.lemmas.Bool.{eqb-true, true≢false}
use Rattle.std.proofs.lemmas.List.Elements.{Contains-append_cases}
use Rattle.std.proofs.lemmas.Option.{slice_get_within}
use Rattle.elf_model.specs.Canonical.{round_up}
use Rattle.elf_model.specs.Objects.{ObjectParts, is_code, is_code_kind}
use Rattle.elf_model.proofs.Elements.{contains_at, contains_filter, contains_here, contains_later, contains_map, place_of, element_at}
use Rattle.code_ranges.specs.Spans.{place_cmp}
use Rattle.code_ranges.proofs.InOrder.{Rises, rises_keys}
use Rattle.code_ranges.proofs.MarkFacts.{less}
use Rattle.flow_recover.specs.Flows.{FlowParts}
use Rattle.flow_recover.specs.Points.{place_of_point}
use Rattle.flow_recover.specs.WholeFlows.{IsFlow, place_of_word}
use Rattle.hardened_form.specs.Items.{Item, item_of_unit, item_of_word, old_place, items_in, new_start, StandFrom}
use Rattle.hardened_form.specs.Places.{UnitPlace, Places}
use Rattle.hardened_form.specs.Standing.{old_points, old_words}
use Rattle.seq_core.specs.Places.{LayoutParts}
use Rattle.branch_layout.specs.Laid.{laid_places}
use Rattle.branch_layout.specs.Placings.{place_of as stretch_place, places_of, IsStretch}
use Rattle.branch_layout.proofs.LaidFacts.{layouts_laid}
use Rattle.branch_layout.proofs.WithinFacts.{all_zip_at, map_at, zip_parts}
use Rattle.emit_object.specs.Emitting.{units_of}
use Rattle.sim_relation.specs.Pairs.{HaveGrown}
use Rattle.pair_parts.specs.Made.{AreObjects, IsMade}
use Rattle.pair_parts.proofs.OldStretches.{SurelyStands, width_of, surely_ends, surely_inside, point_stands, word_stands}
use Rattle.pair_parts.proofs.UnitBytes.{sequence_many, stretch_most}

-- OLD STRETCHES, ONE BEHIND THE OTHER

-- each from behind the one before it, up to an offset
abbrev Old : ℕ → List Item → ℕ → Type 0
Old y [] bound = y ≤ bound
Old y (it ∷ rest) bound = (y ≤ it.old) × Old (it.old + width_of it.word) rest bound

-- how many bytes an item has at most: for each that it had m
record Fits (m : ℕ) (it : Item) : Type 0 where
  unit : it.word ≡ false → it.end ≤ it.new + 2 * m
  word : it.word ≡ true → it.end ≡ it.new + 4

item_grows : (m x : ℕ) (it : Item) → 2 ≤ m → Fits m it → it.new ≡ new_start it.word x → x ≤ m * it.old → it.end ≤ m * (it.old + width_of it.word)
item_grows m x it least fits start low = go it.word refl
  where
    go : (w : Bool) → it.word ≡ w → it.end ≤ m * (it.old + width_of it.word)
    go false e =
        let new : it.new ≡ x = start ∙ ap (λ (w : Bool). new_start w x) e in
        let end = fits.unit e in
        let width : width_of it.word ≡ 2 = ap width_of e in
        let sum : m * (it.old + width_of it.word) ≡ m * (it.old + 2) = ap (λ (n : ℕ). m * (it.old + n)) width in
        omega arith
    go true e =
        let new : it.new ≡ round_up x 4 = start ∙ ap (λ (w : Bool). new_start w x) e in
        let end = fits.word e in
        let width : width_of it.word ≡ 4 = ap width_of e in
        let sum : m * (it.old + width_of it.word) ≡ m * (it.old + 4) = ap (λ (n : ℕ). m * (it.old + n)) width in
        omega arith

all_grow : (m : ℕ) → 2 ≤ m → (items : List Item) (x y size bound : ℕ) → StandFrom x items size → Old y items bound → ((it : Item) → Contains items it → Fits m it) → x ≤ m * y → size ≤ m * bound
all_grow m least [] x y size bound stand old fits low =
    let more : m * y ≤ m * bound = mul-le-mul_left m old in
    omega arith
all_grow m least (it ∷ rest) x y size bound stand old fits low =
    let more : m * y ≤ m * it.old = mul-le-mul_left m old.0 in
    let reach : x ≤ m * it.old = omega arith in
    all_grow m least rest it.end (it.old + width_of it.word) size bound stand.1 old.1 (λ b c. fits b (contains_later it rest b c))
    (item_grows m x it least (fits it (contains_here it rest)) stand.0 reach)

-- what is of a section in an ordered list
abbrev Before : Item → Item → Type 0
Before a b = place_cmp (old_place a) (old_place b) ≡ Less

lower : (a b : Item) (j : ℕ) → a.section ≡ j → b.section ≡ j → Before a b → a.old < b.old
lower a b j ea eb before = elim (less (old_place a) (old_place b) before) [ inl section ↦ absurd (omega arith) | inr offset ↦ offset.1 ]

module _ (j bound : ℕ) where
  -- one item more before others
  one_more : (it : Item) (rest : List Item) → ((z : ℕ) → z ≤ bound → ((b : Item) → Contains rest b → b.section ≡ j → z ≤ b.old) → Old z (items_in rest j) bound)
      → (it.section ≡ j → it.old + width_of it.word ≤ bound) → ((b : Item) → Contains rest b → it.section ≡ j → b.section ≡ j → it.old + width_of it.word ≤ b.old)
      → (y : ℕ) → y ≤ bound → ((b : Item) → Contains (it ∷ rest) b → b.section ≡ j → y ≤ b.old) → Old y (items_in (it ∷ rest) j) bound
  one_more it rest later inside apart y low behind = go (it.section == j) refl
    where
      go : (v : Bool) → (it.section == j) ≡ v → Old y (cond v (it ∷ items_in rest j) (items_in rest j)) bound
      go true e =
          let here : it.section ≡ j = eqb-true it.section j e in
          (behind it (contains_here it rest) here, later (it.old + width_of it.word) (inside here) (λ b c d. apart b c here d))
      go false e = later y low (λ b c d. behind b (contains_later it rest b c) d)

  old_from : (items : List Item) → Rises Before items → ((it : Item) → Contains items it → it.section ≡ j → it.old + width_of it.word ≤ bound)
      → ((a b : Item) → Contains items a → Contains items b → a.section ≡ j → b.section ≡ j → a.old < b.old → a.old + width_of a.word ≤ b.old)
      → (y : ℕ) → y ≤ bound → ((it : Item) → Contains items it → it.section ≡ j → y ≤ it.old) → Old y (items_in items j) bound
  old_from [] rises inside apart y low behind = low
  old_from (it ∷ rest) rises inside apart y low behind =
      one_more it rest (λ z below later. old_from rest rises.1 (λ b c e. inside b (contains_later it rest b c) e) (λ a b c d. apart a b (contains_later it rest a c) (contains_later it rest b d)) z below later)
      (λ e. inside it (contains_here it rest) e) (λ b c e d. apart it b (contains_here it rest) (contains_later it rest b c) e d (lower it b j e d (rises.0 b c))) y low behind

-- ITEMS OF A LAYOUT

module _ (o h : ObjectParts) (f : FlowParts) (c K : ℕ) (l : LayoutParts) (flow : IsFlow o f) (made : IsMade o h f c K l) where
  -- an item stood somewhere, and fits
  record IsFine (it : Item) : Type 0 where
    stands : SurelyStands o it.section it.old it.word
    fits : Fits (16 * c) it

  unit_fine : (it : Item) → Contains (map item_of_unit (zip (old_points f) (laid_places l).units)) it → IsFine it
  unit_fine it there =
      let e = contains_map item_of_unit (zip (old_points f) (laid_places l).units) it there in
      let n = place_of (zip (old_points f) (laid_places l).units) e.0 e.1 in
      let parts = zip_parts (old_points f) (laid_places l).units n.0 e.0 n.1 in
      let x = map_at place_of_point f.points n.0 e.0.0 parts.0 in
      let laid = layouts_laid (units_of l) f.words l made.can.layout in
      let placing = made.can.layout.placing in
      let place : slice_get (places_of placing).units n.0 ≡ Some e.0.1 = sym (ap (λ (p : Places). slice_get p.units n.0) laid.places) ∙ parts.1 in
      let s = map_at stretch_place placing.units n.0 e.0.1 place in
      let u = element_at (units_of l) n.0 (omega (arith, slice_get_within f.points n.0 x.0 x.1, made.units.sized)) in
      let is = made.units.each n.0 x.0 u.0 x.1 u.1 in
      let stretch = all_zip_at IsStretch (units_of l) placing.units n.0 u.0 s.0 made.can.layout.places.placed.stretches u.1 s.1 in
      let most = stretch_most u.0 s.0 c stretch (sequence_many o is.live c x.0 is.scratch u.0.seq is.sequence) is.short in
      let end : e.0.1.end ≤ e.0.1.start + 32 * c = subst (λ (q : UnitPlace). q.end ≤ q.start + 32 * c) s.2 most in
      let point = subst (λ (p : ℕ × ℕ). SurelyStands o p.0 p.1 false) x.2 (point_stands o f flow n.0 x.0 x.1) in
      let fine : IsFine (item_of_unit e.0) = record {
        stands = point;
        fits = record { unit = λ _. omega arith; word = λ w. absurd (true≢false (sym w)) };
      } in
      subst IsFine e.2 fine

  word_fine : (it : Item) → Contains (map item_of_word (zip (old_words f) (laid_places l).words)) it → IsFine it
  word_fine it there =
      let e = contains_map item_of_word (zip (old_words f) (laid_places l).words) it there in
      let n = place_of (zip (old_words f) (laid_places l).words) e.0 e.1 in
      let parts = zip_parts (old_words f) (laid_places l).words n.0 e.0 n.1 in
      let w = map_at place_of_word f.words n.0 e.0.0 parts.0 in
      let stands = subst (λ (p : ℕ × ℕ). SurelyStands o p.0 p.1 true) w.2 (word_stands o f flow w.0 (contains_at f.words n.0 w.0 w.1)) in
      let fine : IsFine (item_of_word e.0) = record {
        stands = stands;
        fits = record { unit = λ e. absurd (true≢false e); word = λ _. refl };
      } in
      subst IsFine e.2 fine

  item_fine : (it : Item) → Contains made.form.lists.items it → IsFine it
  item_fine it there =
      elim (Contains-append_cases (map item_of_unit (zip (old_points f) (laid_places l).units)) (map item_of_word (zip (old_words f) (laid_places l).words)) it ((made.form.tables.lists.items.same it).0 there)) [
        | inl unit ↦ unit_fine it unit
        | inr word ↦ word_fine it word
      ]

  pub grown : 2 ≤ c → HaveGrown o h c
  grown least j s t old code new =
      let list = made.form.lists.items in
      let is = made.form.tables.sections.each j s t old new in
      let still : is_code t ≡ true = ap (λ (k : ℕ). is_code_kind k t.flags) is.kind ∙ ap (λ (v : ℕ). is_code_kind s.kind v) is.flags ∙ code in
      let stand = (made.form.tiled j t new still).stand in
      let stands = λ (it : Item) (there : Contains list it) (e : it.section ≡ j). subst (λ (k : ℕ). SurelyStands o k it.old it.word) e (item_fine it there).stands in
      let stretches : Old 0 (items_in list j) s.size =
      old_from j s.size list (rises_keys old_place place_cmp list made.form.tables.lists.items.rise) (λ it there e. surely_inside o j it.old it.word s old (stands it there e))
      (λ a b ha hb ea eb lt. surely_ends o j a.old b.old a.word b.word (stands a ha ea) (stands b hb eb) lt) 0 (omega arith) (λ it there e. omega arith) in
      all_grow (16 * c) (omega arith) (items_in list j) 0 0 t.size s.size stand stretches (λ it there. (item_fine it (contains_filter (λ (b : Item). b.section == j) list it there).0).fits) (omega arith)

pub made_grow : (o h : ObjectParts) (f : FlowParts) (c K : ℕ) (l : LayoutParts) → AreObjects o h → IsFlow o f → 2 ≤ c → c ≤ 4 → IsMade o h f c K l → HaveGrown o h c
made_grow o h f c K l objects flow least most made = grown o h f c K l flow made least
