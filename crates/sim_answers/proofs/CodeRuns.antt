-- The ranges of hardened code: units run through ranges of code, words through ranges of data.
use Rattle.std.specs.Prelude.{◌≡◌, ◌<◌, ◌≤◌, ◌⊎◌, ℕ, zero, suc, ◌+◌, ◌-◌, ◌%◌, ◌==◌, ◌&&◌, nat_lt, Bool, true, false, List, [], ◌∷◌, map, Option, Some, None, slice_get, Contains, refl}
use Rattle.std.specs.List.{zip}
use Rattle.std.proofs.Common.{arith, inl, inr, ap, sym, ◌∙◌, subst, unwrap_or}
use Rattle.std.proofs.lemmas.Bool.{cases_Bool, cases_lt, cases_order, both_ways, and_parts, and_from, eqb-true, eq-eqb, ltb-true, lt-ltb, false_from_ne_true}
use Rattle.elf_model.specs.declared.objects.Section.{Section}
use Rattle.elf_model.specs.declared.ranges.RangeKind.{RangeKind}
use Rattle.elf_model.specs.declared.ranges.RangeKind.TheVariants.{Code, Data}
use Rattle.elf_model.specs.Objects.{ObjectParts, is_code}
use Rattle.elf_model.specs.Ranges.{is_mapped, IsRange, length_at, IsStart, first, next}
use Rattle.elf_model.proofs.Elements.{contains_cases, contains_none, contains_here, contains_later, contains_filter, map_contains}
use Rattle.std.proofs.lemmas.List.Elements.{Contains-append_right}
use Rattle.code_ranges.specs.CodeRanges.{holds_code}
use Rattle.code_ranges.specs.Spans.{kind_at}
use Rattle.code_ranges.proofs.KindFacts.{beginning}
use Rattle.reloc_places.specs.Starts.{bytes_of, IsCodeStart, IsDataWord}
use Rattle.reloc_places.proofs.StartFacts.{start_before, start_behind, start_split}
use Rattle.flow_recover.specs.declared.flows.Point.{Point}
use Rattle.flow_recover.specs.Flows.{FlowParts}
use Rattle.flow_recover.specs.Points.{place_of_point}
use Rattle.flow_recover.specs.WholeFlows.{place_of_word}
use Rattle.hardened_form.specs.Places.{UnitPlace, Places as UnitPlaces}
use Rattle.hardened_form.specs.Items.{Item, item_of_unit, item_of_word, items_in, new_start, StandFrom}
use Rattle.hardened_form.specs.Standing.{units, old_points, old_words}
use Rattle.hardened_form.specs.MappingSymbols.{has_word, follows_word, has_unit, Mapping, IsMapping}
use Rattle.hardened_form.specs.MappingSymbols.IsMapping.{first as from_start, word as before_word, behind as behind_word}
use Rattle.hardened_form.specs.Carriers.{Carrier}
use Rattle.sim_answers.specs.Units.{Divides, ended, longer, code_end, IsUnit}
use Rattle.sim_answers.specs.Forms.{IsFormOf}
use Rattle.sim_answers.proofs.Pairs.{zip_mapped, mapped_zip}
use Rattle.sim_answers.proofs.PointPlaces.{unit_of, word_of, item_of, divided_up}
use Rattle.sim_answers.proofs.DataAnswered.{any_there, there_any}
use Rattle.sim_answers.proofs.Marks.{marked, mapped_from_list}
use Rattle.sim_answers.proofs.CodeWords.{HasWord, pooled, island, listed_word, word_listed_in, all_behind, unit_end, here_items, item_up, stand, word_aligned, word_inside, word_beside}

divides_on : (bytes : List ℕ) (y z x : ℕ) → Divides bytes y x → Divides bytes z y → Divides bytes z x
divides_on bytes y z x ended d = d
divides_on bytes y z x (longer _ rest) d = longer x (divides_on bytes y z (x + length_at bytes x) rest d)

-- starts within a range
start_through : (bytes : List ℕ) (s e z x : ℕ) → Divides bytes z x → z < e → IsStart bytes s e x → IsStart bytes s e z
start_through bytes s e z x ended l at = at
start_through bytes s e z x (longer _ rest) l at =
    let up = divided_up bytes z (x + length_at bytes x) rest in
    start_through bytes s e z (x + length_at bytes x) rest l (next x at (omega (arith, up, l)))

start_within : (bytes : List ℕ) (s e a end c : ℕ) → IsStart bytes s e a → end ≤ e → IsStart bytes a end c → IsStart bytes s e c
start_within bytes s e a end c at l (first b) = at
start_within bytes s e a end _ at l (next x b m) = next x (start_within bytes s e a end x at l b) (omega (arith, l, m))

-- an instruction of a divided stretch is whole
start_whole : (bytes : List ℕ) (z a c : ℕ) → Divides bytes z a → IsStart bytes a z c → c + length_at bytes c ≤ z
start_whole bytes z a c ended at = absurd (let l = start_before bytes z z c at in let m = start_behind bytes z z c at in omega (arith, l, m))
start_whole bytes z a c (longer _ rest) at =
    elim (start_split bytes a z c at) [
      | inl e ↦ subst (λ (n : ℕ). n + length_at bytes n ≤ z) (sym e) (divided_up bytes z (a + length_at bytes a) rest)
      | inr r ↦ start_whole bytes z (a + length_at bytes a) c rest r
    ]

-- a unit with bytes has instructions
nonempty : (h : ObjectParts) (j : ℕ) (u : UnitPlace) → IsUnit h j u → u.start < u.end → u.start < code_end u
nonempty h j u is l = go u.island refl
  where
    go : (i : Option ℕ) → u.island ≡ i → u.start < code_end u
    go None e = let s : code_end u ≡ u.end = ap (λ (z : Option ℕ). unwrap_or z u.end) e in omega (arith, s, l)
    go (Some y) e = let s : code_end u ≡ y = ap (λ (z : Option ℕ). unwrap_or z u.end) e in let w = (is.island y e).0 in omega (arith, s, w)

-- where the next mapping symbol is, or the end
record Ends (h : ObjectParts) (j s size : ℕ) : Type 0 where
  end : ℕ
  above : s < end
  within : end ≤ size
  ends : (is_mapped h j end ≡ true) ⊎ (end ≡ size)
  nearest : (y : ℕ) → s < y → y < end → is_mapped h j y ≡ false

find_end : (h : ObjectParts) (j s size n y : ℕ) → y + n ≡ size → s < y → ((z : ℕ) → s < z → z < y → is_mapped h j z ≡ false) → Ends h j s size
find_end h j s size zero y e l clear = record { end = y; above = l; within = omega (arith, e); ends = inr (omega (arith, e)); nearest = clear }
find_end h j s size (suc n) y e l clear =
    elim (cases_Bool (is_mapped h j y)) [
      | inl at ↦ record { end = y; above = l; within = omega (arith, e); ends = inl at; nearest = clear }
      | inr none ↦ find_end h j s size n (y + 1) (omega (arith, e)) (omega (arith, l)) (λ z a b.
          elim (cases_lt z y) [ inl low ↦ clear z a low | inr high ↦ (let same : y ≡ z = omega (arith, b, high) in subst (λ (w : ℕ). is_mapped h j w ≡ false) same none) ])
    ]

module _ (o h : ObjectParts) (f : FlowParts) (p : UnitPlaces) (carriers : List (List Carrier)) (is : IsFormOf o h f p carriers) (j : ℕ) (old : holds_code (slice_get o.sections j) ≡ true) (t : Section) (there : slice_get h.sections j ≡ Some t) (code : is_code t ≡ true) where
  -- why a mapping symbol stands somewhere
  data Mark (y : ℕ) : Type 0 where
    at_first : y ≡ 0 → Mark y
    at_word : HasWord f p j y → ((w : ℕ) → HasWord f p j w → w + 4 ≡ y → ⊥) → Mark y
    at_unit : (w : ℕ) → HasWord f p j w → w + 4 ≡ y → (x : Point) (u : UnitPlace) → Contains (units f p) (x, u) → x.section ≡ j → u.start ≡ y → u.start < u.end → Mark y

  follower : (y w : ℕ) → HasWord f p j w → w + 4 ≡ y → follows_word f p j y ≡ true
  follower y w word e = word_listed_in f p j (λ (v : ℕ). v + 4 == y) w word (eq-eqb (w + 4) y e)

  mark_of : (m : Mapping) → IsMapping h f p m → m.section ≡ j → Mark m.at
  mark_of _ (from_start _ _ _ _ _ _) e = at_first refl
  mark_of _ (before_word i y has none) e =
      let has_j : has_word f p j y ≡ true = subst (λ (k : ℕ). has_word f p k y ≡ true) e has in
      let none_j : follows_word f p j y ≡ false = subst (λ (k : ℕ). follows_word f p k y ≡ false) e none in
      let w = listed_word f p j (λ (v : ℕ). v == y) has_j in
      at_word (subst (HasWord f p j) (eqb-true w.0 y w.2) w.1) (λ v word same. both_ways (follows_word f p j y) none_j (follower y v word same))
  mark_of _ (behind_word i y follows unit) e =
      let follows_j : follows_word f p j y ≡ true = subst (λ (k : ℕ). follows_word f p k y ≡ true) e follows in
      let unit_j : has_unit f p j y ≡ true = subst (λ (k : ℕ). has_unit f p k y ≡ true) e unit in
      let w = listed_word f p j (λ (v : ℕ). v + 4 == y) follows_j in
      let u = any_there (λ (q : Point × UnitPlace). (q.0.section == j) && ((q.1.start == y) && nat_lt q.1.start q.1.end)) (units f p) unit_j in
      let a = and_parts (u.0.0.section == j) ((u.0.1.start == y) && nat_lt u.0.1.start u.0.1.end) u.2 in
      let b = and_parts (u.0.1.start == y) (nat_lt u.0.1.start u.0.1.end) a.1 in
      at_unit w.0 w.1 (eqb-true (w.0 + 4) y w.2) u.0.0 u.0.1 u.1 (eqb-true u.0.0.section j a.0) (eqb-true u.0.1.start y b.0) (ltb-true u.0.1.start u.0.1.end b.1)

  mark_is : (y : ℕ) → is_mapped h j y ≡ true → Mark y
  mark_is y e =
      let m = mapped_from_list o h f p carriers is j old y e in
      subst Mark m.3 (mark_of m.0 ((is.form.tables.lists.mappings.exact m.0).0 m.1) m.2)

  -- a stretch of code or of data up to an offset
  data State (x : ℕ) : Type 0 where
    fresh : x ≡ 0 → State x
    in_code : (s : ℕ) → Contains is.form.lists.mappings (record { section = j; at = s; code = true }) → s < x → Divides (bytes_of h j) x s → ((y : ℕ) → s < y → y < x → Mark y → ⊥)
        → ((w : ℕ) → HasWord f p j w → (w + 4 < x) ⊎ (x ≤ w)) → State x
    in_data : (s : ℕ) → Contains is.form.lists.mappings (record { section = j; at = s; code = false }) → s < x → x % 4 ≡ 0 → (w : ℕ) → HasWord f p j w → w + 4 ≡ x
        → ((y : ℕ) → s < y → y < x → Mark y → ⊥) → State x

  -- the range of code that a unit runs through
  record CodeRun (u : UnitPlace) : Type 0 where
    start : ℕ
    mark : Contains is.form.lists.mappings (record { section = j; at = start; code = true })
    low : start ≤ u.start
    chain : Divides (bytes_of h j) u.start start
    clear : (y : ℕ) → start < y → y < code_end u → Mark y → ⊥

  -- the range of data that a word is in
  record DataRun (y : ℕ) : Type 0 where
    start : ℕ
    mark : Contains is.form.lists.mappings (record { section = j; at = start; code = false })
    low : start ≤ y
    clear : (z : ℕ) → start < z → z < y + 4 → Mark z → ⊥

  beside : (x : Point) (u : UnitPlace) → Contains (units f p) (x, u) → x.section ≡ j → (w : ℕ) → HasWord f p j w → (w + 4 ≤ u.start) ⊎ (code_end u ≤ w)
  beside x u c e w word = word_beside o h f p carriers is j t there code x u c e w word

  inside : (x : Point) (u : UnitPlace) → Contains (units f p) (x, u) → x.section ≡ j → (y : ℕ) → u.start < y → y < code_end u → Mark y → ⊥
  inside x u c e y low high (at_first z) = omega (arith, low, z)
  inside x u c e y low high (at_word word n) = elim (beside x u c e y word) [ inl a ↦ omega (arith, a, low) | inr a ↦ omega (arith, a, high) ]
  inside x u c e y low high (at_unit w word s _ _ _ _ _ _) = elim (beside x u c e w word) [ inl a ↦ omega (arith, a, low, s) | inr a ↦ omega (arith, a, high, s) ]

  code_run : (x : Point) (u : UnitPlace) → Contains (units f p) (x, u) → x.section ≡ j → u.start < code_end u → State u.start → CodeRun u
  code_run x u c e l (fresh z) =
      let unit = is.units.each x u c in
      let size : u.start < t.size = unit.inside t (ap (slice_get h.sections) e ∙ there) in
      let none : has_word f p j 0 ≡ false = false_from_ne_true (has_word f p j 0) (λ yes.
      let w = listed_word f p j (λ (v : ℕ). v == 0) yes in
      let at = eqb-true w.0 0 w.2 in
      elim (beside x u c e w.0 w.1) [ inl a ↦ omega (arith, a, z) | inr a ↦ omega (arith, a, l, z, at) ]) in
      record {
        start = 0;
        mark = (is.form.tables.lists.mappings.exact (record { section = j; at = 0; code = true })).1 (from_start j t there code (omega (arith, size)) none);
        low = omega arith;
        chain = subst (λ (n : ℕ). Divides (bytes_of h j) u.start n) z ended;
        clear = λ y a b. inside x u c e y (omega (arith, a, z)) b;
      }
  code_run x u c e l (in_code s m low chain clear words) = record {
    start = s;
    mark = m;
    low = omega (arith, low);
    chain = chain;
    clear = λ y a b mark. elim (cases_order y u.start) [
      | inl same ↦ here y same a mark
      | inr w ↦ elim w [ inl under ↦ clear y a under mark | inr over ↦ inside x u c e y over b mark ]
    ];
  }
    where
      here : (y : ℕ) → y ≡ u.start → s < y → Mark y → ⊥
      here y same a (at_first z) = omega (arith, a, z)
      here y same a (at_word word n) = elim (beside x u c e y word) [ inl b ↦ omega (arith, b, same) | inr b ↦ omega (arith, b, same, l) ]
      here y same a (at_unit w word at _ _ _ _ _ _) = elim (words w word) [ inl b ↦ omega (arith, b, at, same) | inr b ↦ omega (arith, b, at, same) ]
  code_run x u c e l (in_data s m low aligned w word at clear) =
      let ends = unit_end u h x.section (is.units.each x u c) in
      let last = ends.1 in
      let unit : has_unit f p j u.start ≡ true =
      there_any (λ (q : Point × UnitPlace). (q.0.section == j) && ((q.1.start == u.start) && nat_lt q.1.start q.1.end)) (units f p) (x, u) c
      (and_from (x.section == j) ((u.start == u.start) && nat_lt u.start u.end) (eq-eqb x.section j e)
      (and_from (u.start == u.start) (nat_lt u.start u.end) (eq-eqb u.start u.start refl) (lt-ltb u.start u.end (omega (arith, l, last))))) in
      record {
        start = u.start;
        mark = (is.form.tables.lists.mappings.exact (record { section = j; at = u.start; code = true })).1 (behind_word j u.start (follower u.start w word at) unit);
        low = omega arith;
        chain = ended;
        clear = inside x u c e;
      }

  after_code : (x : Point) (u : UnitPlace) → Contains (units f p) (x, u) → x.section ≡ j → u.start < code_end u → CodeRun u → State (code_end u)
  after_code x u c e l run =
      let low = run.low in
      in_code run.start run.mark (omega (arith, low, l))
      (divides_on (bytes_of h j) u.start (code_end u) run.start run.chain (subst (λ (k : ℕ). Divides (bytes_of h k) (code_end u) u.start) e (is.units.each x u c).divided)) run.clear
      (λ w word. elim (beside x u c e w word) [ inl a ↦ inl (omega (arith, a, l)) | inr a ↦ inr a ])

  aligned_at : (y : ℕ) → HasWord f p j y → y % 4 ≡ 0
  aligned_at y word = word_aligned o h f p carriers is j t there code y word

  within : (y z : ℕ) → y % 4 ≡ 0 → y < z → z < y + 4 → Mark z → ⊥
  within y z al low high (at_first e) = omega (arith, low, e)
  within y z al low high (at_word word n) = let a = aligned_at z word in omega (arith, a, al, low, high)
  within y z al low high (at_unit w word e _ _ _ _ _ _) = let a = aligned_at w word in omega (arith, a, al, low, high, e)

  new_data : (y : ℕ) → HasWord f p j y → ((w : ℕ) → HasWord f p j w → w + 4 ≡ y → ⊥) → DataRun y
  new_data y word none =
      let follows : follows_word f p j y ≡ false = false_from_ne_true (follows_word f p j y) (λ yes.
      let w = listed_word f p j (λ (v : ℕ). v + 4 == y) yes in
      none w.0 w.1 (eqb-true (w.0 + 4) y w.2)) in
      record {
        start = y;
        mark = (is.form.tables.lists.mappings.exact (record { section = j; at = y; code = false })).1 (before_word j y (word_listed_in f p j (λ (v : ℕ). v == y) y word (eq-eqb y y refl)) follows);
        low = omega arith;
        clear = λ z a b mark. within y z (aligned_at y word) a b mark;
      }

  data_run : (x y : ℕ) → State x → HasWord f p j y → x ≤ y → y < x + 4 → DataRun y
  data_run x y (fresh e) word low high = let a = aligned_at y word in new_data y word (λ w other same. omega (arith, a, e, low, high, same))
  data_run x y (in_code s m l chain clear words) word low high =
      new_data y word (λ w other same. elim (words w other) [ inl a ↦ omega (arith, a, same, low) | inr a ↦ omega (arith, a, same, high) ])
  data_run x y (in_data s m l al w other at clear) word low high =
      let a = aligned_at y word in
      let same : y ≡ x = omega (arith, a, al, low, high) in
      record {
        start = s;
        mark = m;
        low = omega (arith, l, low);
        clear = λ z b d mark. elim (cases_order z x) [
          | inl e ↦ here same z e b mark
          | inr k ↦ elim k [ inl under ↦ clear z b under mark | inr over ↦ within y z a (omega (arith, over, same)) d mark ]
        ];
      }
    where
      here : y ≡ x → (z : ℕ) → z ≡ x → s < z → Mark z → ⊥
      here same z e b (at_first n) = omega (arith, b, n)
      here same z e b (at_word _ n) = n w other (at ∙ sym e)
      here same z e b (at_unit v _ _ q u c section start long) =
          let some = nonempty h q.section u (is.units.each q u c) long in
          elim (beside q u c section y word) [ inl k ↦ omega (arith, k, start, same, e) | inr k ↦ omega (arith, k, start, same, e, some) ]

  after_word : (y : ℕ) → HasWord f p j y → DataRun y → State (y + 4)
  after_word y word run = let a = aligned_at y word in let low = run.low in in_data run.start run.mark (omega (arith, low)) (omega (arith, a)) y word refl run.clear

  -- what a unit's word is
  island_run : (x : Point) (u : UnitPlace) → Contains (units f p) (x, u) → x.section ≡ j → State u.start → (y : ℕ) → u.island ≡ Some y → DataRun y
  island_run x u c e state y i =
      let at : code_end u ≡ y = ap (λ (z : Option ℕ). unwrap_or z u.end) i in
      let w = ((is.units.each x u c).island y i).0 in
      let l : u.start < code_end u = omega (arith, at, w) in
      data_run (code_end u) y (after_code x u c e l (code_run x u c e l state)) (island x u y c e i) (omega (arith, at)) (omega (arith, at))

  after_unit : (x : Point) (u : UnitPlace) → Contains (units f p) (x, u) → x.section ≡ j → State u.start → State u.end
  after_unit x u c e state = go u.island refl
    where
      go : (i : Option ℕ) → u.island ≡ i → State u.end
      go None i =
          let at : code_end u ≡ u.end = ap (λ (z : Option ℕ). unwrap_or z u.end) i in
          let up = (unit_end u h x.section (is.units.each x u c)).0 in
          elim (cases_lt u.start (code_end u)) [
            | inl l ↦ subst State at (after_code x u c e l (code_run x u c e l state))
            | inr m ↦ (let same : u.start ≡ u.end = omega (arith, m, up, at) in subst State same state)
          ]
      go (Some y) i = let end = ((is.units.each x u c).island y i).2 in subst State (sym end) (after_word y (island x u y c e i) (island_run x u c e state y i))

  record ItemRun (it : Item) : Type 0 where
    state : it.word ≡ false → State it.new
    word : it.word ≡ true → DataRun it.new

  item_step : (z : Item) → Contains (items_in is.form.lists.items j) z → (x : ℕ) → z.new ≡ new_start z.word x → State x → ItemRun z × State z.end
  item_step z c x e state = go z.word refl e
    where
      listed : Contains is.form.lists.items z × ((z.section == j) ≡ true)
      listed = contains_filter (λ (q : Item). q.section == j) is.form.lists.items z c

      go : (b : Bool) → z.word ≡ b → z.new ≡ new_start b x → ItemRun z × State z.end
      go false w n =
          let here : State z.new = subst State (sym n) state in
          let u = unit_of f p is.form.lists.items is.form.tables.lists.items z (contains_filter (λ (q : Item). q.section == j) is.form.lists.items z c).0 w in
          let section : u.0.0.section ≡ j = ap (λ (q : Item). q.section) u.2 ∙ eqb-true z.section j (contains_filter (λ (q : Item). q.section == j) is.form.lists.items z c).1 in
          let end : u.0.1.end ≡ z.end = ap (λ (q : Item). q.end) u.2 in
          let start : u.0.1.start ≡ z.new = ap (λ (q : Item). q.new) u.2 in
          (record { state = λ f. here; word = λ y. absurd (both_ways z.word w y) }, subst State end (after_unit u.0.0 u.0.1 u.1 section (subst State (sym start) here)))
      go true w n =
          let v = word_of f p is.form.lists.items is.form.tables.lists.items z (contains_filter (λ (q : Item). q.section == j) is.form.lists.items z c).0 w in
          let q = zip_mapped place_of_word f.words p.words v.0 v.1 in
          let section : q.0.section ≡ j = ap (λ (k : ℕ × ℕ). k.0) q.2 ∙ (ap (λ (k : Item). k.section) v.2 ∙ eqb-true z.section j (contains_filter (λ (q : Item). q.section == j) is.form.lists.items z c).1) in
          let new : v.0.1 ≡ z.new = ap (λ (k : Item). k.new) v.2 in
          let end : v.0.1 + 4 ≡ z.end = ap (λ (k : Item). k.end) v.2 in
          let has : HasWord f p j z.new = subst (HasWord f p j) new (pooled q.0 v.0.1 q.1 section) in
          let run = data_run x z.new state has (omega (arith, n)) (omega (arith, n)) in
          let over : z.new + 4 ≡ z.end = omega (arith, new, end) in
          (record { state = λ f. absurd (both_ways z.word f w); word = λ y. run }, subst State over (after_word z.new has run))

  walk : (items : List Item) (x size : ℕ) → StandFrom x items size → State x → ((it : Item) → Contains items it → Contains (items_in is.form.lists.items j) it) → (it : Item) → Contains items it → ItemRun it
  walk [] x size stands state sub it c = absurd (contains_none it c)
  walk (z ∷ rest) x size stands state sub it c =
      let h = item_step z (sub z (contains_here z rest)) x stands.0 state in
      elim (contains_cases z rest it c) [
        | inl e ↦ subst ItemRun e h.0
        | inr r ↦ walk rest z.end size stands.1 h.1 (λ q k. sub q (contains_later z rest q k)) it r
      ]

  item_run : (it : Item) → Contains (items_in is.form.lists.items j) it → ItemRun it
  item_run it c = walk (items_in is.form.lists.items j) 0 t.size (stand o h f p carriers is j t there code) (fresh refl) (λ q k. k) it c

  unit_state : (x : Point) (u : UnitPlace) → Contains (units f p) (x, u) → x.section ≡ j → State u.start
  unit_state x u c e =
      let it : Item = item_of_unit (place_of_point x, u) in
      (item_run it (here_items o h f p carriers is j t there code it (item_of f p is.form.lists.items is.form.tables.lists.items x u c) e)).state refl

  word_run : (y : ℕ) → HasWord f p j y → DataRun y
  word_run y (pooled w _ c e) =
      let it : Item = item_of_word (place_of_word w, y) in
      (item_run it (here_items o h f p carriers is j t there code it
      ((is.form.tables.lists.items.same it).1 (Contains-append_right (map item_of_unit (zip (old_points f) p.units)) (map item_of_word (zip (old_words f) p.words)) it
      (map_contains item_of_word (zip (old_words f) p.words) (place_of_word w, y) (mapped_zip place_of_word f.words p.words w y c)))) e)).word refl
  word_run y (island x u _ c e i) = island_run x u c e (unit_state x u c e) y i

  range_of : (kind : RangeKind) (s end : ℕ) → kind_at h.symbols j s ≡ Some kind → s < end → end ≤ t.size → ((y : ℕ) → s < y → y < end → Mark y → ⊥) → (e : ℕ) × IsRange h kind j s e × (end ≤ e)
  range_of kind s end begins l m clear =
      let found = find_end h j s t.size (t.size - (s + 1)) (s + 1) (omega (arith, l, m)) (omega arith) (λ z a b. absurd (omega (arith, a, b))) in
      let above = found.above in (
        found.end,
        record {
          section = t;
          is_there = there;
          in_code = code;
          begins = beginning h kind j s begins;
          has_bytes = found.above;
          inside = found.within;
          ends = found.ends;
          nearest = found.nearest;
        },
        elim (cases_lt found.end end) [
          | inl under ↦ elim (found.ends) [ inl mapped ↦ absurd (clear found.end above under (mark_is found.end mapped)) | inr size ↦ absurd (omega (arith, under, m, size)) ]
          | inr over ↦ over
        ],
      )

  -- each instruction of a unit is an instruction start, and whole
  pub unit_start : (x : Point) (u : UnitPlace) (a : ℕ) → Contains (units f p) (x, u) → x.section ≡ j → IsStart (bytes_of h j) u.start (code_end u) a → (e : ℕ) × IsCodeStart h j (bytes_of h j) a e × (a + length_at (bytes_of h j) a ≤ e)
  unit_start x u a c e at =
      let before = start_before (bytes_of h j) u.start (code_end u) a at in
      let behind = start_behind (bytes_of h j) u.start (code_end u) a at in
      let l : u.start < code_end u = omega (arith, before, behind) in
      let run = code_run x u c e l (unit_state x u c e) in
      let it : Item = item_of_unit (place_of_point x, u) in
      let size = ((all_behind (items_in is.form.lists.items j) 0 t.size (stand o h f p carriers is j t there code) (item_up o h f p carriers is j t there code)).1 it
      (here_items o h f p carriers is j t there code it (item_of f p is.form.lists.items is.form.tables.lists.items x u c) e)).1 in
      let last = (unit_end u h x.section (is.units.each x u c)).1 in
      let low = run.low in
      let r = range_of Code run.start (code_end u) (marked o h f p carriers is j old (record { section = j; at = run.start; code = true }) run.mark refl) (omega (arith, low, l)) (omega (arith, last, size)) run.clear in
      let over = r.2 in
      let first_start : IsStart (bytes_of h j) run.start r.0 u.start = start_through (bytes_of h j) run.start r.0 u.start run.start run.chain (omega (arith, l, over)) (first (omega (arith, low, l, over))) in
      let whole = start_whole (bytes_of h j) (code_end u) u.start a (subst (λ (k : ℕ). Divides (bytes_of h k) (code_end u) u.start) e (is.units.each x u c).divided) at in
      (r.0, record { start = run.start; range = r.1; is_start = start_within (bytes_of h j) run.start r.0 u.start (code_end u) a first_start over at }, omega (arith, whole, over))

  -- each word is a word of data
  pub data_word_there : (y : ℕ) → HasWord f p j y → IsDataWord h j y
  data_word_there y word =
      let run = word_run y word in
      let low = run.low in
      let inside_size = word_inside o h f p carriers is j t there code y word in
      let r = range_of Data run.start (y + 4) (marked o h f p carriers is j old (record { section = j; at = run.start; code = false }) run.mark refl) (omega (arith, low)) inside_size run.clear in
      record { start = run.start; end = r.0; range = r.1; aligned = aligned_at y word; behind_start = run.low; before_end = r.2 }
