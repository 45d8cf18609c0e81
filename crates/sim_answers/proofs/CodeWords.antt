-- The words among the code of a hardened form, and its units: all apart.
use Rattle.std.specs.Prelude.{◌≡◌, ◌≤◌, ◌⊎◌, ℕ, suc, ◌+◌, ◌%◌, ◌==◌, Bool, true, false, cond, List, [], ◌∷◌, map, flat_map, Option, Some, None, slice_get, Contains, refl}
use Rattle.std.specs.List.{zip, list_any}
use Rattle.std.specs.Option.{option_to_list}
use Rattle.std.proofs.Common.{arith, inl, inr, ap, sym, ◌∙◌, subst, unwrap_or}
use Rattle.std.proofs.lemmas.Bool.{cases_Bool, both_ways, eqb-true, eq-eqb}
use Rattle.std.proofs.lemmas.Option.{same_Some}
use Rattle.std.proofs.lemmas.List.Elements.{Contains-append_cases, Contains-append_left, Contains-append_right}
use Rattle.elf_model.specs.declared.objects.Section.{Section}
use Rattle.elf_model.specs.Objects.{ObjectParts, is_code}
use Rattle.elf_model.proofs.Elements.{map_contains, contains_cases, contains_none, contains_here, contains_later, contains_filter, filter_contains}
use Rattle.reloc_places.specs.Starts.{bytes_of}
use Rattle.flow_recover.specs.declared.flows.Point.{Point}
use Rattle.flow_recover.specs.declared.flows.PoolWord.{PoolWord}
use Rattle.flow_recover.specs.Flows.{FlowParts}
use Rattle.flow_recover.specs.Points.{place_of_point}
use Rattle.flow_recover.specs.WholeFlows.{place_of_word}
use Rattle.flow_recover.proofs.OneFlow.{point_once_at}
use Rattle.hardened_form.specs.Places.{UnitPlace, Places as UnitPlaces}
use Rattle.hardened_form.specs.Items.{Item, item_of_unit, item_of_word, items_in, new_start, StandFrom}
use Rattle.hardened_form.specs.Standing.{units, pool, old_points, old_words}
use Rattle.hardened_form.specs.MappingSymbols.{pool_word_in, island_in, words_in}
use Rattle.hardened_form.specs.Carriers.{Carrier}
use Rattle.sim_answers.specs.Units.{code_end, IsUnit}
use Rattle.sim_answers.specs.Forms.{IsFormOf}
use Rattle.sim_answers.proofs.Pairs.{mapped_zip}
use Rattle.sim_answers.proofs.PointPlaces.{unit_of, word_of, item_of, divided_up}
use Rattle.sim_answers.proofs.DataAnswered.{any_there, there_any}

contains_flat : {X A : Type 0} (g : X → List A) (xs : List X) (a : A) → Contains (flat_map g xs) a → (x : X) × Contains xs x × Contains (g x) a
contains_flat g [] a c = absurd (contains_none a c)
contains_flat g (x ∷ xs) a c =
    elim (Contains-append_cases (g x) (flat_map g xs) a c) [
      | inl l ↦ (x, contains_here x xs, l)
      | inr r ↦ let h = contains_flat g xs a r in (h.0, contains_later x xs h.0 h.1, h.2)
    ]

flat_contains : {X A : Type 0} (g : X → List A) (xs : List X) (x : X) (a : A) → Contains xs x → Contains (g x) a → Contains (flat_map g xs) a
flat_contains g [] x a c d = absurd (contains_none x c)
flat_contains g (y ∷ xs) x a c d =
    elim (contains_cases y xs x c) [
      | inl e ↦ Contains-append_left (g y) (flat_map g xs) a (subst (λ (z : _). Contains (g z) a) (sym e) d)
      | inr r ↦ Contains-append_right (g y) (flat_map g xs) a (flat_contains g xs x a r d)
    ]

-- what two lists pair at one number
zip_at : {A B : Type 0} (xs : List A) (ys : List B) (e : A × B) → Contains (zip xs ys) e → (i : ℕ) × (slice_get xs i ≡ Some e.0) × (slice_get ys i ≡ Some e.1)
zip_at [] ys e c = absurd (contains_none e c)
zip_at (x ∷ xs) [] e c = absurd (contains_none e c)
zip_at (x ∷ xs) (y ∷ ys) e c =
    elim (contains_cases (x, y) (zip xs ys) e c) [
      | inl h ↦ (0, ap (λ (q : _). Some (q.0)) h, ap (λ (q : _). Some (q.1)) h)
      | inr r ↦ let h = zip_at xs ys e r in (h.0 + 1, at_next x xs h.0 e.0 h.1, at_next y ys h.0 e.1 h.2)
    ]
  where
    at_next : {Y : Type 0} (z : Y) (zs : List Y) (i : ℕ) (v : Y) → slice_get zs i ≡ Some v → slice_get (z ∷ zs) (i + 1) ≡ Some v
    at_next z zs i v e = let s : i + 1 ≡ suc i = omega arith in ap (slice_get (z ∷ zs)) s ∙ e

-- a word of section j
pub data HasWord (f : FlowParts) (p : UnitPlaces) (j : ℕ) : ℕ → Type 0 where
  pooled : (w : PoolWord) (y : ℕ) → Contains (pool f p) (w, y) → w.section ≡ j → HasWord f p j y
  island : (x : Point) (u : UnitPlace) (y : ℕ) → Contains (units f p) (x, u) → x.section ≡ j → u.island ≡ Some y → HasWord f p j y

pub listed_word : (f : FlowParts) (p : UnitPlaces) (j : ℕ) (t : ℕ → Bool) → list_any t (words_in f p j) ≡ true → (y : ℕ) × HasWord f p j y × (t y ≡ true)
listed_word f p j t h =
    let a = any_there t (words_in f p j) h in
    (a.0, elim (Contains-append_cases (flat_map (pool_word_in j) (pool f p)) (flat_map (island_in j) (units f p)) a.0 a.1) [ inl c ↦ in_pool a.0 c | inr c ↦ in_unit a.0 c ], a.2)
  where
    one : (e : PoolWord × ℕ) (y : ℕ) → Contains (pool_word_in j e) y → (e.0.section ≡ j) × (y ≡ e.1)
    one e y c = elim (cases_Bool (e.0.section == j)) [
      | inl t ↦
          let d : Contains (e.1 ∷ []) y = subst (λ (b : Bool). Contains (cond b (e.1 ∷ []) []) y) t c in
          elim (contains_cases e.1 [] y d) [ inl h ↦ (eqb-true e.0.section j t, sym h) | inr h ↦ absurd (contains_none y h) ]
      | inr n ↦ absurd (contains_none y (subst (λ (b : Bool). Contains (cond b (e.1 ∷ []) []) y) n c))
    ]

    in_pool : (y : ℕ) → Contains (flat_map (pool_word_in j) (pool f p)) y → HasWord f p j y
    in_pool y c =
        let h = contains_flat (pool_word_in j) (pool f p) y c in
        let d = one h.0 y h.2 in
        pooled h.0.0 y (subst (λ (z : ℕ). Contains (pool f p) (h.0.0, z)) (sym d.1) h.1) d.0

    behind : (e : Point × UnitPlace) (y : ℕ) → Contains (island_in j e) y → (e.0.section ≡ j) × (e.1.island ≡ Some y)
    behind e y c = elim (cases_Bool (e.0.section == j)) [
      | inl t ↦ (eqb-true e.0.section j t, only e.1.island refl (subst (λ (b : Bool). Contains (cond b (option_to_list e.1.island) []) y) t c))
      | inr n ↦ absurd (contains_none y (subst (λ (b : Bool). Contains (cond b (option_to_list e.1.island) []) y) n c))
    ]
      where
        only : (i : Option ℕ) → e.1.island ≡ i → Contains (option_to_list e.1.island) y → e.1.island ≡ Some y
        only None h c = absurd (contains_none y (subst (λ (z : Option ℕ). Contains (option_to_list z) y) h c))
        only (Some v) h c =
            let d : Contains (v ∷ []) y = subst (λ (z : Option ℕ). Contains (option_to_list z) y) h c in
            elim (contains_cases v [] y d) [ inl s ↦ h ∙ ap (λ (z : ℕ). Some z) s | inr s ↦ absurd (contains_none y s) ]

    in_unit : (y : ℕ) → Contains (flat_map (island_in j) (units f p)) y → HasWord f p j y
    in_unit y c =
        let h = contains_flat (island_in j) (units f p) y c in
        let d = behind h.0 y h.2 in
        island h.0.0 h.0.1 y h.1 d.0 d.1

pub word_listed_in : (f : FlowParts) (p : UnitPlaces) (j : ℕ) (t : ℕ → Bool) (y : ℕ) → HasWord f p j y → t y ≡ true → list_any t (words_in f p j) ≡ true
word_listed_in f p j t y word h = there_any t (words_in f p j) y (go y word) h
  where
    go : (y : ℕ) → HasWord f p j y → Contains (words_in f p j) y
    go y (pooled w _ c e) =
        Contains-append_left (flat_map (pool_word_in j) (pool f p)) (flat_map (island_in j) (units f p)) y
        (flat_contains (pool_word_in j) (pool f p) (w, y) y c (subst (λ (b : Bool). Contains (cond b (y ∷ []) []) y) (sym (eq-eqb w.section j e)) (contains_here y [])))
    go y (island x u _ c e i) =
        Contains-append_right (flat_map (pool_word_in j) (pool f p)) (flat_map (island_in j) (units f p)) y
        (flat_contains (island_in j) (units f p) (x, u) y c
        (subst (λ (b : Bool). Contains (cond b (option_to_list u.island) []) y) (sym (eq-eqb x.section j e)) (subst (λ (z : Option ℕ). Contains (option_to_list z) y) (sym i) (contains_here y []))))

-- items stand apart

reaches : (b : Bool) (x n : ℕ) → n ≡ new_start b x → x ≤ n
reaches true x n e = omega (arith, e)
reaches false x n e = omega (arith, e)

pub all_behind : (items : List Item) (x size : ℕ) → StandFrom x items size → ((it : Item) → Contains items it → it.new ≤ it.end) → (x ≤ size) × ((it : Item) → Contains items it → (x ≤ it.new) × (it.end ≤ size))
all_behind [] x size stand up = (omega (arith, stand), λ it c. absurd (contains_none it c))
all_behind (z ∷ rest) x size stand up =
    let low = reaches z.word x z.new stand.0 in
    let long = up z (contains_here z rest) in
    let h = all_behind rest z.end size stand.1 (λ it c. up it (contains_later z rest it c)) in
    let to = h.0 in (
      omega (arith, low, long, to),
      λ it c. elim (contains_cases z rest it c) [
        | inl e ↦ subst (λ (q : Item). (x ≤ q.new) × (q.end ≤ size)) e (low, to)
        | inr r ↦ let g = h.1 it r in (let a = g.0 in omega (arith, low, long, a), g.1)
      ],
    )

pub items_apart : (items : List Item) (x size : ℕ) → StandFrom x items size → ((it : Item) → Contains items it → it.new ≤ it.end) → (a b : Item) → Contains items a → Contains items b → (a ≡ b) ⊎ ((a.end ≤ b.new) ⊎ (b.end ≤ a.new))
items_apart [] x size stand up a b c d = absurd (contains_none a c)
items_apart (z ∷ rest) x size stand up a b c d =
    let more = λ (it : Item) (k : Contains rest it). up it (contains_later z rest it k) in
    elim (contains_cases z rest a c) [
      | inl e ↦ elim (contains_cases z rest b d) [
        | inl g ↦ inl (sym e ∙ g)
        | inr r ↦ inr (inl (subst (λ (q : Item). q.end ≤ b.new) e ((all_behind rest z.end size stand.1 more).1 b r).0))
      ]
      | inr k ↦ elim (contains_cases z rest b d) [
        | inl g ↦ inr (inr (subst (λ (q : Item). q.end ≤ a.new) g ((all_behind rest z.end size stand.1 more).1 a k).0))
        | inr r ↦ items_apart rest z.end size stand.1 more a b k r
      ]
    ]

pub words_even : (items : List Item) (x size : ℕ) → StandFrom x items size → (it : Item) → Contains items it → it.word ≡ true → it.new % 4 ≡ 0
words_even [] x size stand it c w = absurd (contains_none it c)
words_even (z ∷ rest) x size stand it c w =
    elim (contains_cases z rest it c) [
      | inl e ↦ subst (λ (q : Item). q.new % 4 ≡ 0) e (aligned z.word (ap (λ (q : Item). q.word) e ∙ w) stand.0)
      | inr r ↦ words_even rest z.end size stand.1 it r w
    ]
  where
    aligned : (b : Bool) → b ≡ true → z.new ≡ new_start b x → z.new % 4 ≡ 0
    aligned true e n = omega (arith, n)
    aligned false e n = absurd (both_ways false refl e)

pub unit_end : (u : UnitPlace) (h : ObjectParts) (j : ℕ) → IsUnit h j u → (u.start ≤ code_end u) × (code_end u ≤ u.end)
unit_end u h j is = (divided_up (bytes_of h j) (code_end u) u.start is.divided, go u.island refl)
  where
    go : (i : Option ℕ) → u.island ≡ i → code_end u ≤ u.end
    go None e = let s = ap (λ (z : Option ℕ). unwrap_or z u.end) e in omega (arith, s)
    go (Some y) e = let s = ap (λ (z : Option ℕ). unwrap_or z u.end) e in let w = (is.island y e).2 in omega (arith, s, w)

module _ (o h : ObjectParts) (f : FlowParts) (p : UnitPlaces) (carriers : List (List Carrier)) (is : IsFormOf o h f p carriers) where
  pub unit_once : (x y : Point) (u v : UnitPlace) → Contains (units f p) (x, u) → Contains (units f p) (y, v) → x.section ≡ y.section → x.offset ≡ y.offset → u ≡ v
  unit_once x y u v c d e g =
      let a = zip_at f.points p.units (x, u) c in
      let b = zip_at f.points p.units (y, v) d in
      let same = point_once_at o f is.flow a.0 b.0 x y a.1 b.1 e g in
      same_Some u v (sym a.2 ∙ (ap (slice_get p.units) same ∙ b.2))

  module _ (j : ℕ) (t : Section) (there : slice_get h.sections j ≡ Some t) (code : is_code t ≡ true) where
    pub here_items : (it : Item) → Contains is.form.lists.items it → it.section ≡ j → Contains (items_in is.form.lists.items j) it
    here_items it c e = filter_contains (λ (z : Item). z.section == j) is.form.lists.items it c (eq-eqb it.section j e)

    pub item_up : (it : Item) → Contains (items_in is.form.lists.items j) it → it.new ≤ it.end
    item_up it c = go it.word refl
      where
        listed : Contains is.form.lists.items it
        listed = (contains_filter (λ (z : Item). z.section == j) is.form.lists.items it c).0

        go : (b : Bool) → it.word ≡ b → it.new ≤ it.end
        go false w =
            let u = unit_of f p is.form.lists.items is.form.tables.lists.items it (contains_filter (λ (z : Item). z.section == j) is.form.lists.items it c).0 w in
            let ends = unit_end u.0.1 h u.0.0.section (is.units.each u.0.0 u.0.1 u.1) in
            let a : u.0.1.start ≡ it.new = ap (λ (q : Item). q.new) u.2 in
            let b : u.0.1.end ≡ it.end = ap (λ (q : Item). q.end) u.2 in
            let l = ends.0 in
            let m = ends.1 in
            omega (arith, a, b, l, m)
        go true w =
            let e = word_of f p is.form.lists.items is.form.tables.lists.items it (contains_filter (λ (z : Item). z.section == j) is.form.lists.items it c).0 w in
            let a : e.0.1 ≡ it.new = ap (λ (q : Item). q.new) e.2 in
            let b : e.0.1 + 4 ≡ it.end = ap (λ (q : Item). q.end) e.2 in
            omega (arith, a, b)

    pub stand : StandFrom 0 (items_in is.form.lists.items j) t.size
    stand = (is.form.tiled j t there code).stand

    -- the item that a word is in
    record InItem (y : ℕ) : Type 0 where
      item : Item
      listed : Contains (items_in is.form.lists.items j) item
      low : item.new ≤ y
      high : y + 4 ≡ item.end
      aligned : y % 4 ≡ 0
      own : item.word ≡ false → (x : Point) × (u : UnitPlace) × Contains (units f p) (x, u) × (item_of_unit (place_of_point x, u) ≡ item) × (u.island ≡ Some y)

    word_item : (y : ℕ) → HasWord f p j y → InItem y
    word_item y (pooled w _ c e) =
        let it : Item = item_of_word (place_of_word w, y) in
        let listed = here_items it ((is.form.tables.lists.items.same it).1 (Contains-append_right (map item_of_unit (zip (old_points f) p.units)) (map item_of_word (zip (old_words f) p.words)) it
        (map_contains item_of_word (zip (old_words f) p.words) (place_of_word w, y) (mapped_zip place_of_word f.words p.words w y c)))) e in
        record {
          item = it;
          listed = listed;
          low = omega arith;
          high = refl;
          aligned = words_even (items_in is.form.lists.items j) 0 t.size stand it listed refl;
          own = λ n. absurd (both_ways true n refl);
        }
    word_item y (island x u _ c e i) =
        let it : Item = item_of_unit (place_of_point x, u) in
        let w = (is.units.each x u c).island y i in
        let l = w.0 in
        record {
          item = it;
          listed = here_items it (item_of f p is.form.lists.items is.form.tables.lists.items x u c) e;
          low = omega (arith, l);
          high = sym w.2;
          aligned = w.1;
          own = λ n. (x, u, c, refl, i);
        }

    pub word_aligned : (y : ℕ) → HasWord f p j y → y % 4 ≡ 0
    word_aligned y w = (word_item y w).aligned

    pub word_inside : (y : ℕ) → HasWord f p j y → y + 4 ≤ t.size
    word_inside y word =
        let w = word_item y word in
        let high = w.high in
        let end = ((all_behind (items_in is.form.lists.items j) 0 t.size stand item_up).1 w.item w.listed).1 in
        omega (arith, high, end)

    -- a word shares no byte with the instructions of a unit
    pub word_beside : (x : Point) (u : UnitPlace) → Contains (units f p) (x, u) → x.section ≡ j → (y : ℕ) → HasWord f p j y → (y + 4 ≤ u.start) ⊎ (code_end u ≤ y)
    word_beside x u c e y word =
        let it : Item = item_of_unit (place_of_point x, u) in
        let w = word_item y word in
        let ends = unit_end u h x.section (is.units.each x u c) in
        let low = w.low in
        let high = w.high in
        let last = ends.1 in
        elim (items_apart (items_in is.form.lists.items j) 0 t.size stand item_up it w.item (here_items it (item_of f p is.form.lists.items is.form.tables.lists.items x u c) e) w.listed) [
          | inl same ↦
              let v = w.own (sym (ap (λ (q : Item). q.word) same)) in
              let both : it ≡ item_of_unit (place_of_point v.0, v.1) = same ∙ sym v.3 in
              let one = unit_once x v.0 u v.1 c v.2 (ap (λ (q : Item). q.section) both) (ap (λ (q : Item). q.old) both) in
              let at : code_end u ≡ y = ap (λ (z : Option ℕ). unwrap_or z u.end) (ap (λ (z : UnitPlace). z.island) one ∙ v.4) in
              inr (omega (arith, at))
          | inr s ↦ elim s [ inl a ↦ inr (omega (arith, a, low, last)) | inr b ↦ inl (omega (arith, b, high)) ]
        ]
