-- Units of points, and where they stand.
use Rattle.std.specs.Prelude.{Ok, ◌≡◌, ◌<◌, ◌≤◌, ℕ, ◌+◌, ◌%◌, ◌==◌, ◌&&◌, not, Bool, true, false, cond, List, [], ◌∷◌, length, map, find, Option, Some, None, slice_get, Contains, refl}
use Rattle.std.specs.List.{zip}
use Rattle.std.proofs.Common.{arith, inl, inr, ap, sym, ◌∙◌, subst, unwrap_or}
use Rattle.std.proofs.lemmas.Bool.{cases_Bool, both_ways, and_parts, and_from, eqb-true, eq-eqb}
use Rattle.std.proofs.lemmas.Option.{none-some, same_Some, slice_get_within}
use Rattle.std.proofs.lemmas.List.{length-map}
use Rattle.std.proofs.lemmas.List.Elements.{Contains-append_cases, Contains-append_left}
use Rattle.elf_model.specs.declared.objects.Section.{Section}
use Rattle.elf_model.specs.declared.objects.Symbol.{Symbol}
use Rattle.elf_model.specs.declared.objects.Reloc.{Reloc}
use Rattle.elf_model.specs.declared.objects.Home.TheVariants as homes
use Rattle.elf_model.specs.Constants.{local}
use Rattle.elf_model.specs.Canonical.{round_up}
use Rattle.elf_model.specs.Objects.{ObjectParts, is_code}
use Rattle.elf_model.specs.Ranges.{is_long, length_at}
use Rattle.elf_model.specs.Fields.{half_at}
use Rattle.elf_model.proofs.Elements.{contains_map, map_contains, contains_filter, filter_contains, found, finds, element_at, place_of, contains_at, contains_cases, contains_here, contains_later, contains_none}
use Rattle.reloc_places.specs.Starts.{bytes_of, IsCodeStart, decoded_at}
use Rattle.reloc_places.specs.Relocations.{reloc_at, IsRight, target_of}
use Rattle.reloc_places.proofs.StartFacts.{start_before, length_least}
use Rattle.flow_recover.specs.declared.flows.Point.{Point}
use Rattle.flow_recover.specs.Flows.{FlowParts}
use Rattle.flow_recover.specs.Aims.{has_offset, aim_at, IsAim}
use Rattle.flow_recover.specs.Aims.IsAim.{by_symbol}
use Rattle.flow_recover.specs.FlowFaults.{absolute, no_start, by_instr}
use Rattle.flow_recover.specs.Reach.{Aims, node_at, IsReached, led_away, away}
use Rattle.elf_model.specs.declared.refusals.Refusal.TheVariants as refusal
use Rattle.flow_recover.specs.Points.{place_of_point}
use Rattle.flow_recover.specs.declared.flows.PoolWord.{PoolWord}
use Rattle.flow_recover.specs.WholeFlows.{IsEntry, IsFlow}
use Rattle.flow_recover.specs.WholeFlows.IsLoaded.{literal, none as unloaded}
use Rattle.hardened_form.specs.Places.{UnitPlace, Places}
use Rattle.hardened_form.specs.Items.{Item, item_of_unit, item_of_word, AreItems, items_in, new_start, StandFrom}
use Rattle.hardened_form.specs.Standing.{units, old_points, old_words, new_of, is_unit_of, new_place}
use Rattle.hardened_form.specs.Carriers.{Carrier}
use Rattle.sim_answers.specs.Units.{Divides, ended, longer, IsUnit}
use Rattle.sim_answers.specs.Forms.{IsFormOf, PointsHavePlaces}
use Rattle.sim_images.proofs.RightPlaces.{decoded_whole}
use Rattle.sim_images.proofs.DataStay.{same_sort}
use Rattle.sim_answers.proofs.SectionsStay.{section_of}
use Rattle.sim_answers.proofs.Pairs.{zip_there, zip_left, zip_mapped, mapped_zip}

-- what stands at a point
pub record IsAtPoint (o : ObjectParts) (x : Point) : Type 0 where
  pub end : ℕ
  pub start : IsCodeStart o x.section (bytes_of o x.section) x.offset end
  pub it : ℕ
  pub instr : decoded_at (bytes_of o x.section) x.offset it ≡ Ok x.instr
  pub reloc : x.reloc ≡ reloc_at o x.section x.offset
  pub relative : has_offset x.instr ≡ true → (s : Symbol) (target : ℕ) → IsAim o x.section x.offset x.instr (aim_at x.section s homes.Absolute target) → ⊥

pub at_point : (o : ObjectParts) (f : FlowParts) → IsFlow o f → (x : Point) → Contains f.points x → IsAtPoint o x
at_point o f flow x c =
    let k = place_of f.points x c in
    let n = element_at flow.nodes k.0 (subst (λ (m : ℕ). k.0 < m) flow.count (slice_get_within f.points k.0 x k.1)) in
    let is = flow.points k.0 n.0 x n.1 k.1 in
    let reached = (flow.reached n.0).0 (contains_at flow.nodes k.0 n.0 n.1) in
    record {
      end = is.instr.end;
      start = subst (λ (j : ℕ). IsCodeStart o j (bytes_of o j) x.offset is.instr.end) (sym is.section) (subst (λ (a : ℕ). IsCodeStart o n.0.section (bytes_of o n.0.section) a is.instr.end) (sym is.offset) is.instr.start);
      it = n.0.it;
      instr = ap (λ (j : ℕ). decoded_at (bytes_of o j) x.offset n.0.it) is.section ∙ (ap (λ (a : ℕ). decoded_at (bytes_of o n.0.section) a n.0.it) is.offset
          ∙ (decoded_whole (bytes_of o n.0.section) is.instr.end n.0.offset n.0.it x.instr is.instr.is).1);
      reloc = is.reloc ∙ (ap (λ (j : ℕ). reloc_at o j n.0.offset) (sym is.section) ∙ ap (λ (a : ℕ). reloc_at o x.section a) (sym is.offset));
      relative = λ has s target aim.
          flow.no_fault refusal.IntoMiddle n.0.section n.0.offset (absolute n.0 x.instr (record { reached = reached; found = is.instr }) has
          (subst (λ (j : ℕ). IsAim o j n.0.offset x.instr (aim_at j s homes.Absolute target)) is.section (subst (λ (a : ℕ). IsAim o x.section a x.instr (aim_at x.section s homes.Absolute target)) is.offset aim)) refl refl refl);
    }

-- what control reaches with a clear IT state is a point
pub reached_point : (o : ObjectParts) (f : FlowParts) → IsFlow o f → (j x : ℕ) → IsReached o (node_at j x) → (p : Point) × Contains f.points p × (p.section ≡ j) × (p.offset ≡ x)
reached_point o f flow j x reached =
    let k = place_of flow.nodes (node_at j x) ((flow.reached (node_at j x)).1 reached) in
    let p = element_at f.points k.0 (subst (λ (m : ℕ). k.0 < m) (sym flow.count) (slice_get_within flow.nodes k.0 (node_at j x) k.1)) in
    let is = flow.points k.0 (node_at j x) p.0 k.1 p.1 in
    (p.0, contains_at f.points k.0 p.0 p.1, is.section, is.offset)

-- A branch or call by a symbol of its own section leads to a point.
pub own_target_point : (o : ObjectParts) (f : FlowParts) → IsFlow o f → (x : Point) → Contains f.points x → has_offset x.instr ≡ true → (k : ℕ) (r : Reloc) (s : Symbol) → x.reloc ≡ Some k → IsRight o k r
    → slice_get o.symbols r.symbol ≡ Some s → s.home ≡ homes.Section x.section → ((p : Point) × Contains f.points p × (p.section ≡ x.section) × (p.offset ≡ target_of o r s) → ⊥) → ⊥
own_target_point o f flow x c has k r s at right names home none =
    let q = place_of f.points x c in
    let n = element_at flow.nodes q.0 (subst (λ (m : ℕ). q.0 < m) flow.count (slice_get_within f.points q.0 x q.1)) in
    let is = flow.points q.0 n.0 x n.1 q.1 in
    let reached = (flow.reached n.0).0 (contains_at flow.nodes q.0 n.0 n.1) in
    let here : reloc_at o n.0.section n.0.offset ≡ Some k = subst (λ (v : Option ℕ). v ≡ Some k) is.reloc at in
    let own : s.home ≡ homes.Section n.0.section = subst (λ (j : ℕ). s.home ≡ homes.Section j) is.section home in
    let aims : Aims o n.0 x.instr (target_of o r s) = record {
      has = has;
      aim = elim (cases_Bool (s.bind == local)) [
        | inl t ↦ inl (by_symbol k r s here right names (rw own (rw (eq-eqb n.0.section n.0.section refl) (rw t refl))))
        | inr t ↦ inr (by_symbol k r s here right names (rw own (rw (eq-eqb n.0.section n.0.section refl) (rw t refl))))
      ];
    } in
    flow.no_fault refusal.IntoMiddle n.0.section n.0.offset
    (no_start n.0.section (target_of o r s) (by_instr n.0 x.instr (record { reached = reached; found = is.instr }) aims refl refl refl)
    (λ start. none (let p = reached_point o f flow n.0.section (target_of o r s) (led_away n.0 (node_at n.0.section (target_of o r s)) reached (away x.instr (target_of o r s) is.instr aims refl start)) in
    (p.0, p.1, subst (λ (j : ℕ). p.0.section ≡ j) (sym is.section) p.2, p.3))) refl)

-- the word that a point loads is of its section
pub point_word : (o : ObjectParts) (f : FlowParts) → IsFlow o f → (x : Point) → Contains f.points x → (n : ℕ) (w : PoolWord) → x.word ≡ Some n → slice_get f.words n ≡ Some w → w.section ≡ x.section
point_word o f flow x c n w loads at =
    let q = place_of f.points x c in
    let m = element_at flow.nodes q.0 (subst (λ (k : ℕ). q.0 < k) flow.count (slice_get_within f.points q.0 x q.1)) in
    let is = flow.points q.0 m.0 x m.1 q.1 in
    elim (is.word) [
      | literal l k v form there section place named ↦
          let same : k ≡ n = same_Some k n (sym named ∙ loads) in
          let one : v ≡ w = same_Some v w (sym there ∙ (ap (slice_get f.words) same ∙ at)) in
          ap (λ (z : PoolWord). z.section) (sym one) ∙ (section ∙ sym is.section)
      | unloaded free named ↦ absurd (none-some n (sym named ∙ loads))
    ]

-- each entry is a point
pub entry_point : (o : ObjectParts) (f : FlowParts) → IsFlow o f → (j x : ℕ) → IsEntry o j x → (p : Point) × Contains f.points p × (p.section ≡ j) × (p.offset ≡ x)
entry_point o f flow j x entry =
    let k = place_of flow.nodes (node_at j x) (flow.entered j x entry) in
    let p = element_at f.points k.0 (subst (λ (m : ℕ). k.0 < m) (sym flow.count) (slice_get_within flow.nodes k.0 (node_at j x) k.1)) in
    let is = flow.points k.0 (node_at j x) p.0 k.1 p.1 in
    (p.0, contains_at f.points k.0 p.0 p.1, is.section, is.offset)

-- an item that is a unit is that of a point
pub unit_of : (f : FlowParts) (p : Places) (items : List Item) → AreItems (old_points f) (old_words f) p items → (it : Item) → Contains items it → it.word ≡ false
    → (e : Point × UnitPlace) × Contains (units f p) e × (item_of_unit (place_of_point e.0, e.1) ≡ it)
unit_of f p items are it c w =
    elim (Contains-append_cases (map item_of_unit (zip (old_points f) p.units)) (map item_of_word (zip (old_words f) p.words)) it ((are.same it).0 c)) [
      | inl a ↦
          let m = contains_map item_of_unit (zip (old_points f) p.units) it a in
          let z = zip_mapped place_of_point f.points p.units m.0 m.1 in
          ((z.0, m.0.1), z.1, ap (λ (q : ℕ × ℕ). item_of_unit (q, m.0.1)) z.2 ∙ m.2)
      | inr b ↦
          let m = contains_map item_of_word (zip (old_words f) p.words) it b in
          absurd (both_ways it.word w (sym (ap (λ (q : Item). q.word) m.2)))
    ]

-- one that is a word is a pool word
pub word_of : (f : FlowParts) (p : Places) (items : List Item) → AreItems (old_points f) (old_words f) p items → (it : Item) → Contains items it → it.word ≡ true
    → (e : (ℕ × ℕ) × ℕ) × Contains (zip (old_words f) p.words) e × (item_of_word e ≡ it)
word_of f p items are it c w =
    elim (Contains-append_cases (map item_of_unit (zip (old_points f) p.units)) (map item_of_word (zip (old_words f) p.words)) it ((are.same it).0 c)) [
      | inl a ↦
          let m = contains_map item_of_unit (zip (old_points f) p.units) it a in
          absurd (both_ways it.word (sym (ap (λ (q : Item). q.word) m.2)) w)
      | inr b ↦ contains_map item_of_word (zip (old_words f) p.words) it b
    ]

-- the unit of a point is an item
pub item_of : (f : FlowParts) (p : Places) (items : List Item) → AreItems (old_points f) (old_words f) p items → (x : Point) (u : UnitPlace) → Contains (units f p) (x, u)
    → Contains items (item_of_unit (place_of_point x, u))
item_of f p items are x u c =
    let e : (ℕ × ℕ) × UnitPlace = (place_of_point x, u) in
    (are.same (item_of_unit e)).1 (Contains-append_left (map item_of_unit (zip (old_points f) p.units)) (map item_of_word (zip (old_words f) p.words)) (item_of_unit e)
    (map_contains item_of_unit (zip (old_points f) p.units) e (mapped_zip place_of_point f.points p.units x u c)))

-- what has a place now is a point
pub record UnitAt (f : FlowParts) (p : Places) (j x y : ℕ) : Type 0 where
  pub point : Point
  pub unit : UnitPlace
  pub is : Contains (units f p) (point, unit)
  pub section : point.section ≡ j
  pub offset : point.offset ≡ x
  pub start : unit.start ≡ y

pub placed_unit : (f : FlowParts) (p : Places) (items : List Item) → AreItems (old_points f) (old_words f) p items → (j x y : ℕ) → new_place items j x ≡ Some y → UnitAt f p j x y
placed_unit f p items are j x y e = go (find (is_unit_of j x) items) refl e
  where
    go : (r : Option Item) → find (is_unit_of j x) items ≡ r → new_of r ≡ Some y → UnitAt f p j x y
    go None h e = absurd (none-some y e)
    go (Some it) h e =
        let is = found (is_unit_of j x) items it h in
        let parts = and_parts (not it.word) ((it.section == j) && (it.old == x)) is.1 in
        let places = and_parts (it.section == j) (it.old == x) parts.1 in
        let word : it.word ≡ false = elim (cases_Bool it.word) [ inl t ↦ absurd (both_ways (not it.word) (ap not t) parts.0) | inr n ↦ n ] in
        let u = unit_of f p items are it is.0 word in
        record {
          point = u.0.0;
          unit = u.0.1;
          is = u.1;
          section = ap (λ (q : Item). q.section) u.2 ∙ eqb-true it.section j places.0;
          offset = ap (λ (q : Item). q.old) u.2 ∙ eqb-true it.old x places.1;
          start = ap (λ (q : Item). q.new) u.2 ∙ same_Some it.new y e;
        }

-- a point has a place
pub point_placed : (f : FlowParts) (p : Places) (items : List Item) → AreItems (old_points f) (old_words f) p items → (x : Point) → Contains f.points x
    → (y : ℕ) × (new_place items x.section x.offset ≡ Some y)
point_placed f p items are x c =
    let long : length f.points ≡ length p.units = sym (are.units ∙ length-map f.points place_of_point) in
    let u = zip_there f.points p.units long x c in
    let it = item_of_unit (place_of_point x, u.0) in
    let h = finds (is_unit_of x.section x.offset) items it (item_of f p items are x u.0 u.1)
    (and_from true ((x.section == x.section) && (x.offset == x.offset)) refl (and_from (x.section == x.section) (x.offset == x.offset) (eq-eqb x.section x.section refl) (eq-eqb x.offset x.offset refl))) in
    (h.0.new, ap new_of h.1)

-- where an item begins at an even offset, it ends at one
Evenly : Item → Type 0
Evenly it = (it.new % 2 ≡ 0 → it.end % 2 ≡ 0)

even_word : (x : ℕ) → round_up x 4 % 2 ≡ 0
even_word x = omega arith

pub evens : (items : List Item) (x size : ℕ) → StandFrom x items size → x % 2 ≡ 0 → ((it : Item) → Contains items it → it.new % 2 ≡ 0 → it.end % 2 ≡ 0) → (it : Item) → Contains items it → it.new % 2 ≡ 0
evens [] x size stand even each it c = absurd (contains_none it c)
evens (z ∷ rest) x size stand even each it c =
    let here = begins z.word stand.0 in
    elim (contains_cases z rest it c) [
      | inl e ↦ subst (λ (q : Item). q.new % 2 ≡ 0) e here
      | inr r ↦ evens rest z.end size stand.1 (each z (contains_here z rest) here) (λ q there. each q (contains_later z rest q there)) it r
    ]
  where
    begins : (b : Bool) → z.new ≡ new_start b x → z.new % 2 ≡ 0
    begins true e = ap (λ (n : ℕ). n % 2) e ∙ even_word x
    begins false e = ap (λ (n : ℕ). n % 2) e ∙ even

pub further : (bytes : List ℕ) (x : ℕ) → x % 2 ≡ 0 → (x + length_at bytes x) % 2 ≡ 0
further bytes x even = go (is_long (half_at bytes x)) refl
  where
    four : (x + 4) % 2 ≡ 0
    four = omega (arith, even)

    two : (x + 2) % 2 ≡ 0
    two = omega (arith, even)

    go : (b : Bool) → is_long (half_at bytes x) ≡ b → (x + length_at bytes x) % 2 ≡ 0
    go true e = ap (λ (c : Bool). (x + cond c 4 2) % 2) e ∙ four
    go false e = ap (λ (c : Bool). (x + cond c 4 2) % 2) e ∙ two

-- halfwords stand at even offsets
pub divided_evenly : (bytes : List ℕ) (z x : ℕ) → Divides bytes z x → x % 2 ≡ 0 → z % 2 ≡ 0
divided_evenly bytes z x ended even = even
divided_evenly bytes z x (longer y rest) even = divided_evenly bytes z (x + length_at bytes x) rest (further bytes x even)

pub divided_up : (bytes : List ℕ) (z x : ℕ) → Divides bytes z x → x ≤ z
divided_up bytes z x ended = omega arith
divided_up bytes z x (longer y rest) = let h = divided_up bytes z (x + length_at bytes x) rest in let l = length_least bytes x in omega arith

unit_evenly : (h : ObjectParts) (j : ℕ) (u : UnitPlace) → IsUnit h j u → u.start % 2 ≡ 0 → u.end % 2 ≡ 0
unit_evenly h j u is even = go u.island refl
  where
    go : (i : Option ℕ) → u.island ≡ i → u.end % 2 ≡ 0
    go None e = divided_evenly (bytes_of h j) u.end u.start (subst (λ (i : Option ℕ). Divides (bytes_of h j) (unwrap_or i u.end) u.start) e is.divided) even
    go (Some y) e = let w = is.island y e in omega (arith, w.1, w.2)

module _ (o h : ObjectParts) (f : FlowParts) (p : Places) (carriers : List (List Carrier)) (is : IsFormOf o h f p carriers) where
  item_evenly : (it : Item) → Contains is.form.lists.items it → it.new % 2 ≡ 0 → it.end % 2 ≡ 0
  item_evenly it c even = go it.word refl
    where
      go : (b : Bool) → it.word ≡ b → it.end % 2 ≡ 0
      go false w =
          let u = unit_of f p is.form.lists.items is.form.tables.lists.items it c w in
          let start : u.0.1.start ≡ it.new = ap (λ (q : Item). q.new) u.2 in
          sym (ap (λ (q : Item). q.end % 2) u.2) ∙ unit_evenly h u.0.0.section u.0.1 (is.units.each u.0.0 u.0.1 u.1) (ap (λ (n : ℕ). n % 2) start ∙ even)
      go true w =
          let e = word_of f p is.form.lists.items is.form.tables.lists.items it c w in
          let start : e.0.1 ≡ it.new = ap (λ (q : Item). q.new) e.2 in
          let end : e.0.1 + 4 ≡ it.end = ap (λ (q : Item). q.end) e.2 in
          omega (arith, even)

  -- units stand at even offsets
  pub unit_even : (x : Point) (u : UnitPlace) (t : Section) → Contains (units f p) (x, u) → slice_get h.sections x.section ≡ Some t → is_code t ≡ true → u.start % 2 ≡ 0
  unit_even x u t c there code =
      let it = item_of_unit (place_of_point x, u) in
      let items = is.form.lists.items in
      let here = filter_contains (λ (z : Item). z.section == x.section) items it (item_of f p items is.form.tables.lists.items x u c) (eq-eqb x.section x.section refl) in
      evens (items_in items x.section) 0 t.size (is.form.tiled x.section t there code).stand refl
      (λ q at. item_evenly q (contains_filter (λ (z : Item). z.section == x.section) items q at).0) it here

pub points_have_places : PointsHavePlaces
points_have_places o h f p carriers is j x y s t e was now =
    let u = placed_unit f p is.form.lists.items is.form.tables.lists.items j x y e in
    let at = at_point o f is.flow u.point (zip_left f.points p.units (u.point, u.unit) u.is) in
    let there : slice_get o.sections u.point.section ≡ Some s = ap (slice_get o.sections) u.section ∙ was in
    let here : slice_get h.sections u.point.section ≡ Some t = ap (slice_get h.sections) u.section ∙ now in
    let range = at.start.range in
    let same : range.section ≡ s = same_Some range.section s (sym range.is_there ∙ there) in
    let before = start_before (bytes_of o u.point.section) at.start.start at.end u.point.offset at.start.is_start in
    let code : is_code t ≡ true = same_sort s t (section_of o u.point.section s t (is.form.tables.sections.each u.point.section s t there here)) ∙ subst (λ (z : Section). is_code z ≡ true) same range.in_code in
    let low : range.section.size ≡ s.size = ap (λ (z : Section). z.size) same in
    let inside = (is.units.each u.point u.unit u.is).inside t here in
    let even = unit_even o h f p carriers is u.point u.unit t u.is here code in
    (omega (arith, before, range.inside, low, u.offset), omega (arith, inside, u.start), ap (λ (n : ℕ). n % 2) (sym u.start) ∙ even)
