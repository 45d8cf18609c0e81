-- The maps of the hardened objects take the addresses of a chart to where the chart does.
use Rattle.std.specs.Prelude.{◌≡◌, ◌<◌, ◌≤◌, ◌⊎◌, ℕ, zero, suc, ◌+◌, ◌-◌, ◌%◌, ◌^◌, ◌==◌, ◌&&◌, List, [], ◌∷◌, take, count_by, Some, slice_get, Contains, refl}
use Rattle.std.specs.List.{zip}
use Rattle.std.proofs.Common.{arith, inl, inr, ap, sym, ◌∙◌, subst}
use Rattle.std.proofs.lemmas.Option.{none-some, same_Some, slice_get_within}
use Rattle.elf_model.specs.declared.objects.RowKind.{RowKind}
use Rattle.elf_model.specs.declared.objects.RowKind.TheVariants.{Start, Return}
use Rattle.elf_model.specs.Objects.{ObjectParts, is_code, even}
use Rattle.elf_model.proofs.Elements.{contains_here, contains_later, map_contains, found}
use Rattle.elf_model.proofs.Lists.{get_map}
use Rattle.thumb_table.specs.declared.placements.Placement.{Placement}
use Rattle.thumb_table.specs.declared.parts.Part.{Part}
use Rattle.thumb_table.specs.Parts.{Image}
use Rattle.thumb_table.specs.Images.{IsImage}
use Rattle.thumb_table.specs.Layouts.{Placed, all_placed, as_part}
use Rattle.flow_recover.specs.declared.flows.Exit.{Exit}
use Rattle.flow_recover.specs.declared.flows.Exit.TheVariants.{Call}
use Rattle.flow_recover.specs.Points.{end_of}
use Rattle.hardened_form.specs.Rows.{ordinal, starts, returns}
use Rattle.sim_charts.specs.Charts.{Chart, Point}
use Rattle.sim_charts.specs.Alike.{EntryTo, BackOf}
use Rattle.sim_flows.proofs.Living.{call_is}
use Rattle.sim_images.specs.ImageLaws.{Here}
use Rattle.sim_images.proofs.PartFacts.{part_is}
use Rattle.sim_relation.specs.AddressMaps.{RowTakes, TakesEntry, TakesReturn}
use Rattle.sim_objects.specs.Lists.{Pairing, plains, hards, HaveImages}
use Rattle.sim_objects.specs.Charts.{start_at, address_in, width_of, back_of, IsPointAt, IsChartOf}
use Rattle.sim_objects.specs.Mapping.{maps_of, ChartsFollowMaps}
use Rattle.sim_objects.proofs.Parts.{start_is, address_is, in_plain, in_hard, done_is, same_sort}
use Rattle.sim_objects.proofs.Apart.{some_width, points_lie_low}
use Rattle.sim_objects.proofs.Even.{places_are_even}
use Rattle.sim_objects.proofs.Ordinals.{ordinal_is, same_count}

zipped : {X Y : Type 0} (xs : List X) (ys : List Y) (n : ℕ) (x : X) (y : Y) → slice_get xs n ≡ Some x → slice_get ys n ≡ Some y → Contains (zip xs ys) (x, y)
zipped [] ys n x y e f = absurd (none-some x e)
zipped (a ∷ xs) [] n x y e f = absurd (none-some y f)
zipped (a ∷ xs) (b ∷ ys) zero x y e f = subst (λ (z : _). Contains ((a, b) ∷ zip xs ys) (z, y)) (same_Some a x e) (subst (λ (z : _). Contains ((a, b) ∷ zip xs ys) (a, z)) (same_Some b y f) (contains_here (a, b) (zip xs ys)))
zipped (a ∷ xs) (b ∷ ys) (suc n) x y e f = contains_later (a, b) (zip xs ys) (x, y) (zipped xs ys n x y e f)

-- an image has the part of a section
has_place : (objects : List ObjectParts) (at : Placement) (image : Image) → IsImage objects at image → (i j : ℕ) (o : ObjectParts) (p : Placed) → Here objects at i o j p → Contains image.parts (as_part p)
has_place objects at image is i j o p here =
    subst (λ (l : List Part). Contains l (as_part p)) (sym is.parts) (map_contains as_part (all_placed objects at) p (found (λ (q : Placed). (q.object == i) && (q.index == j)) (all_placed objects at) p here.part).0)

odd_even : (a : ℕ) → a % 2 ≡ 0 → even (a + 1) ≡ a
odd_even a e = omega (arith, e)

odd_rest : (a : ℕ) → a % 2 ≡ 0 → (a + 1) % 2 ≡ 1
odd_rest a e = omega (arith, e)

even_behind : (e w : ℕ) → e % 2 ≡ 0 → (w ≡ 2) ⊎ (w ≡ 4) → (e + w) % 2 ≡ 0
even_behind e w even (inl two) = omega (arith, even, two)
even_behind e w even (inr four) = omega (arith, even, four)

-- what an even place below the end of memory is with bit 0 of an address
goes_to : (h n a : ℕ) → h ≡ n → n % 2 ≡ 0 → n < 2 ^ 32 → a % 2 ≡ 1 → h + 1 ≡ even (n % 2 ^ 32) + a % 2
goes_to h n a e even low odd = omega (arith, e, even, low, odd)

module _ (F c K : ℕ) (pairs : List (Pairing F c K)) (at : Placement) (plain hard : Image) (images : HaveImages F c K pairs at plain hard) where
  -- a row of the hardened object takes an address of the point's instruction, or of what is behind it
  row_takes : (e : ℕ) (p : Point) (A : IsPointAt F c K pairs at e p) (kind : RowKind) (byte a b y old new : ℕ)
      → Contains A.pairing.pair.form.rows (record { section = ordinal A.pairing.plain A.point.section; old = old; new = new; kind = kind })
      → byte ≡ start_at (plains pairs) at A.file A.point.section + y → y < A.point.offset + width_of A.point → start_at (plains pairs) at A.file A.point.section + old ≡ even a
      → b ≡ even ((start_at (hards pairs) at A.file A.point.section + new) % 2 ^ 32) + a % 2 → RowTakes plain hard (maps_of pairs) kind byte a b
  row_takes e p A kind byte a b y old new row in_byte inside place gives =
      let is = A.is in
      let q = A.pairing in
      let x = A.point in
      let pa = in_plain F c K pairs at plain hard images A.file A.number q x A.is_pair A.is_point p.it is.state in
      let done = done_is F c K pairs at plain hard images A.file A.number q x A.is_pair A.is_point is.unit is.sequence is.placed is.done in
      let ha = in_hard F c K pairs at plain hard images A.file A.number q x A.is_pair A.is_point p.it is.unit.start is.state done.inside in
      let old_start : start_at (plains pairs) at A.file x.section ≡ pa.part.start = start_is (plains pairs) at A.file x.section q.plain pa.part pa.here in
      let new_start : start_at (hards pairs) at A.file x.section ≡ ha.part.start = start_is (hards pairs) at A.file x.section q.hard ha.part ha.here in
      let one = part_is (plains pairs) at A.file x.section pa.part pa.here.part in
      let two = part_is (hards pairs) at A.file x.section ha.part ha.here.part in
      let fits = pa.inside in
      let within = slice_get_within q.plain.sections x.section pa.part.section pa.here.section in
      let more = q.pair.form.tables.sections.count in
      let counted : count_by is_code (take x.section q.hard.sections) ≡ ordinal q.plain x.section =
      same_count q.plain.sections q.hard.sections x.section (omega (arith, within)) (omega (arith, within, more)) (λ k s t f g. same_sort q.plain k s t (q.pair.form.tables.sections.each k s t f g)) in
      let mine : pa.part.ordinal ≡ ordinal q.plain x.section = ordinal_is (plains pairs) at A.file x.section q.plain pa.part pa.here pa.code in
      let its : ha.part.ordinal ≡ count_by is_code (take x.section q.hard.sections) = ordinal_is (hards pairs) at A.file x.section q.hard ha.part ha.here ha.code in
      let low : pa.part.start ≤ byte = omega (arith, in_byte, old_start) in
      let high : byte < pa.part.start + pa.part.section.size = omega (arith, in_byte, old_start, inside, fits) in
      record {
        old_part = as_part pa.part;
        holds = record { there = has_place (plains pairs) at plain images.image A.file x.section q.plain pa.part pa.here; code = pa.code; from = low; below = high };
        rows = q.pair.form.rows;
        map = ap (λ (k : ℕ). slice_get (maps_of pairs) k) one.file ∙ get_map (λ (z : Pairing F c K). z.pair.form.rows) pairs A.file q A.is_pair;
        row = record { section = ordinal q.plain x.section; old = old; new = new; kind = kind };
        listed = row;
        of_section = sym mine;
        of_kind = refl;
        of_place = ap (λ (k : ℕ). k + old) (sym old_start) ∙ place;
        new_part = as_part ha.part;
        there = has_place (hards pairs) at hard images.hard_image A.file x.section q.hard ha.part ha.here;
        code = ha.code;
        of_object = two.file ∙ sym one.file;
        of_ordinal = its ∙ (counted ∙ sym mine);
        gives = gives ∙ ap (λ (k : ℕ). even ((k + new) % 2 ^ 32) + a % 2) new_start;
      }

  module _ (chart : Chart) (is : IsChartOf F c K pairs at chart) where
    takes_entry : (a h : ℕ) → EntryTo chart a h → TakesEntry plain hard (maps_of pairs) a h
    takes_entry a h m =
        let e = m.0 in
        let p = m.1 in
        let A = is.only e p m.2 in
        let q = A.pairing in
        let x = A.point in
        let u = A.is.unit in
        let evens = places_are_even F c K pairs at plain hard chart images is e p m.2 in
        let low = (points_lie_low F c K pairs at plain hard chart images is e p m.2).place in
        let there : e ≡ start_at (plains pairs) at A.file x.section + x.offset = A.address ∙ address_is F c K pairs at plain hard images A.file A.number q x A.is_pair A.is_point in
        let listed = (q.pair.form.tables.map.exact (record { section = ordinal q.plain x.section; old = x.offset; new = u.start; kind = Start })).1
        (starts x u (zipped q.pair.flow.points q.pair.certificate.places.units A.number x u A.is_point A.is.placed)) in
        let named : a ≡ e + 1 = m.4 in
        let at_e : even a ≡ e = ap even named ∙ odd_even e evens.0 in
        let wide = some_width x in
        let inside : x.offset < x.offset + width_of x = omega (arith, wide) in
        let place : p.place ≡ start_at (hards pairs) at A.file x.section + u.start = A.is.place in
        let odd : a % 2 ≡ 1 = ap (λ (k : ℕ). k % 2) named ∙ odd_rest e evens.0 in
        let gives = goes_to p.place (start_at (hards pairs) at A.file x.section + u.start) a place (ap (λ (k : ℕ). k % 2) (sym place) ∙ evens.1) (omega (arith, low, place)) odd in
        inr (row_takes e p A Start (even a) a h x.offset x.offset u.start listed (at_e ∙ there) inside (sym there ∙ sym at_e) (m.5 ∙ gives))

    takes_return : (a h : ℕ) → BackOf chart a h → TakesReturn plain hard (maps_of pairs) a h
    takes_return a h m =
        let e = m.0 in
        let p = m.1 in
        let A = is.only e p m.2 in
        let q = A.pairing in
        let x = A.point in
        let u = A.is.unit in
        let evens = places_are_even F c K pairs at plain hard chart images is e p m.2 in
        let lies = points_lie_low F c K pairs at plain hard chart images is e p m.2 in
        let low = lies.back in
        let call : x.exit ≡ Call = call_is (address_in (plains pairs) at A.file q.pair.flow) x.exit (sym A.is.way ∙ m.3) in
        let there : e ≡ start_at (plains pairs) at A.file x.section + x.offset = A.address ∙ address_is F c K pairs at plain hard images A.file A.number q x A.is_pair A.is_point in
        let listed = (q.pair.form.tables.map.exact (record { section = ordinal q.plain x.section; old = end_of x; new = u.back; kind = Return })).1
        (returns x u (zipped q.pair.flow.points q.pair.certificate.places.units A.number x u A.is_point A.is.placed) call) in
        let width : p.width ≡ width_of x = A.is.width in
        let named : a ≡ e + p.width + 1 = m.4 in
        let wide = some_width x in
        let behind : (e + p.width) % 2 ≡ 0 = even_behind e p.width evens.0 lies.width in
        let at_e : even a ≡ e + p.width = ap even named ∙ odd_even (e + p.width) behind in
        let old : start_at (plains pairs) at A.file x.section + end_of x ≡ e + p.width = omega (arith, there, width) in
        let place : p.back ≡ start_at (hards pairs) at A.file x.section + u.back =
        A.is.back ∙ ap (λ (w : Exit). start_at (hards pairs) at A.file x.section + back_of w u) call in
        let odd : a % 2 ≡ 1 = ap (λ (k : ℕ). k % 2) named ∙ odd_rest (e + p.width) behind in
        let gives = goes_to p.back (start_at (hards pairs) at A.file x.section + u.back) a place (ap (λ (k : ℕ). k % 2) (sym place) ∙ evens.2) (omega (arith, low, place)) odd in
        let last : e + p.width - 1 + 1 ≡ even a = omega (arith, at_e, width, wide) in
        let in_byte : e + p.width - 1 ≡ start_at (plains pairs) at A.file x.section + (x.offset + width_of x - 1) = omega (arith, there, width, wide) in
        let inside : x.offset + width_of x - 1 < x.offset + width_of x = omega (arith, wide) in
        inr (e + p.width - 1, last, row_takes e p A Return (e + p.width - 1) a h (x.offset + width_of x - 1) (end_of x) u.back listed in_byte inside (old ∙ sym at_e) (m.5 ∙ gives))

pub charts_follow_maps : ChartsFollowMaps
charts_follow_maps F c K pairs at plain hard chart images is = record {
  entries = takes_entry F c K pairs at plain hard images chart is;
  returns = λ a h m. elim m [
    | inl end ↦ inl end
    | inr back ↦ takes_return F c K pairs at plain hard images chart is a h back
  ];
}
