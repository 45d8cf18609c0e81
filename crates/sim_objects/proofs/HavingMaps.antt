-- The hardened object of a pair has its map.
use Rattle.std.specs.Prelude.{◌≡◌, ◌<◌, ◌≤◌, ℕ, zero, suc, ◌+◌, ◌*◌, ◌^◌, Bool, true, false, cond, List, [], ◌∷◌, length, filter, take, Some, slice_get, slice_index_or, Contains, refl}
use Rattle.std.specs.List.Sorted.{IsStrictlySortedBy}
use Rattle.std.specs.declared.cmp.Ordering.{Ordering}
use Rattle.std.specs.declared.cmp.Ordering.TheVariants.{Less, Equal, Greater}
use Rattle.std.specs.Ordering.{nat_cmp, ordering_then}
use Rattle.std.proofs.Common.{arith, inl, inr, ap, sym, ◌∙◌, subst}
use Rattle.std.proofs.lemmas.Cmp.{ranked}
use Rattle.std.proofs.lemmas.List.{length-take}
use Rattle.std.proofs.lemmas.Nat.{mul-le}
use Rattle.std.proofs.lemmas.List.Elements.{All-contains_itself}
use Rattle.std.proofs.lemmas.List.Sums.{count_by-le-length}
use Rattle.std.proofs.lemmas.Map.Views.{All-after_first}
use Rattle.std.proofs.lemmas.Map.Keys.{sorted_tail}
use Rattle.std.proofs.lemmas.Option.{none-some, same_Some, slice_get_within}
use Rattle.elf_model.specs.declared.objects.Section.{Section}
use Rattle.elf_model.specs.declared.objects.MapRow.{MapRow}
use Rattle.elf_model.specs.Fields.{same_name}
use Rattle.elf_model.specs.Maps.{map_name, map_section, is_map_named, row_kind, IsBefore, Rise, RowFits}
use Rattle.elf_model.specs.Objects.{is_code, code_size}
use Rattle.elf_model.proofs.Elements.{element_at, contains_at}
use Rattle.reloc_places.proofs.StartFacts.{section_within}
use Rattle.flow_recover.specs.declared.flows.Point.{Point as FlowPoint}
use Rattle.hardened_form.specs.Rows.{ordinal, IsRow, starts, returns, row_cmp}
use Rattle.hardened_form.specs.Symbols.{size_of}
use Rattle.sim_answers.proofs.PointPlaces.{at_point}
use Rattle.sim_images.proofs.EntriesAlike.{same_self}
use Rattle.sim_objects.specs.Lists.{Pairing}
use Rattle.sim_objects.specs.HavingMaps.{PairsHaveMaps}
use Rattle.sim_objects.proofs.Moving.{zip_at}
use Rattle.sim_objects.proofs.Leading.{point_inside}

-- the last one alone passes
filter_last : {X : Type 0} (test : X → Bool) (xs : List X) (n : ℕ) (m : X) → length xs ≡ n + 1 → slice_get xs n ≡ Some m → ((j : ℕ) (x : X) → j < n → slice_get xs j ≡ Some x → test x ≡ false) → test m ≡ true → filter test xs ≡ m ∷ []
filter_last test [] n m l e others last = absurd (none-some m e)
filter_last {X} test (x ∷ []) zero m l e others last =
    let same : x ≡ m = same_Some x m e in
    let passes : test x ≡ true = ap test same ∙ last in
    let none : List X = [] in
    ap (λ (b : Bool). cond b (x ∷ none) none) passes ∙ ap (λ (z : X). z ∷ none) same
filter_last test (x ∷ y ∷ rest) zero m l e others last = absurd (omega (arith, l))
filter_last test (x ∷ rest) (suc n) m l e others last =
    ap (λ (b : Bool). cond b (x ∷ filter test rest) (filter test rest)) (others 0 x (omega arith) refl)
    ∙ filter_last test rest n m (omega (arith, l)) e (λ j z lt there. others (suc j) z (omega (arith, lt)) there) last

-- rows that are sorted rise
by_kind : (a b : MapRow) → a.section ≡ b.section → a.old ≡ b.old → (o : Ordering) → nat_cmp (row_kind a.kind) (row_kind b.kind) ≡ o → o ≡ Less → IsBefore a b
by_kind a b e f Less g h = record { before = inr (e, inr (f, ranked (row_kind a.kind) (row_kind b.kind) Less (sym g))) }
by_kind a b e f Equal g h = absurd (cc)
by_kind a b e f Greater g h = absurd (cc)

by_old : (a b : MapRow) → a.section ≡ b.section → (o : Ordering) → nat_cmp a.old b.old ≡ o → ordering_then o (nat_cmp (row_kind a.kind) (row_kind b.kind)) ≡ Less → IsBefore a b
by_old a b e Less g h = record { before = inr (e, inl (ranked a.old b.old Less (sym g))) }
by_old a b e Equal g h = by_kind a b e (ranked a.old b.old Equal (sym g)) (nat_cmp (row_kind a.kind) (row_kind b.kind)) refl h
by_old a b e Greater g h = absurd (cc)

by_section : (a b : MapRow) → (o : Ordering) → nat_cmp a.section b.section ≡ o → ordering_then o (ordering_then (nat_cmp a.old b.old) (nat_cmp (row_kind a.kind) (row_kind b.kind))) ≡ Less → IsBefore a b
by_section a b Less g h = record { before = inl (ranked a.section b.section Less (sym g)) }
by_section a b Equal g h = by_old a b (ranked a.section b.section Equal (sym g)) (nat_cmp a.old b.old) refl h
by_section a b Greater g h = absurd (cc)

rise_of : (rows : List MapRow) → IsStrictlySortedBy row_cmp rows → Rise rows
rise_of [] s = tt
rise_of (r ∷ rest) s =
    let all = All-after_first row_cmp r rest s in
    ((λ k d lt. let b : MapRow = slice_index_or rest k d in by_section r b (nat_cmp r.section b.section) refl (all k d lt)), rise_of rest (sorted_tail row_cmp r rest s))

module _ (F c K : ℕ) (q : Pairing F c K) (few : c < 16) (count : length q.plain.sections < 2 ^ 32) (small : code_size q.plain.sections ≤ 2 ^ 24) where
  -- the section of a point, old and new
  record Sizes (j : ℕ) : Type 0 where
    pub old : Section
    pub new : Section
    pub is_old : slice_get q.plain.sections j ≡ Some old
    pub is_new : slice_get q.hard.sections j ≡ Some new
    pub low : old.size ≤ 2 ^ 24
    pub high : new.size < 2 ^ 32

  sizes_of : (x : FlowPoint) → Contains q.pair.flow.points x → Sizes x.section
  sizes_of x there =
      let at = at_point q.plain q.pair.flow q.pair.accepted.flow x there in
      let s : Section = at.start.range.section in
      let within = slice_get_within q.plain.sections x.section s at.start.range.is_there in
      let more = q.pair.form.tables.sections.count in
      let t = element_at q.hard.sections x.section (omega (arith, within, more)) in
      let one = section_within q.plain x.section s at.start.range.is_there at.start.range.in_code in
      let grown = q.pair.grown x.section s t.0 at.start.range.is_there at.start.range.in_code t.1 in
      let all = small in
      let copies = few in
      let low : s.size ≤ 2 ^ 24 = omega (arith, one, all) in
      record { old = s; new = t.0; is_old = at.start.range.is_there; is_new = t.1; low = low; high = bound c s.size t.0.size copies low grown }
    where
      bound : (c n m : ℕ) → c < 16 → n ≤ 2 ^ 24 → m ≤ 16 * c * n → m < 2 ^ 32
      bound c n m less low grown =
          let most : 16 * c ≤ 240 = omega (arith, less) in
          let one : 16 * c * n ≤ 240 * 2 ^ 24 = mul-le (16 * c) n 240 (2 ^ 24) most low in
          omega (arith, one, grown)

  few_sections : (j : ℕ) → ordinal q.plain j < 2 ^ 32
  few_sections j =
      let one = count_by-le-length is_code (take j q.plain.sections) in
      let two = length-take j q.plain.sections in
      let all = count in
      omega (arith, one, two, all)

  fits : (r : MapRow) → IsRow q.plain q.pair.flow q.pair.certificate.places r → RowFits r
  fits _ (starts x u there) =
      let n = zip_at q.pair.flow.points q.pair.certificate.places.units x u there in
      let z = sizes_of x (contains_at q.pair.flow.points n.0 x n.1) in
      let l = element_at q.pair.certificate.sequences n.0 (subst (λ (k : ℕ). n.0 < k) (sym q.pair.count) (slice_get_within q.pair.flow.points n.0 x n.1)) in
      let done = q.pair.done n.0 x u l.0 n.1 n.2 l.1 in
      let inside = done.inside in
      let size : size_of (slice_get q.hard.sections x.section) ≡ z.new.size = ap size_of z.is_new in
      let old = point_inside q.plain q.pair.flow q.pair.accepted.flow x.section x.offset n.0 (record { point = x; there = n.1; section = refl; offset = refl }) z.old z.is_old in
      let low = z.low in
      let high = z.high in
      record { section = few_sections x.section; old = omega (arith, old, low); new = omega (arith, inside, size, high) }
  fits _ (returns x u there call) =
      let n = zip_at q.pair.flow.points q.pair.certificate.places.units x u there in
      let z = sizes_of x (contains_at q.pair.flow.points n.0 x n.1) in
      let l = element_at q.pair.certificate.sequences n.0 (subst (λ (k : ℕ). n.0 < k) (sym q.pair.count) (slice_get_within q.pair.flow.points n.0 x n.1)) in
      let done = q.pair.done n.0 x u l.0 n.1 n.2 l.1 in
      let within = done.within in
      let back = (done.back call).high in
      let size : size_of (slice_get q.hard.sections x.section) ≡ z.new.size = ap size_of z.is_new in
      let old = point_inside q.plain q.pair.flow q.pair.accepted.flow x.section x.offset n.0 (record { point = x; there = n.1; section = refl; offset = refl }) z.old z.is_old in
      let low = z.low in
      let high = z.high in
      let wide = width_few x.wide in
      record { section = few_sections x.section; old = omega (arith, old, low, wide); new = omega (arith, within, back, size, high) }
    where
      width_few : (b : Bool) → cond b 4 2 ≤ 4
      width_few true = omega arith
      width_few false = omega arith

pub pairs_have_maps : PairsHaveMaps
pairs_have_maps F c K q few count small unnamed =
    let rows = q.pair.form.rows in
    let tables = q.pair.form.tables in
    record {
      section = map_section rows;
      only = filter_last is_map_named q.hard.sections (length q.plain.sections) (map_section rows) tables.sections.count tables.sections.map others (same_self map_name);
      kind = refl;
      flags = refl;
      entry = refl;
      are_rows = record { bytes = refl; fit = λ k d lt. fits F c K q few count small (slice_index_or rows k d) ((tables.map.exact (slice_index_or rows k d)).0 (All-contains_itself rows k d lt)) };
      rise = rise_of rows tables.map.rise;
    }
  where
    others : (j : ℕ) (t : Section) → j < length q.plain.sections → slice_get q.hard.sections j ≡ Some t → is_map_named t ≡ false
    others j t lt there =
        let s = element_at q.plain.sections j lt in
        ap (λ (n : List ℕ). same_name n map_name) (q.pair.form.tables.sections.each j s.0 t s.1 there).name ∙ unnamed j s.0 s.1
