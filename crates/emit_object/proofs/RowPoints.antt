-- The points of a flow, in the order of the rows, and the rows of the map.
use Rattle.std.proofs.Common.{◌≡◌, ◌<◌, ◌≤◌, ℕ, zero, suc, ◌+◌, Bool, true, false, cond, List, [], ◌∷◌, length, take, get_or, refl, sym, ap, ◌∙◌, subst, inl, inr, ◌⊎◌, arith, Some, None}
use Rattle.std.specs.Prelude.{slice_get, Contains, IsTrue, count_by}
use Rattle.std.specs.List.{zip}
use Rattle.std.specs.List.Sorted.{IsStrictlySortedBy}
use Rattle.std.specs.declared.cmp.Ordering.{Ordering}
use Rattle.std.specs.declared.cmp.Ordering.TheVariants.{Less, Equal, Greater}
use Rattle.std.specs.Ordering.{nat_cmp, ordering_then}
use Rattle.std.specs.Cmp.{nat_cmp_is}
use Rattle.std.proofs.lemmas.Bool.{cases_order, true≢false}
use Rattle.std.proofs.lemmas.Option.{none-some, same_Some, slice_get_within, slice_get-get_or}
use Rattle.elf_model.specs.declared.objects.Section.{Section}
use Rattle.elf_model.specs.declared.objects.MapRow.{MapRow}
use Rattle.elf_model.specs.declared.objects.RowKind.TheVariants.{Return}
use Rattle.elf_model.specs.Objects.{ObjectParts, is_object, is_code, is_within}
use Rattle.elf_model.specs.Ranges.{is_long, length_at}
use Rattle.elf_model.specs.Fields.{half_at}
use Rattle.elf_model.proofs.Elements.{element_at, place_of, contains_cases, contains_none, contains_here, contains_later}
use Rattle.elf_model.proofs.Lists.{count_cons}
use Rattle.code_ranges.specs.Spans.{place_cmp}
use Rattle.code_ranges.proofs.InOrder.{Rises, rises_keys}
use Rattle.reloc_places.specs.Starts.{bytes_of, IsCodeStart}
use Rattle.reloc_places.proofs.StartFacts.{any_limit, starts_apart, start_inside}
use Rattle.flow_recover.specs.declared.flows.Point.{Point}
use Rattle.flow_recover.specs.declared.flows.Exit.{Exit}
use Rattle.flow_recover.specs.declared.flows.Exit.TheVariants as exits
use Rattle.flow_recover.specs.Flows.{FlowParts}
use Rattle.flow_recover.specs.Points.{end_of, place_of_point}
use Rattle.flow_recover.specs.WholeFlows.{IsFlow}
use Rattle.flow_recover.proofs.FlowPoints.{points_rise}
use Rattle.flow_recover.proofs.PointFacts.{found_whole}
use Rattle.hardened_form.specs.Places.{UnitPlace, Places}
use Rattle.hardened_form.specs.Rows.{ordinal, row_cmp, IsRow, AreRows}
use Rattle.hardened_form.specs.Rows.{IsRow as row}
use Rattle.emit_object.specs.RowLists.{ordinals_from, is_call, start_row, return_row, rows_from, PointFits}
use Rattle.emit_object.proofs.RowFacts.{RowAmong, After, in_rows, rows_in, rows_rise}
use Rattle.emit_object.proofs.RowTurns.{ordinals_length, ordinal_at}

-- what the order of two places says
place_less : (a b : ℕ × ℕ) → place_cmp a b ≡ Less → (a.0 < b.0) ⊎ ((a.0 ≡ b.0) × (a.1 < b.1))
place_less a b h = elim (cases_order a.0 b.0) [
  | inr (inl l) ↦ inl l
  | inr (inr g) ↦
      let up : nat_cmp a.0 b.0 ≡ Greater = sym (nat_cmp_is a.0 b.0 Greater g) in
      let wrong : Greater ≡ Less = sym (ap (λ (z : Ordering). ordering_then z (nat_cmp a.1 b.1)) up) ∙ h in
      absurd (cc)
  | inl e ↦
      let even : nat_cmp a.0 b.0 ≡ Equal = sym (nat_cmp_is a.0 b.0 Equal e) in
      let second : nat_cmp a.1 b.1 ≡ Less = sym (ap (λ (z : Ordering). ordering_then z (nat_cmp a.1 b.1)) even) ∙ h in
      elim (cases_order a.1 b.1) [
        | inr (inl l) ↦ inr (e, l)
        | inr (inr g) ↦ let wrong : Greater ≡ Less = nat_cmp_is a.1 b.1 Greater g ∙ second in absurd (cc)
        | inl f ↦ let wrong : Equal ≡ Less = nat_cmp_is a.1 b.1 Equal f ∙ second in absurd (cc)
      ]
]

-- sections of code before others have lower numbers
counts_rise : (ss : List Section) (i j : ℕ) (s : Section) → slice_get ss i ≡ Some s → is_code s ≡ true → i < j → count_by is_code (take i ss) < count_by is_code (take j ss)
counts_rise [] i j s at c l = absurd (none-some s at)
counts_rise (z ∷ ss) i zero s at c l = absurd (omega arith)
counts_rise (z ∷ ss) zero (suc j) s at c l =
    let first = count_cons is_code z (take j ss) ∙ ap (λ (b : Bool). cond b (1 + count_by is_code (take j ss)) (count_by is_code (take j ss))) (ap is_code (same_Some z s at) ∙ c) in
    omega (arith, first)
counts_rise (z ∷ ss) (suc i) (suc j) s at c l =
    let more = counts_rise ss i j s at c (omega arith) in
    go (is_code z) (count_cons is_code z (take i ss)) (count_cons is_code z (take j ss)) more
  where
    go : (b : Bool) → count_by is_code (z ∷ take i ss) ≡ cond b (1 + count_by is_code (take i ss)) (count_by is_code (take i ss)) → count_by is_code (z ∷ take j ss) ≡ cond b (1 + count_by is_code (take j ss)) (count_by is_code (take j ss))
        → count_by is_code (take i ss) < count_by is_code (take j ss) → count_by is_code (z ∷ take i ss) < count_by is_code (z ∷ take j ss)
    go true a b m = omega arith
    go false a b m = omega arith

call_is : (x : Exit) → is_call x ≡ true → x ≡ exits.Call
call_is exits.Call h = refl
call_is exits.Falls h = absurd (true≢false (sym h))
call_is (exits.Branch q) h = absurd (true≢false (sym h))
call_is exits.Transfer h = absurd (true≢false (sym h))
call_is exits.Return h = absurd (true≢false (sym h))
call_is exits.Stops h = absurd (true≢false (sym h))

module _ (o : ObjectParts) (f : FlowParts) (sound : is_object o ≡ true) (within : IsTrue (is_within o any_limit)) (flow : IsFlow o f) where
  abbrev number : ℕ → ℕ
  number j = get_or (ordinals_from 0 o.sections) j 0

  -- where a point stands: in a section of code, whole
  pub record At (x : Point) : Type 0 where
    pub end : ℕ
    pub start : IsCodeStart o x.section (bytes_of o x.section) x.offset end
    pub ends : end_of x ≡ x.offset + length_at (bytes_of o x.section) x.offset
    pub whole : x.offset + length_at (bytes_of o x.section) x.offset ≤ end

  pub point_at : (q : ℕ) (x : Point) → slice_get f.points q ≡ Some x → At x
  point_at q x at =
      let low : q < length flow.nodes = omega (arith, slice_get_within f.points q x at, flow.count) in
      let n = element_at flow.nodes q low in
      let is = flow.points q n.0 x n.1 at in
      let start = subst (λ (j : ℕ). IsCodeStart o j (bytes_of o j) x.offset is.instr.end) (sym is.section) (subst (λ (y : ℕ). IsCodeStart o n.0.section (bytes_of o n.0.section) y is.instr.end) (sym is.offset) is.instr.start) in
      let whole = found_whole o n.0 x.instr is.instr in
      let wide : is_long (half_at (bytes_of o x.section) x.offset) ≡ x.wide =
      ap (λ (j : ℕ). is_long (half_at (bytes_of o j) x.offset)) is.section ∙ ap (λ (y : ℕ). is_long (half_at (bytes_of o n.0.section) y)) is.offset ∙ sym is.wide in
      let long : length_at (bytes_of o x.section) x.offset ≡ length_at (bytes_of o n.0.section) n.0.offset =
      ap (λ (j : ℕ). length_at (bytes_of o j) x.offset) is.section ∙ ap (λ (y : ℕ). length_at (bytes_of o n.0.section) y) is.offset in
      record {
        end = is.instr.end;
        start = start;
        ends = ap (λ (b : Bool). x.offset + cond b 4 2) (sym wide);
        whole = omega (arith, is.offset, long, whole);
      }

  pub points_fit : (k : ℕ) (d : Point) → k < length f.points → PointFits (ordinals_from 0 o.sections) (get_or f.points k d)
  points_fit k d low =
      let x = get_or f.points k d in
      let h = point_at k x (slice_get-get_or f.points k d low) in
      let r = h.start.range in
      let inside = start_inside o x.section x.offset h.end sound within h.start in
      record {
        numbered = omega (arith, slice_get_within o.sections x.section r.section r.is_there, ordinals_length 0 o.sections);
        small = omega (arith, inside.before_end, inside.in_bytes, inside.small);
      }

  number_is : (q : ℕ) (x : Point) → slice_get f.points q ≡ Some x → number x.section ≡ ordinal o x.section
  number_is q x at =
      let r = (point_at q x at).start.range in
      let same = ordinal_at 0 o.sections x.section (slice_get_within o.sections x.section r.section r.is_there) in
      omega (arith, same)

  abbrev Behind : Point → Point → Type 0
  Behind x y = (number x.section < number y.section) ⊎ ((number x.section ≡ number y.section) × (end_of x ≤ y.offset))

  behind : (x y : Point) → Contains f.points x → Contains f.points y → place_cmp (place_of_point x) (place_of_point y) ≡ Less → Behind x y
  behind x y hx hy low =
      let p = place_of f.points x hx in
      let q = place_of f.points y hy in
      let a = point_at p.0 x p.1 in
      let b = point_at q.0 y q.1 in
      let nx = number_is p.0 x p.1 in
      let ny = number_is q.0 y q.1 in
      elim (place_less (place_of_point x) (place_of_point y) low) [
        | inl l ↦ inl (let up = counts_rise o.sections x.section y.section a.start.range.section a.start.range.is_there a.start.range.in_code l in omega (arith, up, nx, ny))
        | inr (same, l) ↦
            let start = subst (λ (j : ℕ). IsCodeStart o j (bytes_of o j) y.offset b.end) (sym same) b.start in
            let apart = starts_apart o x.section x.offset y.offset a.end b.end a.start a.whole start l in
            inr (ap number same, omega (arith, apart, a.ends))
      ]

  -- of the points from one on
  rises : (xs : List Point) → ((x : Point) → Contains xs x → Contains f.points x) → Rises (λ (x y : Point). place_cmp (place_of_point x) (place_of_point y) ≡ Less) xs → Rises Behind xs
  rises [] all r = tt
  rises (x ∷ xs) all r = (
    (λ y here. behind x y (all x (contains_here x xs)) (all y (contains_later x xs y here)) (r.0 y here)),
    rises xs (λ y here. all y (contains_later x xs y here)) r.1,
  )

  zip_first : (xs : List Point) (us : List UnitPlace) (e : Point × UnitPlace) → Contains (zip xs us) e → Contains xs e.0
  zip_first [] us e h = absurd (contains_none e h)
  zip_first (x ∷ xs) [] e h = absurd (contains_none e h)
  zip_first (x ∷ xs) (u ∷ us) e h = elim (contains_cases (x, u) (zip xs us) e h) [
    | inl same ↦ subst (λ (z : Point × UnitPlace). Contains (x ∷ xs) z.0) same (contains_here x xs)
    | inr m ↦ contains_later x xs e.0 (zip_first xs us e m)
  ]

  zip_rises : (xs : List Point) (us : List UnitPlace) → Rises Behind xs → Rises (After number) (zip xs us)
  zip_rises [] us r = tt
  zip_rises (x ∷ xs) [] r = tt
  zip_rises (x ∷ xs) (u ∷ us) r = ((λ e here. r.0 e.0 (zip_first xs us e here)), zip_rises xs us r.1)

  module _ (us : List UnitPlace) where
    abbrev entries : List (Point × UnitPlace)
    entries = zip f.points us

    in_order : Rises (After number) entries
    in_order = zip_rises f.points us (rises f.points (λ x h. h) (rises_keys place_of_point place_cmp f.points (points_rise o f flow within).order))

    numbered : (e : Point × UnitPlace) → Contains entries e → number e.0.section ≡ ordinal o e.0.section
    numbered e h = let q = place_of f.points e.0 (zip_first f.points us e h) in number_is q.0 e.0 q.1

    abbrev the_places : List ℕ → Places
    the_places words = record { units = us; words = words }

    is_row : (words : List ℕ) (r : MapRow) → RowAmong number entries r → IsRow o f (the_places words) r
    is_row words r (e, (here, inl s)) =
        subst (IsRow o f (the_places words)) (ap (λ (n : ℕ). start_row n e) (sym (numbered e here)) ∙ s) (row.starts e.0 e.1 here)
    is_row words r (e, (here, inr b)) = go (is_call e.0.exit) refl (ap (λ (n : ℕ). return_row n e) (sym (numbered e here)) ∙ b)
      where
        go : (t : Bool) → is_call e.0.exit ≡ t → cond t (Some (record { section = ordinal o e.0.section; old = end_of e.0; new = e.1.back; kind = Return })) None ≡ Some r → IsRow o f (the_places words) r
        go true is b = subst (IsRow o f (the_places words)) (same_Some _ r b) (row.returns e.0 e.1 here (call_is e.0.exit is))
        go false is b = absurd (none-some r b)

    has_row : (words : List ℕ) (r : MapRow) → IsRow o f (the_places words) r → RowAmong number entries r
    has_row words _ (row.starts x u here) = ((x, u), (here, inl (ap (λ (n : ℕ). start_row n (x, u)) (numbered (x, u) here))))
    has_row words _ (row.returns x u here call) = (
      (x, u),
      (
        here,
        inr (ap (λ (n : ℕ). return_row n (x, u)) (numbered (x, u) here)
            ∙ ap (λ (z : Exit). cond (is_call z) (Some (record { section = ordinal o x.section; old = end_of x; new = u.back; kind = Return })) None) call),
      ),
    )

    pub are_rows : (words : List ℕ) (rows : List MapRow) → rows ≡ rows_from number None entries → AreRows o f (the_places words) rows
    are_rows words rows e = record {
      exact = λ r. (
        (λ h. elim (in_rows number None entries r (subst (λ (l : List MapRow). Contains l r) e h)) [ inl n ↦ absurd (none-some r n) | inr a ↦ is_row words r a ]),
        (λ h. subst (λ (l : List MapRow). Contains l r) (sym e) (rows_in number None entries r (inr (has_row words r h)))),
      );
      rise = subst (IsStrictlySortedBy row_cmp) (sym e) (rows_rise number None entries in_order (λ r n. absurd (none-some r n)));
    }
