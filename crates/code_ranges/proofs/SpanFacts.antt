-- The spans between marks are the ranges, in order.
use Rattle.std.proofs.Common.{◌≡◌, ◌<◌, ◌≤◌, ℕ, ◌-◌, ◌%◌, Bool, true, false, cond, List, [], ◌∷◌, ◌++◌, refl, sym, ap, ◌∙◌, subst, inl, inr, ◌⊎◌, arith, map, Option, Some, None}
use Rattle.std.specs.Prelude.{All, Contains, slice_get, nat_le, nat_lt, ◌==◌, ◌&&◌, if◌then◌else◌}
use Rattle.std.specs.Option.{option_to_list}
use Rattle.std.specs.List.{list_all}
use Rattle.std.proofs.lemmas.Bool.{cases_order, and_parts, and_from, or_left, or_right, both_ways, eqb-true, eqb-false, eq-eqb, ltb-true, lt-ltb, leb-true, cond-true, false_from_ne_true}
use Rattle.std.proofs.lemmas.Option.{none-some, same_Some}
use Rattle.std.proofs.lemmas.List.Elements.{All-head, All-tail, All-contains, All-weaker, Contains-append_right}
use Rattle.elf_model.specs.declared.objects.Section.{Section}
use Rattle.elf_model.specs.declared.objects.Home.{Home}
use Rattle.elf_model.specs.declared.objects.Home.TheVariants as home
use Rattle.elf_model.specs.declared.ranges.RangeKind.{RangeKind}
use Rattle.elf_model.specs.Constants.{local, notype, func}
use Rattle.elf_model.specs.Objects.{ObjectParts, is_code, is_object, is_symbol, is_inside, has_home, is_at_home}
use Rattle.elf_model.specs.Ranges.{stands_at, is_mapped, IsBeginning, IsRange}
use Rattle.code_ranges.specs.declared.ranges.Range.{Range}
use Rattle.code_ranges.specs.declared.spans.Mark.{Mark}
use Rattle.code_ranges.specs.declared.spans.Span.{Span}
use Rattle.code_ranges.specs.CodeRanges.{is_below, rise}
use Rattle.code_ranges.specs.Spans.{kind_at, end_of, span_in, span_of, spans_from, range_of}
use Rattle.code_ranges.proofs.ObjectFacts.{symbol_sound}
use Rattle.elf_model.proofs.Elements.{contains_cases, contains_here, contains_later, contains_none}
use Rattle.code_ranges.proofs.KindFacts.{beginning, kind_here, mapped_from, some_kind}
use Rattle.code_ranges.proofs.MarkFacts.{Before, Rising}

-- a symbol that stands at an offset of a section is defined there
stands_home : (j x : ℕ) (h : Home) (v : ℕ) → stands_at j x h v ≡ true → (h ≡ home.Section j) × (v ≡ x)
stands_home j x home.Undefined v y = absurd (cc)
stands_home j x home.Absolute v y = absurd (cc)
stands_home j x (home.Section k) v y =
    let p = and_parts (k == j) (v == x) y in
    (ap (λ (n : ℕ). home.Section n) (eqb-true k j p.0), eqb-true v x p.1)

-- a mapping symbol stands within its section
module _ (o : ObjectParts) (sound : is_object o ≡ true) where
  pub begins_inside : (kind : RangeKind) (j x : ℕ) (h : Section) → IsBeginning o kind j x → slice_get o.sections j ≡ Some h → x ≤ h.size
  begins_inside kind j x h b e =
      let s = b.symbol in
      let at = stands_home j x s.home s.value b.stands in
      let good : is_symbol o.sections s ≡ true = symbol_sound o b.index s sound b.is_there in
      let within : is_at_home o.sections s (slice_get o.sections j) ≡ true =
      ap (λ (z : Home). has_home o.sections s z) (sym at.0) ∙ (and_parts _ (has_home o.sections s s.home) good).1 in
      let inside : is_inside s h ≡ true = ap (is_at_home o.sections s) (sym e) ∙ within in
      let plain : s.kind ≡ notype = eqb-true s.kind notype (and_parts (s.bind == local) (s.kind == notype) (and_parts ((s.bind == local) && (s.kind == notype)) _ b.is_kind).0).1 in
      let low : s.value ≤ h.size = leb-true s.value h.size (ap (λ (k : ℕ). nat_le (if k == func then s.value - s.value % 2 else s.value) h.size) (sym plain) ∙ inside) in
      let same = at.1 in
      omega arith

-- where a range ends that begins at an offset of a section
record IsEnd (o : ObjectParts) (j start end size : ℕ) : Type 0 where
  pub inside : end ≤ size
  pub ends : (is_mapped o j end ≡ true) ⊎ (end ≡ size)
  pub nearest : (x : ℕ) → start < x → x < end → is_mapped o j x ≡ false

-- there is one such end
one_end : (o : ObjectParts) (j start a b size : ℕ) → IsEnd o j start a size → IsEnd o j start b size → start < a → start < b → a ≡ b
one_end o j start a b size p q la lb =
    elim (cases_order a b) [
      | inl e ↦ e
      | inr d ↦ elim d [
        | inl l ↦ absurd (lower a b p q la l)
        | inr l ↦ absurd (lower b a q p lb l)
      ]
    ]
  where
    lower : (a b : ℕ) → IsEnd o j start a size → IsEnd o j start b size → start < a → a < b → ⊥
    lower a b p q la l =
        elim p.ends [
          | inl y ↦ both_ways (is_mapped o j a) (q.nearest a la l) y
          | inr e ↦ let h = q.inside in omega (arith, e, h, l)
        ]

-- every place where something begins has a mark among these, or stands before them
abbrev Covers : ObjectParts → List Mark → Type 0
Covers o ms = (q : Mark) → kind_at o.symbols q.section q.offset ≡ Some q.kind → Contains ms q ⊎ All (Before q) ms

abbrev Begins : ObjectParts → List Mark → Type 0
Begins o ms = (q : Mark) → Contains ms q → kind_at o.symbols q.section q.offset ≡ Some q.kind

covers_rest : (o : ObjectParts) (m : Mark) (rest : List Mark) → Rising (m ∷ rest) → Covers o (m ∷ rest) → Covers o rest
covers_rest o m rest up covers q h =
    elim (covers q h) [
      | inl c ↦ elim (contains_cases m rest q c) [
        | inl e ↦ inr (subst (λ (z : Mark). All (Before z) rest) e up.0)
        | inr r ↦ inl r
      ]
      | inr a ↦ inr (All-tail (Before q) m rest a)
    ]

begins_rest : (o : ObjectParts) (m : Mark) (rest : List Mark) → Begins o (m ∷ rest) → Begins o rest
begins_rest o m rest begins q h = begins q (contains_later m rest q h)

module _ (o : ObjectParts) (sound : is_object o ≡ true) where
  -- what begins behind a mark has one of the marks behind it
  behind : (m : Mark) (rest : List Mark) → Covers o (m ∷ rest) → (x : ℕ) → m.offset < x → is_mapped o m.section x ≡ true → (q : Mark) × Contains rest q × (q.section ≡ m.section) × (q.offset ≡ x)
  behind m rest covers x l y =
      let k = some_kind o m.section x y in
      let q : Mark = record { section = m.section; offset = x; kind = k.0 } in
      elim (covers q k.1) [
        | inl c ↦ elim (contains_cases m rest q c) [
          | inl e ↦ let same : m.offset ≡ x = ap (λ (z : Mark). z.offset) e in absurd (omega (arith, same, l))
          | inr r ↦ (q, r, refl, refl)
        ]
        | inr a ↦ elim (All-head (Before q) m rest a) [
          | inl b ↦ absurd (omega (arith, b))
          | inr b ↦ let low = b.1 in absurd (omega (arith, low, l))
        ]
      ]

  end_is : (m : Mark) (rest : List Mark) → Rising (m ∷ rest) → Begins o (m ∷ rest) → Covers o (m ∷ rest) → (h : Section) → slice_get o.sections m.section ≡ Some h
      → IsEnd o m.section m.offset (end_of m (slice_get rest 0) h.size) h.size × ((m.offset < end_of m (slice_get rest 0) h.size) ⊎ (end_of m (slice_get rest 0) h.size ≡ h.size))
  end_is m [] up begins covers h e = (
    record {
      inside = omega arith;
      ends = inr refl;
      nearest = λ x l u. false_from_ne_true (is_mapped o m.section x) (λ y. contains_none (behind m [] covers x l y).0 (behind m [] covers x l y).1);
    },
    inr refl,
  )
  end_is m (n ∷ rest) up begins covers h e = go (n.section == m.section) refl
    where
      order : Before m n
      order = All-head (Before m) n rest up.0

      -- a mark among the next ones does not stand before the first of them
      not_before : (q : Mark) → Contains (n ∷ rest) q → (n ≡ q) ⊎ Before n q
      not_before q c =
          elim (contains_cases n rest q c) [
            | inl same ↦ inl same
            | inr r ↦ inr (All-contains (Before n) rest q up.1.0 r)
          ]

      here : n.section ≡ m.section → (x : ℕ) → m.offset < x → x < n.offset → is_mapped o m.section x ≡ true → ⊥
      here same x l u y =
          let q = behind m (n ∷ rest) covers x l y in
          let at : q.0.offset ≡ x = q.3 in
          let in_it : q.0.section ≡ m.section = q.2 in
          elim (not_before q.0 q.1) [
            | inl is ↦ let off : n.offset ≡ q.0.offset = ap (λ (z : Mark). z.offset) is in omega (arith, off, at, u)
            | inr b ↦ elim b [
              | inl low ↦ omega (arith, low, in_it, same)
              | inr low ↦ let above = low.1 in omega (arith, above, at, u)
            ]
          ]

      elsewhere : (n.section ≡ m.section → ⊥) → (x : ℕ) → m.offset < x → is_mapped o m.section x ≡ true → ⊥
      elsewhere apart x l y =
          let q = behind m (n ∷ rest) covers x l y in
          let in_it : q.0.section ≡ m.section = q.2 in
          elim (not_before q.0 q.1) [
            | inl is ↦ let sec : n.section ≡ q.0.section = ap (λ (z : Mark). z.section) is in apart (sec ∙ in_it)
            | inr b ↦ elim order [
              | inl low ↦ elim b [
                | inl more ↦ omega (arith, low, more, in_it)
                | inr more ↦ apart (more.0 ∙ in_it)
              ]
              | inr low ↦ apart (sym low.0)
            ]
          ]

      mapped_next : n.section ≡ m.section → is_mapped o m.section n.offset ≡ true
      mapped_next same = ap (λ (j : ℕ). is_mapped o j n.offset) (sym same) ∙ mapped_from o n.section n.offset n.kind (begins n (contains_later m (n ∷ rest) n (contains_here n rest)))

      inside_next : n.section ≡ m.section → n.offset ≤ h.size
      inside_next same =
          begins_inside o sound n.kind n.section n.offset h (beginning o n.kind n.section n.offset (begins n (contains_later m (n ∷ rest) n (contains_here n rest))))
          (ap (slice_get o.sections) same ∙ e)

      above : n.section ≡ m.section → m.offset < n.offset
      above same =
          elim order [
            | inl low ↦ absurd (omega (arith, low, same))
            | inr low ↦ low.1
          ]

      go : (b : Bool) → (n.section == m.section) ≡ b → IsEnd o m.section m.offset (cond b n.offset h.size) h.size × ((m.offset < cond b n.offset h.size) ⊎ (cond b n.offset h.size ≡ h.size))
      go true f =
          let same : n.section ≡ m.section = eqb-true n.section m.section f in (
            record {
              inside = inside_next same;
              ends = inl (mapped_next same);
              nearest = λ x l u. false_from_ne_true (is_mapped o m.section x) (here same x l u);
            },
            inl (above same),
          )
      go false f =
          let apart : n.section ≡ m.section → ⊥ = eqb-false n.section m.section f in (
            record {
              inside = omega arith;
              ends = inr refl;
              nearest = λ x l u. false_from_ne_true (is_mapped o m.section x) (elsewhere apart x l);
            },
            inr refl,
          )

-- what a span is made of
record IsSpanOf (sections : List Section) (m : Mark) (next : Option Mark) (t : Span) : Type 0 where
  pub section : Section
  pub there : slice_get sections m.section ≡ Some section
  pub in_code : is_code section ≡ true
  pub low : m.offset < end_of m next section.size
  pub is : record { section = m.section; start = m.offset; end = end_of m next section.size; kind = m.kind } ≡ t

span_parts : (sections : List Section) (m : Mark) (next : Option Mark) (t : Span) → span_of sections m next ≡ Some t → IsSpanOf sections m next t
span_parts sections m next t h = go (slice_get sections m.section) refl h
  where
    go : (s : Option Section) → slice_get sections m.section ≡ s → span_in m next s ≡ Some t → IsSpanOf sections m next t
    go None e h = absurd (none-some t h)
    go (Some s) e h = test (is_code s && nat_lt m.offset (end_of m next s.size)) refl h
      where
        test : (b : Bool) → (is_code s && nat_lt m.offset (end_of m next s.size)) ≡ b
            → cond b (Some (record { section = m.section; start = m.offset; end = end_of m next s.size; kind = m.kind })) None ≡ Some t → IsSpanOf sections m next t
        test true f h =
            let p = and_parts (is_code s) (nat_lt m.offset (end_of m next s.size)) f in
            record { section = s; there = e; in_code = p.0; low = ltb-true m.offset (end_of m next s.size) p.1; is = same_Some _ t h }
        test false f h = absurd (none-some t h)

span_from : (sections : List Section) (m : Mark) (next : Option Mark) (s : Section) → slice_get sections m.section ≡ Some s → is_code s ≡ true → m.offset < end_of m next s.size
    → span_of sections m next ≡ Some (record { section = m.section; start = m.offset; end = end_of m next s.size; kind = m.kind })
span_from sections m next s e code low =
    ap (span_in m next) e
    ∙ cond-true (is_code s && nat_lt m.offset (end_of m next s.size)) _ None (and_from (is_code s) (nat_lt m.offset (end_of m next s.size)) code (lt-ltb m.offset (end_of m next s.size) low))

abbrev mark_at : Span → Mark
mark_at s = record { section = s.section; offset = s.start; kind = s.kind }

abbrev IsRangeOf : ObjectParts → Span → Type 0
IsRangeOf o s = IsRange o s.kind s.section s.start s.end

module _ (o : ObjectParts) (sound : is_object o ≡ true) where
  range_here : (m : Mark) (rest : List Mark) → Rising (m ∷ rest) → Begins o (m ∷ rest) → Covers o (m ∷ rest) → (t : Span) → span_of o.sections m (slice_get rest 0) ≡ Some t → IsRangeOf o t
  range_here m rest up begins covers t h =
      let p = span_parts o.sections m (slice_get rest 0) t h in
      let at = (end_is o sound m rest up begins covers p.section p.there).0 in
      subst (λ (z : Span). IsRangeOf o z) p.is (record {
        section = p.section;
        is_there = p.there;
        in_code = p.in_code;
        begins = beginning o m.kind m.section m.offset (begins m (contains_here m rest));
        has_bytes = p.low;
        inside = at.inside;
        ends = at.ends;
        nearest = at.nearest;
      })

  -- each span is a range
  pub spans_are_ranges : (ms : List Mark) → Rising ms → Begins o ms → Covers o ms → (s : Span) → Contains (spans_from o.sections ms) s → IsRangeOf o s
  spans_are_ranges [] up begins covers s h = absurd (contains_none s h)
  spans_are_ranges (m ∷ rest) up begins covers s h =
      go (span_of o.sections m (slice_get rest 0)) refl h (spans_are_ranges rest up.1 (begins_rest o m rest begins) (covers_rest o m rest up covers) s)
    where
      go : (t : Option Span) → span_of o.sections m (slice_get rest 0) ≡ t → Contains (option_to_list t ++ spans_from o.sections rest) s → (Contains (spans_from o.sections rest) s → IsRangeOf o s) → IsRangeOf o s
      go None e h more = more h
      go (Some t) e h more =
          elim (contains_cases t (spans_from o.sections rest) s h) [
            | inl same ↦ subst (λ (z : Span). IsRangeOf o z) same (range_here m rest up begins covers t e)
            | inr r ↦ more r
          ]

  span_here : (s : Span) (rest : List Mark) → Rising (mark_at s ∷ rest) → Begins o (mark_at s ∷ rest) → Covers o (mark_at s ∷ rest) → IsRangeOf o s → span_of o.sections (mark_at s) (slice_get rest 0) ≡ Some s
  span_here s rest up begins covers r =
      let at = end_is o sound (mark_at s) rest up begins covers r.section r.is_there in
      let end = end_of (mark_at s) (slice_get rest 0) r.section.size in
      let bytes = r.has_bytes in
      let within = r.inside in
      let low : s.start < end = elim at.1 [ inl l ↦ l | inr e ↦ omega (arith, e, bytes, within) ] in
      let own : IsEnd o s.section s.start s.end r.section.size = record { inside = r.inside; ends = r.ends; nearest = r.nearest } in
      let same : end ≡ s.end = one_end o s.section s.start end s.end r.section.size at.0 own low bytes in
      span_from o.sections (mark_at s) (slice_get rest 0) r.section r.is_there r.in_code low
      ∙ ap (λ (n : ℕ). Some (record { section = s.section; start = s.start; end = n; kind = s.kind })) same

  -- each range has its span
  spans_have : (ms : List Mark) → Rising ms → Begins o ms → Covers o ms → (s : Span) → IsRangeOf o s → Contains ms (mark_at s) → Contains (spans_from o.sections ms) s
  spans_have [] up begins covers s r h = absurd (contains_none (mark_at s) h)
  spans_have (m ∷ rest) up begins covers s r h =
      elim (contains_cases m rest (mark_at s) h) [
        | inl e ↦
            let one : span_of o.sections m (slice_get rest 0) ≡ Some s =
            ap (λ (z : Mark). span_of o.sections z (slice_get rest 0)) e
            ∙ span_here s rest (subst (λ (z : Mark). Rising (z ∷ rest)) e up) (subst (λ (z : Mark). Begins o (z ∷ rest)) e begins) (subst (λ (z : Mark). Covers o (z ∷ rest)) e covers) r in
            subst (λ (t : Option Span). Contains (option_to_list t ++ spans_from o.sections rest) s) (sym one) (contains_here s (spans_from o.sections rest))
        | inr c ↦
            Contains-append_right (option_to_list (span_of o.sections m (slice_get rest 0))) (spans_from o.sections rest) s
            (spans_have rest up.1 (begins_rest o m rest begins) (covers_rest o m rest up covers) s r c)
      ]

  pub ranges_have_spans : (ms : List Mark) → Rising ms → Begins o ms → Covers o ms → ((q : Mark) → kind_at o.symbols q.section q.offset ≡ Some q.kind → Contains ms q)
      → (s : Span) → IsRangeOf o s → Contains (spans_from o.sections ms) s
  ranges_have_spans ms up begins covers all s r = spans_have ms up begins covers s r (all (mark_at s) (kind_here o s.kind s.section s.start r.begins))

-- a range stands before a mark
abbrev StandsBefore : Range → Mark → Type 0
StandsBefore r q = (r.section < q.section) ⊎ ((r.section ≡ q.section) × (r.start < q.offset))

below : (r : Range) (m : Mark) (t : Range) → t.section ≡ m.section → t.start ≡ m.offset → StandsBefore r m → is_below r t ≡ true
below r m t e f (inl l) = or_left (nat_lt r.section t.section) _ (lt-ltb r.section t.section (omega (arith, l, e)))
below r m t e f (inr p) =
    let same = p.0 in
    let low = p.1 in
    or_right (nat_lt r.section t.section) _ (and_from (r.section == t.section) (nat_lt r.start t.start) (eq-eqb r.section t.section (same ∙ sym e)) (lt-ltb r.start t.start (omega (arith, low, f))))

all_below : (sections : List Section) (r : Range) (ms : List Mark) → All (StandsBefore r) ms → list_all (is_below r) (map range_of (spans_from sections ms)) ≡ true
all_below sections r [] h = refl
all_below sections r (m ∷ rest) h = go (span_of sections m (slice_get rest 0)) refl (all_below sections r rest (All-tail (StandsBefore r) m rest h))
  where
    go : (t : Option Span) → span_of sections m (slice_get rest 0) ≡ t → list_all (is_below r) (map range_of (spans_from sections rest)) ≡ true
        → list_all (is_below r) (map range_of (option_to_list t ++ spans_from sections rest)) ≡ true
    go None e more = more
    go (Some t) e more =
        let p = span_parts sections m (slice_get rest 0) t e in
        and_from (is_below r (range_of t)) (list_all (is_below r) (map range_of (spans_from sections rest)))
        (below r m (range_of t) (ap (λ (z : Span). z.section) (sym p.is)) (ap (λ (z : Span). z.start) (sym p.is)) (All-head (StandsBefore r) m rest h)) more

-- the ranges of spans rise
pub spans_rise : (sections : List Section) (ms : List Mark) → Rising ms → rise (map range_of (spans_from sections ms)) ≡ true
spans_rise sections [] up = refl
spans_rise sections (m ∷ rest) up = go (span_of sections m (slice_get rest 0)) refl (spans_rise sections rest up.1)
  where
    go : (t : Option Span) → span_of sections m (slice_get rest 0) ≡ t → rise (map range_of (spans_from sections rest)) ≡ true → rise (map range_of (option_to_list t ++ spans_from sections rest)) ≡ true
    go None e more = more
    go (Some t) e more =
        let p = span_parts sections m (slice_get rest 0) t e in
        let start = subst (λ (z : Span). All (StandsBefore (range_of z)) rest) p.is (All-weaker (Before m) (λ q. (m.section < q.section) ⊎ ((m.section ≡ q.section) × (m.offset < q.offset))) (λ q b. b) rest up.0) in
        and_from (list_all (is_below (range_of t)) (map range_of (spans_from sections rest))) (rise (map range_of (spans_from sections rest))) (all_below sections (range_of t) rest start) more
