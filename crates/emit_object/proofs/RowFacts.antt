-- The rows of points as they are listed: which they are, and that they rise.
use Rattle.std.proofs.Common.{◌≡◌, ◌<◌, ◌≤◌, ℕ, ◌+◌, Bool, true, false, cond, List, [], ◌∷◌, ◌++◌, refl, sym, ap, ◌∙◌, subst, inl, inr, ◌⊎◌, arith, Option, Some, None}
use Rattle.std.specs.Prelude.{Contains, ◌==◌, nat_lt, ◌&&◌}
use Rattle.std.specs.List.{AllByRecursion}
use Rattle.std.specs.List.Sorted.{IsStrictlySortedBy}
use Rattle.std.specs.declared.cmp.Ordering.{Ordering}
use Rattle.std.specs.declared.cmp.Ordering.TheVariants.{Less, Equal}
use Rattle.std.specs.Ordering.{nat_cmp, ordering_then}
use Rattle.std.specs.Cmp.{nat_cmp_is}
use Rattle.std.proofs.lemmas.Bool.{cases_lt, or_cases, and_parts, ltb-true, eqb-true, both_ways}
use Rattle.std.proofs.lemmas.Bool.Decides.{nat_tests}
use Rattle.std.proofs.lemmas.Option.{none-some, same_Some}
use Rattle.std.proofs.lemmas.List.Elements.{Contains-append_left, Contains-append_right, Contains-append_cases}
use Rattle.elf_model.specs.declared.objects.MapRow.{MapRow}
use Rattle.elf_model.specs.declared.objects.RowKind.TheVariants.{Start, Return}
use Rattle.elf_model.specs.Maps.{row_kind}
use Rattle.elf_model.proofs.Elements.{contains_cases, contains_here, contains_later, contains_none}
use Rattle.code_ranges.proofs.InOrder.{Rises}
use Rattle.flow_recover.specs.declared.flows.Point.{Point}
use Rattle.flow_recover.specs.Points.{end_of}
use Rattle.hardened_form.specs.Places.{UnitPlace}
use Rattle.hardened_form.specs.Rows.{row_cmp}
use Rattle.emit_object.specs.RowLists.{is_call, start_row, return_row, is_earlier, merged, rows_from}

-- how rows compare
abbrev pub IsLower : MapRow → MapRow → Type 0
IsLower a b = (a.section < b.section) ⊎ ((a.section ≡ b.section) × (a.old < b.old))

less : (a b : ℕ) → a < b → nat_cmp a b ≡ Less
less a b l = sym (nat_cmp_is a b Less l)

equal : (a b : ℕ) → a ≡ b → nat_cmp a b ≡ Equal
equal a b e = sym (nat_cmp_is a b Equal e)

pub lower_less : (a b : MapRow) → IsLower a b → row_cmp a b ≡ Less
lower_less a b (inl l) = ap (λ (z : Ordering). ordering_then z (ordering_then (nat_cmp a.old b.old) (nat_cmp (row_kind a.kind) (row_kind b.kind)))) (less a.section b.section l)
lower_less a b (inr (e, l)) =
    ap (λ (z : Ordering). ordering_then z (ordering_then (nat_cmp a.old b.old) (nat_cmp (row_kind a.kind) (row_kind b.kind)))) (equal a.section b.section e)
    ∙ ap (λ (z : Ordering). ordering_then z (nat_cmp (row_kind a.kind) (row_kind b.kind))) (less a.old b.old l)

pub start_less : (a b : MapRow) → a.section ≡ b.section → a.old ≡ b.old → a.kind ≡ Start → b.kind ≡ Return → row_cmp a b ≡ Less
start_less a b e f s r =
    ap (λ (z : Ordering). ordering_then z (ordering_then (nat_cmp a.old b.old) (nat_cmp (row_kind a.kind) (row_kind b.kind)))) (equal a.section b.section e)
    ∙ ap (λ (z : Ordering). ordering_then z (nat_cmp (row_kind a.kind) (row_kind b.kind))) (equal a.old b.old f)
    ∙ ap (λ (z : _). nat_cmp (row_kind z) (row_kind b.kind)) s ∙ ap (λ (z : _). nat_cmp 0 (row_kind z)) r

lower_trans : (a b c : MapRow) → IsLower a b → IsLower b c → IsLower a c
lower_trans a b c (inl l) (inl m) = inl (omega arith)
lower_trans a b c (inl l) (inr (e, m)) = inl (omega arith)
lower_trans a b c (inr (e, l)) (inl m) = inl (omega arith)
lower_trans a b c (inr (e, l)) (inr (f, m)) = inr (e ∙ f, omega arith)

earlier_lower : (r s : MapRow) → is_earlier r s ≡ true → IsLower r s
earlier_lower r s h = elim (or_cases (nat_lt r.section s.section) ((r.section == s.section) && nat_lt r.old s.old) h) [
  | inl l ↦ inl (ltb-true r.section s.section l)
  | inr b ↦ let p = and_parts (r.section == s.section) (nat_lt r.old s.old) b in inr (eqb-true r.section s.section p.0, ltb-true r.old s.old p.1)
]

abbrev Entry : Type 0
Entry = Point × UnitPlace

module _ (number : ℕ → ℕ) where
  abbrev pub start : Entry → MapRow
  start e = start_row (number e.0.section) e

  abbrev pub back : Entry → Option MapRow
  back e = return_row (number e.0.section) e

  -- a row of a point
  abbrev pub RowOf : Entry → MapRow → Type 0
  RowOf e r = (start e ≡ r) ⊎ (back e ≡ Some r)

  abbrev pub RowAmong : List Entry → MapRow → Type 0
  RowAmong ps r = (e : Entry) × (Contains ps e × RowOf e r)

  in_merged : (w : Option MapRow) (s r : MapRow) → Contains (merged w s) r → (w ≡ Some r) ⊎ (s ≡ r)
  in_merged None s r h = elim (contains_cases s [] r h) [ inl e ↦ inr e | inr n ↦ absurd (contains_none r n) ]
  in_merged (Some p) s r h = go (is_earlier p s) h
    where
      go : (b : Bool) → Contains (cond b (p ∷ s ∷ []) (s ∷ p ∷ [])) r → (Some p ≡ Some r) ⊎ (s ≡ r)
      go true h = elim (contains_cases p (s ∷ []) r h) [
        | inl e ↦ inl (ap (λ (z : MapRow). Some z) e)
        | inr m ↦ elim (contains_cases s [] r m) [ inl e ↦ inr e | inr n ↦ absurd (contains_none r n) ]
      ]
      go false h = elim (contains_cases s (p ∷ []) r h) [
        | inl e ↦ inr e
        | inr m ↦ elim (contains_cases p [] r m) [ inl e ↦ inl (ap (λ (z : MapRow). Some z) e) | inr n ↦ absurd (contains_none r n) ]
      ]

  merged_in : (w : Option MapRow) (s r : MapRow) → (w ≡ Some r) ⊎ (s ≡ r) → Contains (merged w s) r
  merged_in None s r (inl e) = absurd (none-some r e)
  merged_in None s r (inr e) = subst (λ (z : MapRow). Contains (s ∷ []) z) e (contains_here s [])
  merged_in (Some p) s r h = go (is_earlier p s)
    where
      go : (b : Bool) → Contains (cond b (p ∷ s ∷ []) (s ∷ p ∷ [])) r
      go true = elim h [
        | inl e ↦ subst (λ (z : MapRow). Contains (p ∷ s ∷ []) z) (same_Some p r e) (contains_here p (s ∷ []))
        | inr e ↦ subst (λ (z : MapRow). Contains (p ∷ s ∷ []) z) e (contains_later p (s ∷ []) s (contains_here s []))
      ]
      go false = elim h [
        | inl e ↦ subst (λ (z : MapRow). Contains (s ∷ p ∷ []) z) (same_Some p r e) (contains_later s (p ∷ []) p (contains_here p []))
        | inr e ↦ subst (λ (z : MapRow). Contains (s ∷ p ∷ []) z) e (contains_here s (p ∷ []))
      ]

  later : (e : Entry) (ps : List Entry) (r : MapRow) → RowAmong ps r → RowAmong (e ∷ ps) r
  later e ps r (d, (here, is)) = (d, (contains_later e ps d here, is))

  pub in_rows : (w : Option MapRow) (ps : List Entry) (r : MapRow) → Contains (rows_from number w ps) r → (w ≡ Some r) ⊎ RowAmong ps r
  in_rows None [] r h = absurd (contains_none r h)
  in_rows (Some p) [] r h = elim (contains_cases p [] r h) [ inl e ↦ inl (ap (λ (z : MapRow). Some z) e) | inr n ↦ absurd (contains_none r n) ]
  in_rows w (e ∷ ps) r h = elim (Contains-append_cases (merged w (start e)) (rows_from number (back e) ps) r h) [
    | inl m ↦ elim (in_merged w (start e) r m) [ inl a ↦ inl a | inr b ↦ inr (e, (contains_here e ps, inl b)) ]
    | inr m ↦ elim (in_rows (back e) ps r m) [ inl a ↦ inr (e, (contains_here e ps, inr a)) | inr b ↦ inr (later e ps r b) ]
  ]

  pub rows_in : (w : Option MapRow) (ps : List Entry) (r : MapRow) → (w ≡ Some r) ⊎ RowAmong ps r → Contains (rows_from number w ps) r
  rows_in None [] r (inl e) = absurd (none-some r e)
  rows_in (Some p) [] r (inl e) = subst (λ (z : MapRow). Contains (p ∷ []) z) (same_Some p r e) (contains_here p [])
  rows_in w [] r (inr (e, (here, is))) = absurd (contains_none e here)
  rows_in w (e ∷ ps) r (inl a) = Contains-append_left (merged w (start e)) (rows_from number (back e) ps) r (merged_in w (start e) r (inl a))
  rows_in w (e ∷ ps) r (inr (d, (here, is))) = elim (contains_cases e ps d here) [
    | inl same ↦ elim (subst (λ (z : Entry). RowOf z r) (sym same) is) [
      | inl b ↦ Contains-append_left (merged w (start e)) (rows_from number (back e) ps) r (merged_in w (start e) r (inr b))
      | inr b ↦ Contains-append_right (merged w (start e)) (rows_from number (back e) ps) r (rows_in (back e) ps r (inl b))
    ]
    | inr m ↦ Contains-append_right (merged w (start e)) (rows_from number (back e) ps) r (rows_in (back e) ps r (inr (d, (m, is))))
  ]

  -- a return row
  back_is : (e : Entry) (r : MapRow) → back e ≡ Some r → (r.section ≡ number e.0.section) × (r.old ≡ end_of e.0) × (r.kind ≡ Return)
  back_is e r h = go (is_call e.0.exit) h
    where
      go : (b : Bool) → cond b (Some (record { section = number e.0.section; old = end_of e.0; new = e.1.back; kind = Return })) None ≡ Some r
          → (r.section ≡ number e.0.section) × (r.old ≡ end_of e.0) × (r.kind ≡ Return)
      go true h =
          let same = same_Some _ r h in
          (sym (ap (λ (z : MapRow). z.section) same), sym (ap (λ (z : MapRow). z.old) same), sym (ap (λ (z : MapRow). z.kind) same))
      go false h = absurd (none-some r h)

  wider : (e : Entry) → e.0.offset < end_of e.0
  wider e = go e.0.wide
    where
      go : (b : Bool) → e.0.offset < e.0.offset + cond b 4 2
      go true = omega arith
      go false = omega arith

  -- a point comes behind the end of another
  abbrev pub After : Entry → Entry → Type 0
  After e d = (number e.0.section < number d.0.section) ⊎ ((number e.0.section ≡ number d.0.section) × (end_of e.0 ≤ d.0.offset))

  -- rows of points behind are higher
  higher_row : (e d : Entry) (r : MapRow) → After e d → RowOf d r → IsLower (start e) r
  higher_row e d r after (inl s) = elim after [
    | inl l ↦ inl (subst (λ (z : MapRow). number e.0.section < z.section) s l)
    | inr (same, l) ↦ let w = wider e in inr (same ∙ ap (λ (z : MapRow). z.section) s, subst (λ (z : MapRow). e.0.offset < z.old) s (omega arith))
  ]
  higher_row e d r after (inr b) =
      let is = back_is d r b in
      let old = is.1 in
      let section = is.0 in
      let w = wider e in
      let v = wider d in
      elim after [
        | inl l ↦ inl (omega arith)
        | inr (same, l) ↦ inr (same ∙ sym section, omega arith)
      ]

  module _ (e : Entry) (ps : List Entry) (above : (d : Entry) → Contains ps d → After e d) where
    above_start : (r : MapRow) → Contains (rows_from number (back e) ps) r → IsLower (start e) r
    above_start r h = elim (in_rows (back e) ps r h) [
      | inl b ↦ let is = back_is e r b in let old = is.1 in let w = wider e in inr (sym is.0, omega arith)
      | inr (d, (here, is)) ↦ higher_row e d r (above d here) is
    ]

  all_rec : {X : Type 0} (P : X → Type 0) (xs : List X) → ((x : X) → Contains xs x → P x) → AllByRecursion P xs
  all_rec P [] h = tt
  all_rec P (x ∷ xs) h = (h x (contains_here x xs), all_rec P xs (λ y c. h y (contains_later x xs y c)))

  sorted_cons : (x : MapRow) (xs : List MapRow) → ((y : MapRow) → Contains xs y → row_cmp x y ≡ Less) → IsStrictlySortedBy row_cmp xs → IsStrictlySortedBy row_cmp (x ∷ xs)
  unfolding IsStrictlySortedBy
  sorted_cons x xs low s = (all_rec (λ y. row_cmp x y ≡ Less) xs low, s)

  -- the row that waits is of no later place than the points to come
  pub record IsWaiting (r : MapRow) (ps : List Entry) : Type 0 where
    pub kind : r.kind ≡ Return
    pub before : (e : Entry) → Contains ps e → (r.section < number e.0.section) ⊎ ((r.section ≡ number e.0.section) × (r.old ≤ e.0.offset))

  two : (a b : MapRow) (tail : List MapRow) → row_cmp a b ≡ Less → ((y : MapRow) → Contains tail y → row_cmp a y ≡ Less) → ((y : MapRow) → Contains tail y → row_cmp b y ≡ Less) → IsStrictlySortedBy row_cmp tail → IsStrictlySortedBy row_cmp (a ∷ b ∷ tail)
  two a b tail ab at bt s = sorted_cons a (b ∷ tail)
      (λ y c. elim (contains_cases b tail y c) [ inl e ↦ subst (λ (z : MapRow). row_cmp a z ≡ Less) e ab | inr m ↦ at y m ])
      (sorted_cons b tail bt s)

  lower_earlier : (p s : MapRow) → IsLower p s → is_earlier p s ≡ true
  lower_earlier p s (inl l) = grind (arith, nat_tests)
  lower_earlier p s (inr (e, l)) = grind (arith, nat_tests)

  -- a waiting row, a start and what is above it
  merged_sorted : (p s : MapRow) (tail : List MapRow) → s.kind ≡ Start → p.kind ≡ Return → (p.section < s.section) ⊎ ((p.section ≡ s.section) × (p.old ≤ s.old)) → ((y : MapRow) → Contains tail y → IsLower s y)
      → IsStrictlySortedBy row_cmp tail → IsStrictlySortedBy row_cmp (merged (Some p) s ++ tail)
  merged_sorted p s tail ks kp before above rise = go (is_earlier p s) refl
    where
      same_place : is_earlier p s ≡ false → (p.section ≡ s.section) × (p.old ≡ s.old)
      same_place f = elim before [
        | inl l ↦ absurd (both_ways (is_earlier p s) f (lower_earlier p s (inl l)))
        | inr (e, le) ↦ elim (cases_lt p.old s.old) [ inl l ↦ absurd (both_ways (is_earlier p s) f (lower_earlier p s (inr (e, l)))) | inr g ↦ (e, omega arith) ]
      ]

      go : (b : Bool) → is_earlier p s ≡ b → IsStrictlySortedBy row_cmp (cond b (p ∷ s ∷ []) (s ∷ p ∷ []) ++ tail)
      go true e =
          let low = earlier_lower p s e in
          two p s tail (lower_less p s low) (λ y c. lower_less p y (lower_trans p s y low (above y c))) (λ y c. lower_less s y (above y c)) rise
      go false e =
          let same = same_place e in
          two s p tail (start_less s p (sym same.0) (sym same.1) ks kp) (λ y c. lower_less s y (above y c))
          (λ y c. lower_less p y (elim (above y c) [ inl l ↦ inl (omega (arith, same.0)) | inr (f, l) ↦ inr (same.0 ∙ f, omega (arith, same.1)) ])) rise

  pub rows_rise : (w : Option MapRow) (ps : List Entry) → Rises After ps → ((r : MapRow) → w ≡ Some r → IsWaiting r ps) → IsStrictlySortedBy row_cmp (rows_from number w ps)
  unfolding IsStrictlySortedBy
  rows_rise None [] rise waits = tt
  rows_rise (Some p) [] rise waits = (tt, tt)
  rows_rise w (e ∷ ps) rise waits = go w waits (rows_rise (back e) ps rise.1 later_waits)
    where
      later_waits : (r : MapRow) → back e ≡ Some r → IsWaiting r ps
      later_waits r b =
          let is = back_is e r b in
          let old = is.1 in
          let section = is.0 in
          record {
            kind = is.2;
            before = λ d here. elim (rise.0 d here) [ inl l ↦ inl (omega arith) | inr (same, l) ↦ inr (section ∙ same, omega arith) ];
          }

      go : (w : Option MapRow) → ((r : MapRow) → w ≡ Some r → IsWaiting r (e ∷ ps)) → IsStrictlySortedBy row_cmp (rows_from number (back e) ps) → IsStrictlySortedBy row_cmp (merged w (start e) ++ rows_from number (back e) ps)
      go None waits next = sorted_cons (start e) (rows_from number (back e) ps) (λ y c. lower_less (start e) y (above_start e ps rise.0 y c)) next
      go (Some p) waits next = let is = waits p refl in merged_sorted p (start e) (rows_from number (back e) ps) refl is.kind (is.before e (contains_here e ps)) (above_start e ps rise.0) next
