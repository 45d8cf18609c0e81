-- The sections of a hardened object are made one after another, and are those that its form says.
use Rattle.std.proofs.Common.{◌≡◌, ◌<◌, ℕ, ◌+◌, ◌*◌, max, Bool, true, false, cond, List, [], ◌∷◌, ◌++◌, length, map, refl, sym, ap, ◌∙◌, subst, inl, inr, arith, length-append, Some, Vec, Global}
use Rattle.std.specs.Prelude.{slice_get, slice_index, slice_index_or, not, ◌==◌, ◌&&◌}
use Rattle.std.specs.List.{list_any, list_all, flat_map}
use Rattle.std.specs.Option.{option_map}
use Rattle.std.proofs.lemmas.Bool.{and_parts, and_from, cases_Bool, cases_lt, eq-eqb, eqb-true, true≢false}
use Rattle.std.proofs.lemmas.Option.{same_Some, slice_get-map, slice_get_within, get_or_from_slice_get}
use Rattle.elf_model.specs.declared.objects.Section.{Section}
use Rattle.elf_model.specs.declared.objects.MapRow.{MapRow}
use Rattle.elf_model.specs.Constants.{nobits, progbits}
use Rattle.elf_model.specs.Maps.{row_bytes, map_section}
use Rattle.elf_model.specs.Objects.{ObjectParts, is_code, is_object, is_section, is_name, is_dropped_name, is_alignment, is_kept_kind, is_writable, is_exec, is_alloc, has_bytes}
use Rattle.elf_model.proofs.Elements.{element_at, place_of}
use Rattle.code_ranges.proofs.ObjectFacts.{section_sound}
use Rattle.hardened_form.specs.Sections.{AreSections, IsNewSection}
use Rattle.branch_layout.proofs.Lists.{get_push_cases}
use Rattle.emit_object.specs.KeptBytes.{AreCleared, clears, AreKept}
use Rattle.emit_object.specs.Laid.{HasCode, HasSizes}
use Rattle.emit_object.specs.NewSections.{code_section, kept_section, new_section, AreMade, AreNewSections}
use Rattle.emit_object.proofs.WholeSymbols.{each_of}

-- ONE AFTER ANOTHER

module _ (sections : List Section) (sizes : List ℕ) (code kept : List (Vec ℕ Global)) where
  pub made_more : (j : ℕ) (list : List Section) (s t : Section) (v w : Vec ℕ Global) → slice_get sections j ≡ Some s → slice_get code j ≡ Some v → slice_get kept j ≡ Some w → t ≡ new_section s (slice_index sizes j) v.items w.items
      → AreMade sections sizes code kept j list → AreMade sections sizes code kept (j + 1) (list ++ t ∷ [])
  made_more j list s t v w a b d is made = record {
    count = length-append list (t ∷ []) ∙ ap (λ (n : ℕ). n + 1) made.count;
    each = λ i x y p q ax ay ap_ aq. elim (get_push_cases list t y i ay) [
      | inl old ↦ made.each i x y p q ax old ap_ aq
      | inr new ↦
          let here : i ≡ j = new.0 ∙ made.count in
          let same_s : s ≡ x = same_Some s x (sym a ∙ sym (ap (slice_get sections) here) ∙ ax) in
          let same_v : v ≡ p = same_Some v p (sym b ∙ sym (ap (slice_get code) here) ∙ ap_) in
          let same_w : w ≡ q = same_Some w q (sym d ∙ sym (ap (slice_get kept) here) ∙ aq) in
          sym new.1 ∙ is ∙ ap (λ (z : Section). new_section z (slice_index sizes j) v.items w.items) same_s ∙ ap (λ (n : ℕ). new_section x (slice_index sizes n) v.items w.items) (sym here)
          ∙ ap (λ (z : Vec ℕ Global). new_section x (slice_index sizes i) z.items w.items) same_v ∙ ap (λ (z : Vec ℕ Global). new_section x (slice_index sizes i) p.items z.items) same_w
    ];
  }

pushed_at : {A : Type 0} (xs : List A) (x : A) → slice_get (xs ++ x ∷ []) (length xs) ≡ Some x
pushed_at [] x = refl
pushed_at (a ∷ xs) x = pushed_at xs x

record IsOfKept (kept : List (Vec ℕ Global)) (j : ℕ) (s t : Section) : Type 0 where
  pub bytes : Vec ℕ Global
  pub there : slice_get kept j ≡ Some bytes
  pub is : t ≡ kept_section s bytes.items

pub all_made : (o : ObjectParts) (sizes : List ℕ) (code kept : List (Vec ℕ Global)) (rows : List MapRow) (list : List Section) → length code ≡ length o.sections → AreKept o o.relocs kept
    → AreMade o.sections sizes code kept (length o.sections) list → AreNewSections o sizes code rows (list ++ map_section rows ∷ [])
all_made o sizes code kept rows list long are made = record {
  count = length-append list (map_section rows ∷ []) ∙ ap (λ (n : ℕ). n + 1) made.count;
  coded = λ j s t v a b d is.
      let w = element_at kept j (let low = slice_get_within o.sections j s a in let count = are.count in omega arith) in
      made.each j s t v w.0 a (old j s t a b) d w.1 ∙ ap (λ (c : Bool). cond c (code_section s (slice_index sizes j) v.items) (kept_section s w.0.items)) is;
  kept = λ j s t a b is. let k = kept_is j s t a b is in k.is ∙ ap (λ (x : Section). kept_section s x.bytes) (sym k.is);
  cleared = λ j s t a b is.
      let k = kept_is j s t a b is in
      subst (λ (x : Section). AreCleared (λ n. list_any (clears o j n) o.relocs) s.bytes x.bytes) (sym k.is)
      (subst (λ (l : List ℕ). AreCleared (λ n. list_any (clears o j n) o.relocs) l k.bytes.items) (ap (λ (c : Bool). cond c [] s.bytes) is) (are.each j s k.bytes a k.there));
  map = ap (slice_get (list ++ map_section rows ∷ [])) (sym made.count) ∙ pushed_at list (map_section rows);
}
  where
    old : (j : ℕ) (s t : Section) → slice_get o.sections j ≡ Some s → slice_get (list ++ map_section rows ∷ []) j ≡ Some t → slice_get list j ≡ Some t
    old j s t a b = elim (get_push_cases list (map_section rows) t j b) [
      | inl e ↦ e
      | inr new ↦ let low = slice_get_within o.sections j s a in let count = made.count in let at = new.0 in absurd (omega arith)
    ]

    kept_is : (j : ℕ) (s t : Section) → slice_get o.sections j ≡ Some s → slice_get (list ++ map_section rows ∷ []) j ≡ Some t → is_code s ≡ false → IsOfKept kept j s t
    kept_is j s t a b is =
        let w = element_at kept j (let low = slice_get_within o.sections j s a in let count = are.count in omega arith) in
        let v = element_at code j (let low = slice_get_within o.sections j s a in omega arith) in
        record { bytes = w.0; there = w.1; is = made.each j s t v.0 w.0 a (old j s t a b) v.1 w.1 ∙ ap (λ (c : Bool). cond c (code_section s (slice_index sizes j) v.0.items) (kept_section s w.0.items)) is }

-- THE FORM'S SECTIONS

module _ (o h : ObjectParts) (sizes : List ℕ) (code : List (Vec ℕ Global)) (rows : List MapRow) (long : length code ≡ length o.sections) (new : AreNewSections o sizes code rows h.sections) where
  -- what becomes of a section, or the map
  data Became (j : ℕ) (t : Section) : Type 0 where
    of_code : (s : Section) (v : Vec ℕ Global) → slice_get o.sections j ≡ Some s → slice_get code j ≡ Some v → is_code s ≡ true → t ≡ code_section s (slice_index sizes j) v.items → Became j t
    of_kept : (s : Section) → slice_get o.sections j ≡ Some s → is_code s ≡ false → t ≡ kept_section s t.bytes → length t.bytes ≡ length s.bytes → Became j t
    of_map : t ≡ map_section rows → Became j t

  became : (j : ℕ) (t : Section) → slice_get h.sections j ≡ Some t → Became j t
  became j t e =
      let within = slice_get_within h.sections j t e in
      let count = new.count in
      elim (cases_lt j (length o.sections)) [
        | inl low ↦
            let s = element_at o.sections j low in
            let v = element_at code j (omega arith) in
            elim (cases_Bool (is_code s.0)) [
              | inl c ↦ of_code s.0 v.0 s.1 v.1 c (new.coded j s.0 t v.0 s.1 e v.1 c)
              | inr n ↦ of_kept s.0 s.1 n (new.kept j s.0 t s.1 e n) (let c = new.cleared j s.0 t s.1 e n in c.count)
            ]
        | inr high ↦
            let last : j ≡ length o.sections = omega arith in
            of_map (same_Some t (map_section rows) (sym e ∙ ap (slice_get h.sections) last ∙ new.map))
      ]

  is_new : (j : ℕ) (s t : Section) → slice_get o.sections j ≡ Some s → slice_get h.sections j ≡ Some t → IsNewSection o j s t
  is_new j s t a e = elim (cases_Bool (is_code s)) [
    | inl c ↦
        let v = element_at code j (let low = slice_get_within o.sections j s a in omega arith) in
        let is = new.coded j s t v.0 a e v.1 c in
        record {
          name = ap (λ (x : Section). x.name) is;
          kind = ap (λ (x : Section). x.kind) is;
          flags = ap (λ (x : Section). x.flags) is;
          entry = ap (λ (x : Section). x.entry) is;
          code = λ _. ap (λ (x : Section). x.align) is;
          kept = λ n. absurd (true≢false (sym c ∙ n));
        }
    | inr n ↦
        let is = new.kept j s t a e n in
        let c = new.cleared j s t a e n in
        record {
          name = ap (λ (x : Section). x.name) is;
          kind = ap (λ (x : Section). x.kind) is;
          flags = ap (λ (x : Section). x.flags) is;
          entry = ap (λ (x : Section). x.entry) is;
          code = λ y. absurd (true≢false (sym y ∙ n));
          kept = λ _. record { size = ap (λ (x : Section). x.size) is; align = ap (λ (x : Section). x.align) is; count = c.count; bytes = c.bytes };
        }
  ]

  pub are_sections : h.flags ≡ o.flags → AreSections o h rows
  are_sections flags = record { flags = flags; count = new.count; each = is_new; map = new.map }

  pub has_sizes : HasSizes o h sizes
  has_sizes = record {
    olds = λ j t e c. old j t c (became j t e);
    news = λ j s a c.
        let low = slice_get_within o.sections j s a in
        let t = element_at h.sections j (let count = new.count in omega arith) in
        let v = element_at code j (omega arith) in
        record { section = t.0; there = t.1; code = ap is_code (new.coded j s t.0 v.0 a t.1 v.1 c) ∙ c };
    same = λ j t e c. sized j t c (became j t e);
  }
    where
      old : (j : ℕ) (t : Section) → is_code t ≡ true → Became j t → HasCode o.sections j
      old j t c (of_code s v a b d is) = record { section = s; there = a; code = d }
      old j t c (of_kept s a n is count) = absurd (true≢false (sym c ∙ ap is_code is ∙ n))
      old j t c (of_map is) = absurd (true≢false (sym c ∙ ap is_code is))

      sized : (j : ℕ) (t : Section) → is_code t ≡ true → Became j t → t.size ≡ slice_index sizes j
      sized j t c (of_code s v a b d is) = ap (λ (x : Section). x.size) is
      sized j t c (of_kept s a n is count) = absurd (true≢false (sym c ∙ ap is_code is ∙ n))
      sized j t c (of_map is) = absurd (true≢false (sym c ∙ ap is_code is))

  abbrev bytes_at : ℕ → List ℕ
  bytes_at j = slice_index_or (map (λ (v : Vec ℕ Global). v.items) code) j []

  bytes_are : (j : ℕ) (v : Vec ℕ Global) → slice_get code j ≡ Some v → bytes_at j ≡ v.items
  bytes_are j v b = get_or_from_slice_get (map (λ (z : Vec ℕ Global). z.items) code) j v.items [] (slice_get-map (λ (z : Vec ℕ Global). z.items) code j ∙ ap (option_map (λ (z : Vec ℕ Global). z.items)) b)

  pub code_bytes : (j : ℕ) (t : Section) → slice_get h.sections j ≡ Some t → is_code t ≡ true → t.bytes ≡ bytes_at j
  code_bytes j t e c = go (became j t e)
    where
      go : Became j t → t.bytes ≡ bytes_at j
      go (of_code s v a b d is) = ap (λ (x : Section). x.bytes) is ∙ sym (bytes_are j v b)
      go (of_kept s a n is count) = absurd (true≢false (sym c ∙ ap is_code is ∙ n))
      go (of_map is) = absurd (true≢false (sym c ∙ ap is_code is))

-- SECTIONS OF AN OBJECT

code_sound : (s : Section) (n : ℕ) (bytes : List ℕ) → is_section s ≡ true → is_code s ≡ true → length bytes ≡ n → is_section (code_section s n bytes) ≡ true
code_sound s n bytes sound code count =
    let a = and_parts (is_name s.name && not (is_dropped_name s.name) && is_alignment s.align && is_kept_kind s.kind s.flags && not (is_writable s.flags && is_exec s.flags) && not (is_exec s.flags && (s.kind == nobits))) (has_bytes s) sound in
    let b = and_parts (is_name s.name && not (is_dropped_name s.name) && is_alignment s.align && is_kept_kind s.kind s.flags && not (is_writable s.flags && is_exec s.flags)) (not (is_exec s.flags && (s.kind == nobits))) a.0 in
    let c = and_parts (is_name s.name && not (is_dropped_name s.name) && is_alignment s.align && is_kept_kind s.kind s.flags) (not (is_writable s.flags && is_exec s.flags)) b.0 in
    let d = and_parts (is_name s.name && not (is_dropped_name s.name) && is_alignment s.align) (is_kept_kind s.kind s.flags) c.0 in
    let e = and_parts (is_name s.name && not (is_dropped_name s.name)) (is_alignment s.align) d.0 in
    let kind : s.kind ≡ progbits = eqb-true s.kind progbits (and_parts (s.kind == progbits) (is_alloc s.flags) (and_parts ((s.kind == progbits) && is_alloc s.flags) (is_exec s.flags) code).0).0 in
    let bytes_are : (length bytes == cond (s.kind == nobits) 0 n) ≡ true = ap (λ (k : ℕ). length bytes == cond (k == nobits) 0 n) kind ∙ eq-eqb (length bytes) n count in
    and_from (is_name s.name && not (is_dropped_name s.name) && is_alignment (max 4 s.align) && is_kept_kind s.kind s.flags && not (is_writable s.flags && is_exec s.flags) && not (is_exec s.flags && (s.kind == nobits))) (length bytes == cond (s.kind == nobits) 0 n)
    (and_from (is_name s.name && not (is_dropped_name s.name) && is_alignment (max 4 s.align) && is_kept_kind s.kind s.flags && not (is_writable s.flags && is_exec s.flags)) (not (is_exec s.flags && (s.kind == nobits)))
    (and_from (is_name s.name && not (is_dropped_name s.name) && is_alignment (max 4 s.align) && is_kept_kind s.kind s.flags) (not (is_writable s.flags && is_exec s.flags))
    (and_from (is_name s.name && not (is_dropped_name s.name) && is_alignment (max 4 s.align)) (is_kept_kind s.kind s.flags)
    (and_from (is_name s.name && not (is_dropped_name s.name)) (is_alignment (max 4 s.align)) e.0 (aligned s.align e.1)) d.1) c.1) b.1) bytes_are
  where
    aligned : (n : ℕ) → is_alignment n ≡ true → is_alignment (max 4 n) ≡ true
    aligned n is = elim (cases_lt 4 n) [
      | inl low ↦ let same : max 4 n ≡ n = omega arith in ap is_alignment same ∙ is
      | inr high ↦ let same : max 4 n ≡ 4 = omega arith in ap is_alignment same
    ]

kept_sound : (s : Section) (bytes : List ℕ) → is_section s ≡ true → length bytes ≡ length s.bytes → is_section (kept_section s bytes) ≡ true
kept_sound s bytes sound count =
    ap (λ (n : ℕ). is_name s.name && not (is_dropped_name s.name) && is_alignment s.align && is_kept_kind s.kind s.flags && not (is_writable s.flags && is_exec s.flags) && not (is_exec s.flags && (s.kind == nobits))
    && (n == cond (s.kind == nobits) 0 s.size)) count ∙ sound

rows_length : (rows : List MapRow) → length (flat_map row_bytes rows) ≡ 16 * length rows
rows_length [] = refl
rows_length (r ∷ rows) = let e = rows_length rows in omega (arith, e)

map_sound : (rows : List MapRow) → is_section (map_section rows) ≡ true
map_sound rows = eq-eqb (length (flat_map row_bytes rows)) (16 * length rows) (rows_length rows)

module _ (o h : ObjectParts) (sizes : List ℕ) (code : List (Vec ℕ Global)) (rows : List MapRow) (long : length code ≡ length o.sections) (new : AreNewSections o sizes code rows h.sections) where
  pub sections_sound : is_object o ≡ true → ((j : ℕ) → j < length o.sections → length (bytes_at o h sizes code rows long new j) ≡ slice_index sizes j) → list_all is_section h.sections ≡ true
  sections_sound sound sized = each_of is_section h.sections (λ t c. let at = place_of h.sections t c in go at.0 t (became o h sizes code rows long new at.0 t at.1))
    where
      go : (j : ℕ) (t : Section) → Became o h sizes code rows long new j t → is_section t ≡ true
      go j t (of_code s v a b d is) =
          ap is_section is ∙ code_sound s (slice_index sizes j) v.items (section_sound o j s sound a) d
          (ap length (sym (bytes_are o h sizes code rows long new j v b)) ∙ sized j (slice_get_within o.sections j s a))
      go j t (of_kept s a n is count) = ap is_section is ∙ kept_sound s t.bytes (section_sound o j s sound a) count
      go j t (of_map is) = ap is_section is ∙ map_sound rows
