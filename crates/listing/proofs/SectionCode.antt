-- The code ranges of a section among all ranges are those that its listing goes along.
use Rattle.std.proofs.Common.{◌≡◌, ◌<◌, ◌≤◌, ◌⊎◌, inl, inr, ℕ, ◌+◌, Bool, true, false, cond, List, [], ◌∷◌, ◌++◌, length, map, refl, sym, ap, ◌∙◌, subst, arith, append-nil, append_assoc, Some}
use Rattle.std.specs.Prelude.{Contains, nat_lt, ◌==◌, ◌&&◌, slice_get, filter}
use Rattle.std.specs.List.{list_all}
use Rattle.std.proofs.lemmas.Bool.{and_parts, or_cases, eqb-true, eq-eqb, ltb-true, both_ways, true≢false}
use Rattle.elf_model.specs.declared.objects.Section.{Section}
use Rattle.elf_model.specs.declared.ranges.RangeKind.{RangeKind}
use Rattle.elf_model.specs.declared.ranges.RangeKind.TheVariants.{Code, Arm, Data}
use Rattle.elf_model.specs.Objects.{ObjectParts, is_object, is_code}
use Rattle.elf_model.specs.Ranges.{IsRange}
use Rattle.code_ranges.specs.declared.ranges.Range.{Range}
use Rattle.code_ranges.specs.declared.spans.Span.{Span}
use Rattle.code_ranges.specs.AllRanges.{AreAllRanges}
use Rattle.code_ranges.specs.CodeRanges.{is_below, rise}
use Rattle.code_ranges.specs.Spans.{is_thumb, range_of}
use Rattle.elf_model.proofs.Elements.{contains_cases, contains_here, contains_later, contains_none}
use Rattle.code_ranges.proofs.RangeOrder.{range_ends, range_end_same, range_inside, code_length, section_sound}
use Rattle.listing.specs.Listings.{IsInCode, AreListed, heading, text_of_lines, IsListing}
use Rattle.listing.specs.Listings.AreListed.{none, code, other}
use Rattle.listing.specs.ListingSteps.{AreAhead, AreApart, ListsContents, is_code_of, ListsSection, ListsBefore}
use Rattle.listing.proofs.Leading.{text_append}

-- what a filter keeps
filter_kept : {X : Type 0} (p : X → Bool) (xs : List X) (x : X) → Contains (filter p xs) x → Contains xs x × (p x ≡ true)
filter_kept p [] x h = absurd (contains_none x h)
filter_kept {X} p (y ∷ ys) x h = go (p y) refl (λ c. filter_kept p ys x c) h
  where
    go : (b : Bool) → p y ≡ b → (Contains (filter p ys) x → Contains ys x × (p x ≡ true)) → Contains (cond b (y ∷ filter p ys) (filter p ys)) x → Contains (y ∷ ys) x × (p x ≡ true)
    go false e more h = let q = more h in (contains_later y ys x q.0, q.1)
    go true e more h =
        elim (contains_cases y (filter p ys) x h) [
          | inl s ↦ (subst (λ (z : X). Contains (y ∷ ys) z) s (contains_here y ys), sym (ap p s) ∙ e)
          | inr r ↦ let q = more r in (contains_later y ys x q.0, q.1)
        ]

filter_keeps : {X : Type 0} (p : X → Bool) (xs : List X) (x : X) → Contains xs x → p x ≡ true → Contains (filter p xs) x
filter_keeps p [] x h t = absurd (contains_none x h)
filter_keeps {X} p (y ∷ ys) x h t = go (p y) refl (λ c. filter_keeps p ys x c t) (contains_cases y ys x h)
  where
    go : (b : Bool) → p y ≡ b → (Contains ys x → Contains (filter p ys) x) → (y ≡ x) ⊎ Contains ys x → Contains (cond b (y ∷ filter p ys) (filter p ys)) x
    go true e more (inl s) = subst (λ (z : X). Contains (y ∷ filter p ys) z) s (contains_here y (filter p ys))
    go true e more (inr r) = contains_later y (filter p ys) x (more r)
    go false e more (inl s) = absurd (both_ways (p y) e (ap p s ∙ t))
    go false e more (inr r) = more r

all_mapped : {X Y : Type 0} (p : Y → Bool) (f : X → Y) (xs : List X) (x : X) → list_all p (map f xs) ≡ true → Contains xs x → p (f x) ≡ true
all_mapped p f [] x h c = absurd (contains_none x c)
all_mapped p f (y ∷ ys) x h c =
    let a = and_parts (p (f y)) (list_all p (map f ys)) h in
    elim (contains_cases y ys x c) [ inl s ↦ sym (ap (λ (z : _). p (f z)) s) ∙ a.0 | inr r ↦ all_mapped p f ys x a.1 r ]

-- spans that begin one behind the other
abbrev AreOrdered : List Span → Type 0
AreOrdered [] = Unit {0}
AreOrdered (s ∷ rest) = ((t : Span) → Contains rest t → s.start < t.start) × AreOrdered rest

code_of_parts : (j : ℕ) (s : Span) → is_code_of j s ≡ true → (s.kind ≡ Code) × (s.section ≡ j)
code_of_parts j s h =
    let p = and_parts (is_thumb s.kind) (s.section == j) h in
    (thumb s.kind p.0, eqb-true s.section j p.1)
  where
    thumb : (k : RangeKind) → is_thumb k ≡ true → k ≡ Code
    thumb Code h = refl
    thumb Arm h = absurd (true≢false (sym h))
    thumb Data h = absurd (true≢false (sym h))

starts_before : (a b : Range) → is_below a b ≡ true → a.section ≡ b.section → a.start < b.start
starts_before a b h same =
    elim (or_cases (nat_lt a.section b.section) ((a.section == b.section) && nat_lt a.start b.start) h) [
      | inl l ↦ let lower : a.section < b.section = ltb-true a.section b.section l in absurd (omega arith)
      | inr r ↦ ltb-true a.start b.start (and_parts (a.section == b.section) (nat_lt a.start b.start) r).1
    ]

ordered_code : (j : ℕ) (spans : List Span) → rise (map range_of spans) ≡ true → AreOrdered (filter (is_code_of j) spans)
ordered_code j [] h = tt
ordered_code j (s ∷ rest) h = go (is_code_of j s) refl (ordered_code j rest a.1)
  where
    a : (list_all (is_below (range_of s)) (map range_of rest) ≡ true) × (rise (map range_of rest) ≡ true)
    a = and_parts (list_all (is_below (range_of s)) (map range_of rest)) (rise (map range_of rest)) h

    go : (b : Bool) → is_code_of j s ≡ b → AreOrdered (filter (is_code_of j) rest) → AreOrdered (cond b (s ∷ filter (is_code_of j) rest) (filter (is_code_of j) rest))
    go false e more = more
    go true e more = (
      λ t c.
          let q = filter_kept (is_code_of j) rest t c in
          starts_before (range_of s) (range_of t) (all_mapped (is_below (range_of s)) range_of rest t a.0 q.0) ((code_of_parts j s e).1 ∙ sym (code_of_parts j t q.1).1),
      more,
    )

-- the code ranges that are left behind an offset
record Remain (o : ObjectParts) (j x : ℕ) (rest : List Span) : Type 0 where
  pub each : (s : Span) → Contains rest s → IsRange o Code j s.start s.end
  pub all : (a b : ℕ) → IsRange o Code j a b → (b ≤ x) ⊎ ((s : Span) × Contains rest s × (s.start ≡ a))
  pub order : AreOrdered rest
  pub behind : (s : Span) → Contains rest s → x ≤ s.start

remain_first : (o : ObjectParts) (j : ℕ) (spans : List Span) → AreAllRanges o spans → Remain o j 0 (filter (is_code_of j) spans)
remain_first o j spans r = record {
  each = λ s c.
      let q = filter_kept (is_code_of j) spans s c in
      let p = code_of_parts j s q.1 in
      subst (λ (k : RangeKind). IsRange o k j s.start s.end) p.0 (subst (λ (i : ℕ). IsRange o s.kind i s.start s.end) p.1 ((r.exact s).0 q.0));
  all = λ a b g.
      let s : Span = record { section = j; start = a; end = b; kind = Code } in
      inr (s, filter_keeps (is_code_of j) spans s ((r.exact s).1 g) (eq-eqb j j refl), refl);
  order = ordered_code j spans r.order;
  behind = λ s c. omega arith;
}

remain_next : (o : ObjectParts) (j x : ℕ) (s : Span) (rest : List Span) → Remain o j x (s ∷ rest) → Remain o j s.end rest
remain_next o j x s rest r =
    let here = r.each s (contains_here s rest) in
    record {
      each = λ t c. r.each t (contains_later s rest t c);
      all = left here;
      order = r.order.1;
      behind = λ t c. range_ends o Code Code j s.start s.end t.start t.end here (r.each t (contains_later s rest t c)) (r.order.0 t c);
    }
  where
    left : IsRange o Code j s.start s.end → (a b : ℕ) → IsRange o Code j a b → (b ≤ s.end) ⊎ ((t : Span) × Contains rest t × (t.start ≡ a))
    left here a b g =
        elim (r.all a b g) [
          | inl e ↦ let l = r.behind s (contains_here s rest) in let m = here.has_bytes in inl (omega arith)
          | inr q ↦ elim (contains_cases s rest q.0 q.1) [
            | inl same ↦
                let at : a ≡ s.start = sym q.2 ∙ ap (λ (t : Span). t.start) (sym same) in
                let end : b ≡ s.end = range_end_same o Code Code j s.start b s.end (subst (λ (z : ℕ). IsRange o Code j z b) at g) here in
                inl (omega arith)
            | inr c ↦ inr (q.0, c, q.2)
          ]
        ]

ahead : (o : ObjectParts) (j : ℕ) (bytes : List ℕ) (x : ℕ) (rest : List Span) → Remain o j x rest → AreAhead o j bytes x rest
ahead o j bytes x [] r = record {
  clear = λ z l u c.
      let low = c.not_before in let high = c.not_behind in
      elim (r.all c.start c.end c.range) [ inl e ↦ omega arith | inr q ↦ contains_none q.0 q.1 ];
  ends = inl refl;
}
ahead o j bytes x (s ∷ rest) r =
    let here = r.each s (contains_here s rest) in (
      record { clear = clear; ends = inr (record { start = s.start; end = s.end; range = here; not_before = omega arith; not_behind = here.has_bytes }) },
      here,
      ahead o j bytes s.end rest (remain_next o j x s rest r),
    )
  where
    clear : (z : ℕ) → x ≤ z → z < s.start → IsInCode o j z → ⊥
    clear z l u c =
        let low = c.not_before in let high = c.not_behind in
        elim (r.all c.start c.end c.range) [
          | inl e ↦ omega arith
          | inr q ↦ elim (contains_cases s rest q.0 q.1) [
            | inl same ↦ let at : s.start ≡ c.start = ap (λ (t : Span). t.start) same ∙ q.2 in omega arith
            | inr d ↦ let later = r.order.0 q.0 d in let at = q.2 in omega (arith, later, at)
          ]
        ]

apart : (o : ObjectParts) (j : ℕ) (s : Section) (x : ℕ) (rest : List Span) → is_object o ≡ true → slice_get o.sections j ≡ Some s → x ≤ length s.bytes → Remain o j x rest → AreApart s.bytes x rest
apart o j s x [] h at l r = l
apart o j s x (t ∷ rest) h at l r =
    let here = r.each t (contains_here t rest) in
    let inside : t.end ≤ length s.bytes = range_inside o Code j t.start t.end s h at here in
    (r.behind t (contains_here t rest), here.has_bytes, inside, apart o j s t.end rest h at inside (remain_next o j x t rest r))

-- the same from all ranges
pub codes_ahead : (o : ObjectParts) (j : ℕ) (bytes : List ℕ) (spans codes : List Span) → AreAllRanges o spans → codes ≡ filter (is_code_of j) spans → AreAhead o j bytes 0 codes
codes_ahead o j bytes spans codes r e = subst (AreAhead o j bytes 0) (sym e) (ahead o j bytes 0 (filter (is_code_of j) spans) (remain_first o j spans r))

pub codes_apart : (o : ObjectParts) (j : ℕ) (s : Section) (spans codes : List Span) → AreAllRanges o spans → codes ≡ filter (is_code_of j) spans → is_object o ≡ true → slice_get o.sections j ≡ Some s → AreApart s.bytes 0 codes
codes_apart o j s spans codes r e h at = subst (AreApart s.bytes 0) (sym e) (apart o j s 0 (filter (is_code_of j) spans) h at (omega arith) (remain_first o j spans r))

-- a section's bytes are as many as its size
pub as_many : (o : ObjectParts) (j : ℕ) (s : Section) → is_object o ≡ true → slice_get o.sections j ≡ Some s → is_code s ≡ true → length s.bytes ≡ s.size
as_many o j s h at c = code_length s (section_sound o j s h at) c

pub lists_code : (o : ObjectParts) (j : ℕ) (s : Section) (old mid new : List ℕ) → is_code s ≡ true → mid ≡ old ++ text_of_lines (heading j s.name ∷ []) → ListsContents o j s.bytes mid new → ListsSection o j s old new
lists_code o j s old mid new c e h = record {
  lines = heading j s.name ∷ h.lines;
  text_is = h.text_is ∙ ap (λ t. t ++ text_of_lines h.lines) e ∙ append_assoc old (text_of_lines (heading j s.name ∷ [])) (text_of_lines h.lines)
      ∙ ap (λ t. old ++ t) (sym (text_append (heading j s.name ∷ []) h.lines));
  listed = λ sections rest more. code j s sections h.lines rest c h.listed more;
}

pub lists_other : (o : ObjectParts) (j : ℕ) (s : Section) (text : List ℕ) → is_code s ≡ false → ListsSection o j s text text
lists_other o j s text c = record { lines = []; text_is = sym (append-nil text); listed = λ sections rest more. other j s sections rest c more }

pub lists_none : (o : ObjectParts) → ListsBefore o 0 o.sections []
lists_none o = record { lines = []; text_is = refl; listed = λ rest h. h }

pub lists_more : (o : ObjectParts) (j : ℕ) (s : Section) (sections : List Section) (old new : List ℕ) → ListsBefore o j (s ∷ sections) old → ListsSection o j s old new → ListsBefore o (j + 1) sections new
lists_more o j s sections old new b h = record {
  lines = b.lines ++ h.lines;
  text_is = h.text_is ∙ ap (λ t. t ++ text_of_lines h.lines) b.text_is ∙ sym (text_append b.lines h.lines);
  listed = λ rest more. rw append_assoc (b.listed (h.lines ++ rest) (h.listed sections rest more));
}

pub lists_all : (o : ObjectParts) (j : ℕ) (text : List ℕ) → ListsBefore o j [] text → IsListing o text
lists_all o j text b = record { lines = b.lines; listed = subst (λ (l : List (List ℕ)). AreListed o 0 o.sections l) (append-nil b.lines) (b.listed [] (none j)); text_is = b.text_is }
