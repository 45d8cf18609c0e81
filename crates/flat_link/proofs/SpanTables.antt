-- The tables of all instruction starts and of all words of data, from range to range.
use Rattle.std.proofs.Common.{◌≡◌, ◌<◌, ◌≤◌, ℕ, ◌+◌, ◌^◌, ◌%◌, Bool, true, false, List, length, refl, sym, ap, ◌∙◌, subst, inl, inr, ◌⊎◌, arith, Option, Some, None}
use Rattle.std.specs.Prelude.{Contains, IsTrue, slice_get}
use Rattle.std.proofs.lemmas.Bool.{cases_lt, true≢false}
use Rattle.std.proofs.lemmas.Option.{none-some, same_Some, slice_get-get_or}
use Rattle.elf_model.specs.declared.ranges.RangeKind.TheVariants.{Code, Arm, Data}
use Rattle.elf_model.specs.declared.ranges.RangeKind.{RangeKind}
use Rattle.elf_model.specs.Objects.{ObjectParts, is_object, is_within}
use Rattle.elf_model.specs.Ranges.{IsRange, IsStart}
use Rattle.code_ranges.specs.declared.spans.Span.{Span}
use Rattle.code_ranges.specs.AllRanges.{AreAllRanges}
use Rattle.code_ranges.specs.Spans.{is_thumb}
use Rattle.flat_link.specs.Misplaced.{is_data_kind}
use Rattle.reloc_places.specs.Starts.{bytes_of, IsCodeStart, IsDataWord}
use Rattle.reloc_places.specs.Tables.{AreStarts, AreWords}
use Rattle.elf_model.proofs.Elements.{contains_at}
use Rattle.reloc_places.proofs.StartFacts.{any_limit, range_in_bytes, range_small, start_unique}

thumb_is : (k : RangeKind) → is_thumb k ≡ true → k ≡ Code
thumb_is Code e = refl
thumb_is Arm e = absurd (true≢false (sym e))
thumb_is Data e = absurd (true≢false (sym e))

data_is : (k : RangeKind) → is_data_kind k ≡ true → k ≡ Data
data_is Code e = absurd (true≢false (sym e))
data_is Arm e = absurd (true≢false (sym e))
data_is Data e = refl

range_there : (o : ObjectParts) (ranges : List Span) (i : ℕ) (r : Span) → AreAllRanges o ranges → slice_get ranges i ≡ Some r → IsRange o (r.kind) r.section r.start r.end
range_there o ranges i r are e = (are.exact r).0 (contains_at ranges i r e)

pub record IsBounded (o : ObjectParts) (r : Span) : Type 0 where
  pub has_bytes : r.start < r.end
  pub in_bytes : r.end ≤ length (bytes_of o r.section)
  pub small : r.end ≤ 2 ^ 24

pub bounded : (o : ObjectParts) (ranges : List Span) (i : ℕ) (r : Span) → is_object o ≡ true → IsTrue (is_within o any_limit) → AreAllRanges o ranges → slice_get ranges i ≡ Some r → IsBounded o r
bounded o ranges i r sound within are e =
    let range = range_there o ranges i r are e in
    let inside = range_in_bytes o (r.kind) r.section r.start r.end sound range in
    let small = range_small o (r.kind) r.section r.start r.end sound within range in
    record { has_bytes = range.has_bytes; in_bytes = inside; small = omega arith }

-- the starts of so many ranges, and no other ones
pub record StartsUpTo (o : ObjectParts) (ranges : List Span) (i : ℕ) (now : ℕ → ℕ → Option ℕ) : Type 0 where
  pub sound : (j x end : ℕ) → now j x ≡ Some end → IsCodeStart o j (bytes_of o j) x end
  pub whole : (k : ℕ) (r : Span) → k < i → slice_get ranges k ≡ Some r → is_thumb r.kind ≡ true → (x : ℕ) → IsStart (bytes_of o r.section) r.start r.end x → now r.section x ≡ Some r.end

code_start : (o : ObjectParts) (ranges : List Span) (i : ℕ) (r : Span) → AreAllRanges o ranges → slice_get ranges i ≡ Some r → is_thumb r.kind ≡ true → (x : ℕ) → IsStart (bytes_of o r.section) r.start r.end x
    → IsCodeStart o r.section (bytes_of o r.section) x r.end
code_start o ranges i r are e code x s = record {
  start = r.start;
  range = subst (λ (k : RangeKind). IsRange o k r.section r.start r.end) (thumb_is r.kind code) (range_there o ranges i r are e);
  is_start = s;
}

pub no_starts : (o : ObjectParts) (ranges : List Span) (now : ℕ → ℕ → Option ℕ) → ((j x : ℕ) → now j x ≡ None) → StartsUpTo o ranges 0 now
no_starts o ranges now none = record {
  sound = λ j x end e. absurd (none-some end (sym (none j x) ∙ e));
  whole = λ k r l e code x s. absurd (omega arith);
}

pub same_starts : (o : ObjectParts) (ranges : List Span) (i : ℕ) (r : Span) (now : ℕ → ℕ → Option ℕ) → slice_get ranges i ≡ Some r → is_thumb r.kind ≡ false → StartsUpTo o ranges i now → StartsUpTo o ranges (i + 1) now
same_starts o ranges i r now at plain before = record { sound = before.sound; whole = whole }
  where
    whole : (k : ℕ) (s : Span) → k < i + 1 → slice_get ranges k ≡ Some s → is_thumb s.kind ≡ true → (x : ℕ) → IsStart (bytes_of o s.section) s.start s.end x → now s.section x ≡ Some s.end
    whole k s l e code x start =
        elim (cases_lt k i) [
          | inl low ↦ before.whole k s low e code x start
          | inr high ↦
              let here : k ≡ i = omega arith in
              let same : r ≡ s = same_Some r s (sym at ∙ ap (slice_get ranges) (sym here) ∙ e) in
              absurd (true≢false (sym code ∙ ap (λ (z : Span). is_thumb z.kind) (sym same) ∙ plain))
        ]

pub more_starts : (o : ObjectParts) (ranges : List Span) (i : ℕ) (r : Span) (bytes : List ℕ) (old new : ℕ → ℕ → Option ℕ) → AreAllRanges o ranges → slice_get ranges i ≡ Some r → is_thumb r.kind ≡ true → bytes ≡ bytes_of o r.section → StartsUpTo o ranges i old
    → ((x : ℕ) → IsStart bytes r.start r.end x → new r.section x ≡ Some r.end) → ((j x : ℕ) → (new j x ≡ old j x) ⊎ ((j ≡ r.section) × IsStart bytes r.start r.end x)) → StartsUpTo o ranges (i + 1) new
more_starts o ranges i r bytes old new are at code bytes_are before noted others = record { sound = sound; whole = whole }
  where
    of_range : (x : ℕ) → IsStart bytes r.start r.end x → IsCodeStart o r.section (bytes_of o r.section) x r.end
    of_range x s = code_start o ranges i r are at code x (subst (λ (b : List ℕ). IsStart b r.start r.end x) bytes_are s)

    sound : (j x end : ℕ) → new j x ≡ Some end → IsCodeStart o j (bytes_of o j) x end
    sound j x end e =
        elim (others j x) [
          | inl same ↦ before.sound j x end (sym same ∙ e)
          | inr h ↦
              let ends : r.end ≡ end = same_Some r.end end (sym (noted x h.1) ∙ ap (λ (k : ℕ). new k x) (sym h.0) ∙ e) in
              subst (λ (k : ℕ). IsCodeStart o k (bytes_of o k) x end) (sym h.0) (subst (λ (k : ℕ). IsCodeStart o r.section (bytes_of o r.section) x k) ends (of_range x h.1))
        ]

    whole : (k : ℕ) (s : Span) → k < i + 1 → slice_get ranges k ≡ Some s → is_thumb s.kind ≡ true → (x : ℕ) → IsStart (bytes_of o s.section) s.start s.end x → new s.section x ≡ Some s.end
    whole k s l e thumb x start =
        elim (cases_lt k i) [
          | inl low ↦ elim (others s.section x) [
            | inl same ↦ same ∙ before.whole k s low e thumb x start
            | inr h ↦
                let one : IsCodeStart o s.section (bytes_of o s.section) x r.end = subst (λ (z : ℕ). IsCodeStart o z (bytes_of o z) x r.end) (sym h.0) (of_range x h.1) in
                let ends : r.end ≡ s.end = start_unique o s.section x r.end s.end (bytes_of o s.section) one (code_start o ranges k s are e thumb x start) in
                ap (λ (z : ℕ). new z x) h.0 ∙ noted x h.1 ∙ ap (λ (z : ℕ). Some z) ends
          ]
          | inr high ↦
              let here : k ≡ i = omega arith in
              let same : r ≡ s = same_Some r s (sym at ∙ ap (slice_get ranges) (sym here) ∙ e) in
              subst (λ (z : Span). (x : ℕ) → IsStart (bytes_of o z.section) z.start z.end x → new z.section x ≡ Some z.end) same
              (λ y t. noted y (subst (λ (b : List ℕ). IsStart b r.start r.end y) (sym bytes_are) t)) x start
        ]

pub all_starts : (o : ObjectParts) (ranges : List Span) (i : ℕ) (now : ℕ → ℕ → Option ℕ) → AreAllRanges o ranges → length ranges ≤ i → StartsUpTo o ranges i now → AreStarts o now
all_starts o ranges i now are past up = λ j x end. (up.sound j x end, back j x end)
  where
    back : (j x end : ℕ) → IsCodeStart o j (bytes_of o j) x end → now j x ≡ Some end
    back j x end s =
        let r : Span = record { section = j; start = s.start; end = end; kind = Code } in
        let there : Contains ranges r = (are.exact r).1 s.range in
        let at : slice_get ranges there.0 ≡ Some r = slice_get-get_or ranges there.0 r there.1 ∙ ap (λ (z : Span). Some z) there.2 in
        let low : there.0 < length ranges = there.1 in
        up.whole there.0 r (omega arith) at refl x s.is_start

-- the words of so many ranges, and no other ones
pub record WordsUpTo (o : ObjectParts) (ranges : List Span) (i : ℕ) (now : ℕ → ℕ → Bool) : Type 0 where
  pub sound : (j w : ℕ) → now j w ≡ true → IsDataWord o j w
  pub whole : (k : ℕ) (r : Span) → k < i → slice_get ranges k ≡ Some r → is_data_kind r.kind ≡ true → (w : ℕ) → w % 4 ≡ 0 → r.start ≤ w → w + 4 ≤ r.end → now r.section w ≡ true

pub no_words_yet : (o : ObjectParts) (ranges : List Span) (now : ℕ → ℕ → Bool) → ((j w : ℕ) → now j w ≡ false) → WordsUpTo o ranges 0 now
no_words_yet o ranges now none = record {
  sound = λ j w e. absurd (true≢false (sym e ∙ none j w));
  whole = λ k r l e plain w a b c. absurd (omega arith);
}

pub same_words : (o : ObjectParts) (ranges : List Span) (i : ℕ) (r : Span) (now : ℕ → ℕ → Bool) → slice_get ranges i ≡ Some r → is_data_kind r.kind ≡ false → WordsUpTo o ranges i now → WordsUpTo o ranges (i + 1) now
same_words o ranges i r now at code before = record { sound = before.sound; whole = whole }
  where
    whole : (k : ℕ) (s : Span) → k < i + 1 → slice_get ranges k ≡ Some s → is_data_kind s.kind ≡ true → (w : ℕ) → w % 4 ≡ 0 → s.start ≤ w → w + 4 ≤ s.end → now s.section w ≡ true
    whole k s l e plain w a b c =
        elim (cases_lt k i) [
          | inl low ↦ before.whole k s low e plain w a b c
          | inr high ↦
              let here : k ≡ i = omega arith in
              let same : r ≡ s = same_Some r s (sym at ∙ ap (slice_get ranges) (sym here) ∙ e) in
              absurd (true≢false (sym plain ∙ ap (λ (z : Span). is_data_kind z.kind) (sym same) ∙ code))
        ]

pub more_words : (o : ObjectParts) (ranges : List Span) (i : ℕ) (r : Span) (old new : ℕ → ℕ → Bool) → AreAllRanges o ranges → slice_get ranges i ≡ Some r → is_data_kind r.kind ≡ true → WordsUpTo o ranges i old
    → ((w : ℕ) → w % 4 ≡ 0 → r.start ≤ w → w + 4 ≤ r.end → new r.section w ≡ true) → ((j w : ℕ) → (new j w ≡ old j w) ⊎ ((j ≡ r.section) × (w % 4 ≡ 0) × (r.start ≤ w) × (w + 4 ≤ r.end))) → WordsUpTo o ranges (i + 1) new
more_words o ranges i r old new are at plain before noted others = record { sound = sound; whole = whole }
  where
    sound : (j w : ℕ) → new j w ≡ true → IsDataWord o j w
    sound j w e =
        elim (others j w) [
          | inl same ↦ before.sound j w (sym same ∙ e)
          | inr h ↦
              let range : IsRange o Data r.section r.start r.end = subst (λ (k : RangeKind). IsRange o k r.section r.start r.end) (data_is r.kind plain) (range_there o ranges i r are at) in
              record { start = r.start; end = r.end; range = subst (λ (k : ℕ). IsRange o Data k r.start r.end) (sym h.0) range; aligned = h.1; behind_start = h.2; before_end = h.3 }
        ]

    whole : (k : ℕ) (s : Span) → k < i + 1 → slice_get ranges k ≡ Some s → is_data_kind s.kind ≡ true → (w : ℕ) → w % 4 ≡ 0 → s.start ≤ w → w + 4 ≤ s.end → new s.section w ≡ true
    whole k s l e none w a b c =
        elim (cases_lt k i) [
          | inl low ↦ elim (others s.section w) [
            | inl same ↦ same ∙ before.whole k s low e none w a b c
            | inr h ↦ ap (λ (z : ℕ). new z w) h.0 ∙ noted w h.1 h.2 h.3
          ]
          | inr high ↦
              let here : k ≡ i = omega arith in
              let same : r ≡ s = same_Some r s (sym at ∙ ap (slice_get ranges) (sym here) ∙ e) in
              subst (λ (z : Span). (w : ℕ) → w % 4 ≡ 0 → z.start ≤ w → w + 4 ≤ z.end → new z.section w ≡ true) same noted w a b c
        ]

pub all_words : (o : ObjectParts) (ranges : List Span) (i : ℕ) (now : ℕ → ℕ → Bool) → AreAllRanges o ranges → length ranges ≤ i → WordsUpTo o ranges i now → AreWords o now
all_words o ranges i now are past up = λ j w. (up.sound j w, back j w)
  where
    back : (j w : ℕ) → IsDataWord o j w → now j w ≡ true
    back j w d =
        let r : Span = record { section = j; start = d.start; end = d.end; kind = Data } in
        let there : Contains ranges r = (are.exact r).1 d.range in
        let at : slice_get ranges there.0 ≡ Some r = slice_get-get_or ranges there.0 r there.1 ∙ ap (λ (z : Span). Some z) there.2 in
        let low : there.0 < length ranges = there.1 in
        up.whole there.0 r (omega arith) at refl w d.aligned d.behind_start d.before_end
