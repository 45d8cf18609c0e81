-- The ranges that are answered are all that there are, in order, and a refusal is of the first fault.
use Rattle.std.proofs.Common.{◌≡◌, ℕ, Bool, true, false, List, [], ◌++◌, refl, sym, ap, ◌∙◌, subst, inl, map, Some}
use Rattle.std.specs.Prelude.{Contains}
use Rattle.std.specs.BTreeMap.{BTreeMap, get, IsOrdered}
use Rattle.std.proofs.lemmas.List.Elements.{All-contains}
use Rattle.elf_model.specs.declared.objects.Section.{Section}
use Rattle.elf_model.specs.declared.objects.Symbol.{Symbol}
use Rattle.elf_model.specs.declared.ranges.RangeKind.{RangeKind}
use Rattle.elf_model.specs.declared.ranges.RangeKind.TheVariants.{Code, Arm, Data}
use Rattle.elf_model.specs.declared.refusals.Refusal.{Refusal}
use Rattle.elf_model.specs.declared.refusals.Refusal.TheVariants.{ArmCode}
use Rattle.elf_model.specs.declared.refusals.Spot.{Spot}
use Rattle.elf_model.specs.Objects.{ObjectParts, is_object}
use Rattle.elf_model.specs.Ranges.{IsRange}
use Rattle.code_ranges.specs.declared.ranges.Range.{Range}
use Rattle.code_ranges.specs.declared.spans.Mark.{Mark}
use Rattle.code_ranges.specs.declared.spans.Span.{Span}
use Rattle.code_ranges.specs.AllRanges.{AreAllRanges}
use Rattle.code_ranges.specs.CodeRanges.{RangeFault, comes_before, IsRangeRefusal, range_kind, rise, AreRanges}
use Rattle.code_ranges.specs.CodeRanges.RangeFault.{arm_range}
use Rattle.code_ranges.specs.Spans.{place_cmp, kind_at, mark_of, spans_from, is_thumb, range_of}
use Rattle.code_ranges.specs.Spots.{spot_of, unmapped_spots, arm_spots, function_spots, IsFirst}
use Rattle.elf_model.proofs.Elements.{contains_none, contains_map, map_contains}
use Rattle.code_ranges.proofs.MarkFacts.{rising, mark_begins, beginning_marked}
use Rattle.code_ranges.proofs.SpanFacts.{spans_are_ranges, ranges_have_spans, spans_rise}
use Rattle.code_ranges.proofs.FaultFacts.{spots_are_faults, faults_have_spots}

-- spans that are the ranges of all kinds, in order
pub record AreSpans (o : ObjectParts) (spans : List Span) : Type 0 where
  pub each : (s : Span) → Contains spans s → IsRange o s.kind s.section s.start s.end
  pub all : (s : Span) → IsRange o s.kind s.section s.start s.end → Contains spans s
  pub order : rise (map range_of spans) ≡ true

pub are_spans : (o : ObjectParts) → is_object o ≡ true → (m : BTreeMap (ℕ × ℕ) RangeKind) → IsOrdered place_cmp m → ((j x : ℕ) → get place_cmp m (j, x) ≡ kind_at o.symbols j x)
    → AreSpans o (spans_from o.sections (map mark_of m.entries))
are_spans o sound m ordered starts =
    let marks : List Mark = map mark_of m.entries in
    let up = rising m.entries ordered in
    let begins = mark_begins o.symbols m ordered starts in
    let marked = beginning_marked o.symbols m ordered starts in
    record {
      each = spans_are_ranges o sound marks up begins (λ q h. inl (marked q h));
      all = ranges_have_spans o sound marks up begins (λ q h. inl (marked q h)) marked;
      order = spans_rise o.sections marks up;
    }

pub all_ranges_are : (o : ObjectParts) (spans : List Span) → AreSpans o spans → AreAllRanges o spans
all_ranges_are o spans found = record { exact = λ s. (found.each s, found.all s); order = found.order }

abbrev pub all_spots : ObjectParts → List Span → List Spot
all_spots o spans = (unmapped_spots o.symbols 0 o.sections ++ arm_spots spans) ++ function_spots o.sections o.symbols

pub refusal_is : (o : ObjectParts) (spans : List Span) → AreSpans o spans → (spot : Spot) → IsFirst (all_spots o spans) (Some spot) → IsRangeRefusal o spot
refusal_is o spans found spot h =
    let f = spots_are_faults o spans found.each spot h.0 in
    record {
      fault = f.0;
      file = f.1;
      first = λ r j x g.
          All-contains (λ s. comes_before s.refusal s.section s.offset spot ≡ false) (all_spots o spans) (spot_of r j x) h.1 (faults_have_spots o spans found.all r j x g);
    }

kind_again : (k : RangeKind) → (k ≡ Arm → ⊥) → k ≡ range_kind (is_thumb k)
kind_again Code n = refl
kind_again Arm n = absurd (n refl)
kind_again Data n = refl

thumb_again : (b : Bool) → is_thumb (range_kind b) ≡ b
thumb_again true = refl
thumb_again false = refl

pub ranges_are : (o : ObjectParts) (spans : List Span) → AreSpans o spans → all_spots o spans ≡ [] → AreRanges o (map range_of spans)
ranges_are o spans found none = record {
  exact = λ r. (to r, from r);
  order = found.order;
  sound = no_fault;
}
  where
    no_fault : (r : Refusal) (j x : ℕ) → RangeFault o r j x → ⊥
    no_fault r j x f = contains_none (spot_of r j x) (subst (λ (l : List Spot). Contains l (spot_of r j x)) none (faults_have_spots o spans found.all r j x f))

    to : (r : Range) → Contains (map range_of spans) r → IsRange o (range_kind r.code) r.section r.start r.end
    to r h =
        let q = contains_map range_of spans r h in
        let s = q.0 in
        let is = found.each s q.1 in
        let not_arm : s.kind ≡ Arm → ⊥ = λ e. no_fault ArmCode s.section s.start (arm_range s.section s.start s.end (subst (λ (k : RangeKind). IsRange o k s.section s.start s.end) e is)) in
        subst (λ (z : Range). IsRange o (range_kind z.code) z.section z.start z.end) q.2
        (subst (λ (k : RangeKind). IsRange o k s.section s.start s.end) (kind_again s.kind not_arm) is)

    from : (r : Range) → IsRange o (range_kind r.code) r.section r.start r.end → Contains (map range_of spans) r
    from r h =
        let s : Span = record { section = r.section; start = r.start; end = r.end; kind = range_kind r.code } in
        let same : range_of s ≡ r = ap (λ (b : Bool). record { section = r.section; start = r.start; end = r.end; code = b }) (thumb_again r.code) in
        subst (λ (z : Range). Contains (map range_of spans) z) same (map_contains range_of spans s (found.all s h))

-- the same through the values of the calls
pub spans_made : (o : ObjectParts) (symbols : List Symbol) (sections : List Section) (m : BTreeMap (ℕ × ℕ) RangeKind) (marks marked : List Mark) (spans : List Span) → is_object o ≡ true → symbols ≡ o.symbols
    → ((j x : ℕ) → get place_cmp m (j, x) ≡ kind_at symbols j x) → IsOrdered place_cmp m → marks ≡ map mark_of m.entries → sections ≡ o.sections → marked ≡ marks → spans ≡ spans_from sections marked → AreSpans o spans
spans_made o symbols sections m marks marked spans sound s starts ordered made t u v =
    subst (AreSpans o) (sym (v ∙ ap (λ (l : List Section). spans_from l marked) t ∙ ap (spans_from o.sections) (u ∙ made)))
    (are_spans o sound m ordered (λ j x. starts j x ∙ ap (λ (l : List Symbol). kind_at l j x) s))

pub spots_made : (o : ObjectParts) (symbols : List Symbol) (sections : List Section) (spans spread : List Span) (spots listed : List Spot) → symbols ≡ o.symbols → sections ≡ o.sections → spread ≡ spans
    → spots ≡ (unmapped_spots symbols 0 sections ++ arm_spots spread) ++ function_spots sections symbols → listed ≡ spots → listed ≡ all_spots o spans
spots_made o symbols sections spans spread spots listed s t u v w =
    w ∙ v ∙ ap (λ (l : List Span). (unmapped_spots symbols 0 sections ++ arm_spots l) ++ function_spots sections symbols) u
    ∙ ap (λ (l : List Symbol). (unmapped_spots l 0 sections ++ arm_spots spans) ++ function_spots sections l) s
    ∙ ap (λ (l : List Section). (unmapped_spots o.symbols 0 l ++ arm_spots spans) ++ function_spots l o.symbols) t
