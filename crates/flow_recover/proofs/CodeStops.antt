-- Behind a dead end code stops: at a function, at data, or with the section.
use Rattle.std.proofs.Common.{◌≡◌, ◌<◌, ◌≤◌, ℕ, zero, suc, ◌+◌, ◌-◌, Bool, true, false, cond, refl, sym, ap, ◌∙◌, subst, inl, inr, ◌⊎◌, arith, Some}
use Rattle.std.specs.Prelude.{◌==◌, slice_get}
use Rattle.std.proofs.lemmas.Bool.{cases_Bool, cases_lt, eqb-true, or_cases}
use Rattle.elf_model.specs.declared.objects.Section.{Section}
use Rattle.elf_model.specs.declared.ranges.RangeKind.{RangeKind}
use Rattle.elf_model.specs.declared.ranges.RangeKind.TheVariants.{Code, Arm, Data}
use Rattle.elf_model.specs.declared.refusals.Refusal.{Refusal}
use Rattle.elf_model.specs.declared.refusals.Refusal.TheVariants.{ArmCode}
use Rattle.elf_model.specs.Fields.{half_at}
use Rattle.elf_model.specs.Objects.{ObjectParts, is_code}
use Rattle.elf_model.specs.Ranges.{is_mapped, IsBeginning, IsRange, IsStart, is_long, length_at}
use Rattle.elf_model.specs.Ranges.IsStart.{first, next}
use Rattle.code_ranges.specs.CodeRanges.{RangeFault}
use Rattle.code_ranges.specs.CodeRanges.RangeFault.{arm_range}
use Rattle.reloc_places.specs.Starts.{bytes_of, IsCodeStart, HasStart, is_nop}
use Rattle.flow_recover.specs.Reach.{IsDeadEnd}
use Rattle.flow_recover.specs.Reach.IsDeadEnd.{no_code, function, nop}
use Rattle.flow_recover.specs.Points.{IsStopAt, StopsBehindNops}
use Rattle.flow_recover.specs.Points.IsStopAt.{at_function, at_data, at_end}
use Rattle.flow_recover.specs.Points.StopsBehindNops.{here, over}
use Rattle.code_ranges.proofs.KindFacts.{some_kind, beginning}

-- the next place of a mapping symbol, or so many bytes on
record IsNextEnd (o : ObjectParts) (j start most : ℕ) : Type 0 where
  pub end : ℕ
  pub more : start < end
  pub inside : end ≤ most
  pub ends : (is_mapped o j end ≡ true) ⊎ (end ≡ most)
  pub nearest : (x : ℕ) → start < x → x < end → is_mapped o j x ≡ false

next_end : (o : ObjectParts) (j start n : ℕ) → IsNextEnd o j start (start + suc n)
next_end o j start zero = record { end = start + 1; more = omega arith; inside = omega arith; ends = inr refl; nearest = λ x a b. absurd (omega arith) }
next_end o j start (suc n) = go (next_end o j start n)
  where
    most : ℕ
    most = start + suc n

    last : (r : IsNextEnd o j start most) → r.end ≡ most → IsNextEnd o j start (start + suc (suc n))
    last r e =
        elim (cases_Bool (is_mapped o j most)) [
          | inl t ↦ let more = r.more in let inside = r.inside in record { end = r.end; more = more; inside = omega arith; ends = inl (ap (is_mapped o j) e ∙ t); nearest = r.nearest }
          | inr f ↦ record {
            end = start + suc (suc n);
            more = omega arith;
            inside = omega arith;
            ends = inr refl;
            nearest = λ x a b. elim (cases_lt x most) [
              | inl l ↦ r.nearest x a (omega arith)
              | inr l ↦ let same : most ≡ x = omega arith in ap (is_mapped o j) (sym same) ∙ f
            ];
          }
        ]

    go : IsNextEnd o j start most → IsNextEnd o j start (start + suc (suc n))
    go r = elim r.ends [
      | inl t ↦ let more = r.more in let inside = r.inside in record { end = r.end; more = more; inside = omega arith; ends = inl t; nearest = r.nearest }
      | inr e ↦ last r e
    ]

-- where something begins before the end of a section of code, there is a range
range_from : (o : ObjectParts) (kind : RangeKind) (j start n : ℕ) (s : Section) → slice_get o.sections j ≡ Some s → is_code s ≡ true → IsBeginning o kind j start → s.size ≡ start + suc n → (end : ℕ) × IsRange o kind j start end
range_from o kind j start n s there code b size =
    let r = next_end o j start n in (
      r.end,
      record {
        section = s;
        is_there = there;
        in_code = code;
        begins = b;
        has_bytes = r.more;
        inside = let inside = r.inside in omega arith;
        ends = elim r.ends [
          | inl t ↦ inl t
          | inr e ↦ inr (e ∙ sym size)
        ];
        nearest = r.nearest;
      },
    )

-- where a whole instruction ends
pub record IsEndOfWhole (o : ObjectParts) (j x : ℕ) : Type 0 where
  pub at : ℕ
  pub end : ℕ
  pub start : IsCodeStart o j (bytes_of o j) at end
  pub whole : x ≤ end
  pub is : at + length_at (bytes_of o j) at ≡ x

-- a NOP has two bytes
short : (h : ℕ) → is_nop h ≡ true → is_long h ≡ false
short h n = elim (or_cases (h == 0xBF00) (h == 0x46C0) n) [
  | inl e ↦ ap is_long (eqb-true h 0xBF00 e)
  | inr e ↦ ap is_long (eqb-true h 0x46C0 e)
]

module _ (o : ObjectParts) (sound : (r : Refusal) (section offset : ℕ) → RangeFault o r section offset → ⊥) (j : ℕ) where
  -- a range of code ends at data or with its section, or code goes on
  stop_at_end : (start end : ℕ) → IsRange o Code j start end → (HasStart o j end → ⊥) → IsStopAt o j end
  stop_at_end start end r none = elim r.ends [
    | inl mapped ↦ let k = some_kind o j end mapped in by_kind k.0 (beginning o k.0 j end k.1)
    | inr size ↦ at_end r.section r.is_there size
  ]
    where
      by_size : ((n : ℕ) → r.section.size ≡ end + suc n → ⊥) → IsStopAt o j end
      by_size never = elim (cases_lt end r.section.size) [
        | inl l ↦ absurd (never (r.section.size - end - 1) (omega arith))
        | inr l ↦ let inside = r.inside in at_end r.section r.is_there (omega arith)
      ]

      by_kind : (kind : RangeKind) → IsBeginning o kind j end → IsStopAt o j end
      by_kind Data b = at_data b
      by_kind Arm b = by_size (λ n size. let next = range_from o Arm j end n r.section r.is_there r.in_code b size in sound ArmCode j end (arm_range j end next.0 next.1))
      by_kind Code b = by_size (λ n size. let next = range_from o Code j end n r.section r.is_there r.in_code b size in
          none (record { end = next.0; start = record { start = end; range = next.1; is_start = first next.1.has_bytes } }))

  stop_behind : (x : ℕ) → IsEndOfWhole o j x → (HasStart o j x → ⊥) → IsStopAt o j x
  stop_behind x e none =
      elim (cases_lt x e.end) [
        | inl l ↦
            let is = e.is in
            let more : IsStart (bytes_of o j) e.start.start e.end (e.at + length_at (bytes_of o j) e.at) = next e.at e.start.is_start (omega arith) in
            absurd (none (record { end = e.end; start = record { start = e.start.start; range = e.start.range; is_start = subst (λ (k : ℕ). IsStart (bytes_of o j) e.start.start e.end k) is more } }))
        | inr l ↦
            let whole = e.whole in
            let same : e.end ≡ x = omega arith in
            subst (λ (k : ℕ). IsStopAt o j k) same (stop_at_end e.start.start e.end e.start.range (λ h. none (subst (λ (k : ℕ). HasStart o j k) same h)))
      ]

  pub dead_ends_stop : (x : ℕ) → IsEndOfWhole o j x → IsDeadEnd o j x → StopsBehindNops o j x
  dead_ends_stop _ e (no_code x none) = here x (stop_behind x e none)
  dead_ends_stop _ e (function x h) = here x (at_function h)
  dead_ends_stop _ e (nop x end s w h d) =
      let two : length_at (bytes_of o j) x ≡ 2 = ap (λ (b : Bool). cond b 4 2) (short (half_at (bytes_of o j) x) h) in
      over x (record { end = end; start = s; whole = w; nop = h }) (dead_ends_stop (x + 2) (record { at = x; end = end; start = s; whole = w; is = ap (λ (k : ℕ). x + k) two }) d)
