-- A right relocation in code that shares a byte with a whole instruction stands at its start.
use Rattle.std.specs.Prelude.{◌≡◌, ◌<◌, ◌≤◌, ◌⊎◌, ℕ, ◌+◌, not, Bool, true, false, cond, List, Some, Ok, Err, refl}
use Rattle.std.proofs.Common.{arith, inl, inr, ap, sym, ◌∙◌, subst}
use Rattle.std.proofs.lemmas.Bool.{cases_order, cases_lt, both_ways, and_parts, leb-true}
use Rattle.std.proofs.lemmas.Option.{same_Some}
use Rattle.elf_model.specs.declared.objects.Section.{Section}
use Rattle.elf_model.specs.declared.objects.Reloc.{Reloc}
use Rattle.elf_model.specs.declared.objects.RelocKind.{RelocKind}
use Rattle.elf_model.specs.declared.objects.RelocKind.TheVariants.{Abs32, Target1, ThmCall, ThmJump24, MovwAbs, MovtAbs, ThmJump19, ThmJump11, ThmJump8, Other}
use Rattle.elf_model.specs.declared.ranges.RangeKind.TheVariants.{Code, Data}
use Rattle.elf_model.specs.Fields.{half_at}
use Rattle.elf_model.specs.Objects.{ObjectParts, is_code, is_data, is_alloc, place_width}
use Rattle.elf_model.specs.Ranges.{IsRange, is_long, is_whole, length_at}
use Rattle.thumb_instr.specs.declared.instructions.Instr.{Instr}
use Rattle.thumb_instr.specs.declared.refusals.BadInstr.TheVariants.{Unknown}
use Rattle.reloc_places.specs.Starts.{bytes_of, IsCodeStart, instr_at, decoded_at}
use Rattle.reloc_places.specs.Relocations.{is_word, is_bl, is_mov, fits_kind, IsPlace, in_data, in_code, on_instr, IsRight}
use Rattle.code_ranges.proofs.KindFacts.{kind_here}
use Rattle.code_ranges.specs.Spans.{kind_at}
use Rattle.code_ranges.proofs.RangeOrder.{range_ends}
use Rattle.reloc_places.proofs.DecodedPlaces.{long_alone}
use Rattle.reloc_places.proofs.StartFacts.{start_before, start_behind, starts_apart}

pub decoded_whole : (bytes : List ℕ) (end x it : ℕ) (i : Instr) → instr_at bytes end x it ≡ Ok i → (x + length_at bytes x ≤ end) × (decoded_at bytes x it ≡ Ok i)
decoded_whole bytes end x it i h = go (is_whole bytes end x) refl h
  where
    go : (b : Bool) → is_whole bytes end x ≡ b → cond b (decoded_at bytes x it) (Err Unknown) ≡ Ok i → (x + length_at bytes x ≤ end) × (decoded_at bytes x it ≡ Ok i)
    go true e h = (leb-true (x + length_at bytes x) end e, h)
    go false e h = absurd (cc)

-- ranges of code and of data share no offset
pub no_both : (o : ObjectParts) (j a b c d x : ℕ) → IsRange o Code j a b → IsRange o Data j c d → a ≤ x → x < b → c ≤ x → x < d → ⊥
no_both o j a b c d x r s l1 l2 l3 l4 =
    elim (cases_order a c) [
      | inl e ↦
          let one = kind_here o Code j a r.begins in
          let two = kind_here o Data j c s.begins in
          let same : Some Code ≡ Some Data = sym one ∙ (ap (λ (n : ℕ). kind_at o.symbols j n) e ∙ two) in
          absurd (cc)
      | inr w ↦ elim w [
        | inl low ↦ let h = range_ends o Code Data j a b c d r s low in omega arith
        | inr low ↦ let h = range_ends o Data Code j c d a b s r low in omega arith
      ]
    ]

-- a place on an instruction is as wide as this
pub place_is : (kind : RelocKind) (bytes : List ℕ) (x : ℕ) (i : Instr) → decoded_at bytes x 0 ≡ Ok i → fits_kind kind (is_long (half_at bytes x)) i ≡ true → place_width kind ≡ length_at bytes x
place_is kind bytes x i is fits = go kind (is_long (half_at bytes x)) refl fits
  where
    go : (k : RelocKind) (b : Bool) → is_long (half_at bytes x) ≡ b → fits_kind k b i ≡ true → place_width k ≡ cond b 4 2
    go Abs32 b e h = absurd (both_ways false refl h)
    go Target1 b e h = absurd (both_ways false refl h)
    go (Other n) b e h = absurd (both_ways false refl h)
    go ThmCall true e h = refl
    go ThmCall false e h = absurd (both_ways (is_bl i) (long_alone bytes x i is e).0 h)
    go ThmJump24 true e h = refl
    go ThmJump24 false e h = absurd (both_ways false refl h)
    go MovwAbs true e h = refl
    go MovwAbs false e h = absurd (both_ways (is_mov false i) (long_alone bytes x i is e).1 h)
    go MovtAbs true e h = refl
    go MovtAbs false e h = absurd (both_ways (is_mov true i) (long_alone bytes x i is e).2 h)
    go ThmJump19 true e h = refl
    go ThmJump19 false e h = absurd (both_ways false refl h)
    go ThmJump11 true e h = absurd (both_ways false refl h)
    go ThmJump11 false e h = refl
    go ThmJump8 true e h = absurd (both_ways false refl h)
    go ThmJump8 false e h = refl

pub word_width : (k : RelocKind) → is_word k ≡ true → place_width k ≡ 4
word_width Abs32 h = refl
word_width Target1 h = refl
word_width ThmCall h = absurd (cc)
word_width ThmJump24 h = absurd (cc)
word_width MovwAbs h = absurd (cc)
word_width MovtAbs h = absurd (cc)
word_width ThmJump19 h = absurd (cc)
word_width ThmJump11 h = absurd (cc)
word_width ThmJump8 h = absurd (cc)
word_width (Other n) h = absurd (cc)

pub no_data : (s : Section) → is_code s ≡ true → is_data s ≡ true → ⊥
no_data s c d = let b = and_parts (is_alloc s.flags) (not (is_code s)) d in both_ways false refl (subst (λ (z : Bool). not z ≡ true) c b.1)

-- a right relocation that stands elsewhere shares no byte with a whole instruction
pub beside : (o : ObjectParts) (x end k : ℕ) (r : Reloc) → IsCodeStart o r.section (bytes_of o r.section) x end → x + length_at (bytes_of o r.section) x ≤ end
    → IsRight o k r → (r.offset ≡ x → ⊥) → (r.offset + place_width r.kind ≤ x) ⊎ (x + length_at (bytes_of o r.section) x ≤ r.offset)
beside o x end k r start whole right other = go right.place
  where
    bytes : List ℕ
    bytes = bytes_of o r.section

    go : IsPlace o r → (r.offset + place_width r.kind ≤ x) ⊎ (x + length_at (bytes_of o r.section) x ≤ r.offset)
    go (in_data s there datum word) =
        let same : start.range.section ≡ s = same_Some start.range.section s (sym start.range.is_there ∙ there) in
        absurd (no_data s (subst (λ (t : Section). is_code t ≡ true) same start.range.in_code) datum)
    go (in_code word at) =
        let four = word_width r.kind word in
        let a = start_before (bytes_of o r.section) start.start end x start.is_start in
        let b = start_behind (bytes_of o r.section) start.start end x start.is_start in
        let low : at.start ≤ r.offset = at.behind_start in
        let high : r.offset + 4 ≤ at.end = at.before_end in
        elim (cases_order r.offset x) [
          | inl e ↦ absurd (other e)
          | inr w ↦ elim w [
            | inl l ↦ elim (cases_lt x (r.offset + 4)) [
              | inl under ↦ absurd (no_both o r.section start.start end at.start at.end x start.range at.range b a (omega arith) (omega arith))
              | inr over ↦ inl (omega arith)
            ]
            | inr l ↦ elim (cases_lt r.offset (x + length_at (bytes_of o r.section) x)) [
              | inl under ↦ absurd (no_both o r.section start.start end at.start at.end r.offset start.range at.range (omega arith) (omega arith) low (omega arith))
              | inr over ↦ inr over
            ]
          ]
        ]
    go (on_instr e i at is fits) =
        let d = decoded_whole (bytes_of o r.section) e r.offset 0 i is in
        let width = place_is r.kind (bytes_of o r.section) r.offset i d.1 fits in
        elim (cases_order r.offset x) [
          | inl same ↦ absurd (other same)
          | inr w ↦ elim w [
            | inl l ↦ let h = starts_apart o r.section r.offset x e end at d.0 start l in inl (omega arith)
            | inr l ↦ inr (starts_apart o r.section x r.offset end e start whole at l)
          ]
        ]
