-- The bytes of a relocation's place.
use Rattle.std.proofs.Common.{◌≡◌, ◌≤◌, ℕ, ◌+◌, Bool, true, false, cond, List, length, refl, sym, ap, ◌∙◌, subst, arith, Option, Some, None, Ok, Err}
use Rattle.std.specs.Prelude.{IsTrue, ◌==◌, not, slice_get, nat_le}
use Rattle.std.proofs.lemmas.Bool.{and_parts, leb-true, not-true, cond-true, true≢false}
use Rattle.elf_model.specs.declared.objects.Section.{Section}
use Rattle.elf_model.specs.declared.objects.Reloc.{Reloc}
use Rattle.elf_model.specs.declared.objects.RelocKind.{RelocKind}
use Rattle.elf_model.specs.declared.objects.RelocKind.TheVariants.{Abs32, Target1, ThmCall, ThmJump24, MovwAbs, MovtAbs, ThmJump19, ThmJump11, ThmJump8, Other}
use Rattle.elf_model.specs.Constants.{nobits}
use Rattle.elf_model.specs.Fields.{half_at}
use Rattle.elf_model.specs.Objects.{ObjectParts, is_object, is_within, is_reloc, is_placed, is_kind, place_width}
use Rattle.elf_model.specs.Ranges.{is_long, length_at, is_whole}
use Rattle.thumb_instr.specs.declared.instructions.Instr.{Instr}
use Rattle.thumb_instr.specs.declared.refusals.BadInstr.TheVariants.{Unknown}
use Rattle.thumb_instr.specs.Rows.{Answer}
use Rattle.reloc_places.specs.Starts.{bytes_in, bytes_of, IsCodeStart, IsDataWord, decoded_at, instr_at}
use Rattle.reloc_places.specs.Relocations.{is_word, fits_kind, IsPlace, IsRight}
use Rattle.reloc_places.specs.Placement.{holds_data, fits_answer}
use Rattle.reloc_places.specs.Relocations.IsPlace.{in_data, in_code, on_instr}
use Rattle.code_ranges.proofs.ObjectFacts.{section_sound, section_length, reloc_sound}
use Rattle.reloc_places.proofs.StartFacts.{any_limit, start_inside, start_unique}

width_least : (k : RelocKind) → 2 ≤ place_width k
width_least k = go (_)
  where
    go : (b : Bool) → 2 ≤ cond b 2 4
    go true = omega arith
    go false = omega arith

word_width : (k : RelocKind) → is_word k ≡ true → place_width k ≡ 4
word_width Abs32 h = refl
word_width Target1 h = refl
word_width ThmCall h = absurd (cc)
word_width ThmJump24 h = absurd (cc)
word_width MovwAbs h = absurd (cc)
word_width MovtAbs h = absurd (cc)
word_width ThmJump19 h = absurd (cc)
word_width ThmJump11 h = absurd (cc)
word_width ThmJump8 h = absurd (cc)
word_width (Other n) h = absurd (cc)

-- a relocation's bytes are there
pub reloc_inside : (o : ObjectParts) (r : Reloc) → is_object o ≡ true → is_reloc o.sections o.symbols r ≡ true → r.offset + place_width r.kind ≤ length (bytes_of o r.section)
reloc_inside o r sound h =
    let a = and_parts _ _ h in
    let b = and_parts (is_placed r (slice_get o.sections r.section)) (is_kind r.kind) a.0 in
    go (slice_get o.sections r.section) refl b.0
  where
    go : (s : Option Section) → slice_get o.sections r.section ≡ s → is_placed r s ≡ true → r.offset + place_width r.kind ≤ length (bytes_in s)
    go None e p = absurd (cc)
    go (Some s) e p =
        let q = and_parts (not (s.kind == nobits)) (nat_le (r.offset + place_width r.kind) s.size) p in
        let long = section_length s (section_sound o r.section s sound e) (not-true (s.kind == nobits) q.0) in
        let low = leb-true (r.offset + place_width r.kind) s.size q.1 in
        omega (arith, long, low)

-- the bytes that the number in a place is read from
pub record HasNumber (bytes : List ℕ) (r : Reloc) : Type 0 where
  pub half : r.offset + 2 ≤ length bytes
  pub full : is_long (half_at bytes r.offset) ≡ true → r.offset + 4 ≤ length bytes
  pub word : is_word r.kind ≡ true → r.offset + 4 ≤ length bytes

-- an instruction that is decoded is whole
pub decoded_whole : (bytes : List ℕ) (end x it : ℕ) (i : Instr) → instr_at bytes end x it ≡ Ok i → x + length_at bytes x ≤ end
decoded_whole bytes end x it i h = go (is_whole bytes end x) refl h
  where
    go : (b : Bool) → is_whole bytes end x ≡ b → cond b (decoded_at bytes x it) (Err Unknown) ≡ Ok i → x + length_at bytes x ≤ end
    go true e h = leb-true (x + length_at bytes x) end e
    go false e h = absurd (cc)

module _ (o : ObjectParts) (r : Reloc) (sound : is_object o ≡ true) (within : IsTrue (is_within o any_limit)) (good : is_reloc o.sections o.symbols r ≡ true) where
  word_there : is_word r.kind ≡ true → r.offset + 4 ≤ length (bytes_of o r.section)
  word_there h =
      let low = reloc_inside o r sound good in
      let width = word_width r.kind h in
      omega (arith, low, width)

  full_there : IsPlace o r → is_long (half_at (bytes_of o r.section) r.offset) ≡ true → r.offset + 4 ≤ length (bytes_of o r.section)
  full_there (in_data s at kept word) h = word_there word
  full_there (in_code word is) h = word_there word
  full_there (on_instr end i start is fits) h =
      let whole = decoded_whole (bytes_of o r.section) end r.offset 0 i is in
      let long : length_at (bytes_of o r.section) r.offset ≡ 4 = cond-true (is_long (half_at (bytes_of o r.section) r.offset)) 4 2 h in
      let inside = (start_inside o r.section r.offset end sound within start).in_bytes in
      omega (arith, whole, long, inside)

  pub number_there : IsPlace o r → HasNumber (bytes_of o r.section) r
  number_there place =
      let low = reloc_inside o r sound good in
      let least = width_least r.kind in
      record { half = omega (arith, low, least); full = full_there place; word = word_there }

-- the same of the bytes that a call gave
pub number_read : (o : ObjectParts) (r : Reloc) (bytes : List ℕ) → is_object o ≡ true → IsTrue (is_within o any_limit) → is_reloc o.sections o.symbols r ≡ true → IsPlace o r → bytes ≡ bytes_of o r.section → HasNumber bytes r
number_read o r bytes sound within good place same = subst (λ (b : List ℕ). HasNumber b r) (sym same) (number_there o r sound within good place)

pub right_number : (o : ObjectParts) (r : Reloc) (bytes : List ℕ) → is_object o ≡ true → IsTrue (is_within o any_limit) → (k : ℕ) × IsRight o k r → bytes ≡ bytes_of o r.section → HasNumber bytes r
right_number o r bytes sound within (k, right) same = number_read o r bytes sound within (reloc_sound o k r sound right.is_there) right.place same

-- a kind of relocation of a word is of no instruction
no_word_fits : (k : RelocKind) (long : Bool) (i : Instr) → is_word k ≡ true → fits_kind k long i ≡ true → ⊥
no_word_fits Abs32 long i h f = absurd (cc)
no_word_fits Target1 long i h f = absurd (cc)
no_word_fits ThmCall long i h f = absurd (cc)
no_word_fits ThmJump24 long i h f = absurd (cc)
no_word_fits MovwAbs long i h f = absurd (cc)
no_word_fits MovtAbs long i h f = absurd (cc)
no_word_fits ThmJump19 long i h f = absurd (cc)
no_word_fits ThmJump11 long i h f = absurd (cc)
no_word_fits ThmJump8 long i h f = absurd (cc)
no_word_fits (Other n) long i h f = absurd (cc)

module _ (o : ObjectParts) (r : Reloc) where
  -- a word in data or among code
  pub data_place : is_word r.kind ≡ true → holds_data (slice_get o.sections r.section) ≡ true → IsPlace o r
  data_place word h = go (slice_get o.sections r.section) refl h
    where
      go : (s : Option Section) → slice_get o.sections r.section ≡ s → holds_data s ≡ true → IsPlace o r
      go None e h = absurd (cc)
      go (Some s) e h = in_data s e h word

  pub word_place : is_word r.kind ≡ true → holds_data (slice_get o.sections r.section) ≡ false → IsPlace o r → IsDataWord o r.section r.offset
  word_place word none (in_data s at is _) = absurd (true≢false (sym (ap holds_data at ∙ is) ∙ none))
  word_place word none (in_code _ is) = is
  word_place word none (on_instr end i start is fits) = absurd (no_word_fits r.kind (is_long (half_at (bytes_of o r.section) r.offset)) i word fits)

  -- an instruction of the kind
  pub instr_place : (end : ℕ) (bytes : List ℕ) → bytes ≡ bytes_of o r.section → IsCodeStart o r.section (bytes_of o r.section) r.offset end
      → fits_answer r.kind (is_long (half_at bytes r.offset)) (instr_at bytes end r.offset 0) ≡ true → IsPlace o r
  instr_place end bytes same start fits =
      go (instr_at (bytes_of o r.section) end r.offset 0) refl
      (subst (λ (b : List ℕ). fits_answer r.kind (is_long (half_at b r.offset)) (instr_at b end r.offset 0) ≡ true) same fits)
    where
      go : (a : Answer) → instr_at (bytes_of o r.section) end r.offset 0 ≡ a → fits_answer r.kind (is_long (half_at (bytes_of o r.section) r.offset)) a ≡ true → IsPlace o r
      go (Ok i) e h = on_instr end i start e h
      go (Err b) e h = absurd (cc)

  pub place_instr : (end : ℕ) (bytes : List ℕ) → bytes ≡ bytes_of o r.section → is_word r.kind ≡ false → IsCodeStart o r.section (bytes_of o r.section) r.offset end → IsPlace o r
      → fits_answer r.kind (is_long (half_at bytes r.offset)) (instr_at bytes end r.offset 0) ≡ true
  place_instr end bytes same none start (in_data s at is word) = absurd (true≢false (sym word ∙ none))
  place_instr end bytes same none start (in_code word is) = absurd (true≢false (sym word ∙ none))
  place_instr end bytes same none start (on_instr other i begins is fits) =
      let e : other ≡ end = start_unique o r.section r.offset other end (bytes_of o r.section) begins start in
      let b : instr_at bytes end r.offset 0 ≡ Ok i = ap (λ (b : List ℕ). instr_at b end r.offset 0) same ∙ ap (λ (n : ℕ). instr_at (bytes_of o r.section) n r.offset 0) (sym e) ∙ is in
      ap (λ (b : List ℕ). fits_answer r.kind (is_long (half_at b r.offset)) (instr_at bytes end r.offset 0)) same
      ∙ ap (λ (a : Answer). fits_answer r.kind (is_long (half_at (bytes_of o r.section) r.offset)) a) b ∙ fits

  pub place_start : is_word r.kind ≡ false → IsPlace o r → (end : ℕ) × IsCodeStart o r.section (bytes_of o r.section) r.offset end
  place_start none (in_data s at is word) = absurd (true≢false (sym word ∙ none))
  place_start none (in_code word is) = absurd (true≢false (sym word ∙ none))
  place_start none (on_instr end i start is fits) = (end, start)
