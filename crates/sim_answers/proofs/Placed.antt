-- The relocations of points and words of an object with a flow: where they stand and lead.
use Rattle.std.specs.Prelude.{◌≡◌, ℕ, ◌+◌, ◌==◌, ◌&&◌, not, Bool, true, false, cond, List, length, Some, None, Ok, Err, slice_get, Contains, refl}
use Rattle.std.proofs.Common.{arith, ap, sym, ◌∙◌, subst}
use Rattle.std.proofs.lemmas.Bool.{both_ways, and_parts, eqb-true, eq-eqb, ltb-true}
use Rattle.std.proofs.lemmas.Option.{same_Some, get_or_from_slice_get}
use Rattle.std.proofs.lemmas.List.Quantifiers.{position-Some}
use Rattle.elf_model.specs.declared.objects.Section.{Section}
use Rattle.elf_model.specs.declared.objects.Symbol.{Symbol}
use Rattle.elf_model.specs.declared.objects.Reloc.{Reloc}
use Rattle.elf_model.specs.declared.objects.RelocKind.{RelocKind}
use Rattle.elf_model.specs.declared.objects.RelocKind.TheVariants.{Abs32, Target1, ThmCall, ThmJump24, MovwAbs, MovtAbs, ThmJump19, ThmJump11, ThmJump8, Other}
use Rattle.elf_model.specs.Fields.{half_at, word_at}
use Rattle.elf_model.specs.Objects.{ObjectParts, is_object, is_code, is_data, is_placed, is_kind}
use Rattle.elf_model.specs.Ranges.{is_long}
use Rattle.elf_model.proofs.Elements.{element_at}
use Rattle.code_ranges.proofs.ObjectFacts.{reloc_sound}
use Rattle.thumb_instr.specs.declared.instructions.Instr.{Instr}
use Rattle.thumb_instr.specs.declared.instructions.Instr.TheVariants as instr
use Rattle.thumb_instr.specs.declared.refusals.ItPlace.{ItPlace}
use Rattle.thumb_instr.specs.declared.refusals.ItPlace.TheVariants.{Outside}
use Rattle.thumb_instr.specs.declared.refusals.BadInstr.TheVariants.{Unpredictable}
use Rattle.thumb_instr.specs.Blocks.{place_in_block}
use Rattle.thumb_instr.specs.Numbers.{has_number, is_taken}
use Rattle.thumb_instr.specs.Rows.{is_wide, decode, decode_given}
use Rattle.thumb_instr.proofs.Numbers.{answers_taken}
use Rattle.reloc_places.specs.Starts.{bytes_of, IsDataWord, decoded_at}
use Rattle.reloc_places.specs.Relocations.{is_word, is_jump, is_bl, is_b, fits_kind, IsPlace, in_data, in_code, on_instr, IsRight, number_in, addend, reloc_at}
use Rattle.reloc_places.proofs.StartFacts.{start_before, start_behind}
use Rattle.flow_recover.specs.declared.flows.Point.{Point}
use Rattle.flow_recover.specs.Flows.{FlowParts}
use Rattle.flow_recover.specs.Aims.{has_offset}
use Rattle.flow_recover.specs.WholeFlows.{IsFlow}
use Rattle.sim_images.proofs.RightPlaces.{decoded_whole, no_both}
use Rattle.sim_answers.proofs.PointPlaces.{IsAtPoint, at_point}

-- the relocation at a place stands there
pub reloc_at_is : (o : ObjectParts) (j x k : ℕ) (r : Reloc) → reloc_at o j x ≡ Some k → slice_get o.relocs k ≡ Some r → (r.section ≡ j) × (r.offset ≡ x)
reloc_at_is o j x k r at there =
    let h = position-Some (λ (q : Reloc). (q.section == j) && (q.offset == x)) o.relocs k r at in
    let same = get_or_from_slice_get o.relocs k r r there in
    let parts = and_parts (r.section == j) (r.offset == x) (sym (ap (λ (q : Reloc). (q.section == j) && (q.offset == x)) same) ∙ h.1) in
    (eqb-true r.section j parts.0, eqb-true r.offset x parts.1)

-- the symbol of a relocation
pub symbol_of : (o : ObjectParts) (k : ℕ) (r : Reloc) → is_object o ≡ true → slice_get o.relocs k ≡ Some r → (s : Symbol) × (slice_get o.symbols r.symbol ≡ Some s)
symbol_of o k r sound there =
    let parts = and_parts (is_placed r (slice_get o.sections r.section) && is_kind r.kind) _ (reloc_sound o k r sound there) in
    element_at o.symbols r.symbol (ltb-true r.symbol (length o.symbols) parts.1)

-- what is decided and not wrong is so
pub true_at_last : (b : Bool) → ((b ≡ true → ⊥) → ⊥) → b ≡ true
true_at_last true h = refl
true_at_last false h = absurd (h (λ e. both_ways false refl e))

pub false_at_last : (b : Bool) → ((b ≡ false → ⊥) → ⊥) → b ≡ false
false_at_last true h = absurd (h (λ e. both_ways true e refl))
false_at_last false h = refl

pub same_at_last : (a b : ℕ) → ((a ≡ b → ⊥) → ⊥) → a ≡ b
same_at_last a b h = eqb-true a b (true_at_last (a == b) (λ other. h (λ e. other (eq-eqb a b e))))

-- an instruction with a number is the same in each IT state that takes it
second : List ℕ → ℕ → ℕ
second bytes x = cond (is_long (half_at bytes x)) (half_at bytes (x + 2)) 0

given_is : (wide : Bool) (place : ItPlace) (h s : ℕ) → is_wide h ≡ wide → decode_given place h (cond wide (Some s) None) ≡ decode place h (cond wide s 0)
given_is true place h s e = refl
given_is false place h s e = rw e refl

taken_same : (b : Bool) (i j : Instr) → cond b (Ok i) (Err Unpredictable) ≡ Ok j → i ≡ j
taken_same true i j e = (cc)
taken_same false i j e = absurd (cc)

pub same_in_block : (bytes : List ℕ) (x it : ℕ) (i j : Instr) → decoded_at bytes x 0 ≡ Ok i → has_number i ≡ true → decoded_at bytes x it ≡ Ok j → i ≡ j
same_in_block bytes x it i j out number inside =
    let place = place_in_block it in
    let h = half_at bytes x in
    let s = cond (is_long h) (half_at bytes (x + 2)) 0 in
    let one : decode Outside h s ≡ Ok i = sym (given_is (is_long h) Outside h (half_at bytes (x + 2)) refl) ∙ out in
    let two : decode place h s ≡ Ok j = sym (given_is (is_long h) place h (half_at bytes (x + 2)) refl) ∙ inside in
    taken_same (is_taken place i) i j (sym ((answers_taken place (is_wide h) h s).taken i one number) ∙ two)

jump_has : (kind : RelocKind) (long : Bool) (i : Instr) → is_jump kind ≡ true → fits_kind kind long i ≡ true → (has_number i ≡ true) × (has_offset i ≡ true)
jump_has kind long i jump fits = go kind long i jump fits
  where
    bl : (i : Instr) → is_bl i ≡ true → (has_number i ≡ true) × (has_offset i ≡ true)
    bl (instr.Call i) e = (refl, refl)
    bl i e = absurd (cc)

    b : (conditional : Bool) (i : Instr) → is_b conditional i ≡ true → (has_number i ≡ true) × (has_offset i ≡ true)
    b conditional (instr.Branch i) e = (refl, refl)
    b conditional i e = absurd (cc)

    go : (kind : RelocKind) (long : Bool) (i : Instr) → is_jump kind ≡ true → fits_kind kind long i ≡ true → (has_number i ≡ true) × (has_offset i ≡ true)
    go Abs32 long i j f = absurd (cc)
    go Target1 long i j f = absurd (cc)
    go MovwAbs long i j f = absurd (cc)
    go MovtAbs long i j f = absurd (cc)
    go (Other n) long i j f = absurd (cc)
    go ThmCall long i j f = bl i f
    go ThmJump24 long i j f = b false i (and_parts long (is_b false i) f).1
    go ThmJump19 long i j f = b true i (and_parts long (is_b true i) f).1
    go ThmJump11 long i j f = b false i (and_parts (not long) (is_b false i) f).1
    go ThmJump8 long i j f = b true i (and_parts (not long) (is_b true i) f).1

pub word_no_jump : (k : RelocKind) → is_word k ≡ true → is_jump k ≡ false
word_no_jump Abs32 e = refl
word_no_jump Target1 e = refl
word_no_jump ThmCall e = absurd (cc)
word_no_jump ThmJump24 e = absurd (cc)
word_no_jump MovwAbs e = absurd (cc)
word_no_jump MovtAbs e = absurd (cc)
word_no_jump ThmJump19 e = absurd (cc)
word_no_jump ThmJump11 e = absurd (cc)
word_no_jump ThmJump8 e = absurd (cc)
word_no_jump (Other n) e = absurd (cc)

-- A relocation of a point: it is at its place.
pub record IsOfPoint (f : FlowParts) (k : ℕ) : Type 0 where
  pub point : Point
  pub listed : Contains f.points point
  pub reloc : point.reloc ≡ Some k

-- the instruction of a point that has the relocation of a branch or call
pub jump_at : (o : ObjectParts) (f : FlowParts) → IsFlow o f → (k : ℕ) (r : Reloc) (x : IsOfPoint f k) → IsRight o k r → is_jump r.kind ≡ true
    → (r.section ≡ x.point.section) × (r.offset ≡ x.point.offset) × (has_offset x.point.instr ≡ true)
jump_at o f flow k r x right jump =
    let at = at_point o f flow x.point x.listed in
    let here = reloc_at_is o x.point.section x.point.offset k r (sym at.reloc ∙ x.reloc) right.is_there in
    (here.0, here.1, go at here right.place)
  where
    go : IsAtPoint o x.point → (r.section ≡ x.point.section) × (r.offset ≡ x.point.offset) → IsPlace o r → has_offset x.point.instr ≡ true
    go at here (in_data s there datum word) = absurd (both_ways (is_jump r.kind) (word_no_jump r.kind word) jump)
    go at here (in_code word data_word) = absurd (both_ways (is_jump r.kind) (word_no_jump r.kind word) jump)
    go at here (on_instr end i start is fits) =
        let d = decoded_whole (bytes_of o r.section) end r.offset 0 i is in
        let out : decoded_at (bytes_of o x.point.section) x.point.offset 0 ≡ Ok i =
        sym (ap (λ (j : ℕ). decoded_at (bytes_of o j) r.offset 0) here.0 ∙ ap (λ (a : ℕ). decoded_at (bytes_of o x.point.section) a 0) here.1) ∙ d.1 in
        let has = jump_has r.kind (is_long (half_at (bytes_of o r.section) r.offset)) i jump fits in
        subst (λ (z : Instr). has_offset z ≡ true) (same_in_block (bytes_of o x.point.section) x.point.offset at.it i x.point.instr out has.0 at.instr) has.1

-- a relocation of data is of words
pub data_kind : (o : ObjectParts) (r : Reloc) (s : Section) → slice_get o.sections r.section ≡ Some s → is_code s ≡ false → IsPlace o r → (is_data s ≡ true) × (is_word r.kind ≡ true)
data_kind o r s there other (in_data t at datum word) = (ap is_data (same_Some s t (sym there ∙ at)) ∙ datum, word)
data_kind o r s there other (in_code word at) =
    let same = same_Some at.range.section s (sym at.range.is_there ∙ there) in
    absurd (both_ways (is_code s) other (subst (λ (z : Section). is_code z ≡ true) same at.range.in_code))
data_kind o r s there other (on_instr end i at is fits) =
    let same = same_Some at.range.section s (sym at.range.is_there ∙ there) in
    absurd (both_ways (is_code s) other (subst (λ (z : Section). is_code z ≡ true) same at.range.in_code))

-- so is one of a word among code
pub word_kind : (o : ObjectParts) (r : Reloc) → IsDataWord o r.section r.offset → IsPlace o r → is_word r.kind ≡ true
word_kind o r w (in_data s there datum word) = word
word_kind o r w (in_code word at) = word
word_kind o r w (on_instr end i at is fits) =
    let a = start_before (bytes_of o r.section) at.start end r.offset at.is_start in
    let b = start_behind (bytes_of o r.section) at.start end r.offset at.is_start in
    let low = w.behind_start in
    let high = w.before_end in
    absurd (no_both o r.section at.start end w.start w.end r.offset at.range w.range b a low (omega arith))

pub word_addend : (bytes : List ℕ) (r : Reloc) → is_word r.kind ≡ true → addend bytes r ≡ word_at bytes r.offset
word_addend bytes r e = ap (λ (b : Bool). cond b (word_at bytes r.offset) (number_in (decoded_at bytes r.offset 0))) e
