-- The instruction of a point with a relocation is of the relocation's kind, and has the number that the place has.
use Rattle.std.proofs.Common.{◌≡◌, ℕ, ◌+◌, Bool, true, false, cond, List, refl, sym, ap, ◌∙◌, subst, arith, Some, None, Ok, Err}
use Rattle.std.specs.Prelude.{slice_get, ◌==◌, not}
use Rattle.std.proofs.lemmas.Bool.{and_parts, eqb-true, eq-eqb, both_ways}
use Rattle.std.proofs.lemmas.Option.{same_Some}
use Rattle.elf_model.specs.declared.objects.Section.{Section}
use Rattle.elf_model.specs.declared.objects.Reloc.{Reloc}
use Rattle.elf_model.specs.declared.objects.RelocKind.{RelocKind}
use Rattle.elf_model.specs.declared.refusals.Refusal.TheVariants as refusal
use Rattle.elf_model.specs.Fields.{half_at, word_at}
use Rattle.elf_model.specs.Objects.{ObjectParts, is_code, is_data, is_alloc}
use Rattle.elf_model.specs.Ranges.{is_long}
use Rattle.thumb_instr.specs.declared.instructions.Instr.{Instr}
use Rattle.thumb_instr.specs.declared.refusals.BadInstr.TheVariants.{Unpredictable}
use Rattle.thumb_instr.specs.declared.refusals.ItPlace.{ItPlace}
use Rattle.thumb_instr.specs.declared.refusals.ItPlace.TheVariants.{Outside}
use Rattle.thumb_instr.specs.Blocks.{place_in_block}
use Rattle.thumb_instr.specs.Numbers.{has_number, is_taken}
use Rattle.thumb_instr.specs.Rows.{is_wide, decode, decode_given}
use Rattle.thumb_instr.proofs.Numbers.{answers_taken}
use Rattle.reloc_places.specs.Starts.{bytes_of, IsDataWord, decoded_at}
use Rattle.reloc_places.specs.Relocations.{is_word, fits_kind, number_in, addend, IsPlace, in_data, in_code, on_instr}
use Rattle.flow_recover.specs.declared.flows.Point.{Point}
use Rattle.flow_recover.specs.Flows.{FlowParts}
use Rattle.flow_recover.specs.FlowFaults.{FlowFault as fault}
use Rattle.flow_recover.specs.WholeFlows.{IsFlow}
use Rattle.unit_layouts.proofs.PointFacts.{IsAtPoint, at_point, start_is_no_word, reloc_at_is, decoded_whole}

-- what is decided and not wrong is so
true_at_last : (b : Bool) → ((b ≡ true → ⊥) → ⊥) → b ≡ true
true_at_last true h = refl
true_at_last false h = absurd (h (λ e. both_ways false refl e))

same_at_last : (a b : ℕ) → ((a ≡ b → ⊥) → ⊥) → a ≡ b
same_at_last a b h = eqb-true a b (true_at_last (a == b) (λ other. h (λ e. other (eq-eqb a b e))))

-- an instruction with a number is the same in each IT state that takes it
given_is : (wide : Bool) (place : ItPlace) (h s : ℕ) → is_wide h ≡ wide → decode_given place h (cond wide (Some s) None) ≡ decode place h (cond wide s 0)
given_is true place h s e = refl
given_is false place h s e = rw e refl

taken_same : (b : Bool) (i j : Instr) → cond b (Ok i) (Err Unpredictable) ≡ Ok j → i ≡ j
taken_same true i j e = (cc)
taken_same false i j e = absurd (cc)

same_in_block : (bytes : List ℕ) (x it : ℕ) (i j : Instr) → decoded_at bytes x 0 ≡ Ok i → has_number i ≡ true → decoded_at bytes x it ≡ Ok j → i ≡ j
same_in_block bytes x it i j out number inside =
    let place = place_in_block it in
    let h = half_at bytes x in
    let s = cond (is_long h) (half_at bytes (x + 2)) 0 in
    let one : decode Outside h s ≡ Ok i = sym (given_is (is_long h) Outside h (half_at bytes (x + 2)) refl) ∙ out in
    let two : decode place h s ≡ Ok j = sym (given_is (is_long h) place h (half_at bytes (x + 2)) refl) ∙ inside in
    taken_same (is_taken place i) i j (sym ((answers_taken place (is_wide h) h s).taken i one number) ∙ two)

-- what a kind is of has a number, and is no word
fits_has : (kind : RelocKind) (long : Bool) (i : Instr) → fits_kind kind long i ≡ true → (has_number i ≡ true) × (is_word kind ≡ false)
fits_has kind long i e = grind arith

no_data : (s : Section) → is_code s ≡ true → is_data s ≡ true → ⊥
no_data s c d = let b = and_parts (is_alloc s.flags) (not (is_code s)) d in both_ways false refl (subst (λ (z : Bool). not z ≡ true) c b.1)

pub record FitsPlace (o : ObjectParts) (x : Point) (r : Reloc) : Type 0 where
  pub fits : fits_kind r.kind (is_long (half_at (bytes_of o r.section) r.offset)) x.instr ≡ true
  pub number : addend (bytes_of o r.section) r ≡ number_in (Ok x.instr)

right_fits : (o : ObjectParts) (x : Point) (r : Reloc) → IsAtPoint o x → r.section ≡ x.section → r.offset ≡ x.offset → IsPlace o r → FitsPlace o x r
right_fits o x r at section offset (in_data s there datum word) =
    let range = at.start.start.range in
    let same : range.section ≡ s = same_Some range.section s (sym range.is_there ∙ ap (slice_get o.sections) (sym section) ∙ there) in
    absurd (no_data s (subst (λ (t : Section). is_code t ≡ true) same range.in_code) datum)
right_fits o x r at section offset (in_code word data_word) =
    absurd (start_is_no_word o x.section x.offset at.start (subst (λ (j : ℕ). IsDataWord o j x.offset) section (subst (IsDataWord o r.section) offset data_word)))
right_fits o x r at section offset (on_instr end i start is fits) =
    let bytes : List ℕ = bytes_of o r.section in
    let out : decoded_at bytes r.offset 0 ≡ Ok i = decoded_whole bytes end r.offset 0 i is in
    let here : decoded_at bytes r.offset at.it ≡ Ok x.instr = ap (λ (j : ℕ). decoded_at (bytes_of o j) r.offset at.it) section ∙ ap (λ (a : ℕ). decoded_at (bytes_of o x.section) a at.it) offset ∙ at.instr in
    let has = fits_has r.kind (is_long (half_at bytes r.offset)) i fits in
    let same : i ≡ x.instr = same_in_block bytes r.offset at.it i x.instr out has.0 here in
    record {
      fits = subst (λ (z : Instr). fits_kind r.kind (is_long (half_at bytes r.offset)) z ≡ true) same fits;
      number = ap (λ (b : Bool). cond b (word_at bytes r.offset) (number_in (decoded_at bytes r.offset 0))) has.1 ∙ ap number_in out ∙ ap (λ (z : Instr). number_in (Ok z)) same;
    }

pub point_fits : (o : ObjectParts) (f : FlowParts) → IsFlow o f → (p : ℕ) (x : Point) → slice_get f.points p ≡ Some x → (k : ℕ) (r : Reloc) → x.reloc ≡ Some k → slice_get o.relocs k ≡ Some r → FitsPlace o x r
point_fits o f flow p x there k r reloc listed = record {
  fits = true_at_last (fits_kind r.kind (is_long (half_at (bytes_of o r.section) r.offset)) x.instr) (λ wrong. right_or (λ h. wrong h.fits));
  number = same_at_last (addend (bytes_of o r.section) r) (number_in (Ok x.instr)) (λ wrong. right_or (λ h. wrong h.number));
}
  where
    right_or : (FitsPlace o x r → ⊥) → ⊥
    right_or wrong =
        let at = at_point o f flow p x there in
        let place = reloc_at_is o x.section x.offset k r (sym at.reloc ∙ reloc) listed in
        flow.no_fault refusal.RelocKind r.section r.offset (fault.relocation k r listed (λ right. wrong (right_fits o x r at place.0 place.1 right.place)) refl refl refl)
