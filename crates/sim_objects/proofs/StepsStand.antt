-- The instructions of a unit stand in the hardened image, with what linking puts there.
use Rattle.std.specs.Prelude.{◌≡◌, ◌<◌, ◌≤◌, ℕ, ◌+◌, ◌-◌, ◌%◌, ◌^◌, true, false, List, Option, Some, Ok, slice_get, Contains, refl}
use Rattle.std.proofs.Common.{arith, inl, inr, ap, sym, ◌∙◌, subst}
use Rattle.std.proofs.lemmas.Bool.{both_ways}
use Rattle.std.proofs.lemmas.Option.{same_Some}
use Rattle.elf_model.specs.declared.objects.Reloc.{Reloc}
use Rattle.elf_model.specs.declared.objects.RelocKind.{RelocKind}
use Rattle.elf_model.specs.declared.objects.RelocKind.TheVariants.{Abs32, Target1, ThmCall, ThmJump24, MovwAbs, MovtAbs, ThmJump19, ThmJump11, ThmJump8, Other}
use Rattle.elf_model.specs.Objects.{ObjectParts, is_code}
use Rattle.elf_model.specs.Ranges.{length_at}
use Rattle.elf_model.proofs.Elements.{contains_at}
use Rattle.code_ranges.specs.CodeRanges.{holds_code}
use Rattle.mark_word.specs.declared.marks.Mark.{Mark}
use Rattle.thumb_instr.specs.declared.instructions.Instr.{Instr}
use Rattle.thumb_instr.specs.declared.instructions.Instr.TheVariants as instr
use Rattle.thumb_instr.specs.Fields.{HalfFields, BranchFields, CallFields}
use Rattle.thumb_instr.specs.Meanings.{signed}
use Rattle.thumb_instr.specs.Numbers.{renumbered}
use Rattle.thumb_instr.specs.Rows.{Answer}
use Rattle.thumb_table.specs.declared.placements.Placement.{Placement}
use Rattle.thumb_table.specs.Parts.{Image}
use Rattle.thumb_table.specs.Layouts.{Placed, all_placed, part_of}
use Rattle.thumb_table.specs.Links.{Link, IsLink, place_of, sum_of, offset_of, full, target_of, value_of}
use Rattle.thumb_table.specs.Values.{away}
use Rattle.reloc_places.specs.Starts.{bytes_of, decoded_at}
use Rattle.reloc_places.specs.Relocations.{is_jump, fits_kind, reloc_at}
use Rattle.reloc_places.proofs.StartFacts.{length_least, start_before, start_behind}
use Rattle.flow_recover.specs.declared.flows.Point.{Point}
use Rattle.hardened_form.specs.Places.{UnitPlace}
use Rattle.hardened_form.specs.Standing.{units}
use Rattle.hardened_form.specs.Relocs.{IsNewReloc, of_data, of_step, of_word}
use Rattle.sim_images.specs.Counterparts.{SameSense, Answers}
use Rattle.sim_images.specs.ImageLaws.{Here}
use Rattle.sim_images.specs.CodeLaws.{IsLinkedInstr, alone, linked}
use Rattle.sim_images.specs.PairLaws.{SameValue}
use Rattle.sim_answers.specs.Units.{code_end}
use Rattle.sim_answers.specs.Forms.{DoAnswer, new_places}
use Rattle.sim_answers.proofs.Pairs.{zip_left}
use Rattle.sim_answers.proofs.Placed.{reloc_at_is}
use Rattle.sim_answers.proofs.DataAnswered.{code_of_point, word_listed}
use Rattle.sim_answers.proofs.RelocsStand.{of_step_is, step_answers, code_section}
use Rattle.sim_answers.proofs.CodeWords.{HasWord, word_beside}
use Rattle.sim_answers.proofs.RightRelocs.{word_there}
use Rattle.sim_relation.specs.Sequences.{PlacedStep}
use Rattle.sim_relation.specs.Standing.{Linking, IsPut, IsLinked, linked_mark}
use Rattle.sim_objects.specs.Lists.{Pairing, plains, hards, HaveImages}
use Rattle.sim_objects.specs.UnitLinks.{moved_in}
use Rattle.sim_objects.proofs.Walked.{StepIn}
use Rattle.sim_objects.proofs.OneUnit.{one_unit}
use Rattle.sim_objects.proofs.Puts.{away_signed, jump_value, Puts, Agrees, agrees}
use Rattle.sim_objects.proofs.Twins.{form, hard_there, plain_link, meet}

branch_jumps : (k : RelocKind) (b : BranchFields) → fits_kind k true (instr.Branch b) ≡ true → is_jump k ≡ true
branch_jumps ThmCall b f = refl
branch_jumps ThmJump24 b f = refl
branch_jumps ThmJump19 b f = refl
branch_jumps ThmJump11 b f = refl
branch_jumps ThmJump8 b f = refl
branch_jumps Abs32 b f = absurd (both_ways false refl f)
branch_jumps Target1 b f = absurd (both_ways false refl f)
branch_jumps MovwAbs b f = absurd (both_ways false refl f)
branch_jumps MovtAbs b f = absurd (both_ways false refl f)
branch_jumps (Other n) b f = absurd (both_ways false refl f)

call_jumps : (k : RelocKind) (b : CallFields) → fits_kind k true (instr.Call b) ≡ true → is_jump k ≡ true
call_jumps ThmCall b f = refl
call_jumps ThmJump24 b f = refl
call_jumps ThmJump19 b f = refl
call_jumps ThmJump11 b f = refl
call_jumps ThmJump8 b f = refl
call_jumps Abs32 b f = absurd (both_ways false refl f)
call_jumps Target1 b f = absurd (both_ways false refl f)
call_jumps MovwAbs b f = absurd (both_ways false refl f)
call_jumps MovtAbs b f = absurd (both_ways false refl f)
call_jumps (Other n) b f = absurd (both_ways false refl f)

half_stays : (k : RelocKind) (b : HalfFields) → fits_kind k true (instr.Half b) ≡ true → is_jump k ≡ false
half_stays Abs32 b f = refl
half_stays Target1 b f = refl
half_stays MovwAbs b f = refl
half_stays MovtAbs b f = refl
half_stays (Other n) b f = refl
half_stays ThmCall b f = absurd (both_ways false refl f)
half_stays ThmJump24 b f = absurd (both_ways false refl f)
half_stays ThmJump19 b f = absurd (both_ways false refl f)
half_stays ThmJump11 b f = absurd (both_ways false refl f)
half_stays ThmJump8 b f = absurd (both_ways false refl f)

same_ok : (i j : Instr) → (let a : Answer = Ok i in a) ≡ Ok j → i ≡ j
same_ok i j e = cc

-- a branch with the offset that linking makes leads to the link's target
leads_to : (parts : List Placed) (l : Link) (a : ℕ) → place_of l ≡ a → a < 2 ^ 32 → is_jump l.reloc.kind ≡ true → away (a + 4) (signed 32 (value_of parts l)) ≡ target_of parts l
leads_to parts l a place low jump =
    let value : value_of parts l ≡ offset_of parts l = jump_value l.reloc.kind jump (offset_of parts l) (full parts l) in
    ap (λ (n : ℕ). away (a + 4) (signed 32 n)) value ∙ (away_signed (a + 4) (offset_of parts l) (below (sum_of parts l) (place_of l)) ∙ sums (sum_of parts l) (place_of l) a place low)
  where
    below : (s p : ℕ) → (s + 2 ^ 32 - p) % 2 ^ 32 < 2 ^ 32
    below s p = omega arith

    sums : (s p a : ℕ) → p ≡ a → a < 2 ^ 32 → (a + 4 + (s + 2 ^ 32 - p) % 2 ^ 32) % 2 ^ 32 ≡ (s + 4) % 2 ^ 32
    sums s p a e l = omega (arith, e, l)

module _ (F c K : ℕ) (pairs : List (Pairing F c K)) (at : Placement) (plain hard : Image) (images : HaveImages F c K pairs at plain hard)
    (do_answer : DoAnswer (plains pairs) (hards pairs) (moved_in pairs)) where
  -- what is put for a link at an instruction that fits it
  is_put : (l : Link) (link : Linking) (a : ℕ) (i : Instr) → Agrees F c K pairs at plain hard images do_answer l link → place_of l ≡ a → a < 2 ^ 32 → fits_kind l.reloc.kind true i ≡ true
      → IsPut link a i (renumbered (value_of (all_placed (hards pairs) at) l) i)
  is_put l link a (instr.Branch b) agree place low fits =
      let jump = branch_jumps l.reloc.kind b fits in
      (signed 32 (value_of (all_placed (hards pairs) at) l), leads_to (all_placed (hards pairs) at) l a place low jump ∙ sym (agree.target jump), refl)
  is_put l link a (instr.Call b) agree place low fits =
      let jump = call_jumps l.reloc.kind b fits in
      (signed 32 (value_of (all_placed (hards pairs) at) l), leads_to (all_placed (hards pairs) at) l a place low jump ∙ sym (agree.target jump), refl)
  is_put l link a (instr.Half b) agree place low fits = ap (λ (n : ℕ). instr.Half (record b { imm = n })) (sym (agree.number (half_stays l.reloc.kind b fits)))
  is_put l link a i agree place low fits = refl

  module _ (i : ℕ) (q : Pairing F c K) (is_pair : slice_get pairs i ≡ Some q) (x : Point) (u : UnitPlace) (listed : Contains (units q.pair.flow q.pair.certificate.places) (x, u)) where
    -- A link that stands at an instruction of the unit is of the point's relocation.
    pub record OfPoint (l : Link) (i_now : Instr) : Type 0 where
      pub old : Link
      pub is_old : IsLink (plains pairs) at old
      pub old_file : old.file ≡ i
      pub reloc : x.reloc ≡ Some old.number
      pub sense : SameSense old.reloc l.reloc
      pub value : SameValue (plains pairs) (hards pairs) at (moved_in pairs) old l
      pub fits : fits_kind l.reloc.kind true i_now ≡ true

    code : holds_code (slice_get q.plain.sections x.section) ≡ true
    code = code_of_point q.plain q.hard q.pair.flow q.pair.certificate.places q.pair.certificate.carriers (form F c K pairs at plain hard images do_answer i q is_pair) x (zip_left q.pair.flow.points q.pair.certificate.places.units (x, u) listed)

    of_point : (l : Link) → IsLink (hards pairs) at l → l.file ≡ i → l.object ≡ q.hard → (a : ℕ) (now : Instr) → l.reloc.section ≡ x.section → l.reloc.offset ≡ a → u.start ≤ a → a < code_end u
        → decoded_at (bytes_of q.hard x.section) a 0 ≡ Ok now → IsNewReloc q.plain q.pair.flow q.pair.certificate.places q.pair.certificate.carriers q.pair.form.lists l.reloc → OfPoint l now
    of_point l il file object a now section offset low high means (of_data k r s at_section other stands) =
        absurd (both_ways (is_code s) other (sym (ap holds_code at_section) ∙ (ap (λ (j : ℕ). holds_code (slice_get q.plain.sections j)) (sym stands.section ∙ section) ∙ code)))
    of_point l il file object a now section offset low high means (of_word k r w y word point stands) =
        let its = form F c K pairs at plain hard images do_answer i q is_pair in
        let f = q.pair.flow in
        let p = q.pair.certificate.places in
        let cs = q.pair.certificate.carriers in
        let t = code_section q.plain q.hard f p cs its x.section code in
        let place = reloc_at_is q.plain w.section w.offset k r (sym ((q.pair.accepted.flow.words w).0 (word_listed q.plain q.hard f p cs its w y word)).reloc ∙ point) stands.there in
        let same : w.section ≡ x.section = sym place.0 ∙ (sym stands.section ∙ section) in
        let there : y ≡ a = sym stands.offset ∙ offset in
        elim (word_beside q.plain q.hard f p cs its x.section t.0 t.1 t.2 x u listed refl y (subst (λ (j : ℕ). HasWord f p j y) same (word_there q.plain q.hard f p cs its w y word))) [
          | inl under ↦ absurd (omega (arith, under, low, there))
          | inr over ↦ absurd (omega (arith, over, high, there))
        ]
    of_point l il file object a now section offset low high means (of_step k r z d carrier point stands) =
        let its = form F c K pairs at plain hard images do_answer i q is_pair in
        let f = q.pair.flow in
        let p = q.pair.certificate.places in
        let cs = q.pair.certificate.carriers in
        let t = code_section q.plain q.hard f p cs its x.section code in
        let s = of_step_is q.plain q.hard f p cs its k r z d l.reloc carrier point stands in
        let same : z.section ≡ x.section = sym s.section ∙ (sym stands.section ∙ section) in
        let there : d.at ≡ a = sym stands.offset ∙ offset in
        let from = start_behind (bytes_of q.hard z.section) s.unit.start (code_end s.unit) d.at s.step in
        let below = start_before (bytes_of q.hard z.section) s.unit.start (code_end s.unit) d.at s.step in
        let one : x ≡ z = one_unit q.plain q.hard f p cs its x.section t.0 t.1 t.2 x z u s.unit listed s.placed refl same a low high (omega (arith, from, there)) (omega (arith, below, there)) in
        let old = plain_link F c K pairs at plain hard images do_answer i q is_pair k r stands.there in
        let a2 = step_answers q.plain q.hard f p cs its k r z d l.reloc carrier point stands in
        let sense : SameSense old.link.reloc l.reloc = subst (λ (v : Reloc). SameSense v l.reloc) (sym old.reloc) a2.0 in
        let here : decoded_at (bytes_of q.hard x.section) a 0 ≡ Ok d.instr =
        ap (λ (j : ℕ). decoded_at (bytes_of q.hard j) a 0) (sym same) ∙ (ap (λ (n : ℕ). decoded_at (bytes_of q.hard z.section) n 0) (sym there) ∙ s.carried.there) in
        let same_instr : d.instr ≡ now = same_ok d.instr now (sym here ∙ means) in
        record {
          old = old.link;
          is_old = old.is;
          old_file = old.file;
          reloc = ap (λ (v : Point). v.reloc) one ∙ (point ∙ ap (λ (n : ℕ). Some n) (sym old.number));
          sense = sense;
          value = meet F c K pairs at plain hard images do_answer i q is_pair old.link l old.is il old.file file old.object object sense (subst (λ (v : Reloc). Answers q.plain q.hard (new_places its) v l.reloc) (sym old.reloc) a2.1);
          fits = subst (λ (v : Instr). fits_kind l.reloc.kind true v ≡ true) same_instr (ap (λ (v : RelocKind). fits_kind v true d.instr) stands.kind ∙ s.carried.fits);
        }

    -- the part that the unit lies in
    module _ (part : Placed) (here : Here (hards pairs) at i q.hard x.section part) (high : part.start + part.section.size ≤ 0x7FFFF000) (link : Linking)
        (fit : (l : Link) → IsLink (plains pairs) at l → l.file ≡ i → x.reloc ≡ Some l.number → Puts F c K pairs at plain hard images do_answer l link) where
      pub record PutThere (a : ℕ) (r : Option ℕ) (was now : Instr) (mark : Mark) : Type 0 where
        pub linked : IsLinked link a r was now
        pub marked : mark ≡ linked_mark link r

      pub put_there : (t : PlacedStep) → StepIn q.hard x.section u.start (code_end u) u.start (code_end u) t → part.start + t.at < 2 ^ 32 → (r : Option ℕ) (now : Instr) (mark : Mark)
          → IsLinkedInstr (hards pairs) at i t.instr r now mark → reloc_at q.hard x.section t.at ≡ r → PutThere (part.start + t.at) r t.instr now mark
      put_there t in_unit low _ _ _ (alone y) e = record { linked = refl; marked = refl }
      put_there t in_unit low _ _ _ (linked l y il file) e =
          let object : l.object ≡ q.hard = same_Some l.object q.hard (sym il.object ∙ (ap (λ (n : ℕ). slice_get (hards pairs) n) file ∙ hard_there F c K pairs at plain hard images do_answer i q is_pair)) in
          let there : slice_get q.hard.relocs l.number ≡ Some l.reloc = subst (λ (z : ObjectParts). slice_get z.relocs l.number ≡ Some l.reloc) object il.reloc in
          let place = reloc_at_is q.hard x.section t.at l.number l.reloc e there in
          let from = in_unit.low in
          let wide = in_unit.high in
          let width : t.width ≡ length_at (bytes_of q.hard x.section) t.at = in_unit.is.width in
          let least = length_least (bytes_of q.hard x.section) t.at in
          let o = of_point l il file object t.at t.instr place.0 place.1 from (omega (arith, wide, width, least)) in_unit.is.instr ((q.pair.form.tables.relocs.exact l.reloc).0 (contains_at q.hard.relocs l.number l.reloc there)) in
          let agree = agrees F c K pairs at plain hard images do_answer o.old l link o.sense o.value (fit o.old o.is_old o.old_file o.reloc) in
          let its_part : l.part ≡ part = same_Some l.part part (sym il.part ∙ (ap (λ (n : ℕ). part_of (all_placed (hards pairs) at) n l.reloc.section) file ∙ (ap (λ (n : ℕ). part_of (all_placed (hards pairs) at) i n) place.0 ∙ here.part))) in
          let address : place_of l ≡ part.start + t.at = ap (λ (z : Placed). z.start + l.reloc.offset) its_part ∙ ap (λ (n : ℕ). part.start + n) place.1 in
          record { linked = is_put l link (part.start + t.at) t.instr agree address low o.fits; marked = sym agree.mark }
