-- The words that points load stand in the hardened image, with what linking puts there.
use Rattle.std.specs.Prelude.{◌≡◌, ◌<◌, ◌≤◌, ℕ, ◌+◌, ◌-◌, ◌%◌, ◌^◌, nat_le, Bool, true, false, cond, List, [], length, take, drop, Option, Some, None, slice_get, Contains, refl}
use Rattle.std.proofs.Common.{arith, inl, inr, ap, sym, ◌∙◌, subst}
use Rattle.std.proofs.lemmas.Bool.{both_ways, le-leb, and_from}
use Rattle.std.proofs.lemmas.Option.{none-some, same_Some}
use Rattle.byteorder.specs.Endian.{little_number}
use Rattle.byteorder.specs.Numbers.{little_from-take, little_number-reads_back}
use Rattle.elf_model.specs.declared.objects.Section.{Section}
use Rattle.elf_model.specs.declared.objects.Reloc.{Reloc}
use Rattle.elf_model.specs.declared.objects.RelocKind.{RelocKind}
use Rattle.elf_model.specs.declared.objects.RelocKind.TheVariants.{Abs32, Target1, ThmCall, ThmJump24, MovwAbs, MovtAbs, ThmJump19, ThmJump11, ThmJump8, Other}
use Rattle.elf_model.specs.Fields.{word, word_at}
use Rattle.elf_model.specs.Objects.{ObjectParts, is_code, even}
use Rattle.elf_model.proofs.Elements.{contains_at}
use Rattle.code_ranges.specs.CodeRanges.{holds_code}
use Rattle.mark_word.specs.declared.marks.Mark.TheVariants.{Plain}
use Rattle.thumb_table.specs.declared.placements.Placement.{Placement}
use Rattle.thumb_table.specs.Parts.{Image}
use Rattle.thumb_table.specs.Layouts.{Placed, all_placed, part_of}
use Rattle.thumb_table.specs.Names.{is_function}
use Rattle.thumb_table.specs.Links.{Link, IsLink, place_of, sum_of, offset_of, full, value_for}
use Rattle.thumb_table.specs.Effects.{lies, mark_at}
use Rattle.reloc_places.specs.Starts.{bytes_of, IsDataWord}
use Rattle.reloc_places.specs.Relocations.{is_word, reloc_at}
use Rattle.reloc_places.proofs.StartFacts.{start_before, start_behind}
use Rattle.flow_recover.specs.declared.flows.Point.{Point}
use Rattle.flow_recover.specs.declared.flows.PoolWord.{PoolWord}
use Rattle.hardened_form.specs.Places.{UnitPlace}
use Rattle.hardened_form.specs.Standing.{units}
use Rattle.hardened_form.specs.Relocs.{IsWordOf, IsNewReloc, of_data, of_step, of_word}
use Rattle.hardened_form.specs.Code.{word_number, reloc_of}
use Rattle.sim_images.specs.ImageLaws.{Here}
use Rattle.sim_images.proofs.ImageFacts.{code_inside}
use Rattle.sim_images.proofs.PlainWords.{word_as_is}
use Rattle.sim_images.proofs.Words.{word_linked}
use Rattle.sim_answers.specs.Units.{code_end}
use Rattle.sim_answers.specs.Forms.{DoAnswer}
use Rattle.sim_answers.proofs.Pairs.{zip_left}
use Rattle.sim_answers.proofs.PointPlaces.{point_word}
use Rattle.sim_answers.proofs.Placed.{reloc_at_is, word_no_jump}
use Rattle.sim_answers.proofs.DataAnswered.{code_of_point, word_listed}
use Rattle.sim_answers.proofs.RelocsStand.{of_step_is, of_word_kind, code_section}
use Rattle.sim_answers.proofs.CodeWords.{HasWord, word_beside, word_inside}
use Rattle.sim_answers.proofs.RightRelocs.{word_there}
use Rattle.sim_answers.proofs.UnitsStand.{units_stand}
use Rattle.sim_relation.specs.Standing.{Linking, WordStands}
use Rattle.sim_objects.specs.Lists.{Pairing, plains, hards, HaveImages}
use Rattle.sim_objects.specs.UnitLinks.{moved_in}
use Rattle.sim_objects.proofs.OneUnit.{one_word}
use Rattle.sim_objects.proofs.Puts.{Puts, agrees}
use Rattle.sim_objects.proofs.Twins.{form, reloc_there, word_twin}

-- the number in four bytes
four_read : (b c : List ℕ) (p r : ℕ) → take 4 (drop p b) ≡ take 4 (drop r c) → word_at b p ≡ word_at c r
four_read b c p r e = sym (little_from-take 0 4 4 (drop p b) (omega arith)) ∙ (ap (little_number 4) e ∙ little_from-take 0 4 4 (drop r c) (omega arith))

number_read : (b : List ℕ) (p n : ℕ) → take 4 (drop p b) ≡ word n → n < 2 ^ 32 → word_at b p ≡ n
number_read b p n e l = sym (little_from-take 0 4 4 (drop p b) (omega arith)) ∙ (ap (little_number 4) e ∙ little_number-reads_back 4 n [] l)

full_low : (parts : List Placed) (l : Link) → full parts l < 2 ^ 32
full_low parts l = go (is_function parts l.meant) (sum_of parts l) (low _)
  where
    low : (n : ℕ) → n % 2 ^ 32 < 2 ^ 32
    low n = omega arith

    go : (b : Bool) (n : ℕ) → n < 2 ^ 32 → cond b (even n + 1) n < 2 ^ 32
    go true n h = omega arith
    go false n h = h

word_value : (k : RelocKind) → is_word k ≡ true → (a f : ℕ) → value_for k a f ≡ f
word_value Abs32 w a f = refl
word_value Target1 w a f = refl
word_value ThmCall w a f = absurd (both_ways false refl w)
word_value ThmJump24 w a f = absurd (both_ways false refl w)
word_value MovwAbs w a f = absurd (both_ways false refl w)
word_value MovtAbs w a f = absurd (both_ways false refl w)
word_value ThmJump19 w a f = absurd (both_ways false refl w)
word_value ThmJump11 w a f = absurd (both_ways false refl w)
word_value ThmJump8 w a f = absurd (both_ways false refl w)
word_value (Other n) w a f = absurd (both_ways false refl w)

module _ (F c K : ℕ) (pairs : List (Pairing F c K)) (at : Placement) (plain hard : Image) (images : HaveImages F c K pairs at plain hard)
    (do_answer : DoAnswer (plains pairs) (hards pairs) (moved_in pairs)) where
  module _ (i : ℕ) (q : Pairing F c K) (is_pair : slice_get pairs i ≡ Some q) (x : Point) (u : UnitPlace) (listed : Contains (units q.pair.flow q.pair.certificate.places) (x, u))
      (n : ℕ) (w : PoolWord) (loads : x.word ≡ Some n) (at_word : slice_get q.pair.flow.words n ≡ Some w) (y : ℕ) (word_is : IsWordOf q.pair.flow q.pair.certificate.places w y) where
    code : holds_code (slice_get q.plain.sections x.section) ≡ true
    code = code_of_point q.plain q.hard q.pair.flow q.pair.certificate.places q.pair.certificate.carriers (form F c K pairs at plain hard images do_answer i q is_pair) x (zip_left q.pair.flow.points q.pair.certificate.places.units (x, u) listed)

    section_is : w.section ≡ x.section
    section_is = point_word q.plain q.pair.flow q.pair.accepted.flow x (zip_left q.pair.flow.points q.pair.certificate.places.units (x, u) listed) n w loads at_word

    has_word : HasWord q.pair.flow q.pair.certificate.places x.section y
    has_word =
        subst (λ (j : ℕ). HasWord q.pair.flow q.pair.certificate.places j y) section_is
        (word_there q.plain q.hard q.pair.flow q.pair.certificate.places q.pair.certificate.carriers (form F c K pairs at plain hard images do_answer i q is_pair) w y word_is)

    data_there : IsDataWord q.hard w.section y
    data_there = (units_stand q.plain q.hard q.pair.flow q.pair.certificate.places q.pair.certificate.carriers (form F c K pairs at plain hard images do_answer i q is_pair)).words w y word_is

    -- a word without relocation has none in the form
    none_there : w.reloc ≡ None → reloc_at q.hard x.section y ≡ None
    none_there bare = go (reloc_at q.hard x.section y) refl
      where
        wrong : (m : ℕ) (r : Reloc) → slice_get q.hard.relocs m ≡ Some r → (r.section ≡ x.section) × (r.offset ≡ y) → IsNewReloc q.plain q.pair.flow q.pair.certificate.places q.pair.certificate.carriers q.pair.form.lists r → ⊥
        wrong m r there place (of_data k o s at_section other stands) =
            both_ways (is_code s) other (sym (ap holds_code at_section) ∙ (ap (λ (j : ℕ). holds_code (slice_get q.plain.sections j)) (sym stands.section ∙ place.0) ∙ code))
        wrong m r there place (of_step k o z d carrier point stands) =
            let f = q.pair.flow in
            let p = q.pair.certificate.places in
            let cs = q.pair.certificate.carriers in
            let its = form F c K pairs at plain hard images do_answer i q is_pair in
            let t = code_section q.plain q.hard f p cs its x.section code in
            let s = of_step_is q.plain q.hard f p cs its k o z d r carrier point stands in
            let same : z.section ≡ x.section = sym s.section ∙ (sym stands.section ∙ place.0) in
            let there_too : d.at ≡ y = sym stands.offset ∙ place.1 in
            let from = start_behind (bytes_of q.hard z.section) s.unit.start (code_end s.unit) d.at s.step in
            let below = start_before (bytes_of q.hard z.section) s.unit.start (code_end s.unit) d.at s.step in
            elim (word_beside q.plain q.hard f p cs its x.section t.0 t.1 t.2 z s.unit s.placed same y has_word) [
              | inl under ↦ omega (arith, under, from, there_too)
              | inr over ↦ omega (arith, over, below, there_too)
            ]
        wrong m r there place (of_word k o v b word_too point stands) =
            let f = q.pair.flow in
            let p = q.pair.certificate.places in
            let cs = q.pair.certificate.carriers in
            let its = form F c K pairs at plain hard images do_answer i q is_pair in
            let t = code_section q.plain q.hard f p cs its x.section code in
            let at_v = reloc_at_is q.plain v.section v.offset k o (sym ((q.pair.accepted.flow.words v).0 (word_listed q.plain q.hard f p cs its v b word_too)).reloc ∙ point) stands.there in
            let same : v.section ≡ x.section = sym at_v.0 ∙ (sym stands.section ∙ place.0) in
            let there_too : b ≡ y = sym stands.offset ∙ place.1 in
            let one : w ≡ v = one_word q.plain q.hard f p cs its x.section t.0 t.1 t.2 w v y word_is (subst (λ (z : ℕ). IsWordOf f p v z) there_too word_too) section_is same in
            none-some k (sym bare ∙ (ap (λ (z : PoolWord). z.reloc) one ∙ point))

        go : (r : Option ℕ) → reloc_at q.hard x.section y ≡ r → reloc_at q.hard x.section y ≡ None
        go None e = e
        go (Some m) e =
            let r = reloc_there q.hard x.section y m e in
            absurd (wrong m r.0 r.1 (reloc_at_is q.hard x.section y m r.0 e r.1) ((q.pair.form.tables.relocs.exact r.0).0 (contains_at q.hard.relocs m r.0 r.1)))

    module _ (part : Placed) (here : Here (hards pairs) at i q.hard x.section part) (link : Linking) where
      size : y + 4 ≤ part.section.size
      size =
          let t = code_section q.plain q.hard q.pair.flow q.pair.certificate.places q.pair.certificate.carriers (form F c K pairs at plain hard images do_answer i q is_pair) x.section code in
          let inside = word_inside q.plain q.hard q.pair.flow q.pair.certificate.places q.pair.certificate.carriers (form F c K pairs at plain hard images do_answer i q is_pair) x.section t.0 t.1 t.2 y has_word in
          let same = ap (λ (s : Section). s.size) (same_Some t.0 part.section (sym t.1 ∙ here.section)) in
          omega (arith, inside, same)

      in_image : (at.base ≤ part.start) × (part.start + part.section.size ≤ at.base + length hard.code.bytes)
      in_image =
          let t = code_section q.plain q.hard q.pair.flow q.pair.certificate.places q.pair.certificate.carriers (form F c K pairs at plain hard images do_answer i q is_pair) x.section code in
          code_inside (hards pairs) at hard images.forms images.hard_image i x.section q.hard part here (subst (λ (s : Section). is_code s ≡ true) (same_Some t.0 part.section (sym t.1 ∙ here.section)) t.2)

      lies_there : lies hard.code (part.start + y) 4 ≡ true
      lies_there =
          let a = in_image.0 in
          let b = in_image.1 in
          let s = size in
          let base = images.hard_image.code_base in
          and_from (nat_le hard.code.base (part.start + y)) (nat_le (part.start + y + 4) (hard.code.base + length hard.code.bytes)) (le-leb hard.code.base (part.start + y) (omega (arith, a, base)))
          (le-leb (part.start + y + 4) (hard.code.base + length hard.code.bytes) (omega (arith, b, s, base)))

      -- as it is
      pub bare_word : w.reloc ≡ None → link.number ≡ word_at (bytes_of q.plain w.section) w.offset → link.mark ≡ Plain → WordStands hard.code link (part.start + y)
      bare_word bare number mark =
          let it = word_as_is (hards pairs) at hard images.forms images.hard_image i x.section q.hard part here y (subst (λ (j : ℕ). IsDataWord q.hard j y) section_is data_there) (none_there bare) in
          record {
            lies = lies_there;
            word = ap (λ (b : ℕ). word_at hard.code.bytes (part.start + y - b)) images.hard_image.code_base
                ∙ (four_read hard.code.bytes (bytes_of q.hard x.section) (part.start + y - at.base) y it.0
                ∙ (ap (λ (j : ℕ). word_at (bytes_of q.hard j) y) (sym section_is) ∙ (q.pair.form.words w y word_is ∙ (ap (λ (r : Option ℕ). word_number q.plain w (reloc_of q.plain r)) bare ∙ sym number))));
            marked = it.1 ∙ sym mark;
          }

      -- as its relocation is linked
      pub linked_word : (k : ℕ) → w.reloc ≡ Some k → ((l : Link) → IsLink (plains pairs) at l → l.file ≡ i → w.reloc ≡ Some l.number → Puts F c K pairs at plain hard images do_answer l link) → WordStands hard.code link (part.start + y)
      linked_word k reloc fit =
          let f = q.pair.flow in
          let p = q.pair.certificate.places in
          let cs = q.pair.certificate.carriers in
          let its = form F c K pairs at plain hard images do_answer i q is_pair in
          let tw = word_twin F c K pairs at plain hard images do_answer i q is_pair w y k word_is reloc in
          let new : Reloc = tw.0 in
          let r : Reloc = tw.1 in
          let t = tw.6 in
          let l = t.new in
          let listed_word = word_listed q.plain q.hard f p cs its w y word_is in
          let kind : is_word l.reloc.kind ≡ true = ap (λ (z : Reloc). is_word z.kind) t.new_reloc ∙ (ap is_word tw.5 ∙ of_word_kind q.plain q.hard f p cs its k r w listed_word reloc tw.2) in
          let jump = word_no_jump l.reloc.kind kind in
          let at_w = reloc_at_is q.plain w.section w.offset k r (sym ((q.pair.accepted.flow.words w).0 listed_word).reloc ∙ reloc) tw.2 in
          let section : l.reloc.section ≡ w.section = ap (λ (z : Reloc). z.section) t.new_reloc ∙ (tw.3 ∙ at_w.0) in
          let offset : l.reloc.offset ≡ y = ap (λ (z : Reloc). z.offset) t.new_reloc ∙ tw.4 in
          let there : IsDataWord l.object l.reloc.section l.reloc.offset =
          subst (λ (z : ObjectParts). IsDataWord z l.reloc.section l.reloc.offset) (sym t.new_object) (subst (λ (j : ℕ). IsDataWord q.hard j l.reloc.offset) (sym section) (subst (λ (a : ℕ). IsDataWord q.hard w.section a) (sym offset) data_there)) in
          let it = word_linked (hards pairs) at hard images.forms images.hard_image l t.is_new there in
          let agree = agrees F c K pairs at plain hard images do_answer t.old l link t.sense t.value (fit t.old t.is_old t.old_file (reloc ∙ ap (λ (m : ℕ). Some m) (sym t.old_number))) in
          let its_part : l.part ≡ part = same_Some l.part part (sym t.is_new.part ∙ (ap (λ (m : ℕ). part_of (all_placed (hards pairs) at) m l.reloc.section) t.new_file ∙ (ap (λ (m : ℕ). part_of (all_placed (hards pairs) at) i m) (section ∙ section_is) ∙ here.part))) in
          let address : place_of l ≡ part.start + y = ap (λ (z : Placed). z.start + l.reloc.offset) its_part ∙ ap (λ (m : ℕ). part.start + m) offset in
          record {
            lies = lies_there;
            word = ap (λ (b : ℕ). word_at hard.code.bytes (part.start + y - b)) images.hard_image.code_base
                ∙ (ap (λ (a : ℕ). word_at hard.code.bytes (a - at.base)) (sym address)
                ∙ (number_read hard.code.bytes (place_of l - at.base) (full (all_placed (hards pairs) at) l) it.0 (full_low (all_placed (hards pairs) at) l)
                ∙ (sym (word_value l.reloc.kind kind (offset_of (all_placed (hards pairs) at) l) (full (all_placed (hards pairs) at) l)) ∙ sym (agree.number jump))));
            marked = ap (mark_at hard.code.marks) (sym address) ∙ (it.1 ∙ sym agree.mark);
          }
