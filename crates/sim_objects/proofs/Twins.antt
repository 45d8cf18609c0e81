-- A relocation of an object in the plain list, and one of its hardened form that stands for it, as they are linked.
use Rattle.std.specs.Prelude.{◌≡◌, ℕ, ◌==◌, ◌&&◌, List, get_or, Some, slice_get, refl}
use Rattle.std.specs.List.{zip}
use Rattle.std.proofs.Common.{arith, ap, sym, ◌∙◌, subst}
use Rattle.std.proofs.lemmas.Option.{same_Some, slice_get_within, slice_get-get_or}
use Rattle.std.proofs.lemmas.List.Quantifiers.{position-Some}
use Rattle.elf_model.specs.declared.objects.Reloc.{Reloc}
use Rattle.elf_model.specs.declared.objects.RelocKind.TheVariants.{Abs32}
use Rattle.elf_model.specs.Objects.{ObjectParts, is_object}
use Rattle.elf_model.proofs.Lists.{get_map}
use Rattle.elf_model.proofs.Elements.{place_of, contains_at, element_at, all_at}
use Rattle.thumb_table.specs.declared.placements.Placement.{Placement}
use Rattle.thumb_table.specs.Parts.{Image}
use Rattle.thumb_table.specs.Links.{Link, IsLink}
use Rattle.reloc_places.specs.Relocations.{reloc_at}
use Rattle.flow_recover.specs.declared.flows.Point.{Point}
use Rattle.flow_recover.specs.declared.flows.PoolWord.{PoolWord}
use Rattle.hardened_form.specs.Turns.Stays.{of_point, of_word as stays_word}
use Rattle.hardened_form.specs.Carriers.{IsCarrier, kind_on}
use Rattle.hardened_form.specs.Relocs.{StandsFor, IsWordOf, of_step, of_word}
use Rattle.sim_images.specs.Counterparts.{Places, SameSense, Answers}
use Rattle.sim_images.specs.PairLaws.{SameValue}
use Rattle.sim_images.proofs.EachLinked.{each_linked}
use Rattle.sim_images.proofs.LinksMeet.{values_meet}
use Rattle.sim_answers.specs.Forms.{IsFormOf, DoAnswer, new_places}
use Rattle.sim_answers.proofs.PointPlaces.{at_point}
use Rattle.sim_answers.proofs.DataAnswered.{new_symbol, word_listed}
use Rattle.sim_answers.proofs.RelocsStand.{step_answers, word_answers}
use Rattle.sim_objects.specs.Lists.{Pairing, plains, hards, HaveImages}
use Rattle.sim_objects.specs.UnitLinks.{moved_by, moved_in}
use Rattle.sim_objects.proofs.Kept.{get_zip, form_of}

no_reloc : Reloc
no_reloc = record { section = 0; offset = 0; kind = Abs32; symbol = 0 }

-- the relocation that is found at a place
pub reloc_there : (o : ObjectParts) (j x k : ℕ) → reloc_at o j x ≡ Some k → (r : Reloc) × (slice_get o.relocs k ≡ Some r)
reloc_there o j x k e =
    let found = position-Some (λ (r : Reloc). (r.section == j) && (r.offset == x)) o.relocs k no_reloc e in
    (get_or o.relocs k no_reloc, slice_get-get_or o.relocs k no_reloc found.0)

-- A relocation of an object of a list, as it is linked.
pub record LinkAt (objects : List ObjectParts) (at : Placement) (i k : ℕ) (o : ObjectParts) (r : Reloc) : Type 0 where
  pub link : Link
  pub is : IsLink objects at link
  pub file : link.file ≡ i
  pub number : link.number ≡ k
  pub object : link.object ≡ o
  pub reloc : link.reloc ≡ r

module _ (F c K : ℕ) (pairs : List (Pairing F c K)) (at : Placement) (plain hard : Image) (images : HaveImages F c K pairs at plain hard)
    (do_answer : DoAnswer (plains pairs) (hards pairs) (moved_in pairs)) where
  module _ (i : ℕ) (q : Pairing F c K) (is_pair : slice_get pairs i ≡ Some q) where
    pub plain_there : slice_get (plains pairs) i ≡ Some q.plain
    plain_there = get_map (λ (z : Pairing F c K). z.plain) pairs i q is_pair

    pub hard_there : slice_get (hards pairs) i ≡ Some q.hard
    hard_there = get_map (λ (z : Pairing F c K). z.hard) pairs i q is_pair

    abbrev pub form : IsFormOf q.plain q.hard q.pair.flow q.pair.certificate.places q.pair.certificate.carriers
    form = form_of F c K q (all_at is_object (plains pairs) i q.plain images.objects plain_there) (all_at is_object (hards pairs) i q.hard images.forms hard_there)

    pub plain_link : (k : ℕ) (r : Reloc) → slice_get q.plain.relocs k ≡ Some r → LinkAt (plains pairs) at i k q.plain r
    plain_link k r there =
        let h = each_linked (plains pairs) at plain images.objects images.image i k q.plain r (record { object = plain_there; reloc = there }) in
        let one : h.link.object ≡ q.plain = same_Some h.link.object q.plain (sym h.is_link.object ∙ (ap (λ (n : ℕ). slice_get (plains pairs) n) h.file ∙ plain_there)) in
        record {
          link = h.link;
          is = h.is_link;
          file = h.file;
          number = h.number;
          object = one;
          reloc = same_Some h.link.reloc r (sym h.is_link.reloc ∙ (ap (λ (n : ℕ). slice_get h.link.object.relocs n) h.number ∙ (ap (λ (z : ObjectParts). slice_get z.relocs k) one ∙ there)));
        }

    pub hard_link : (k : ℕ) (r : Reloc) → slice_get q.hard.relocs k ≡ Some r → LinkAt (hards pairs) at i k q.hard r
    hard_link k r there =
        let h = each_linked (hards pairs) at hard images.forms images.hard_image i k q.hard r (record { object = hard_there; reloc = there }) in
        let one : h.link.object ≡ q.hard = same_Some h.link.object q.hard (sym h.is_link.object ∙ (ap (λ (n : ℕ). slice_get (hards pairs) n) h.file ∙ hard_there)) in
        record {
          link = h.link;
          is = h.is_link;
          file = h.file;
          number = h.number;
          object = one;
          reloc = same_Some h.link.reloc r (sym h.is_link.reloc ∙ (ap (λ (n : ℕ). slice_get h.link.object.relocs n) h.number ∙ (ap (λ (z : ObjectParts). slice_get z.relocs k) one ∙ there)));
        }

    -- what links of both make is the same, or goes from a point to its unit
    pub meet : (l m : Link) → IsLink (plains pairs) at l → IsLink (hards pairs) at m → l.file ≡ i → m.file ≡ i → l.object ≡ q.plain → m.object ≡ q.hard → SameSense l.reloc m.reloc
        → Answers q.plain q.hard (new_places form) l.reloc m.reloc → SameValue (plains pairs) (hards pairs) at (moved_in pairs) l m
    meet l m il im lf mf lo mo sense answers =
        let moves : new_places form ≡ moved_in pairs l.file = ap moved_by (sym is_pair) ∙ ap (moved_in pairs) (sym lf) in
        values_meet (plains pairs) (hards pairs) at (moved_in pairs) plain hard do_answer.plain do_answer.hard do_answer.answers do_answer.accepted images.image images.hard_image l m il im (mf ∙ sym lf) sense
        (subst (λ (z : Places). Answers l.object m.object z l.reloc m.reloc) moves
        (subst (λ (z : ObjectParts). Answers z m.object (new_places form) l.reloc m.reloc) (sym lo) (subst (λ (z : ObjectParts). Answers q.plain z (new_places form) l.reloc m.reloc) (sym mo) answers)))

    -- relocation k of the object, and one that stands for it
    pub record Twin (k : ℕ) (n : Reloc) : Type 0 where
      pub old : Link
      pub is_old : IsLink (plains pairs) at old
      pub old_file : old.file ≡ i
      pub old_number : old.number ≡ k
      pub new : Link
      pub is_new : IsLink (hards pairs) at new
      pub new_file : new.file ≡ i
      pub new_object : new.object ≡ q.hard
      pub new_reloc : new.reloc ≡ n
      pub sense : SameSense old.reloc new.reloc
      pub value : SameValue (plains pairs) (hards pairs) at (moved_in pairs) old new

    pub twin : (k m : ℕ) (r n : Reloc) → slice_get q.plain.relocs k ≡ Some r → slice_get q.hard.relocs m ≡ Some n → SameSense r n → Answers q.plain q.hard (new_places form) r n → Twin k n
    twin k m r n there here sense answers =
        let a = plain_link k r there in
        let b = hard_link m n here in
        let same : SameSense a.link.reloc b.link.reloc = subst (λ (z : Reloc). SameSense z b.link.reloc) (sym a.reloc) (subst (λ (z : Reloc). SameSense r z) (sym b.reloc) sense) in
        record {
          old = a.link;
          is_old = a.is;
          old_file = a.file;
          old_number = a.number;
          new = b.link;
          is_new = b.is;
          new_file = b.file;
          new_object = b.object;
          new_reloc = b.reloc;
          sense = same;
          value = meet a.link b.link a.is b.is a.file b.file a.object b.object same
              (subst (λ (z : Reloc). Answers q.plain q.hard (new_places form) z b.link.reloc) (sym a.reloc) (subst (λ (z : Reloc). Answers q.plain q.hard (new_places form) r z) (sym b.reloc) answers));
        }

    -- of a point
    pub step_twin : (n k : ℕ) (x : Point) → slice_get q.pair.flow.points n ≡ Some x → x.reloc ≡ Some k → (r : Reloc) × Twin k r
    step_twin n k x point reloc =
        let listed = contains_at q.pair.flow.points n x point in
        let there = reloc_there q.plain x.section x.offset k (sym (at_point q.plain q.pair.flow q.pair.accepted.flow x listed).reloc ∙ reloc) in
        let r : Reloc = there.0 in
        let short = slice_get_within q.pair.flow.points n x point in
        let count = q.pair.form.carried.count in
        let all = element_at q.pair.certificate.carriers n (omega (arith, short, count)) in
        let d = q.pair.kept n k x all.0 point all.1 reloc in
        let m = new_symbol q.plain q.hard q.pair.flow q.pair.certificate.places q.pair.certificate.carriers form k r there.1 (of_point x listed reloc) in
        let new : Reloc = record { section = r.section; offset = d.0.at; kind = kind_on d.0.instr r.kind; symbol = m.0 } in
        let stands : StandsFor q.plain form.form.lists k r (kind_on d.0.instr r.kind) d.0.at new = record { there = there.1; section = refl; offset = refl; kind = refl; symbol = m.1 } in
        let carrier : IsCarrier q.pair.flow q.pair.certificate.carriers x d.0 =
        record { all = all.0; unit = contains_at (zip q.pair.flow.points q.pair.certificate.carriers) n (x, all.0) (get_zip q.pair.flow.points q.pair.certificate.carriers n x all.0 point all.1); one = d.1 } in
        let at_number = place_of q.hard.relocs new ((form.form.tables.relocs.exact new).1 (of_step k r x d.0 carrier reloc stands)) in
        let a = step_answers q.plain q.hard q.pair.flow q.pair.certificate.places q.pair.certificate.carriers form k r x d.0 new carrier reloc stands in
        (new, twin k at_number.0 r new there.1 at_number.1 a.0 a.1)

    -- of a word
    pub word_twin : (w : PoolWord) (y k : ℕ) → IsWordOf q.pair.flow q.pair.certificate.places w y → w.reloc ≡ Some k → (n : Reloc) × (r : Reloc) × (slice_get q.plain.relocs k ≡ Some r) × (n.section ≡ r.section) × (n.offset ≡ y) × (n.kind ≡ r.kind) × Twin k n
    word_twin w y k word reloc =
        let listed = word_listed q.plain q.hard q.pair.flow q.pair.certificate.places q.pair.certificate.carriers form w y word in
        let there = reloc_there q.plain w.section w.offset k (sym ((q.pair.accepted.flow.words w).0 listed).reloc ∙ reloc) in
        let r : Reloc = there.0 in
        let m = new_symbol q.plain q.hard q.pair.flow q.pair.certificate.places q.pair.certificate.carriers form k r there.1 (stays_word w listed reloc) in
        let new : Reloc = record { section = r.section; offset = y; kind = r.kind; symbol = m.0 } in
        let stands : StandsFor q.plain form.form.lists k r r.kind y new = record { there = there.1; section = refl; offset = refl; kind = refl; symbol = m.1 } in
        let at_number = place_of q.hard.relocs new ((form.form.tables.relocs.exact new).1 (of_word k r w y word reloc stands)) in
        let a = word_answers q.plain q.hard q.pair.flow q.pair.certificate.places q.pair.certificate.carriers form k r w y new word reloc stands in
        (new, r, there.1, refl, refl, refl, twin k at_number.0 r new there.1 at_number.1 a.0 a.1)
