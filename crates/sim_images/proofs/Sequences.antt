-- A section's sequence of instructions stands in the image, each instruction as it is linked.
use Rattle.std.specs.Prelude.{◌≡◌, ℕ, ◌+◌, ◌==◌, ◌&&◌, List, get_or, Option, Some, None, Ok, slice_get, refl}
use Rattle.std.proofs.Common.{arith, ap, sym, ◌∙◌, subst}
use Rattle.std.proofs.lemmas.Bool.{and_parts, eqb-true}
use Rattle.std.proofs.lemmas.List.Quantifiers.{position-Some}
use Rattle.std.proofs.lemmas.Option.{same_Some, slice_get-get_or}
use Rattle.elf_model.specs.declared.objects.Reloc.{Reloc}
use Rattle.elf_model.specs.declared.objects.RelocKind.TheVariants.{Abs32}
use Rattle.elf_model.specs.Objects.{ObjectParts}
use Rattle.elf_model.specs.Ranges.{length_at}
use Rattle.mark_word.specs.declared.marks.Mark.{Mark}
use Rattle.mark_word.specs.declared.marks.Mark.TheVariants.{Plain}
use Rattle.thumb_instr.specs.declared.instructions.Instr.{Instr}
use Rattle.thumb_table.specs.declared.placements.Placement.{Placement}
use Rattle.thumb_table.specs.Parts.{Image}
use Rattle.reloc_places.specs.Starts.{bytes_of, IsCodeStart, instr_at, behind}
use Rattle.reloc_places.specs.Relocations.{reloc_at}
use Rattle.thumb_table.specs.Layouts.{Placed, all_placed, part_of}
use Rattle.thumb_table.specs.Links.{place_of, value_of, mark_of}
use Rattle.thumb_instr.specs.Numbers.{renumbered}
use Rattle.thumb_table.specs.Images.{IsImage}
use Rattle.sim_images.specs.ImageLaws.{AreObjects, Here}
use Rattle.sim_images.specs.CodeLaws.{Fetches, IsSequence, ended, longer, IsLinkedInstr, alone, linked, Has, at_end, then, SequenceStands}
use Rattle.sim_images.proofs.EachLinked.{each_linked}
use Rattle.sim_images.proofs.Standing.{stands_as_is}
use Rattle.sim_images.proofs.StandingLinked.{stands_linked}

no_reloc : Reloc
no_reloc = record { section = 0; offset = 0; kind = Abs32; symbol = 0 }

-- an instruction start of the section, in an IT state
pub record Stood (objects : List ObjectParts) (at : Placement) (image : Image) (i : ℕ) (a it : ℕ) (instr : Instr) (reloc : Option ℕ) (width : ℕ) : Type 0 where
  pub now : Instr
  pub mark : Mark
  pub is : IsLinkedInstr objects at i instr reloc now mark
  pub there : Fetches image.code a it now width mark

pub one_stands : (objects : List ObjectParts) (at : Placement) (image : Image) → AreObjects objects → IsImage objects at image
    → (i j : ℕ) (o : ObjectParts) (p : Placed) → Here objects at i o j p → (x end it : ℕ) (instr : Instr) → IsCodeStart o j (bytes_of o j) x end → instr_at (bytes_of o j) end x it ≡ Ok instr
    → Stood objects at image i (p.start + x) it instr (reloc_at o j x) (length_at (bytes_of o j) x)
one_stands objects at image sound is i j o p here x end it instr start given = go (reloc_at o j x) refl
  where
    go : (k : Option ℕ) → reloc_at o j x ≡ k → Stood objects at image i (p.start + x) it instr k (length_at (bytes_of o j) x)
    go None e = record { now = instr; mark = Plain; is = alone instr; there = stands_as_is objects at image sound is i j o p here x end it instr start given e }
    go (Some k) e =
        let found = position-Some (λ (r : Reloc). (r.section == j) && (r.offset == x)) o.relocs k no_reloc e in
        let r : Reloc = get_or o.relocs k no_reloc in
        let there : slice_get o.relocs k ≡ Some r = slice_get-get_or o.relocs k no_reloc found.0 in
        let h = each_linked objects at image sound is i k o r (record { object = here.object; reloc = there }) in
        let l = h.link in
        let one : l.object ≡ o = same_Some l.object o (sym h.is_link.object ∙ (ap (λ (n : ℕ). slice_get objects n) h.file ∙ here.object)) in
        let reloc : l.reloc ≡ r = same_Some l.reloc r (sym h.is_link.reloc ∙ (ap (λ (n : ℕ). slice_get l.object.relocs n) h.number ∙ (ap (λ (z : ObjectParts). slice_get z.relocs k) one ∙ there))) in
        let both = and_parts (r.section == j) (r.offset == x) found.1 in
        let section : l.reloc.section ≡ j = ap (λ (z : Reloc). z.section) reloc ∙ eqb-true r.section j both.0 in
        let offset : l.reloc.offset ≡ x = ap (λ (z : Reloc). z.offset) reloc ∙ eqb-true r.offset x both.1 in
        let part : l.part ≡ p = same_Some l.part p (sym h.is_link.part ∙ (ap (λ (n : ℕ). part_of (all_placed objects at) n l.reloc.section) h.file ∙ (ap (λ (n : ℕ). part_of (all_placed objects at) i n) section ∙ here.part))) in
        let place : place_of l ≡ p.start + x = ap (λ (z : Placed). z.start + l.reloc.offset) part ∙ ap (λ (n : ℕ). p.start + n) offset in
        let now : Instr = renumbered (value_of (all_placed objects at) l) instr in
        let mark : Mark = mark_of (all_placed objects at) l in
        let made : Fetches image.code (p.start + x) it now (length_at (bytes_of o j) x) mark =
        subst (λ (a : ℕ). Fetches image.code a it now (length_at (bytes_of o j) x) mark) place
        (subst (λ (z : ObjectParts). IsCodeStart z j (bytes_of z j) x end → instr_at (bytes_of z j) end x it ≡ Ok instr → Fetches image.code (place_of l) it now (length_at (bytes_of z j) x) mark) one
        (subst (λ (s : ℕ). IsCodeStart l.object s (bytes_of l.object s) x end → instr_at (bytes_of l.object s) end x it ≡ Ok instr → Fetches image.code (place_of l) it now (length_at (bytes_of l.object s) x) mark) section
        (subst (λ (y : ℕ). IsCodeStart l.object l.reloc.section (bytes_of l.object l.reloc.section) y end → instr_at (bytes_of l.object l.reloc.section) end y it ≡ Ok instr → Fetches image.code (place_of l) it now (length_at (bytes_of l.object l.reloc.section) y) mark) offset
        (stands_linked objects at image sound is l h.is_link end it instr)))
        start given) in
        record {
          now = now;
          mark = mark;
          is = subst (λ (n : ℕ). IsLinkedInstr objects at i instr (Some n) now mark) h.number (linked l instr h.is_link h.file);
          there = made;
        }

pub sequence_stands : SequenceStands
sequence_stands objects at image sound is i j o p here x z steps s = go x z steps s
  where
    go : (x z : ℕ) (steps : List (Instr × Option ℕ)) → IsSequence o j x steps z → Has objects at i image.code (p.start + x) steps (p.start + z)
    go x _ _ (ended _) = at_end (p.start + x)
    go x z _ (longer _ end _ instr rest start given more) =
        let h = one_stands objects at image sound is i j o p here x end 0 instr start given in
        let next : p.start + behind o j x ≡ p.start + x + length_at (bytes_of o j) x = omega arith in
        then (p.start + x) (p.start + z) (length_at (bytes_of o j) x) (instr, reloc_at o j x) rest h.now h.mark h.is h.there
        (subst (λ (a : ℕ). Has objects at i image.code a rest (p.start + z)) next (go (behind o j x) z rest more))
