-- What the linker makes is the image of the objects.
use Rattle.std.proofs.Common.{◌≡◌, ℕ, zero, suc, ◌+◌, true, false, List, [], ◌∷◌, length, map, get_or, refl, sym, ap, ◌∙◌, subst, inl, inr, arith, None}
use Rattle.std.specs.Prelude.{Contains, find, not}
use Rattle.std.proofs.lemmas.Bool.{cases_Bool, true≢false}
use Rattle.std.proofs.lemmas.Option.{none-some}
use Rattle.elf_model.specs.Objects.{ObjectParts}
use Rattle.elf_model.specs.declared.objects.Reloc.{Reloc}
use Rattle.elf_model.specs.declared.refusals.Spot.{Spot}
use Rattle.elf_model.proofs.Elements.{finds}
use Rattle.mark_word.specs.Words.{bare}
use Rattle.thumb_table.specs.declared.placements.Placement.{Placement}
use Rattle.thumb_table.specs.Parts.{Image, Memory}
use Rattle.thumb_table.specs.Layouts.{all_placed, data_bytes_of}
use Rattle.thumb_table.specs.Names.{Defined}
use Rattle.thumb_table.specs.Links.{Link, AreWritten, covers, is_in_range}
use Rattle.thumb_table.specs.LinkFaults.{NamesNothing, IsSecond, LinkFault}
use Rattle.thumb_table.specs.LinkFaults.LinkFault.{misplaced, undefined, defined_twice, long_code, long_data, high_end, out_of_range}
use Rattle.thumb_table.specs.Images.{CanLink, IsImage, IsLinkedData}
use Rattle.flat_link.specs.declared.layout.Layout.{Layout}
use Rattle.flat_link.specs.declared.ties.Tie.{Tie}
use Rattle.flat_link.specs.Layout.{Stands, IsTooLong, parts_in}
use Rattle.flat_link.specs.Made.{IsMade, IsMadeMemory}
use Rattle.flat_link.specs.Misplaced.{IsFirstMisplaced}
use Rattle.flat_link.specs.Sites.{link_of, all_links}
use Rattle.flat_link.specs.Ties.{IsTied, AreTies, AreInRange}
use Rattle.flat_link.proofs.SiteFacts.{link_is, link_there}
use Rattle.flat_link.proofs.MarkFacts.{are_marked}

pub as_many : (bs : List ℕ) → length (map bare bs) ≡ length bs
as_many [] = refl
as_many (b ∷ bs) = ap (λ (n : ℕ). suc n) (as_many bs)

bare_at : (bs : List ℕ) (k : ℕ) → get_or (map bare bs) k (bare 0) ≡ bare (get_or bs k 0)
bare_at [] k = refl
bare_at (b ∷ bs) zero = refl
bare_at (b ∷ bs) (suc k) = bare_at bs k

-- code, data and stack fit their places
pub not_long : (objects : List ObjectParts) (at : Placement) → Stands objects at → IsTooLong objects at → ⊥
not_long objects at is (inl x) = let f = is.fits.code in omega arith
not_long objects at is (inr y) = elim y [ inl x ↦ let f = is.fits.memory in omega arith | inr x ↦ let f = is.fits.last in omega arith ]

-- each link is one of a right relocation
pub ties_all : (objects : List ObjectParts) (at : Placement) → IsFirstMisplaced objects None → (k : Link) → Contains (all_links objects at) k → IsTied objects at k
ties_all objects at right k c =
    let is = link_is objects at k c in
    record { link = is; right = right k.file k.number k.object k.reloc (record { object = is.object; reloc = is.reloc }) }

pub are_ties : (l : Layout) (ties : List Tie) → IsFirstMisplaced l.objects.now None → map link_of ties ≡ all_links l.objects.now l.at → AreTies l ties
are_ties l ties right e = record { all = e; each = λ k c. ties_all l.objects.now l.at right k (subst (λ (ks : List Link). Contains ks k) e c) }

-- where none is found out of range, none is
pub none_out : (l : Layout) (ties : List Tie) → find (λ (k : Link). not (is_in_range (parts_in l) k)) (map link_of ties) ≡ None → AreInRange l ties
none_out l ties e k c =
    elim (cases_Bool (is_in_range (parts_in l) k)) [
      | inl y ↦ y
      | inr n ↦ let f = finds (λ (j : Link). not (is_in_range (parts_in l) j)) (map link_of ties) k c (ap not n) in absurd (none-some f.0 (sym e ∙ f.1))
    ]

data_linked : (objects : List ObjectParts) (at : Placement) (memory : Memory) → IsMadeMemory objects at memory → IsLinkedData objects at memory
data_linked objects at memory made = record {
  base = made.base;
  size = made.cells.size ∙ as_many (data_bytes_of objects at);
  others = λ x free. made.cells.others x (λ k c s. subst (λ (b : ℕ). covers (b + x) k ≡ false) made.base (free k (link_is objects at k c))) ∙ bare_at (data_bytes_of objects at) x;
  linked = λ k link datum. subst (λ (b : ℕ). AreWritten (all_placed objects at) memory.cells b k) (sym made.base) (made.cells.linked k (link_there objects at k link) datum);
}

-- What is made where nothing stands in its way is the image.
pub image_with : (objects : List ObjectParts) (at : Placement) (is : Stands objects at) → CanLink objects at → (image : Image) → IsMade objects at image → IsImage objects at image
image_with objects at is can image made = record {
  placement = is.placement;
  can = can;
  parts = made.parts;
  code_base = made.code.base;
  code = record {
    size = made.code.bytes.size;
    small = made.code.small;
    others = λ x free. made.code.bytes.others x (λ k c s. free k (link_is objects at k c));
    linked = λ k link code. made.code.bytes.linked k (link_there objects at k link) code;
  };
  marks = are_marked objects at is (ties_all objects at can.right) image.code.marks made.code.marks;
  stops = made.code.stops;
  stops_rise = made.code.rise;
  memory = data_linked objects at image.memory made.memory;
  room = made.room;
  entries = made.entries;
}

module _ (objects : List ObjectParts) (at : Placement) (is : Stands objects at) (right : IsFirstMisplaced objects None) (named : (i k : ℕ) (r : Reloc) → NamesNothing objects i k r → ⊥) (once : (d : Defined) → IsSecond objects d → ⊥)
    (range : (k : Link) → Contains (all_links objects at) k → is_in_range (all_placed objects at) k ≡ true) where
  no_fault : (spot : Spot) → LinkFault objects at spot → ⊥
  no_fault _ (misplaced i k o r there wrong) = wrong (right i k o r there)
  no_fault _ (undefined i k r names first) = named i k r names
  no_fault _ (defined_twice d second first) = once d second
  no_fault _ (long_code x) = not_long objects at is (inl x)
  no_fault _ (long_data x) = not_long objects at is (inr (inl x))
  no_fault _ (high_end x) = not_long objects at is (inr (inr x))
  no_fault _ (out_of_range k link far) = true≢false (sym (range k (link_there objects at k link)) ∙ far)

  pub image_is : (image : Image) → IsMade objects at image → IsImage objects at image
  image_is image made = image_with objects at is (record { right = right; sound = no_fault }) image made
