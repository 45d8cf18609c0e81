-- Objects without relocations: their image has the sections' bytes, data without pieces, and no marks.
use Rattle.std.proofs.Common.{◌≡◌, ◌<◌, ◌≤◌, ◌^◌, ℕ, zero, suc, ◌+◌, List, [], ◌∷◌, length, map, get_or, Some, refl, sym, ap, ◌∙◌, subst, inl, inr, arith}
use Rattle.std.specs.Prelude.{◌↔◌, Contains, slice_get}
use Rattle.std.specs.List.Sorted.{IsStrictlyIncreasing}
use Rattle.std.proofs.lemmas.Bool.{cases_lt}
use Rattle.std.proofs.lemmas.Option.{none-some}
use Rattle.elf_model.specs.declared.objects.Reloc.{Reloc}
use Rattle.elf_model.specs.declared.refusals.Spot.{Spot}
use Rattle.elf_model.specs.Canonical.{round_up}
use Rattle.elf_model.specs.Fields.{byte_at}
use Rattle.elf_model.specs.Objects.{ObjectParts}
use Rattle.elf_model.proofs.Elements.{contains_here, contains_none}
use Rattle.mark_word.specs.Words.{bare}
use Rattle.thumb_table.specs.declared.placements.Placement.{Placement}
use Rattle.thumb_table.specs.declared.parts.PlaceMark.{PlaceMark}
use Rattle.thumb_table.specs.Parts.{Memory, Image}
use Rattle.thumb_table.specs.Layouts.{IsPlacement, all_placed, as_part, code_bytes_of, data_bytes_of}
use Rattle.thumb_table.specs.Names.{Defined, entries_of}
use Rattle.thumb_table.specs.Links.{Link, IsLink}
use Rattle.thumb_table.specs.LinkFaults.{IsReloc, IsSecond, LinkFault}
use Rattle.thumb_table.specs.LinkFaults.LinkFault.{misplaced, undefined, defined_twice, long_code, long_data, high_end, out_of_range}
use Rattle.thumb_table.specs.Images.{IsStop, CanLink, IsImage}

pub record ArePlain (objects : List ObjectParts) : Type 0 where
  pub each : (i : ℕ) (o : ObjectParts) → slice_get objects i ≡ Some o → o.relocs ≡ []

pub one_plain : (o : ObjectParts) → o.relocs ≡ [] → ArePlain (o ∷ [])
one_plain o h = record { each = each }
  where
    each : (i : ℕ) (q : ObjectParts) → slice_get (o ∷ []) i ≡ Some q → q.relocs ≡ []
    each zero q e = subst (λ (x : ObjectParts). x.relocs ≡ []) (same_object q e) h
      where
        same_object : (q : ObjectParts) → Some o ≡ Some q → o ≡ q
        same_object q e = cc
    each (suc i) q e = absurd (none-some q e)

-- code, data and stack fit their places
pub record HasRoom (objects : List ObjectParts) (at : Placement) : Type 0 where
  pub code : length (code_bytes_of objects at) ≤ at.room
  pub memory : round_up (length (data_bytes_of objects at)) 8 + at.stack ≤ 16777216
  pub last : at.base + at.room + length (data_bytes_of objects at) ≤ 0x7FFFF000

pub has_room : (objects : List ObjectParts) (at : Placement) → CanLink objects at → HasRoom objects at
has_room objects at can = record {
  code = elim (cases_lt at.room (length (code_bytes_of objects at))) [ inl l ↦ absurd (can.sound _ (long_code l)) | inr h ↦ h ];
  memory = elim (cases_lt 16777216 (round_up (length (data_bytes_of objects at)) 8 + at.stack)) [ inl l ↦ absurd (can.sound _ (long_data l)) | inr h ↦ h ];
  last = elim (cases_lt 0x7FFFF000 (at.base + at.room + length (data_bytes_of objects at))) [ inl l ↦ absurd (can.sound _ (high_end l)) | inr h ↦ h ];
}

module _ (objects : List ObjectParts) (at : Placement) (plain : ArePlain objects) where
  pub no_reloc : (i k : ℕ) (o : ObjectParts) (r : Reloc) → IsReloc objects i k o r → ⊥
  no_reloc i k o r is = none-some r (sym (ap (λ (rs : List Reloc). slice_get rs k) (plain.each i o is.object)) ∙ is.reloc)

  pub no_link : (l : Link) → IsLink objects at l → ⊥
  no_link l is = no_reloc l.file l.number l.object l.reloc (record { object = is.object; reloc = is.reloc })

  -- nothing stands in the way where each name has one global definition and all fits
  pub plain_links : ((d : Defined) → IsSecond objects d → ⊥) → HasRoom objects at → CanLink objects at
  plain_links once room = record { right = λ i k o r is. absurd (no_reloc i k o r is); sound = sound }
    where
      sound : (spot : Spot) → LinkFault objects at spot → ⊥
      sound _ (misplaced i k o r is wrong) = no_reloc i k o r is
      sound _ (undefined i k r names first) = no_reloc i k names.object r names.there
      sound _ (defined_twice d second first) = once d second
      sound _ (long_code h) = let l = room.code in omega arith
      sound _ (long_data h) = let l = room.memory in omega arith
      sound _ (high_end h) = let l = room.last in omega arith
      sound _ (out_of_range l is far) = no_link l is

-- the image of objects without relocations
pub record IsPlainImage (objects : List ObjectParts) (at : Placement) (image : Image) : Type 0 where
  pub placement : IsPlacement at
  pub can : CanLink objects at
  pub parts : image.parts ≡ map as_part (all_placed objects at)
  pub code_base : image.code.base ≡ at.base
  pub code_bytes : image.code.bytes ≡ code_bytes_of objects at
  pub marks : image.code.marks ≡ []
  pub stops : (a : ℕ) → Contains image.code.stops a ↔ IsStop objects (all_placed objects at) a
  pub stops_rise : IsStrictlyIncreasing image.code.stops
  pub memory : image.memory ≡ record { base = at.base + at.room; cells = map bare (data_bytes_of objects at) }
  pub room : image.room ≡ at.room
  pub entries : image.entries ≡ entries_of objects (all_placed objects at)

same_lists : {X : Type 0} (d : X) (xs ys : List X) → length xs ≡ length ys → ((k : ℕ) → get_or xs k d ≡ get_or ys k d) → xs ≡ ys
same_lists d [] [] e h = refl
same_lists d [] (y ∷ ys) e h = absurd (omega arith)
same_lists d (x ∷ xs) [] e h = absurd (omega arith)
same_lists d (x ∷ xs) (y ∷ ys) e h = ap (λ (z : _). z ∷ xs) (h 0) ∙ ap (λ (zs : List _). y ∷ zs) (same_lists d xs ys (omega arith) (λ k. h (suc k)))

bare_at : (bs : List ℕ) (k : ℕ) → get_or (map bare bs) k (bare 0) ≡ bare (get_or bs k 0)
bare_at [] k = refl
bare_at (b ∷ bs) zero = refl
bare_at (b ∷ bs) (suc k) = bare_at bs k

as_many : (bs : List ℕ) → length (map bare bs) ≡ length bs
as_many [] = refl
as_many (b ∷ bs) = ap (λ (n : ℕ). suc n) (as_many bs)

empty : (ms : List PlaceMark) → ((m : PlaceMark) → Contains ms m → ⊥) → ms ≡ []
empty [] h = refl
empty (m ∷ ms) h = absurd (h m (contains_here m ms))

no_marks_rise : (ms : List PlaceMark) → ms ≡ [] → IsStrictlyIncreasing (map (λ (m : PlaceMark). m.at) ms)
no_marks_rise ms e = subst (λ (l : List PlaceMark). IsStrictlyIncreasing (map (λ (m : PlaceMark). m.at) l)) (sym e) (λ k l. absurd (omega arith))

module _ (objects : List ObjectParts) (at : Placement) (plain : ArePlain objects) (image : Image) where
  pub plain_image : IsImage objects at image → IsPlainImage objects at image
  plain_image is =
      let cells : image.memory.cells ≡ map bare (data_bytes_of objects at) =
      same_lists (bare 0) image.memory.cells (map bare (data_bytes_of objects at)) (is.memory.size ∙ sym (as_many (data_bytes_of objects at)))
      (λ k. is.memory.others k (λ l link. absurd (no_link objects at plain l link)) ∙ sym (bare_at (data_bytes_of objects at) k)) in
      record {
        placement = is.placement;
        can = is.can;
        parts = is.parts;
        code_base = is.code_base;
        code_bytes = same_lists 0 image.code.bytes (code_bytes_of objects at) is.code.size (λ k. is.code.others k (λ l link. absurd (no_link objects at plain l link)));
        marks = empty image.code.marks (λ m c. let h = (is.marks.exact m).0 c in no_link objects at plain h.link h.is_link);
        stops = is.stops;
        stops_rise = is.stops_rise;
        memory = λ i. record { base = is.memory.base i; cells = cells i };
        room = is.room;
        entries = is.entries;
      }

  pub image_plain : ((x : ℕ) → byte_at (code_bytes_of objects at) x < 2 ^ 8) → IsPlainImage objects at image → IsImage objects at image
  image_plain small is = record {
    placement = is.placement;
    can = is.can;
    parts = is.parts;
    code_base = is.code_base;
    code = record {
      size = ap length is.code_bytes;
      small = λ x. subst (λ (bs : List ℕ). byte_at bs x < 2 ^ 8) (sym is.code_bytes) (small x);
      others = λ x free. ap (λ (bs : List ℕ). byte_at bs x) is.code_bytes;
      linked = λ l link code. absurd (no_link objects at plain l link);
    };
    marks = record {
      exact = λ m. (λ c. absurd (contains_none m (subst (λ (l : List PlaceMark). Contains l m) is.marks c)), λ h. absurd (no_link objects at plain h.link h.is_link));
      rise = no_marks_rise image.code.marks is.marks;
    };
    stops = is.stops;
    stops_rise = is.stops_rise;
    memory = record {
      base = ap (λ (m : Memory). m.base) is.memory;
      size = ap (λ (m : Memory). length m.cells) is.memory ∙ as_many (data_bytes_of objects at);
      others = λ x free. ap (λ (m : Memory). get_or m.cells x (bare 0)) is.memory ∙ bare_at (data_bytes_of objects at) x;
      linked = λ l link code. absurd (no_link objects at plain l link);
    };
    room = is.room;
    entries = is.entries;
  }
