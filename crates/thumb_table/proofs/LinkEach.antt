-- An example's image is right where each of its links is, one by one.
use Rattle.std.specs.Prelude.{◌≡◌, ◌<◌, ◌+◌, ◌^◌, nat_lt, get_or, true, List, [], ◌∷◌, length, ℕ, Contains, refl, ⊤}
use Rattle.std.specs.List.{list_all}
use Rattle.std.proofs.Common.{arith, inl, inr, subst}
use Rattle.std.proofs.lemmas.Bool.{cases_lt, ltb-true}
use Rattle.std.proofs.lemmas.List.{get_or_past}
use Rattle.std.proofs.lemmas.List.Elements.{All-contains, Contains-get_or}
use Rattle.std.proofs.lemmas.List.Sums.{AllPass-from_list_all}
use Rattle.elf_model.specs.Fields.{byte_at}
use Rattle.elf_model.specs.Objects.{ObjectParts, is_code, is_data}
use Rattle.elf_model.proofs.Elements.{contains_cases, contains_none}
use Rattle.mark_word.specs.Words.{Cell}
use Rattle.thumb_table.specs.declared.placements.Placement.{Placement}
use Rattle.thumb_table.specs.Layouts.{all_placed, code_bytes_of, data_bytes_of}
use Rattle.thumb_table.specs.Links.{Link, IsLink, IsWritten, AreWritten}
use Rattle.thumb_table.specs.Images.{IsLinkedCode, IsLinkedData}
use Rattle.thumb_table.proofs.LinkChecks.{links}
use Rattle.thumb_table.proofs.LinkLists.{has_link}
use Rattle.thumb_table.proofs.LinkComparing.{agrees, same_byte, same_cell, code_elsewhere, data_elsewhere}

abbrev pub EachLink : (Link → Type 0) → List Link → Type 0
EachLink P [] = ⊤
EachLink P (l ∷ ls) = P l × EachLink P ls

each_at : (P : Link → Type 0) (ls : List Link) → EachLink P ls → (l : Link) → Contains ls l → P l
each_at P [] each l h = absurd (contains_none l h)
each_at P (m ∷ ls) each l h =
    elim (contains_cases m ls l h) [
      | inl e ↦ subst P e each.0
      | inr r ↦ each_at P ls each.1 l r
    ]

-- a link's place in code, and in data
abbrev pub InCode : List ObjectParts → Placement → List ℕ → Link → Type 0
InCode objects at code l = is_code l.part.section ≡ true → IsWritten (all_placed objects at) code at.base l

abbrev pub InData : List ObjectParts → Placement → List Cell → Link → Type 0
InData objects at cells l = is_data l.part.section ≡ true → AreWritten (all_placed objects at) cells (at.base + at.room) l

module _ (objects : List ObjectParts) (at : Placement) where
  small_bytes : (code : List ℕ) → list_all (λ b. nat_lt b 256) code ≡ true → (x : ℕ) → byte_at code x < 2 ^ 8
  small_bytes code small x =
      elim (cases_lt x (length code)) [
        | inl lt ↦ ltb-true (get_or code x 0) 256 (All-contains (λ b. nat_lt b 256 ≡ true) code (get_or code x 0) (AllPass-from_list_all (λ b. nat_lt b 256) code small) (Contains-get_or code x 0 lt))
        | inr past ↦ let none = get_or_past code x 0 past in omega arith
      ]

  pub linked_code_is : (code : List ℕ) → EachLink (IsLink objects at) (links objects at)
      → length code ≡ length (code_bytes_of objects at) → agrees (links objects at) at.base (same_byte code (code_bytes_of objects at)) (length code) ≡ true
      → list_all (λ b. nat_lt b 256) code ≡ true → EachLink (InCode objects at code) (links objects at) → IsLinkedCode objects at code
  linked_code_is code are size same small each = record {
    size = size;
    small = small_bytes code small;
    others = code_elsewhere objects at code (links objects at) (each_at (IsLink objects at) (links objects at) are) size same;
    linked = λ l is. each_at (InCode objects at code) (links objects at) each l (has_link objects at l is);
  }

  pub linked_data_is : (cells : List Cell) → EachLink (IsLink objects at) (links objects at)
      → length cells ≡ length (data_bytes_of objects at) → agrees (links objects at) (at.base + at.room) (same_cell cells (data_bytes_of objects at)) (length cells) ≡ true
      → EachLink (InData objects at cells) (links objects at) → IsLinkedData objects at (record { base = at.base + at.room; cells = cells })
  linked_data_is cells are size same each = record {
    base = refl;
    size = size;
    others = data_elsewhere objects at cells (links objects at) (each_at (IsLink objects at) (links objects at) are) size same;
    linked = λ l is. each_at (InData objects at cells) (links objects at) each l (has_link objects at l is);
  }
