-- The numbers of links in range can be put over the sections' bytes, one after the other.
use Rattle.std.proofs.Common.{◌≡◌, ◌≤◌, ◌<◌, ℕ, ◌+◌, ◌-◌, Bool, true, false, List, [], ◌∷◌, ◌++◌, length, map, take, drop, refl, sym, ap, ◌∙◌, subst, inl, inr, arith, append_assoc}
use Rattle.std.specs.Prelude.{Contains}
use Rattle.std.proofs.lemmas.Bool.{cases_Bool}
use Rattle.std.proofs.lemmas.List.{append-nil}
use Rattle.std.proofs.lemmas.List.Elements.{Contains-append_left, Contains-append_right}
use Rattle.elf_model.specs.Fields.{word}
use Rattle.elf_model.specs.Objects.{ObjectParts, is_code, is_data, place_width}
use Rattle.elf_model.proofs.Elements.{contains_cases, contains_here, contains_none}
use Rattle.mark_word.specs.Words.{Cell, Word, bare}
use Rattle.mark_word.specs.Marks.{pieces}
use Rattle.reloc_places.specs.Relocations.{is_word}
use Rattle.thumb_table.specs.declared.placements.Placement.{Placement}
use Rattle.thumb_table.specs.Layouts.{all_placed, code_bytes_of, data_bytes_of}
use Rattle.thumb_table.specs.Links.{Link, IsWritten, AreWritten, place_of, full, mark_of, is_in_range}
use Rattle.flat_link.specs.Layout.{Stands}
use Rattle.flat_link.specs.Ties.{IsTied}
use Rattle.flat_link.specs.Sites.{all_links}
use Rattle.flat_link.specs.Patches.{put_over, code_bytes, IsPut, AreLaid}
use Rattle.flat_link.proofs.ListFacts.{InOrder, none, before}
use Rattle.flat_link.proofs.SiteFacts.{LinkBefore, links_order}
use Rattle.flat_link.proofs.TieFacts.{data_word, code_place, data_place, code_behind, data_behind}
use Rattle.flat_link.proofs.WrittenFacts.{word_width, written_stays}
use Rattle.flat_link.proofs.LaidFacts.{word_put, code_put, data_put}
use Rattle.flat_link.proofs.PatchFacts.{laid_none, laid_more, laid_less}
use Rattle.flat_link.proofs.ImageFacts.{as_many}
use Rattle.flat_link.proofs.LinkCodes.{has_place_code}
use Rattle.flat_link.proofs.SmallBytes.{AreBytes, bytes_word, bytes_code, bytes_put}

order_first : {X : Type 0} (R : X → X → Type 0) (x : X) (xs : List X) → InOrder R (x ∷ xs) → (y : X) → Contains xs y → R x y
order_first R _ _ (before x xs h more) y c = h y c

order_later : {X : Type 0} (R : X → X → Type 0) (x : X) (xs : List X) → InOrder R (x ∷ xs) → InOrder R xs
order_later R _ _ (before x xs h more) = more

-- what stands before an element comes before it
order_behind : {X : Type 0} (R : X → X → Type 0) (done : List X) (k : X) (rest : List X) → InOrder R (done ++ k ∷ rest) → (m : X) → Contains done m → R m k
order_behind R [] k rest order m c = absurd (contains_none m c)
order_behind R (d ∷ ds) k rest order m c =
    elim (contains_cases d ds m c) [
      | inl e ↦ subst (λ (z : _). R z k) e (order_first R d (ds ++ k ∷ rest) order k (Contains-append_right ds (k ∷ rest) k (contains_here k rest)))
      | inr r ↦ order_behind R ds k rest (order_later R d (ds ++ k ∷ rest) order) m r
    ]

-- What one link adds, all of them do.
module _ {X : Type 0} (Good : List X → Type 0) (Laid : List Link → List X → Type 0) (all : List Link) where
  pub record Made (done : List Link) : Type 0 where
    pub items : List X
    pub good : Good items
    pub laid : Laid done items

  abbrev pub Steps : Type 0
  Steps = (done : List Link) (k : Link) → Contains all k → ((m : Link) → Contains done m → Contains all m × LinkBefore m k) → (now : List X) → Good now → Laid done now → Made (done ++ k ∷ [])

  lay : Steps → (done rest : List Link) → InOrder LinkBefore (done ++ rest) → ((k : Link) → Contains (done ++ rest) k → Contains all k) → Made done → Made (done ++ rest)
  lay step done [] order within made = subst Made (sym (append-nil done)) made
  lay step done (k ∷ rest) order within made =
      let e : (done ++ k ∷ []) ++ rest ≡ done ++ k ∷ rest = append_assoc done (k ∷ []) rest in
      let one = step done k (within k (Contains-append_right done (k ∷ rest) k (contains_here k rest)))
      (λ m c. (within m (Contains-append_left done (k ∷ rest) m c), order_behind LinkBefore done k rest order m c)) made.items made.good made.laid in
      subst Made e (lay step (done ++ k ∷ []) rest (subst (λ (ls : List Link). InOrder LinkBefore ls) (sym e) order) (λ j c. within j (subst (λ (ls : List Link). Contains ls j) e c)) one)

module _ (objects : List ObjectParts) (at : Placement) (is : Stands objects at) (tied : (k : Link) → Contains (all_links objects at) k → IsTied objects at k)
    (range : (k : Link) → Contains (all_links objects at) k → is_in_range (all_placed objects at) k ≡ true) where
  abbrev pub CodeLaid : List Link → List ℕ → Type 0
  CodeLaid done now = AreLaid (λ k. is_code k.part.section) (λ all k. IsWritten (all_placed objects at) all at.base k) at.base done 0 (code_bytes_of objects at) now

  record NewCode (k : Link) (now : List ℕ) : Type 0 where
    pub bytes : List ℕ
    pub good : AreBytes bytes
    pub put : IsPut now (place_of k - at.base) (place_width k.reloc.kind) bytes
    pub written : IsWritten (all_placed objects at) bytes at.base k

  new_code : (k : Link) → Contains (all_links objects at) k → is_code k.part.section ≡ true → (now : List ℕ) → AreBytes now → length now ≡ length (code_bytes_of objects at) → NewCode k now
  new_code k there code now good size =
      let x = place_of k - at.base in
      let parts = all_placed objects at in
      elim (cases_Bool (is_word k.reloc.kind)) [
        | inl of_word ↦
            let run = word (full parts k) in
            let p = word_put objects at is k (tied k there) code now (put_over now x run) size of_word x (full parts k) refl refl refl in
            record { bytes = put_over now x run; good = bytes_put now x run good (bytes_word (full parts k)); put = p.0; written = p.1 }
        | inr of_instr ↦
            let c = has_place_code objects at k (tied k there) of_instr parts (range k there) in
            let run = code_bytes c.0 in
            let p = code_put objects at is k (tied k there) code now (put_over now x run) size of_instr x c.0 refl c.1 refl in
            record { bytes = put_over now x run; good = bytes_put now x run good (bytes_code c.0); put = p.0; written = p.1 }
      ]

  code_step : Steps AreBytes CodeLaid (all_links objects at)
  code_step done k there earlier now good laid =
      elim (cases_Bool (is_code k.part.section)) [
        | inr other ↦ record { items = now; good = good; laid = laid_less (λ k. is_code k.part.section) (λ all k. IsWritten (all_placed objects at) all at.base k) at.base 0 (code_bytes_of objects at) done k now other laid }
        | inl code ↦
            let w = new_code k there code now good laid.size in
            let low = (code_place objects at is k (tied k there).link code).0 in
            record {
              items = w.bytes;
              good = w.good;
              laid = laid_more (λ k. is_code k.part.section) (λ all k. IsWritten (all_placed objects at) all at.base k) at.base 0 (code_bytes_of objects at) done k now w.bytes (omega arith) w.put w.written
                  (λ m c s.
                  let h = earlier m c in
                  let a = (code_place objects at is m (tied m h.0).link s).0 in
                  (omega arith, code_behind objects at is m k (tied m h.0) (tied k there) h.1 s code))
                  (λ m c s same v. written_stays objects at m (tied m (earlier m c).0) (all_placed objects at) at.base now w.bytes same v) code laid;
            }
      ]

  pub code_laid : AreBytes (code_bytes_of objects at) → Made AreBytes CodeLaid (all_links objects at) (all_links objects at)
  code_laid good =
      lay AreBytes CodeLaid (all_links objects at) code_step [] (all_links objects at) (links_order objects at) (λ k c. c)
      (record { items = code_bytes_of objects at; good = good; laid = laid_none (λ k. is_code k.part.section) (λ all k. IsWritten (all_placed objects at) all at.base k) at.base 0 (code_bytes_of objects at) })

  abbrev pub from : ℕ
  from = at.base + at.room

  abbrev pub DataLaid : List Link → List Cell → Type 0
  DataLaid done now = AreLaid (λ k. is_data k.part.section) (λ all k. AreWritten (all_placed objects at) all from k) from done (bare 0) (map bare (data_bytes_of objects at)) now

  abbrev pub AnyCells : List Cell → Type 0
  AnyCells cells = length cells ≡ length (data_bytes_of objects at)

  data_step : Steps AnyCells DataLaid (all_links objects at)
  data_step done k there earlier now good laid =
      elim (cases_Bool (is_data k.part.section)) [
        | inr other ↦ record { items = now; good = good; laid = laid_less (λ k. is_data k.part.section) (λ all k. AreWritten (all_placed objects at) all from k) from (bare 0) (map bare (data_bytes_of objects at)) done k now other laid }
        | inl datum ↦
            let w : Word = record { bits = full (all_placed objects at) k; mark = mark_of (all_placed objects at) k } in
            let new = put_over now (place_of k - from) (pieces w) in
            let p = data_put objects at is k (tied k there) datum now new good (place_of k - from) w refl refl refl in
            let low = (data_place objects at is k (tied k there).link datum).0 in
            let more = laid_more (λ k. is_data k.part.section) (λ all k. AreWritten (all_placed objects at) all from k) from (bare 0) (map bare (data_bytes_of objects at)) done k now new (omega arith) p.0 p.1
            (λ m c s.
            let h = earlier m c in
            let a = (data_place objects at is m (tied m h.0).link s).0 in
            (omega arith, data_behind objects at is m k (tied m h.0) (tied k there) h.1 s datum))
            (λ m c s same v.
            let four = word_width m.reloc.kind (data_word objects at m (tied m (earlier m c).0) s) in
            subst (λ (n : ℕ). take n (drop (place_of m - from) new) ≡ take n (drop (place_of m - from) now)) four same ∙ v) datum laid in
            record { items = new; good = more.size ∙ as_many (data_bytes_of objects at); laid = more }
      ]

  pub data_laid : Made AnyCells DataLaid (all_links objects at) (all_links objects at)
  data_laid =
      lay AnyCells DataLaid (all_links objects at) data_step [] (all_links objects at) (links_order objects at) (λ k c. c)
      (record {
        items = map bare (data_bytes_of objects at);
        good = as_many (data_bytes_of objects at);
        laid = laid_none (λ k. is_data k.part.section) (λ all k. AreWritten (all_placed objects at) all from k) from (bare 0) (map bare (data_bytes_of objects at));
      })
