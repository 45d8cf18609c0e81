-- Relocations of code and of data, laid one after the other.
use Rattle.std.proofs.Common.{◌≡◌, ◌≤◌, ◌<◌, ℕ, ◌+◌, ◌-◌, Bool, true, false, cond, List, [], ◌∷◌, ◌++◌, length, take, drop, get_or, map, refl, sym, ap, ◌∙◌, subst, arith, Some}
use Rattle.std.specs.Prelude.{Contains, slice_get, not, ◌&&◌}
use Rattle.std.proofs.lemmas.Bool.{true≢false}
use Rattle.std.proofs.lemmas.List.{map-append}
use Rattle.elf_model.specs.declared.objects.RelocKind.{RelocKind}
use Rattle.elf_model.specs.declared.objects.RelocKind.TheVariants.{Abs32, Target1, ThmCall, ThmJump24, MovwAbs, MovtAbs, ThmJump19, ThmJump11, ThmJump8, Other}
use Rattle.elf_model.specs.Fields.{word}
use Rattle.elf_model.specs.Objects.{ObjectParts, is_code, is_data, place_width}
use Rattle.elf_model.proofs.Elements.{contains_at}
use Rattle.mark_word.specs.declared.marks.Mark.TheVariants.{Plain, Entry}
use Rattle.mark_word.specs.Words.{Word, Cell, bare}
use Rattle.mark_word.specs.Marks.{pieces}
use Rattle.thumb_encode.specs.declared.codes.Code.{Code}
use Rattle.reloc_places.specs.Relocations.{is_word, is_jump}
use Rattle.thumb_table.specs.declared.placements.Placement.{Placement}
use Rattle.thumb_table.specs.Layouts.{all_placed, code_bytes_of, data_bytes_of}
use Rattle.thumb_table.specs.Links.{Link, IsWritten, AreWritten, place_of, value_of, full, mark_for, mark_of}
use Rattle.flat_link.specs.declared.layout.Layout.{Layout}
use Rattle.flat_link.specs.declared.ties.Tie.{Tie}
use Rattle.flat_link.specs.Layout.{IsLayout, Stands, parts_in}
use Rattle.flat_link.specs.Sites.{link_of, all_links}
use Rattle.flat_link.specs.Ties.{IsTied, IsTie, AreTies}
use Rattle.flat_link.specs.Patches.{put_over, code_bytes, IsPut, AreLaid, IsPlaceCode}
use Rattle.flat_link.proofs.ListFacts.{taken, order_at}
use Rattle.flat_link.proofs.SecondFacts.{early, mapped_at}
use Rattle.flat_link.proofs.SiteFacts.{LinkBefore, links_order}
use Rattle.flat_link.proofs.TieFacts.{standing, tie_at, data_word, code_place, data_place, code_behind, data_behind}
use Rattle.flat_link.proofs.WrittenFacts.{word_width, written_stays, code_written, word_written, place_code}
use Rattle.flat_link.proofs.PatchFacts.{put_here, laid_more, laid_less}

-- what is put over a list
abbrev pub is_put : {X : Type 0} → (old new run : List X) (x n : ℕ) → length run ≡ n → x + n ≤ length old → new ≡ put_over old x run → IsPut old x n new
is_put old new run x n size inside is = record { run = run; size = size; inside = inside; is = is }

module _ (objects : List ObjectParts) (at : Placement) (is : Stands objects at) (k : Link) (tie : IsTied objects at k) (code : is_code k.part.section ≡ true) (bytes new : List ℕ) (size : length bytes ≡ length (code_bytes_of objects at)) where
  pub code_room : (x n : ℕ) → x ≡ place_of k - at.base → n ≡ place_width k.reloc.kind → x + n ≤ length bytes
  code_room x n stands wide = let p = code_place objects at is k tie.link code in omega (arith, p.0, p.1)

  pub word_put : is_word k.reloc.kind ≡ true → (x n : ℕ) → x ≡ place_of k - at.base → n ≡ full (all_placed objects at) k → new ≡ put_over bytes x (word n)
      → IsPut bytes (place_of k - at.base) (place_width k.reloc.kind) new × IsWritten (all_placed objects at) new at.base k
  word_put of_word x n stands value put =
      let inside : x + 4 ≤ length bytes = code_room x 4 stands (sym (word_width k.reloc.kind of_word)) in
      let p : IsPut bytes x 4 new = is_put bytes new (word n) x 4 refl inside put in
      let q : IsPut bytes (place_of k - at.base) 4 new = subst (λ (y : ℕ). IsPut bytes y 4 new) stands p in
      let here : take 4 (drop (place_of k - at.base) new) ≡ word (full (all_placed objects at) k) =
      ap (λ (y : ℕ). take 4 (drop y new)) (sym stands) ∙ put_here bytes x 4 new p ∙ ap (λ (m : ℕ). word m) value in
      (subst (λ (w : ℕ). IsPut bytes (place_of k - at.base) w new) (sym (word_width k.reloc.kind of_word)) q, word_written objects at k tie (all_placed objects at) at.base new of_word here)

  pub code_put : is_word k.reloc.kind ≡ false → (x : ℕ) (c : Code) → x ≡ place_of k - at.base → IsPlaceCode k (value_of (all_placed objects at) k) c → new ≡ put_over bytes x (code_bytes c)
      → IsPut bytes (place_of k - at.base) (place_width k.reloc.kind) new × IsWritten (all_placed objects at) new at.base k
  code_put none x c stands made put =
      let wide = place_code objects at k tie (all_placed objects at) c none made in
      let inside : x + length (code_bytes c) ≤ length bytes = code_room x (length (code_bytes c)) stands wide in
      let p : IsPut bytes x (length (code_bytes c)) new = is_put bytes new (code_bytes c) x (length (code_bytes c)) refl inside put in
      let q : IsPut bytes (place_of k - at.base) (length (code_bytes c)) new = subst (λ (y : ℕ). IsPut bytes y (length (code_bytes c)) new) stands p in
      let here : take (length (code_bytes c)) (drop (place_of k - at.base) new) ≡ code_bytes c =
      ap (λ (y : ℕ). take (length (code_bytes c)) (drop y new)) (sym stands) ∙ put_here bytes x (length (code_bytes c)) new p in
      (subst (λ (w : ℕ). IsPut bytes (place_of k - at.base) w new) wide q, code_written objects at k tie (all_placed objects at) at.base c new none made here)

module _ (objects : List ObjectParts) (at : Placement) (is : Stands objects at) (k : Link) (tie : IsTied objects at k) (datum : is_data k.part.section ≡ true) (cells new : List Cell) (size : length cells ≡ length (data_bytes_of objects at)) where
  pub data_room : (x n : ℕ) → x ≡ place_of k - (at.base + at.room) → n ≡ 4 → x + n ≤ length cells
  data_room x n stands four =
      let p = data_place objects at is k tie.link datum in
      let w = word_width k.reloc.kind (data_word objects at k tie datum) in
      omega (arith, p.0, p.1, w)

  pub data_put : (x : ℕ) (w : Word) → x ≡ place_of k - (at.base + at.room) → w ≡ record { bits = full (all_placed objects at) k; mark = mark_of (all_placed objects at) k } → new ≡ put_over cells x (pieces w)
      → IsPut cells (place_of k - (at.base + at.room)) (place_width k.reloc.kind) new × AreWritten (all_placed objects at) new (at.base + at.room) k
  data_put x w stands value put =
      let p : IsPut cells x 4 new = is_put cells new (pieces w) x 4 refl (data_room x 4 stands refl) put in
      let q : IsPut cells (place_of k - (at.base + at.room)) 4 new = subst (λ (y : ℕ). IsPut cells y 4 new) stands p in (
        subst (λ (m : ℕ). IsPut cells (place_of k - (at.base + at.room)) m new) (sym (word_width k.reloc.kind (data_word objects at k tie datum))) q,
        ap (λ (y : ℕ). take 4 (drop y new)) (sym stands) ∙ put_here cells x 4 new p ∙ ap pieces value,
      )

-- the mark of a word
pub word_mark : (kind : RelocKind) (leads : Bool) (n : ℕ) → is_word kind ≡ true → cond (leads && not (is_jump kind)) (mark_for kind n) Plain ≡ cond leads (Entry n) Plain
word_mark Abs32 true n e = refl
word_mark Abs32 false n e = refl
word_mark Target1 true n e = refl
word_mark Target1 false n e = refl
word_mark ThmCall b n e = absurd (true≢false (sym e))
word_mark ThmJump24 b n e = absurd (true≢false (sym e))
word_mark MovwAbs b n e = absurd (true≢false (sym e))
word_mark MovtAbs b n e = absurd (true≢false (sym e))
word_mark ThmJump19 b n e = absurd (true≢false (sym e))
word_mark ThmJump11 b n e = absurd (true≢false (sym e))
word_mark ThmJump8 b n e = absurd (true≢false (sym e))
word_mark (Other m) b n e = absurd (true≢false (sym e))

-- the relocations before one come before it
module _ (l : Layout) (ties : List Tie) (are : AreTies l ties) (i : ℕ) (t : Tie) (less : i < length ties) (e : t ≡ get_or ties i t) where
  earlier : (m : Link) → Contains (map link_of (take i ties)) m → LinkBefore m (link_of t)
  earlier m c =
      let h = early link_of ties i m c in
      order_at LinkBefore (all_links l.objects.now l.at) h.number i m (link_of t) (links_order l.objects.now l.at) h.below
      (subst (λ (ls : List Link). slice_get ls h.number ≡ Some m) are.all h.there)
      (subst (λ (ls : List Link). slice_get ls i ≡ Some (link_of t)) are.all (mapped_at link_of ties i t less e))

  one_of : (m : Link) → Contains (map link_of (take i ties)) m → IsTie l m
  one_of m c =
      let h = early link_of ties i m c in
      are.each m (contains_at (map link_of ties) h.number m h.there)

  one_more : map link_of (take (i + 1) ties) ≡ map link_of (take i ties) ++ link_of t ∷ []
  one_more = ap (map link_of) (taken ties i t less e) ∙ map-append link_of (take i ties) (t ∷ [])

  module _ (is : IsLayout l) (raw now new : List ℕ) where
    pub code_step : is_code t.lot.section.now ≡ true → IsPut now (place_of (link_of t) - l.at.base) (place_width t.site.reloc.now.kind) new → IsWritten (parts_in l) new l.at.base (link_of t)
        → AreLaid (λ k. is_code k.part.section) (λ all k. IsWritten (parts_in l) all l.at.base k) l.at.base (map link_of (take i ties)) 0 raw now
        → AreLaid (λ k. is_code k.part.section) (λ all k. IsWritten (parts_in l) all l.at.base k) l.at.base (map link_of (take (i + 1) ties)) 0 raw new
    code_step code put written laid =
        let k = link_of t in
        let tie = tie_at l ties are i t less e in
        let low = (code_place l.objects.now l.at (standing l is) k tie.link code).0 in
        subst (λ (ls : List Link). AreLaid (λ k. is_code k.part.section) (λ all k. IsWritten (parts_in l) all l.at.base k) l.at.base ls 0 raw new) (sym one_more)
        (laid_more (λ k. is_code k.part.section) (λ all k. IsWritten (parts_in l) all l.at.base k) l.at.base 0 raw (map link_of (take i ties)) k now new (omega arith) put written
        (λ m c s. let a = (code_place l.objects.now l.at (standing l is) m (one_of m c).link s).0 in (omega arith, code_behind l.objects.now l.at (standing l is) m k (one_of m c) tie (earlier m c) s code))
        (λ m c s same w. written_stays l.objects.now l.at m (one_of m c) (parts_in l) l.at.base now new same w) code laid)

    pub code_skip : is_code t.lot.section.now ≡ false
        → AreLaid (λ k. is_code k.part.section) (λ all k. IsWritten (parts_in l) all l.at.base k) l.at.base (map link_of (take i ties)) 0 raw now
        → AreLaid (λ k. is_code k.part.section) (λ all k. IsWritten (parts_in l) all l.at.base k) l.at.base (map link_of (take (i + 1) ties)) 0 raw now
    code_skip other laid =
        subst (λ (ls : List Link). AreLaid (λ k. is_code k.part.section) (λ all k. IsWritten (parts_in l) all l.at.base k) l.at.base ls 0 raw now) (sym one_more)
        (laid_less (λ k. is_code k.part.section) (λ all k. IsWritten (parts_in l) all l.at.base k) l.at.base 0 raw (map link_of (take i ties)) (link_of t) now other laid)

  module _ (is : IsLayout l) (raw now new : List Cell) where
    pub data_step : is_data t.lot.section.now ≡ true → IsPut now (place_of (link_of t) - (l.at.base + l.at.room)) (place_width t.site.reloc.now.kind) new → AreWritten (parts_in l) new (l.at.base + l.at.room) (link_of t)
        → AreLaid (λ k. is_data k.part.section) (λ all k. AreWritten (parts_in l) all (l.at.base + l.at.room) k) (l.at.base + l.at.room) (map link_of (take i ties)) (bare 0) raw now
        → AreLaid (λ k. is_data k.part.section) (λ all k. AreWritten (parts_in l) all (l.at.base + l.at.room) k) (l.at.base + l.at.room) (map link_of (take (i + 1) ties)) (bare 0) raw new
    data_step datum put written laid =
        let k = link_of t in
        let tie = tie_at l ties are i t less e in
        let low = (data_place l.objects.now l.at (standing l is) k tie.link datum).0 in
        subst (λ (ls : List Link). AreLaid (λ k. is_data k.part.section) (λ all k. AreWritten (parts_in l) all (l.at.base + l.at.room) k) (l.at.base + l.at.room) ls (bare 0) raw new) (sym one_more)
        (laid_more (λ k. is_data k.part.section) (λ all k. AreWritten (parts_in l) all (l.at.base + l.at.room) k) (l.at.base + l.at.room) (bare 0) raw (map link_of (take i ties)) k now new (omega arith) put written
        (λ m c s. let a = (data_place l.objects.now l.at (standing l is) m (one_of m c).link s).0 in (omega arith, data_behind l.objects.now l.at (standing l is) m k (one_of m c) tie (earlier m c) s datum))
        (λ m c s same w.
        let four = word_width m.reloc.kind (data_word l.objects.now l.at m (one_of m c) s) in
        subst (λ (n : ℕ). take n (drop (place_of m - (l.at.base + l.at.room)) new) ≡ take n (drop (place_of m - (l.at.base + l.at.room)) now)) four same ∙ w) datum laid)

    pub data_skip : is_data t.lot.section.now ≡ false
        → AreLaid (λ k. is_data k.part.section) (λ all k. AreWritten (parts_in l) all (l.at.base + l.at.room) k) (l.at.base + l.at.room) (map link_of (take i ties)) (bare 0) raw now
        → AreLaid (λ k. is_data k.part.section) (λ all k. AreWritten (parts_in l) all (l.at.base + l.at.room) k) (l.at.base + l.at.room) (map link_of (take (i + 1) ties)) (bare 0) raw now
    data_skip other laid =
        subst (λ (ls : List Link). AreLaid (λ k. is_data k.part.section) (λ all k. AreWritten (parts_in l) all (l.at.base + l.at.room) k) (l.at.base + l.at.room) ls (bare 0) raw now) (sym one_more)
        (laid_less (λ k. is_data k.part.section) (λ all k. AreWritten (parts_in l) all (l.at.base + l.at.room) k) (l.at.base + l.at.room) (bare 0) raw (map link_of (take i ties)) (link_of t) now other laid)
