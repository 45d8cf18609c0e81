-- Bytes of data are the same in both images, up to addresses of code.
use Rattle.std.specs.Prelude.{◌≡◌, ◌<◌, ◌≤◌, ◌⊎◌, ℕ, zero, suc, ◌+◌, ◌-◌, ◌==◌, nat_lt, nat_le, ◌&&◌, ◌||◌, not, Bool, true, false, cond, List, [], ◌∷◌, length, replicate, get_or, take, drop, Some, slice_get, Contains, refl}
use Rattle.std.proofs.Common.{arith, inl, inr, ap, sym, ◌∙◌, subst}
use Rattle.std.proofs.lemmas.Bool.{cases_Bool, cases_lt, cases_eq, both_ways, and_parts, and_left, and_from, leb-true, ltb-true, not-true, cond-true, cond-false, not_from_false}
use Rattle.std.proofs.lemmas.List.{get_or-take, get_or-drop}
use Rattle.std.proofs.lemmas.Option.{none-some, same_Some}
use Rattle.elf_model.specs.declared.objects.Section.{Section}
use Rattle.elf_model.specs.declared.objects.Reloc.{Reloc}
use Rattle.elf_model.specs.declared.objects.RelocKind.{RelocKind}
use Rattle.elf_model.specs.declared.objects.RelocKind.TheVariants.{Abs32, Target1, ThmCall, ThmJump24, MovwAbs, MovtAbs, ThmJump19, ThmJump11, ThmJump8, Other}
use Rattle.elf_model.specs.Constants.{nobits}
use Rattle.elf_model.specs.Fields.{byte_at}
use Rattle.elf_model.specs.Objects.{ObjectParts, is_code, is_data, is_alloc, place_width, reloc_code}
use Rattle.mark_word.specs.declared.marks.Mark.{Mark}
use Rattle.mark_word.specs.declared.marks.Mark.TheVariants.{Plain, Entry}
use Rattle.mark_word.specs.Words.{Word, Cell, bare, byte_of}
use Rattle.mark_word.specs.Marks.{pieces, piece_of}
use Rattle.thumb_table.specs.declared.placements.Placement.{Placement}
use Rattle.thumb_table.specs.Parts.{Image}
use Rattle.reloc_places.specs.Relocations.{is_word, is_jump, IsPlace, in_data, in_code as in_data_word, on_instr, IsRight}
use Rattle.thumb_table.specs.Layouts.{Placed, all_placed, all_chosen, part_of, part_bytes, data_parts, data_bytes_of}
use Rattle.thumb_table.specs.Links.{Link, IsLink, leads_to_code, full, mark_of, mark_for, place_of, covers}
use Rattle.thumb_table.specs.Images.{CanLink, IsImage}
use Rattle.sim_images.specs.ImageLaws.{AreObjects, Here}
use Rattle.sim_images.specs.Counterparts.{Places, AreAnswers, Answers, SameSense, IsAccepted, DataAnswers}
use Rattle.sim_images.specs.PairLaws.{SameValue, number, address, branch, SamePiece, DataMeets}
use Rattle.sim_images.proofs.PartFacts.{part_is, in_part, all_chosen_is, data_good}
use Rattle.sim_images.proofs.ImageFacts.{data_inside, data_as_is}
use Rattle.sim_images.proofs.RightPlaces.{no_data}
use Rattle.sim_images.proofs.EachLinked.{linked_at}
use Rattle.sim_images.proofs.DataStay.{all_alike, data_sort, data_lengths}
use Rattle.sim_images.proofs.LinksMeet.{room_of, values_meet}
use Rattle.sim_images.proofs.HaveImages.{in_room, jump_place}
use Rattle.sim_images.proofs.PartsOnce.{Lies, inside, between, lies, here_of, zeros}

pub link_here : (objects : List ObjectParts) (at : Placement) (l : Link) → IsLink objects at l → Here objects at l.file l.object l.reloc.section l.part
link_here objects at l il =
    let f = part_is objects at l.file l.reloc.section l.part il.part in
    let same : f.object ≡ l.object = same_Some f.object l.object (sym f.there ∙ il.object) in
    record { object = il.object; section = subst (λ (z : ObjectParts). slice_get z.sections l.reloc.section ≡ Some l.part.section) same f.section; part = il.part }

pub four_wide : (k : RelocKind) → place_width k ≤ 4
four_wide k = go ((reloc_code k == 102) || (reloc_code k == 103))
  where
    go : (b : Bool) → cond b 2 4 ≤ 4
    go true = omega arith
    go false = omega arith

pub record Covers (l : Link) (a : ℕ) : Type 0 where
  pub low : place_of l ≤ a
  pub high : a < place_of l + place_width l.reloc.kind

pub covers_is : (l : Link) (a : ℕ) → covers a l ≡ true → Covers l a
covers_is l a y =
    let p = and_parts (nat_le (place_of l) a) (nat_lt a (place_of l + place_width l.reloc.kind)) y in
    record { low = leb-true (place_of l) a p.0; high = ltb-true a (place_of l + place_width l.reloc.kind) p.1 }

uncovered : (l : Link) (a : ℕ) → (Covers l a → ⊥) → covers a l ≡ false
uncovered l a h = elim (cases_Bool (covers a l)) [ inl y ↦ absurd (h (covers_is l a y)) | inr n ↦ n ]

-- in a gap of data no relocation has a byte
free_gap : (objects : List ObjectParts) (at : Placement) → AreObjects objects → CanLink objects at → (a : ℕ) → at.base + at.room ≤ a
    → ((p : Placed) → Contains (data_parts objects at) p → (a < p.start) ⊎ (p.start + p.section.size ≤ a)) → (l : Link) → IsLink objects at l → covers a l ≡ false
free_gap objects at sound can a low gap l il =
    uncovered l a (λ c.
    let wide = in_part objects at l sound il in
    let f = part_is objects at l.file l.reloc.section l.part il.part in
    let c1 : place_of l ≤ a = c.low in
    let c2 : a < place_of l + place_width l.reloc.kind = c.high in
    elim (f.sort) [
      | inl code ↦ let r = in_room objects at sound (room_of objects at can) l.file l.reloc.section l.object l.part (link_here objects at l il) code.1 in let e = r.1 in omega arith
      | inr datum ↦ elim (gap l.part datum.0) [ inl b ↦ omega arith | inr b ↦ omega arith ]
    ])

-- cells of a linked word
piece_at : (w : Word) (i : ℕ) → i < 4 → get_or (pieces w) i (bare 0) ≡ record { byte = byte_of i w.bits; piece = piece_of w.mark i }
piece_at w zero lt = refl
piece_at w (suc zero) lt = refl
piece_at w (suc (suc zero)) lt = refl
piece_at w (suc (suc (suc zero))) lt = refl
piece_at w (suc (suc (suc (suc n)))) lt = absurd (omega arith)

abbrev linked_cell : ℕ → Mark → ℕ → Cell
linked_cell i mark bits = record { byte = byte_of i bits; piece = piece_of mark i }

cell_of : (objects : List ObjectParts) (at : Placement) (image : Image) → AreObjects objects → IsImage objects at image → (l : Link) → IsLink objects at l → is_data l.part.section ≡ true
    → (i k : ℕ) → i < 4 → at.base + at.room + k ≡ place_of l + i → get_or image.memory.cells k (bare 0) ≡ linked_cell i (mark_of (all_placed objects at) l) (full (all_placed objects at) l)
cell_of objects at image sound is l il datum i k lt e =
    let low = (data_inside objects at image sound is l.file l.reloc.section l.object l.part (link_here objects at l il) datum).0 in
    let base : image.memory.base ≡ at.base + at.room = is.memory.base in
    let cells : List Cell = image.memory.cells in
    let n : ℕ = place_of l - image.memory.base in
    let index : k ≡ n + i = omega arith in
    let written : take 4 (drop n cells) ≡ pieces (record { bits = full (all_placed objects at) l; mark = mark_of (all_placed objects at) l }) = is.memory.linked l il datum in
    ap (λ (m : ℕ). get_or cells m (bare 0)) index
    ∙ (sym (get_or-drop n cells i (bare 0)) ∙ (sym (get_or-take 4 (drop n cells) i (bare 0) lt) ∙ (ap (λ (cs : List Cell). get_or cs i (bare 0)) written ∙ piece_at (record { bits = full (all_placed objects at) l; mark = mark_of (all_placed objects at) l }) i lt)))

word_place : (o : ObjectParts) (r : Reloc) → IsPlace o r → (s : Section) → slice_get o.sections r.section ≡ Some s → is_data s ≡ true → is_word r.kind ≡ true
word_place o r (in_data s there datum word) t e d = word
word_place o r (in_data_word word w) t e d = word
word_place o r (on_instr end i start given fits) t e d =
    absurd (no_data t (subst (λ (z : Section). is_code z ≡ true) (same_Some start.range.section t (sym start.range.is_there ∙ e)) start.range.in_code) d)

word_mark : (k : RelocKind) (n : ℕ) → is_word k ≡ true → mark_for k n ≡ Entry n
word_mark Abs32 n w = refl
word_mark Target1 n w = refl
word_mark ThmCall n w = refl
word_mark ThmJump24 n w = refl
word_mark MovwAbs n w = absurd (both_ways false refl w)
word_mark MovtAbs n w = refl
word_mark ThmJump19 n w = refl
word_mark ThmJump11 n w = refl
word_mark ThmJump8 n w = refl
word_mark (Other x) n w = refl

-- a relocation that has a byte, or none
data Search (rs : List Reloc) (j x : ℕ) : Type 0 where
  hit : (k : ℕ) (r : Reloc) → slice_get rs k ≡ Some r → r.section ≡ j → r.offset ≤ x → x < r.offset + 4 → Search rs j x
  miss : ((k : ℕ) (r : Reloc) → slice_get rs k ≡ Some r → r.section ≡ j → (x < r.offset) ⊎ (r.offset + 4 ≤ x)) → Search rs j x

search_all : (rs : List Reloc) (j x : ℕ) → Search rs j x
search_all [] j x = miss (λ k r e s. absurd (none-some r e))
search_all (q ∷ rs) j x = first (search_all rs j x)
  where
    later : Search rs j x → (q.section ≡ j → (x < q.offset) ⊎ (q.offset + 4 ≤ x)) → Search (q ∷ rs) j x
    later (hit k r e s l h) own = hit (suc k) r e s l h
    later (miss more) own = miss both
      where
        both : (k : ℕ) (r : Reloc) → slice_get (q ∷ rs) k ≡ Some r → r.section ≡ j → (x < r.offset) ⊎ (r.offset + 4 ≤ x)
        both zero r e s = subst (λ (z : Reloc). z.section ≡ j → (x < z.offset) ⊎ (z.offset + 4 ≤ x)) (same_Some q r e) own s
        both (suc k) r e s = more k r e s

    first : Search rs j x → Search (q ∷ rs) j x
    first more =
        elim (cases_eq q.section j) [
          | inr other ↦ later more (λ e. absurd (other e))
          | inl same ↦ elim (cases_lt x q.offset) [
            | inl under ↦ later more (λ e. inl under)
            | inr over ↦ elim (cases_lt x (q.offset + 4)) [ inl within ↦ hit 0 q refl same over within | inr past ↦ later more (λ e. inr past) ]
          ]
        ]

-- a section's bytes
part_same : (s t : Section) (x : ℕ) → t.kind ≡ s.kind → get_or t.bytes x 0 ≡ get_or s.bytes x 0 → get_or (part_bytes t) x 0 ≡ get_or (part_bytes s) x 0
part_same s t x kind same = ap (λ (n : ℕ). get_or (cond (n == nobits) (replicate t.size 0) t.bytes) x 0) kind ∙ go (s.kind == nobits)
  where
    go : (b : Bool) → get_or (cond b (replicate t.size 0) t.bytes) x 0 ≡ get_or (cond b (replicate s.size 0) s.bytes) x 0
    go true = zeros t.size x ∙ sym (zeros s.size x)
    go false = same

-- the link of a relocation of a section that is in memory
record LinkAt (objects : List ObjectParts) (at : Placement) (i : ℕ) (o : ObjectParts) (p : Placed) (r : Reloc) : Type 0 where
  pub link : Link
  pub is_link : IsLink objects at link
  pub file : link.file ≡ i
  pub object : link.object ≡ o
  pub reloc : link.reloc ≡ r
  pub part : link.part ≡ p

link_at : (objects : List ObjectParts) (at : Placement) → AreObjects objects → CanLink objects at → (i j : ℕ) (o : ObjectParts) (p : Placed) → Here objects at i o j p → (k : ℕ) (r : Reloc) → slice_get o.relocs k ≡ Some r → r.section ≡ j
    → LinkAt objects at i o p r
link_at objects at sound can i j o p here k r e section =
    let lk = linked_at objects at sound can i k o r (record { object = here.object; reloc = e }) in
    let object : lk.link.object ≡ o = same_Some lk.link.object o (sym lk.is_link.object ∙ (ap (λ (n : ℕ). slice_get objects n) lk.file ∙ here.object)) in
    let reloc : lk.link.reloc ≡ r =
    same_Some lk.link.reloc r (sym lk.is_link.reloc ∙ (ap (λ (z : ObjectParts). slice_get z.relocs lk.link.number) object ∙ (ap (λ (n : ℕ). slice_get o.relocs n) lk.number ∙ e))) in
    record {
      link = lk.link;
      is_link = lk.is_link;
      file = lk.file;
      object = object;
      reloc = reloc;
      part = same_Some lk.link.part p (sym lk.is_link.part
          ∙ (ap (λ (n : ℕ). part_of (all_placed objects at) n lk.link.reloc.section) lk.file ∙ (ap (λ (z : Reloc). part_of (all_placed objects at) i z.section) reloc ∙ (ap (λ (n : ℕ). part_of (all_placed objects at) i n) section ∙ here.part))));
    }

-- what no relocation of a section has, no link of that section covers
own_free : (objects : List ObjectParts) (at : Placement) (i j : ℕ) (o : ObjectParts) (p : Placed) → Here objects at i o j p → (x : ℕ)
    → ((k : ℕ) (r : Reloc) → slice_get o.relocs k ≡ Some r → r.section ≡ j → (x < r.offset) ⊎ (r.offset + 4 ≤ x))
    → (l : Link) → IsLink objects at l → l.file ≡ i → l.reloc.section ≡ j → covers (p.start + x) l ≡ false
own_free objects at i j o p here x none l il file section =
    let object : l.object ≡ o = same_Some l.object o (sym il.object ∙ (ap (λ (n : ℕ). slice_get objects n) file ∙ here.object)) in
    let part : l.part ≡ p = same_Some l.part p (sym il.part ∙ (ap (λ (n : ℕ). part_of (all_placed objects at) n l.reloc.section) file ∙ (ap (λ (n : ℕ). part_of (all_placed objects at) i n) section ∙ here.part))) in
    let start : l.part.start ≡ p.start = ap (λ (z : Placed). z.start) part in
    let wide = four_wide l.reloc.kind in
    let apart = none l.number l.reloc (ap (λ (z : ObjectParts). slice_get z.relocs l.number) (sym object) ∙ il.reloc) section in
    uncovered l (p.start + x) (λ c.
    let low : place_of l ≤ p.start + x = c.low in
    let high : p.start + x < place_of l + place_width l.reloc.kind = c.high in
    elim apart [ inl b ↦ omega arith | inr b ↦ omega arith ])

module _ (ins outs : List ObjectParts) (at : Placement) (moved : ℕ → Places) (image hard : Image) (so : AreObjects ins) (sh : AreObjects outs) (answers : AreAnswers ins outs moved)
    (accepted : (i : ℕ) (o : ObjectParts) → slice_get ins i ≡ Some o → IsAccepted o)
    (datas : (i : ℕ) (o h : ObjectParts) → slice_get ins i ≡ Some o → slice_get outs i ≡ Some h → DataAnswers o h (moved i)) (is : IsImage ins at image) (other : IsImage outs at hard) where
  bare_same : (c h : Cell) (b e : ℕ) → c ≡ bare b → h ≡ bare e → e ≡ b → SamePiece ins outs at moved c.piece c.byte h.byte
  bare_same c h b e f g same = subst (λ (z : Cell). SamePiece ins outs at moved z.piece z.byte h.byte) (sym f) (ap (λ (z : Cell). z.byte) g ∙ same)

  -- two linked words
  words_same : (l m : Link) (i : ℕ) → is_word l.reloc.kind ≡ true → SameValue ins outs at moved l m → (is_jump l.reloc.kind ≡ true → ⊥)
      → SamePiece ins outs at moved (piece_of (mark_of (all_placed ins at) l) i) (byte_of i (full (all_placed ins at) l)) (byte_of i (full (all_placed outs at) m))
  words_same l m i word (number jump a b same) never =
      let mark : mark_of (all_placed ins at) l ≡ Plain =
      cond-false (leads_to_code (all_placed ins at) l && not (is_jump l.reloc.kind)) (mark_for l.reloc.kind (full (all_placed ins at) l)) Plain (and_left (leads_to_code (all_placed ins at) l) (not (is_jump l.reloc.kind)) a) in
      subst (λ (z : Mark). SamePiece ins outs at moved (piece_of z i) (byte_of i (full (all_placed ins at) l)) (byte_of i (full (all_placed outs at) m))) (sym mark) (ap (λ (n : ℕ). byte_of i n) same)
  words_same l m i word (address a b jump p q f g moves) never =
      let mark : mark_of (all_placed ins at) l ≡ Entry (full (all_placed ins at) l) =
      cond-true (leads_to_code (all_placed ins at) l && not (is_jump l.reloc.kind)) (mark_for l.reloc.kind (full (all_placed ins at) l)) Plain
      (and_from (leads_to_code (all_placed ins at) l) (not (is_jump l.reloc.kind)) p (not_from_false (is_jump l.reloc.kind) jump)) ∙ word_mark l.reloc.kind (full (all_placed ins at) l) word in
      subst (λ (z : Mark). SamePiece ins outs at moved (piece_of z i) (byte_of i (full (all_placed ins at) l)) (byte_of i (full (all_placed outs at) m))) (sym mark)
      (a, b, ap (λ (n : ℕ). Entry n) f, moves, ap (λ (n : ℕ). byte_of i n) g)
  words_same l m i word (branch jump moves) never = absurd (never jump)

  linked_same : (l m : Link) → IsLink ins at l → IsLink outs at m → m.file ≡ l.file → is_data l.part.section ≡ true → is_data m.part.section ≡ true → m.reloc.kind ≡ l.reloc.kind → Answers l.object m.object (moved l.file) l.reloc m.reloc
      → place_of m ≡ place_of l → (i k : ℕ) → i < 4 → at.base + at.room + k ≡ place_of l + i
      → SamePiece ins outs at moved (get_or image.memory.cells k (bare 0)).piece (get_or image.memory.cells k (bare 0)).byte (get_or hard.memory.cells k (bare 0)).byte
  linked_same l m il im file dl dm kind answer place i k lt e =
      let a = cell_of ins at image so is l il dl i k lt e in
      let b = cell_of outs at hard sh other m im dm i k lt (e ∙ ap (λ (n : ℕ). n + i) (sym place)) in
      let right : IsRight l.object l.number l.reloc = is.can.right l.file l.number l.object l.reloc (record { object = il.object; reloc = il.reloc }) in
      let here = link_here ins at l il in
      let word : is_word l.reloc.kind ≡ true = word_place l.object l.reloc right.place l.part.section here.section dl in
      let never : is_jump l.reloc.kind ≡ true → ⊥ = λ jump. let s = jump_place l.object l.reloc right.place jump in no_data l.part.section (subst (λ (z : Section). is_code z ≡ true) (same_Some s.0 l.part.section (sym s.1 ∙ here.section)) s.2) dl in
      let sense : SameSense l.reloc m.reloc = record { jump = ap (λ (z : RelocKind). is_jump z) kind; kind = λ n. kind } in
      let value = values_meet ins outs at moved image hard so sh answers accepted is other l m il im file sense answer in
      subst (λ (z : Cell). SamePiece ins outs at moved z.piece z.byte (get_or hard.memory.cells k (bare 0)).byte) (sym a)
      (subst (λ (z : Cell). SamePiece ins outs at moved (piece_of (mark_of (all_placed ins at) l) i) (byte_of i (full (all_placed ins at) l)) z.byte) (sym b) (words_same l m i word value never))

  inside_same : (i j : ℕ) (o h : ObjectParts) (p q : Placed) → Here ins at i o j p → Here outs at i h j q → is_data p.section ≡ true → is_data q.section ≡ true → q.start ≡ p.start → q.section.size ≡ p.section.size → q.section.kind ≡ p.section.kind
      → (k : ℕ) → p.start ≤ at.base + at.room + k → at.base + at.room + k < p.start + p.section.size
      → SamePiece ins outs at moved (get_or image.memory.cells k (bare 0)).piece (get_or image.memory.cells k (bare 0)).byte (get_or hard.memory.cells k (bare 0)).byte
  inside_same i j o h p q hp hq dp dq start size kind k low high = go (search_all o.relocs j (at.base + at.room + k - p.start))
    where
      no_code : is_code p.section ≡ false
      no_code = not-true (is_code p.section) (and_parts (is_alloc p.section.flags) (not (is_code p.section)) dp).1

      by_hit : (r q' : Reloc) → LinkAt ins at i o p r → LinkAt outs at i h q q' → q'.offset ≡ r.offset → q'.kind ≡ r.kind → Answers o h (moved i) r q' → r.offset ≤ at.base + at.room + k - p.start → at.base + at.room + k - p.start < r.offset + 4
          → SamePiece ins outs at moved (get_or image.memory.cells k (bare 0)).piece (get_or image.memory.cells k (bare 0)).byte (get_or hard.memory.cells k (bare 0)).byte
      by_hit r q' a b offset same_kind ans l1 l2 =
          let ap_start : a.link.part.start ≡ p.start = ap (λ (z : Placed). z.start) a.part in
          let bp_start : b.link.part.start ≡ q.start = ap (λ (z : Placed). z.start) b.part in
          let ar : a.link.reloc.offset ≡ r.offset = ap (λ (z : Reloc). z.offset) a.reloc in
          let br : b.link.reloc.offset ≡ q'.offset = ap (λ (z : Reloc). z.offset) b.reloc in
          let place : place_of b.link ≡ place_of a.link = omega arith in
          let lt : at.base + at.room + k - p.start - r.offset < 4 = omega arith in
          let e : at.base + at.room + k ≡ place_of a.link + (at.base + at.room + k - p.start - r.offset) = omega arith in
          let answer : Answers a.link.object b.link.object (moved a.link.file) a.link.reloc b.link.reloc =
          subst (λ (f : ℕ). Answers a.link.object b.link.object (moved f) a.link.reloc b.link.reloc) (sym a.file)
          (subst (λ (z : ObjectParts). Answers z b.link.object (moved i) a.link.reloc b.link.reloc) (sym a.object)
          (subst (λ (z : ObjectParts). Answers o z (moved i) a.link.reloc b.link.reloc) (sym b.object)
          (subst (λ (z : Reloc). Answers o h (moved i) z b.link.reloc) (sym a.reloc) (subst (λ (z : Reloc). Answers o h (moved i) r z) (sym b.reloc) ans)))) in
          linked_same a.link b.link a.is_link b.is_link (b.file ∙ sym a.file) (subst (λ (z : Placed). is_data z.section ≡ true) (sym a.part) dp) (subst (λ (z : Placed). is_data z.section ≡ true) (sym b.part) dq)
          (ap (λ (z : Reloc). z.kind) b.reloc ∙ (same_kind ∙ sym (ap (λ (z : Reloc). z.kind) a.reloc))) answer place (at.base + at.room + k - p.start - r.offset) k lt e

      go : Search o.relocs j (at.base + at.room + k - p.start) → SamePiece ins outs at moved (get_or image.memory.cells k (bare 0)).piece (get_or image.memory.cells k (bare 0)).byte (get_or hard.memory.cells k (bare 0)).byte
      go (hit n r e section l1 l2) =
          let d = (datas i o h hp.object hq.object).linked n r p.section e (ap (λ (m : ℕ). slice_get o.sections m) section ∙ hp.section) no_code in
          by_hit r d.1 (link_at ins at so is.can i j o p hp n r e section) (link_at outs at sh other.can i j h q hq d.0 d.1 d.2 (d.3 ∙ section)) d.4 d.5 d.6 l1 l2
      go (miss none) =
          let x : ℕ = at.base + at.room + k - p.start in
          let lx : x < p.section.size = omega arith in
          let ly : x < q.section.size = omega arith in
          let b1 : image.memory.base ≡ at.base + at.room = is.memory.base in
          let b2 : hard.memory.base ≡ at.base + at.room = other.memory.base in
          let i1 : p.start + x - image.memory.base ≡ k = omega arith in
          let i2 : q.start + x - hard.memory.base ≡ k = omega arith in
          let none_too : (n : ℕ) (z : Reloc) → slice_get h.relocs n ≡ Some z → z.section ≡ j → (x < z.offset) ⊎ (z.offset + 4 ≤ x) = λ n z e section.
          let d = (datas i o h hp.object hq.object).only n z q.section e (ap (λ (m : ℕ). slice_get h.sections m) section ∙ hq.section) (not-true (is_code q.section) (and_parts (is_alloc q.section.flags) (not (is_code q.section)) dq).1) in
          subst (λ (m : ℕ). (x < m) ⊎ (m + 4 ≤ x)) d.4 (none d.0 d.1 d.2 (d.3 ∙ section)) in
          let c1 = data_as_is ins at image so is i j o p hp dp x lx (own_free ins at i j o p hp x none) in
          let c2 = data_as_is outs at hard sh other i j h q hq dq x ly (own_free outs at i j h q hq x none_too) in
          let same = (datas i o h hp.object hq.object).bytes j x p.section q.section hp.section hq.section no_code none in
          bare_same (get_or image.memory.cells k (bare 0)) (get_or hard.memory.cells k (bare 0)) (byte_at (part_bytes p.section) x) (byte_at (part_bytes q.section) x)
          (ap (λ (n : ℕ). get_or image.memory.cells n (bare 0)) (sym i1) ∙ c1) (ap (λ (n : ℕ). get_or hard.memory.cells n (bare 0)) (sym i2) ∙ c2) (part_same p.section q.section x kind same)

  raw_index : (k : ℕ) → at.base + at.room + k - (at.base + at.room) ≡ k
  raw_index k = omega arith

  cells_same : (k : ℕ) → Lies (data_parts ins at) (data_parts outs at) (at.base + at.room + k) (byte_at (data_bytes_of ins at) (at.base + at.room + k - (at.base + at.room))) (byte_at (data_bytes_of outs at) (at.base + at.room + k - (at.base + at.room)))
      → SamePiece ins outs at moved (get_or image.memory.cells k (bare 0)).piece (get_or image.memory.cells k (bare 0)).byte (get_or hard.memory.cells k (bare 0)).byte
  cells_same k (inside p q c d alike start low high) =
      let hp = here_of ins at p c in
      let hq = here_of outs at q d in
      let there : Here outs at p.object hq.0 p.index q = subst (λ (n : ℕ). Here outs at p.object hq.0 n q) alike.index (subst (λ (n : ℕ). Here outs at n hq.0 q.index q) alike.object hq.1) in
      let of = (answers.sections p.object hp.0 hq.0 hp.1.object there.object).kept p.index p.section hp.1.section in
      let same : of.0 ≡ q.section = same_Some of.0 q.section (sym of.1 ∙ there.section) in
      let kind : q.section.kind ≡ p.section.kind = ap (λ (z : Section). z.kind) (sym same) ∙ of.2.kind in
      let no_code = not-true (is_code p.section) (and_parts (is_alloc p.section.flags) (not (is_code p.section)) hp.2).1 in
      inside_same p.object p.index hp.0 hq.0 p q hp.1 there hp.2 hq.2 start (alike.size no_code) kind k low high
  cells_same k (between m n x y) =
      let low : at.base + at.room ≤ at.base + at.room + k = omega arith in
      let one = free_gap ins at so is.can (at.base + at.room + k) low m in
      let two = free_gap outs at sh other.can (at.base + at.room + k) low n in
      let b1 : image.memory.base + k ≡ at.base + at.room + k = ap (λ (z : ℕ). z + k) is.memory.base in
      let b2 : hard.memory.base + k ≡ at.base + at.room + k = ap (λ (z : ℕ). z + k) other.memory.base in
      let r1 : byte_at (data_bytes_of ins at) k ≡ 0 = ap (λ (z : ℕ). byte_at (data_bytes_of ins at) z) (sym (raw_index k)) ∙ x in
      let r2 : byte_at (data_bytes_of outs at) k ≡ 0 = ap (λ (z : ℕ). byte_at (data_bytes_of outs at) z) (sym (raw_index k)) ∙ y in
      bare_same (get_or image.memory.cells k (bare 0)) (get_or hard.memory.cells k (bare 0)) (byte_at (data_bytes_of ins at) k) (byte_at (data_bytes_of outs at) k)
      (is.memory.others k (λ l il. ap (λ (a : ℕ). covers a l) b1 ∙ one l il)) (other.memory.others k (λ l il. ap (λ (a : ℕ). covers a l) b2 ∙ two l il)) (r2 ∙ sym r1)

  pub data_same : (length hard.memory.cells ≡ length image.memory.cells)
      × ((k : ℕ) → k < length image.memory.cells → SamePiece ins outs at moved (get_or image.memory.cells k (bare 0)).piece (get_or image.memory.cells k (bare 0)).byte (get_or hard.memory.cells k (bare 0)).byte)
  data_same = (
    other.memory.size ∙ (data_lengths ins outs at moved so sh answers ∙ sym is.memory.size),
    λ k lt. cells_same k (lies (at.base + at.room) (at.base + at.room) refl (all_chosen is_data 0 ins) (all_chosen is_data 0 outs) (all_alike is_data data_sort 0 ins outs answers.count answers.sections)
        (λ z c. (all_chosen_is is_data 0 ins z c).is_sort) (data_good ins so) (data_good outs sh) (at.base + at.room + k) (start k)),
  )
    where
      start : (k : ℕ) → at.base + at.room ≤ at.base + at.room + k
      start k = omega arith

pub data_meets : DataMeets
data_meets ins outs at moved image hard so sh answers accepted datas is other = data_same ins outs at moved image hard so sh answers accepted datas is other
