-- The numbers of MOVW and MOVT, and the words of literal loads, of a chart's points in both images.
use Rattle.std.specs.Prelude.{◌≡◌, ◌<◌, ◌≤◌, ◌⊎◌, ℕ, ◌+◌, ◌-◌, ◌*◌, ◌/◌, ◌%◌, ◌^◌, ◌==◌, ◌&&◌, not, Bool, true, false, cond, List, [], take, Option, Some, None, refl}
use Rattle.std.proofs.Common.{arith, inl, inr, ap, sym, ◌∙◌, subst}
use Rattle.std.proofs.lemmas.Bool.{both_ways, eq-eqb}
use Rattle.std.proofs.lemmas.List.{append-nil}
use Rattle.std.proofs.lemmas.Option.{same_Some}
use Rattle.byteorder.specs.Endian.{little_number}
use Rattle.byteorder.specs.Numbers.{little_from-take, little_number-reads_back}
use Rattle.elf_model.specs.declared.objects.Section.{Section}
use Rattle.elf_model.specs.declared.objects.RelocKind.{RelocKind}
use Rattle.elf_model.specs.declared.objects.RelocKind.TheVariants.{Abs32, Target1, ThmCall, ThmJump24, MovwAbs, MovtAbs, ThmJump19, ThmJump11, ThmJump8, Other}
use Rattle.elf_model.specs.Fields.{word_at, bytes_at, word as word_bytes}
use Rattle.elf_model.specs.Objects.{ObjectParts, even}
use Rattle.mark_word.specs.Words.{Word, plain as plain_word}
use Rattle.mark_word.specs.declared.marks.Mark.{Mark}
use Rattle.mark_word.specs.declared.marks.Mark.TheVariants.{Plain, Entry, Low}
use Rattle.thumb_instr.specs.declared.instructions.Instr.{Instr}
use Rattle.thumb_instr.specs.declared.instructions.Instr.TheVariants as instr
use Rattle.thumb_instr.specs.Fields.{HalfFields, LiteralFields}
use Rattle.thumb_instr.specs.Numbers.{renumbered}
use Rattle.reloc_places.specs.Starts.{bytes_of, IsDataWord}
use Rattle.reloc_places.specs.Relocations.{is_word, is_jump, fits_kind, reloc_at}
use Rattle.thumb_table.specs.declared.placements.Placement.{Placement}
use Rattle.thumb_table.specs.Parts.{Image}
use Rattle.thumb_table.specs.Values.{moved}
use Rattle.thumb_table.specs.Effects.{mark_at, marked}
use Rattle.thumb_table.specs.Layouts.{Placed, all_placed}
use Rattle.thumb_table.specs.Names.{is_function}
use Rattle.thumb_table.specs.Links.{Link, IsLink, place_of, leads_to_code, sum_of, full, offset_of as link_offset, value_for, value_of, mark_for, mark_of}
use Rattle.sim_charts.specs.Charts.{Chart, Point}
use Rattle.sim_charts.specs.Alike.{EntryTo, SameWord}
use Rattle.sim_charts.specs.Flows.{site_of}
use Rattle.sim_images.proofs.Sequences.{one_stands}
use Rattle.sim_images.proofs.PlainWords.{word_as_is}
use Rattle.sim_images.proofs.Words.{word_linked}
use Rattle.sim_answers.proofs.Placed.{word_kind, word_no_jump}
use Rattle.sim_steps.specs.Facts.{SameNumber, literal}
use Rattle.sim_relation.specs.Standing.{Linking}
use Rattle.sim_objects.specs.Lists.{Pairing, plains, HaveImages}
use Rattle.sim_objects.specs.Charts.{IsPointAt, IsChartOf}
use Rattle.sim_objects.specs.Working.{number_of}
use Rattle.sim_objects.specs.UnitLinks.{IsUnitLink, IsPutFor, branch, number, address}
use Rattle.sim_objects.proofs.Entering.{right, links_enter}
use Rattle.sim_objects.proofs.LinkedPoints.{HowLinked, as_is, by_link, half_kind, one_mark}
use Rattle.sim_objects.proofs.Distances.{literal_is}
use Rattle.sim_objects.proofs.PoolWords.{Loaded, loaded, link_at}
use Rattle.sim_objects.proofs.Leading.{part, from, low, how, of_point}

-- words of bytes
same_words : (xs ys : List ℕ) → take 4 xs ≡ take 4 ys → little_number 4 xs ≡ little_number 4 ys
same_words xs ys e = sym (little_from-take 0 4 4 xs (omega arith)) ∙ (ap (λ (z : List ℕ). little_number 4 z) e ∙ little_from-take 0 4 4 ys (omega arith))

word_is : (xs : List ℕ) (n : ℕ) → take 4 xs ≡ word_bytes n → n < 2 ^ 32 → little_number 4 xs ≡ n
word_is xs n e less = sym (little_from-take 0 4 4 xs (omega arith)) ∙ (ap (λ (z : List ℕ). little_number 4 z) (e ∙ sym (append-nil (word_bytes n))) ∙ little_number-reads_back 4 n [] less)

full_small : (parts : List Placed) (l : Link) → full parts l < 2 ^ 32
full_small parts l = go (is_function parts l.meant) (sum_of parts l) (small parts l)
  where
    small : (parts : List Placed) (l : Link) → sum_of parts l < 2 ^ 32
    small parts l = omega arith

    go : (b : Bool) (n : ℕ) → n < 2 ^ 32 → cond b (even n + 1) n < 2 ^ 32
    go true n less = omega (arith, less)
    go false n less = less

-- marked words
abbrev with_mark : ℕ → Mark → Word
with_mark n m = record { bits = n; mark = m }

marked_plain : (n : ℕ) → marked n Plain ≡ with_mark n Plain
marked_plain n = go (n == n)
  where
    go : (b : Bool) → cond b (with_mark n Plain) (plain_word n) ≡ with_mark n Plain
    go true = refl
    go false = refl

marked_entry : (n : ℕ) → marked n (Entry n) ≡ with_mark n (Entry n)
marked_entry n = ap (λ (b : Bool). cond b (with_mark n (Entry n)) (plain_word n)) (eq-eqb n n refl)

marked_bits : (n : ℕ) (m : Mark) → (marked n m).bits ≡ n
marked_bits n m = go _
  where
    go : (b : Bool) → (cond b (with_mark n m) (plain_word n)).bits ≡ n
    go true = refl
    go false = refl

same_plain : (chart : Chart) (n m : ℕ) (mark : Mark) → n ≡ m → SameWord chart (marked n Plain) (marked m mark)
same_plain chart n m mark e = subst (λ (w : Word). SameWord chart w (marked m mark)) (sym (marked_plain n)) (e ∙ sym (marked_bits m mark))

same_entry : (chart : Chart) (n m : ℕ) (mark : Mark) → EntryTo chart n m → SameWord chart (marked n (Entry n)) (marked m mark)
same_entry chart n m mark e = subst (λ (w : Word). SameWord chart w (marked m mark)) (sym (marked_entry n)) (subst (λ (b : ℕ). EntryTo chart n b) (sym (marked_bits m mark)) e)

-- numbers
plain_number : (chart : Chart) (top : Bool) (n m : ℕ) → n ≡ m → SameNumber chart top Plain n m
plain_number chart true n m e = e
plain_number chart false n m e = e

as_number : (chart : Chart) (top t : Bool) (mark k : Mark) (n m b : ℕ) → top ≡ t → mark ≡ k → m ≡ b → SameNumber chart t k n b → SameNumber chart top mark n m
as_number chart top t mark k n m b e f g h = subst (λ (z : Bool). SameNumber chart z mark n m) (sym e) (subst (λ (z : Mark). SameNumber chart t z n m) (sym f) (subst (λ (z : ℕ). SameNumber chart t k n z) (sym g) h))

-- a MOVW or MOVT with another number
pub record WasHalf (n : ℕ) (i : Instr) (b : HalfFields) : Type 0 where
  pub fields : HalfFields
  pub is : i ≡ instr.Half fields
  pub top : b.top ≡ fields.top
  pub imm : b.imm ≡ n

same_half : (c b : HalfFields) → instr.Half c ≡ instr.Half b → c ≡ b
same_half c b e = cc

was_half : (n : ℕ) (i : Instr) (b : HalfFields) → renumbered n i ≡ instr.Half b → WasHalf n i b
was_half n (instr.Half c) b e =
    let same : record c { imm = n } ≡ b = same_half (record c { imm = n }) b e in
    record { fields = c; is = refl; top = ap (λ (z : HalfFields). z.top) (sym same); imm = ap (λ (z : HalfFields). z.imm) (sym same) }
was_half n (instr.Branch c) b e = absurd (cc)
was_half n (instr.Call c) b e = absurd (cc)
was_half n i b e = absurd (cc)

-- what kinds of words make
word_value : (k : RelocKind) (offset full : ℕ) → is_word k ≡ true → value_for k offset full ≡ full
word_value Abs32 o f e = refl
word_value Target1 o f e = refl
word_value ThmCall o f e = absurd (cc)
word_value ThmJump24 o f e = absurd (cc)
word_value MovwAbs o f e = absurd (cc)
word_value MovtAbs o f e = absurd (cc)
word_value ThmJump19 o f e = absurd (cc)
word_value ThmJump11 o f e = absurd (cc)
word_value ThmJump8 o f e = absurd (cc)
word_value (Other k) o f e = absurd (cc)

pub word_mark : (k : RelocKind) (full : ℕ) → is_word k ≡ true → mark_for k full ≡ Entry full
word_mark Abs32 f e = refl
word_mark Target1 f e = refl
word_mark ThmCall f e = absurd (cc)
word_mark ThmJump24 f e = absurd (cc)
word_mark MovwAbs f e = absurd (cc)
word_mark MovtAbs f e = absurd (cc)
word_mark ThmJump19 f e = absurd (cc)
word_mark ThmJump11 f e = absurd (cc)
word_mark ThmJump8 f e = absurd (cc)
word_mark (Other k) f e = absurd (cc)

-- marks of links
pub mark_outside : (parts : List Placed) (l : Link) → leads_to_code parts l ≡ false → mark_of parts l ≡ Plain
mark_outside parts l e = ap (λ (b : Bool). cond (b && not (is_jump l.reloc.kind)) (mark_for l.reloc.kind (full parts l)) Plain) e

pub mark_inside : (parts : List Placed) (l : Link) → leads_to_code parts l ≡ true → is_jump l.reloc.kind ≡ false → mark_of parts l ≡ mark_for l.reloc.kind (full parts l)
mark_inside parts l e j =
    ap (λ (b : Bool). cond (b && not (is_jump l.reloc.kind)) (mark_for l.reloc.kind (full parts l)) Plain) e ∙ ap (λ (b : Bool). cond (true && not b) (mark_for l.reloc.kind (full parts l)) Plain) j

module _ (F c K : ℕ) (pairs : List (Pairing F c K)) (at : Placement) (plain hard : Image) (images : HaveImages F c K pairs at plain hard) (chart : Chart) (is : IsChartOf F c K pairs at chart)
    (a : ℕ) (p : Point) (A : IsPointAt F c K pairs at a p) (link : Linking) (given : IsUnitLink F c K pairs at A.file A.pairing A.point link) where
  mark_here : mark_at plain.code.marks a ≡ A.is.mark
  mark_here =
      let pa = part F c K pairs at plain hard images chart is a p A link given in
      let s = one_stands (plains pairs) at plain images.objects images.image A.file A.point.section A.pairing.plain pa.part pa.here A.point.offset pa.end p.it A.point.instr pa.start pa.instr in
      ap (λ (k : ℕ). mark_at plain.code.marks k) (from F c K pairs at plain hard images chart is a p A link given)
      ∙ (s.there.marked ∙ one_mark (plains pairs) at A.file A.point.instr (reloc_at A.pairing.plain A.point.section A.point.offset) A.point.reloc s.now p.instr s.mark A.is.mark (sym pa.reloc) s.is A.is.instr)

  -- MOVW and MOVT
  pub half_meets : (b : HalfFields) → p.instr ≡ instr.Half b → SameNumber chart b.top (mark_at plain.code.marks a) b.imm (number_of A.point.reloc link.number A.point.instr)
  half_meets b e = subst (λ (m : Mark). SameNumber chart b.top m b.imm (number_of A.point.reloc link.number A.point.instr)) (sym mark_here) (by_how (how F c K pairs at plain hard images chart is a p A link given))
    where
      by_put : (l : Link) (il : IsLink (plains pairs) at l) → A.point.reloc ≡ Some l.number → A.is.mark ≡ mark_of (all_placed (plains pairs) at) l → b.imm ≡ value_of (all_placed (plains pairs) at) l
          → ((l.reloc.kind ≡ MovwAbs) × (b.top ≡ false)) ⊎ ((l.reloc.kind ≡ MovtAbs) × (b.top ≡ true)) → IsPutFor F c K pairs at l link
          → SameNumber chart b.top A.is.mark b.imm (number_of A.point.reloc link.number A.point.instr)
      by_put l il named mark imm kind (branch jump goes) =
          elim (kind) [
            | inl low_half ↦ absurd (both_ways (is_jump l.reloc.kind) (ap is_jump low_half.0) jump)
            | inr top_half ↦ absurd (both_ways (is_jump l.reloc.kind) (ap is_jump top_half.0) jump)
          ]
      by_put l il named mark imm kind (number no_jump leads same) =
          as_number chart b.top b.top A.is.mark Plain b.imm (number_of A.point.reloc link.number A.point.instr) link.number refl (mark ∙ mark_outside (all_placed (plains pairs) at) l leads)
          (ap (λ (r : Option ℕ). number_of r link.number A.point.instr) named) (plain_number chart b.top b.imm link.number (imm ∙ sym same))
      by_put l il named mark imm kind (address u v no_jump leads whole goes put) =
          let all = all_placed (plains pairs) at in
          let entry = links_enter F c K pairs at plain hard chart images is l il no_jump leads u v whole goes in
          let inside = mark ∙ mark_inside all l leads no_jump in
          let its = ap (λ (r : Option ℕ). number_of r link.number A.point.instr) named in
          elim (kind) [
            | inl h ↦
                let m : A.is.mark ≡ Low (u + 1) = inside ∙ (ap (λ (k : RelocKind). mark_for k (full all l)) h.0 ∙ ap (λ (n : ℕ). Low n) whole) in
                let n : b.imm ≡ (u + 1) % 2 ^ 16 = imm ∙ (ap (λ (k : RelocKind). value_for k (link_offset all l) (full all l)) h.0 ∙ ap (λ (n : ℕ). n % 2 ^ 16) whole) in
                as_number chart b.top false A.is.mark (Low (u + 1)) b.imm (number_of A.point.reloc link.number A.point.instr) link.number h.1 m its
                (v + 1, entry, n, put ∙ ap (λ (k : RelocKind). value_for k 0 (v + 1)) h.0)
            | inr h ↦
                let m : A.is.mark ≡ Entry (u + 1) = inside ∙ (ap (λ (k : RelocKind). mark_for k (full all l)) h.0 ∙ ap (λ (n : ℕ). Entry n) whole) in
                as_number chart b.top true A.is.mark (Entry (u + 1)) b.imm (number_of A.point.reloc link.number A.point.instr) link.number h.1 m its
                (v + 1, entry, put ∙ ap (λ (k : RelocKind). value_for k 0 (v + 1)) h.0)
          ]

      by_how : HowLinked (plains pairs) at A.file A.point.instr A.point.reloc p.instr A.is.mark → SameNumber chart b.top A.is.mark b.imm (number_of A.point.reloc link.number A.point.instr)
      by_how (as_is free now mark) =
          let same : number_of A.point.reloc link.number A.point.instr ≡ b.imm = ap (λ (r : Option ℕ). number_of r link.number A.point.instr) free ∙ ap (λ (i : Instr). number_of None link.number i) (sym now ∙ e) in
          as_number chart b.top b.top A.is.mark Plain b.imm (number_of A.point.reloc link.number A.point.instr) b.imm refl mark same (plain_number chart b.top b.imm b.imm refl)
      by_how (by_link l il file named now mark) =
          let w = was_half (value_of (all_placed (plains pairs) at) l) A.point.instr b (sym now ∙ e) in
          let kind = (of_point F c K pairs at plain hard images chart is a p A link given l il file named).kind in
          let fits : fits_kind l.reloc.kind kind.long (instr.Half w.fields) ≡ true = subst (λ (i : Instr). fits_kind l.reloc.kind kind.long i ≡ true) w.is kind.fits in
          by_put l il named mark w.imm (elim (half_kind l.reloc.kind kind.long w.fields fits) [ inl h ↦ inl (h.0, w.top ∙ h.1) | inr h ↦ inr (h.0, w.top ∙ h.1) ]) (given.reloc l il file named)

  -- literal loads
  pub word_meets : (b : LiteralFields) → A.point.instr ≡ instr.Literal b → SameWord chart (literal b (site_of plain.code a p)) (marked link.number link.mark)
  word_meets b e =
      subst (λ (k : ℕ). SameWord chart (marked (word_at plain.code.bytes (k - plain.code.base)) (mark_at plain.code.marks k)) (marked link.number link.mark)) (sym where_it_is) (by_reloc w.word.reloc refl)
    where
      w : Loaded A.pairing.plain A.pairing.pair.flow A.point b
      w = loaded A.pairing.plain A.pairing.pair.flow A.pairing.pair.accepted.flow A.number A.point A.is_point b e

      below : (part F c K pairs at plain hard images chart is a p A link given).part.start + w.word.offset < 2 ^ 32
      below =
          let pa = part F c K pairs at plain hard images chart is a p A link given in
          let d = w.is_data in
          let same : d.range.section ≡ pa.part.section = same_Some d.range.section pa.part.section (sym d.range.is_there ∙ pa.here.section) in
          let size : d.range.section.size ≡ pa.part.section.size = ap (λ (z : Section). z.size) same in
          let one : d.end ≤ d.range.section.size = d.range.inside in
          let two : w.word.offset + 4 ≤ d.end = d.before_end in
          let high = (low F c K pairs at plain hard images chart is a p A link given).1 in
          omega (arith, size, one, two, high)

      where_it_is : moved b.up ((a + 4) / 4 * 4) b.imm ≡ (part F c K pairs at plain hard images chart is a p A link given).part.start + w.word.offset
      where_it_is =
          literal_is b.up a (part F c K pairs at plain hard images chart is a p A link given).part.start A.point.offset b.imm w.word.offset (low F c K pairs at plain hard images chart is a p A link given).0
          (from F c K pairs at plain hard images chart is a p A link given) below w.place

      base : plain.code.base ≡ at.base
      base = images.image.code_base

      -- a word without relocation
      by_none : w.word.reloc ≡ None
          → SameWord chart (marked (word_at plain.code.bytes ((part F c K pairs at plain hard images chart is a p A link given).part.start + w.word.offset - plain.code.base))
          (mark_at plain.code.marks ((part F c K pairs at plain hard images chart is a p A link given).part.start + w.word.offset))) (marked link.number link.mark)
      by_none free =
          let pa = part F c K pairs at plain hard images chart is a p A link given in
          let k : ℕ = pa.part.start + w.word.offset in
          let h = word_as_is (plains pairs) at plain images.objects images.image A.file A.point.section A.pairing.plain pa.part pa.here w.word.offset w.is_data (sym w.reloc ∙ free) in
          let bytes : bytes_at plain.code.bytes (k - plain.code.base) 4 ≡ bytes_at (bytes_of A.pairing.plain A.point.section) w.word.offset 4 = ap (λ (n : ℕ). bytes_at plain.code.bytes (k - n) 4) base ∙ h.0 in
          let own : link.number ≡ word_at (bytes_of A.pairing.plain A.point.section) w.word.offset =
          given.may.word w.index w.word w.names w.there free ∙ ap (λ (j : ℕ). word_at (bytes_of A.pairing.plain j) w.word.offset) w.section in
          subst (λ (m : Mark). SameWord chart (marked (word_at plain.code.bytes (k - plain.code.base)) m) (marked link.number link.mark)) (sym h.1)
          (same_plain chart (word_at plain.code.bytes (k - plain.code.base)) link.number link.mark (same_words _ _ bytes ∙ sym own))

      -- one with a relocation
      by_put : (l : Link) (il : IsLink (plains pairs) at l) → is_word l.reloc.kind ≡ true → IsPutFor F c K pairs at l link
          → SameWord chart (marked (full (all_placed (plains pairs) at) l) (mark_of (all_placed (plains pairs) at) l)) (marked link.number link.mark)
      by_put l il words (branch jump goes) = absurd (both_ways (is_jump l.reloc.kind) (word_no_jump l.reloc.kind words) jump)
      by_put l il words (number no_jump leads same) =
          let all = all_placed (plains pairs) at in
          subst (λ (m : Mark). SameWord chart (marked (full all l) m) (marked link.number link.mark)) (sym (mark_outside all l leads))
          (same_plain chart (full all l) link.number link.mark (sym (same ∙ word_value l.reloc.kind (link_offset all l) (full all l) words)))
      by_put l il words (address u v no_jump leads whole goes put) =
          let all = all_placed (plains pairs) at in
          let entry : EntryTo chart (u + 1) (v + 1) = links_enter F c K pairs at plain hard chart images is l il no_jump leads u v whole goes in
          let number : link.number ≡ v + 1 = put ∙ word_value l.reloc.kind 0 (v + 1) words in
          let ours : EntryTo chart (full all l) link.number = subst (λ (n : ℕ). EntryTo chart n link.number) (sym whole) (subst (λ (m : ℕ). EntryTo chart (u + 1) m) (sym number) entry) in
          subst (λ (m : Mark). SameWord chart (marked (full all l) m) (marked link.number link.mark)) (sym (mark_inside all l leads no_jump ∙ word_mark l.reloc.kind (full all l) words))
          (same_entry chart (full all l) link.number link.mark ours)

      by_some : (k : ℕ) → w.word.reloc ≡ Some k
          → SameWord chart (marked (word_at plain.code.bytes ((part F c K pairs at plain hard images chart is a p A link given).part.start + w.word.offset - plain.code.base))
          (mark_at plain.code.marks ((part F c K pairs at plain hard images chart is a p A link given).part.start + w.word.offset))) (marked link.number link.mark)
      by_some k named =
          let all = all_placed (plains pairs) at in
          let pa = part F c K pairs at plain hard images chart is a p A link given in
          let y : ℕ = pa.part.start + w.word.offset in
          let g = link_at (plains pairs) at plain images.objects images.image A.file A.point.section A.pairing.plain pa.part pa.here w.word.offset k (sym w.reloc ∙ named) in
          let l = g.link in
          let datum : IsDataWord l.object l.reloc.section l.reloc.offset =
          subst (λ (z : ObjectParts). IsDataWord z l.reloc.section l.reloc.offset) (sym g.object)
          (subst (λ (j : ℕ). IsDataWord A.pairing.plain j l.reloc.offset) (sym g.section) (subst (λ (n : ℕ). IsDataWord A.pairing.plain A.point.section n) (sym g.offset) w.is_data)) in
          let h = word_linked (plains pairs) at plain images.objects images.image l g.is datum in
          let words : is_word l.reloc.kind ≡ true = word_kind l.object l.reloc datum (right F c K pairs at plain hard images chart is l g.is).place in
          let bytes : bytes_at plain.code.bytes (y - plain.code.base) 4 ≡ word_bytes (full all l) =
          ap (λ (n : ℕ). bytes_at plain.code.bytes (n - plain.code.base) 4) (sym g.place) ∙ (ap (λ (n : ℕ). bytes_at plain.code.bytes (place_of l - n) 4) base ∙ h.0) in
          let number : word_at plain.code.bytes (y - plain.code.base) ≡ full all l = word_is _ (full all l) bytes (full_small all l) in
          let mark : mark_at plain.code.marks y ≡ mark_of all l = ap (λ (n : ℕ). mark_at plain.code.marks n) (sym g.place) ∙ h.1 in
          subst (λ (n : ℕ). SameWord chart (marked n (mark_at plain.code.marks y)) (marked link.number link.mark)) (sym number)
          (subst (λ (m : Mark). SameWord chart (marked (full all l) m) (marked link.number link.mark)) (sym mark)
          (by_put l g.is words (given.word w.index w.word l w.names w.there g.is g.file (named ∙ ap (λ (n : ℕ). Some n) (sym g.number)))))

      by_reloc : (r : Option ℕ) → w.word.reloc ≡ r
          → SameWord chart (marked (word_at plain.code.bytes ((part F c K pairs at plain hard images chart is a p A link given).part.start + w.word.offset - plain.code.base))
          (mark_at plain.code.marks ((part F c K pairs at plain hard images chart is a p A link given).part.start + w.word.offset))) (marked link.number link.mark)
      by_reloc None free = by_none free
      by_reloc (Some k) named = by_some k named
