-- How the instruction of a point is linked: not at all, or by the one relocation at its place, which is of its kind.
use Rattle.std.specs.Prelude.{◌≡◌, ℕ, ◌+◌, not, Bool, true, false, List, Option, Some, None, Ok, slice_get, refl}
use Rattle.std.proofs.Common.{arith, inl, inr, ◌⊎◌, ap, sym, ◌∙◌, subst}
use Rattle.std.proofs.lemmas.Bool.{both_ways, and_parts, not-true}
use Rattle.std.proofs.lemmas.Option.{none-some, same_Some}
use Rattle.elf_model.specs.declared.objects.Section.{Section}
use Rattle.elf_model.specs.declared.objects.Reloc.{Reloc}
use Rattle.elf_model.specs.declared.objects.RelocKind.{RelocKind}
use Rattle.elf_model.specs.declared.objects.RelocKind.TheVariants.{Abs32, Target1, ThmCall, ThmJump24, MovwAbs, MovtAbs, ThmJump19, ThmJump11, ThmJump8, Other}
use Rattle.elf_model.specs.declared.ranges.RangeKind.TheVariants.{Data}
use Rattle.elf_model.specs.Fields.{half_at}
use Rattle.elf_model.specs.Objects.{ObjectParts, is_code}
use Rattle.elf_model.specs.Ranges.{IsRange, is_long}
use Rattle.elf_model.proofs.Elements.{contains_at}
use Rattle.mark_word.specs.declared.marks.Mark.{Mark}
use Rattle.mark_word.specs.declared.marks.Mark.TheVariants.{Plain}
use Rattle.thumb_instr.specs.declared.instructions.Instr.{Instr}
use Rattle.thumb_instr.specs.declared.instructions.Instr.TheVariants as instr
use Rattle.thumb_instr.specs.Fields.{HalfFields, ZeroBranchFields}
use Rattle.thumb_instr.specs.Meanings.{signed}
use Rattle.thumb_instr.specs.Numbers.{has_number, renumbered}
use Rattle.reloc_places.specs.Starts.{bytes_of, decoded_at}
use Rattle.reloc_places.specs.Relocations.{is_jump, is_bl, is_b, is_mov, fits_kind, IsPlace, in_data, in_code, on_instr, IsRight}
use Rattle.reloc_places.proofs.StartFacts.{start_before, start_behind}
use Rattle.thumb_table.specs.declared.placements.Placement.{Placement}
use Rattle.thumb_table.specs.Layouts.{Placed, all_placed, part_of}
use Rattle.thumb_table.specs.Links.{Link, IsLink, place_of, value_for, value_of, mark_of}
use Rattle.flow_recover.specs.declared.flows.Point.{Point as FlowPoint}
use Rattle.flow_recover.specs.Flows.{FlowParts}
use Rattle.flow_recover.specs.Aims.{has_offset, offset_of}
use Rattle.flow_recover.specs.WholeFlows.{IsFlow}
use Rattle.sim_images.specs.ImageLaws.{Here}
use Rattle.sim_images.specs.CodeLaws.{IsLinkedInstr, alone, linked}
use Rattle.sim_images.proofs.RightPlaces.{decoded_whole, no_both, no_data}
use Rattle.sim_images.proofs.StandingLinked.{same_link}
use Rattle.sim_answers.proofs.PointPlaces.{IsAtPoint, at_point}
use Rattle.sim_answers.proofs.Placed.{reloc_at_is, same_in_block}

-- by no link, or by one
pub data HowLinked (objects : List ObjectParts) (at : Placement) (i : ℕ) (x : Instr) (r : Option ℕ) (now : Instr) (mark : Mark) : Type 0 where
  as_is : r ≡ None → now ≡ x → mark ≡ Plain → HowLinked objects at i x r now mark
  by_link : (l : Link) → IsLink objects at l → l.file ≡ i → r ≡ Some l.number → now ≡ renumbered (value_of (all_placed objects at) l) x → mark ≡ mark_of (all_placed objects at) l → HowLinked objects at i x r now mark

pub how_linked : (objects : List ObjectParts) (at : Placement) (i : ℕ) (x : Instr) (r : Option ℕ) (now : Instr) (mark : Mark) → IsLinkedInstr objects at i x r now mark → HowLinked objects at i x r now mark
how_linked objects at i x _ _ _ (alone y) = as_is refl refl refl
how_linked objects at i x _ _ _ (linked l y is file) = by_link l is file refl refl refl

-- kinds of relocations, and instructions
bl_has : (i : Instr) → is_bl i ≡ true → has_number i ≡ true
bl_has (instr.Call i) e = refl
bl_has i e = (cc)

b_has : (conditional : Bool) (i : Instr) → is_b conditional i ≡ true → has_number i ≡ true
b_has conditional (instr.Branch i) e = refl
b_has conditional i e = (cc)

mov_has : (top : Bool) (i : Instr) → is_mov top i ≡ true → has_number i ≡ true
mov_has top (instr.Half i) e = refl
mov_has top i e = (cc)

kind_has : (kind : RelocKind) (long : Bool) (i : Instr) → fits_kind kind long i ≡ true → has_number i ≡ true
kind_has Abs32 long i e = (cc)
kind_has Target1 long i e = (cc)
kind_has ThmCall long i e = bl_has i e
kind_has ThmJump24 long i e = b_has false i (and_parts long (is_b false i) e).1
kind_has MovwAbs long i e = mov_has false i e
kind_has MovtAbs long i e = mov_has true i e
kind_has ThmJump19 long i e = b_has true i (and_parts long (is_b true i) e).1
kind_has ThmJump11 long i e = b_has false i (and_parts (not long) (is_b false i) e).1
kind_has ThmJump8 long i e = b_has true i (and_parts (not long) (is_b true i) e).1
kind_has (Other k) long i e = (cc)

-- CBZ and CBNZ have none
pub zero_has_none : (kind : RelocKind) (long : Bool) (b : ZeroBranchFields) → fits_kind kind long (instr.ZeroBranch b) ≡ true → ⊥
zero_has_none kind long b e = both_ways false refl (kind_has kind long (instr.ZeroBranch b) e)

-- branches and calls have those of jumps
no_mov : (top : Bool) (i : Instr) → has_offset i ≡ true → is_mov top i ≡ true → ⊥
no_mov top (instr.Half i) h e = (cc)
no_mov top i h e = (cc)

pub branch_jumps : (kind : RelocKind) (long : Bool) (i : Instr) → has_offset i ≡ true → fits_kind kind long i ≡ true → is_jump kind ≡ true
branch_jumps Abs32 long i h e = (cc)
branch_jumps Target1 long i h e = (cc)
branch_jumps ThmCall long i h e = refl
branch_jumps ThmJump24 long i h e = refl
branch_jumps MovwAbs long i h e = absurd (no_mov false i h e)
branch_jumps MovtAbs long i h e = absurd (no_mov true i h e)
branch_jumps ThmJump19 long i h e = refl
branch_jumps ThmJump11 long i h e = refl
branch_jumps ThmJump8 long i h e = refl
branch_jumps (Other k) long i h e = (cc)

-- with a number in place of its own, it has that offset
renumbered_offset : (n : ℕ) (i : Instr) → has_offset i ≡ true → has_number i ≡ true → offset_of (renumbered n i) ≡ signed 32 n
renumbered_offset n (instr.Branch i) h e = refl
renumbered_offset n (instr.Call i) h e = refl
renumbered_offset n (instr.Half i) h e = (cc)
renumbered_offset n i h e = (cc)

pub linked_offset : (kind : RelocKind) (long : Bool) (n : ℕ) (i : Instr) → has_offset i ≡ true → fits_kind kind long i ≡ true → offset_of (renumbered n i) ≡ signed 32 n
linked_offset kind long n i h e = renumbered_offset n i h (kind_has kind long i e)

pub jump_value : (kind : RelocKind) (offset full : ℕ) → is_jump kind ≡ true → value_for kind offset full ≡ offset
jump_value Abs32 o f e = (cc)
jump_value Target1 o f e = (cc)
jump_value MovwAbs o f e = (cc)
jump_value MovtAbs o f e = (cc)
jump_value ThmCall o f e = refl
jump_value ThmJump24 o f e = refl
jump_value ThmJump19 o f e = refl
jump_value ThmJump11 o f e = refl
jump_value ThmJump8 o f e = refl
jump_value (Other k) o f e = (cc)

-- MOVW and MOVT have those of halves
pub half_kind : (kind : RelocKind) (long : Bool) (b : HalfFields) → fits_kind kind long (instr.Half b) ≡ true → ((kind ≡ MovwAbs) × (b.top ≡ false)) ⊎ ((kind ≡ MovtAbs) × (b.top ≡ true))
half_kind Abs32 long b e = absurd (both_ways false refl e)
half_kind Target1 long b e = absurd (both_ways false refl e)
half_kind ThmCall long b e = absurd (both_ways false refl e)
half_kind ThmJump24 long b e = absurd (both_ways false refl (and_parts long false e).1)
half_kind MovwAbs long b e = inl (refl, not-true b.top e)
half_kind MovtAbs long b e = inr (refl, e)
half_kind ThmJump19 long b e = absurd (both_ways false refl (and_parts long false e).1)
half_kind ThmJump11 long b e = absurd (both_ways false refl (and_parts (not long) false e).1)
half_kind ThmJump8 long b e = absurd (both_ways false refl (and_parts (not long) false e).1)
half_kind (Other k) long b e = absurd (both_ways false refl e)

-- the relocation of a point stands there, and is of its instruction's kind
pub record IsOfKind (o : ObjectParts) (x : FlowPoint) (r : Reloc) : Type 0 where
  pub section : r.section ≡ x.section
  pub offset : r.offset ≡ x.offset
  pub long : Bool
  pub fits : fits_kind r.kind long x.instr ≡ true

pub kind_there : (o : ObjectParts) (f : FlowParts) → IsFlow o f → (n : ℕ) (x : FlowPoint) → slice_get f.points n ≡ Some x → (k : ℕ) (r : Reloc) → x.reloc ≡ Some k → IsRight o k r → IsOfKind o x r
kind_there o f flow n x there k r named right = go (at_point o f flow x (contains_at f.points n x there))
  where
    go : IsAtPoint o x → IsOfKind o x r
    go at = by_place right.place
      where
        here : (r.section ≡ x.section) × (r.offset ≡ x.offset)
        here = reloc_at_is o x.section x.offset k r (sym at.reloc ∙ named) right.is_there

        by_place : IsPlace o r → IsOfKind o x r
        by_place (in_data s is datum word) =
            let is_there : slice_get o.sections r.section ≡ Some at.start.range.section = ap (λ (j : ℕ). slice_get o.sections j) here.0 ∙ at.start.range.is_there in
            let same : at.start.range.section ≡ s = same_Some at.start.range.section s (sym is_there ∙ is) in
            absurd (no_data s (subst (λ (t : Section). is_code t ≡ true) same at.start.range.in_code) datum)
        by_place (in_code word w) =
            let below = start_before (bytes_of o x.section) at.start.start at.end x.offset at.start.is_start in
            let behind = start_behind (bytes_of o x.section) at.start.start at.end x.offset at.start.is_start in
            let low = w.behind_start in
            let high = w.before_end in
            let e = here.1 in
            absurd (no_both o x.section at.start.start at.end w.start w.end x.offset at.start.range (subst (λ (j : ℕ). IsRange o Data j w.start w.end) here.0 w.range) behind below (omega (arith, low, e)) (omega (arith, high, e)))
        by_place (on_instr end i start is fits) =
            let d = decoded_whole (bytes_of o r.section) end r.offset 0 i is in
            let out : decoded_at (bytes_of o x.section) x.offset 0 ≡ Ok i =
            sym (ap (λ (j : ℕ). decoded_at (bytes_of o j) r.offset 0) here.0 ∙ ap (λ (a : ℕ). decoded_at (bytes_of o x.section) a 0) here.1) ∙ d.1 in
            let long : Bool = is_long (half_at (bytes_of o r.section) r.offset) in
            let same : i ≡ x.instr = same_in_block (bytes_of o x.section) x.offset at.it i x.instr out (kind_has r.kind long i fits) at.instr in
            record { section = here.0; offset = here.1; long = long; fits = subst (λ (z : Instr). fits_kind r.kind long z ≡ true) same fits }

-- a link of a point, in the point's part
pub record IsPointLink (o : ObjectParts) (x : FlowPoint) (p : Placed) (l : Link) : Type 0 where
  pub object : l.object ≡ o
  pub part : l.part ≡ p
  pub place : place_of l ≡ p.start + x.offset
  pub right : IsRight o l.number l.reloc
  pub kind : IsOfKind o x l.reloc

pub point_link : (objects : List ObjectParts) (at : Placement) (i : ℕ) (o : ObjectParts) (f : FlowParts) → IsFlow o f → (n : ℕ) (x : FlowPoint) → slice_get f.points n ≡ Some x → (p : Placed) → Here objects at i o x.section p
    → (l : Link) → IsLink objects at l → l.file ≡ i → x.reloc ≡ Some l.number → IsRight l.object l.number l.reloc → IsPointLink o x p l
point_link objects at i o f flow n x there p here l is file named right =
    let object : l.object ≡ o = same_Some l.object o (sym is.object ∙ (ap (λ (k : ℕ). slice_get objects k) file ∙ here.object)) in
    let ours : IsRight o l.number l.reloc = subst (λ (z : ObjectParts). IsRight z l.number l.reloc) object right in
    let kind = kind_there o f flow n x there l.number l.reloc named ours in
    let part : l.part ≡ p = same_Some l.part p (sym is.part ∙ (ap (λ (k : ℕ). part_of (all_placed objects at) k l.reloc.section) file ∙ (ap (λ (j : ℕ). part_of (all_placed objects at) i j) kind.section ∙ here.part))) in
    record { object = object; part = part; place = ap (λ (q : Placed). q.start + l.reloc.offset) part ∙ ap (λ (k : ℕ). p.start + k) kind.offset; right = ours; kind = kind }

-- an instruction has one mark
pub one_mark : (objects : List ObjectParts) (at : Placement) (i : ℕ) (x : Instr) (r s : Option ℕ) (a b : Instr) (m k : Mark) → r ≡ s → IsLinkedInstr objects at i x r a m → IsLinkedInstr objects at i x s b k → m ≡ k
one_mark objects at i x _ _ _ _ _ _ e (alone y) (alone z) = refl
one_mark objects at i x _ _ _ _ _ _ e (alone y) (linked l z is file) = absurd (none-some l.number e)
one_mark objects at i x _ _ _ _ _ _ e (linked l y is file) (alone z) = absurd (none-some l.number (sym e))
one_mark objects at i x _ _ _ _ _ _ e (linked l y is file) (linked m z other place) =
    ap (λ (k : Link). mark_of (all_placed objects at) k) (same_link objects at l m is other (file ∙ sym place) (same_Some l.number m.number e))
