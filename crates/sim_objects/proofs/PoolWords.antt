-- The word that a literal load of a flow names: a word of data of the object, and its relocation's link.
use Rattle.std.specs.Prelude.{◌≡◌, ◌<◌, ℕ, ◌+◌, ◌%◌, ◌==◌, ◌&&◌, nat_le, not, Bool, true, false, List, Some, get_or, slice_get, Contains, refl}
use Rattle.std.specs.List.{list_any}
use Rattle.std.proofs.Common.{inl, inr, ap, sym, ◌∙◌, subst}
use Rattle.std.proofs.lemmas.Bool.{cases_Bool, both_ways, and_parts, and_from, not-true, eqb-true, eq-eqb, leb-true, le-leb}
use Rattle.std.proofs.lemmas.List.Quantifiers.{position-Some}
use Rattle.std.proofs.lemmas.Option.{same_Some, slice_get_within, slice_get-get_or}
use Rattle.elf_model.specs.declared.objects.Reloc.{Reloc}
use Rattle.elf_model.specs.declared.objects.RelocKind.TheVariants.{Abs32}
use Rattle.elf_model.specs.declared.refusals.Refusal.TheVariants as refusal
use Rattle.elf_model.specs.declared.ranges.RangeKind.{RangeKind}
use Rattle.elf_model.specs.declared.ranges.RangeKind.TheVariants.{Data}
use Rattle.elf_model.specs.Objects.{ObjectParts}
use Rattle.elf_model.specs.Ranges.{IsRange}
use Rattle.elf_model.proofs.Elements.{element_at, contains_at}
use Rattle.code_ranges.specs.declared.ranges.Range.{Range}
use Rattle.code_ranges.specs.CodeRanges.{range_kind}
use Rattle.thumb_instr.specs.declared.instructions.Instr.{Instr}
use Rattle.thumb_instr.specs.declared.instructions.Instr.TheVariants as instr
use Rattle.thumb_instr.specs.Fields.{LiteralFields}
use Rattle.reloc_places.specs.Starts.{IsDataWord}
use Rattle.reloc_places.specs.Relocations.{reloc_at}
use Rattle.thumb_table.specs.declared.placements.Placement.{Placement}
use Rattle.thumb_table.specs.Parts.{Image}
use Rattle.thumb_table.specs.Images.{IsImage}
use Rattle.thumb_table.specs.Layouts.{Placed, all_placed, part_of}
use Rattle.thumb_table.specs.Links.{Link, IsLink, place_of}
use Rattle.flow_recover.specs.declared.flows.Point.{Point as FlowPoint}
use Rattle.flow_recover.specs.declared.flows.PoolWord.{PoolWord}
use Rattle.flow_recover.specs.Flows.{FlowParts}
use Rattle.flow_recover.specs.FlowFaults.{IsReachedInstr, literal_place, no_word}
use Rattle.flow_recover.specs.WholeFlows.{IsLoaded, literal, none, IsPoint, IsFlow}
use Rattle.sim_images.specs.ImageLaws.{AreObjects, Here}
use Rattle.sim_images.proofs.EachLinked.{each_linked}
use Rattle.sim_answers.proofs.DataAnswered.{any_there, there_any}
use Rattle.sim_answers.proofs.Placed.{reloc_at_is}

-- whether a word is one of data can be told, as an object's flow has its ranges
module _ (o : ObjectParts) (f : FlowParts) (flow : IsFlow o f) (j w : ℕ) where
  abbrev holds : Range → Bool
  holds r = not r.code && ((r.section == j) && (nat_le r.start w && nat_le (w + 4) r.end))

  abbrev test : Bool
  test = (w % 4 == 0) && list_any holds f.ranges

  tells : test ≡ true → IsDataWord o j w
  tells y =
      let both = and_parts (w % 4 == 0) (list_any holds f.ranges) y in
      let r = any_there holds f.ranges both.1 in
      let one = and_parts (not r.0.code) ((r.0.section == j) && (nat_le r.0.start w && nat_le (w + 4) r.0.end)) r.2 in
      let two = and_parts (r.0.section == j) (nat_le r.0.start w && nat_le (w + 4) r.0.end) one.1 in
      let three = and_parts (nat_le r.0.start w) (nat_le (w + 4) r.0.end) two.1 in
      let range : IsRange o (range_kind r.0.code) r.0.section r.0.start r.0.end = (flow.ranges.exact r.0).0 r.1 in
      let datum : range_kind r.0.code ≡ Data = ap range_kind (not-true r.0.code one.0) in
      record {
        start = r.0.start;
        end = r.0.end;
        range = subst (λ (i : ℕ). IsRange o Data i r.0.start r.0.end) (eqb-true r.0.section j two.0) (subst (λ (k : RangeKind). IsRange o k r.0.section r.0.start r.0.end) datum range);
        aligned = eqb-true (w % 4) 0 both.0;
        behind_start = leb-true r.0.start w three.0;
        before_end = leb-true (w + 4) r.0.end three.1;
      }

  told : IsDataWord o j w → test ≡ true
  told d =
      let r : Range = record { section = j; start = d.start; end = d.end; code = false } in
      let c : Contains f.ranges r = (flow.ranges.exact r).1 d.range in
      and_from (w % 4 == 0) (list_any holds f.ranges) (eq-eqb (w % 4) 0 d.aligned)
      (there_any holds f.ranges r c
      (and_from true ((j == j) && (nat_le d.start w && nat_le (w + 4) d.end)) refl
      (and_from (j == j) (nat_le d.start w && nat_le (w + 4) d.end) (eq-eqb j j refl) (and_from (nat_le d.start w) (nat_le (w + 4) d.end) (le-leb d.start w d.behind_start) (le-leb (w + 4) d.end d.before_end)))))

  data_at_last : ((IsDataWord o j w → ⊥) → ⊥) → IsDataWord o j w
  data_at_last h = elim (cases_Bool test) [ inl y ↦ tells y | inr n ↦ absurd (h (λ d. both_ways test n (told d))) ]

-- what a point loads
pub record Loaded (o : ObjectParts) (f : FlowParts) (x : FlowPoint) (b : LiteralFields) : Type 0 where
  pub index : ℕ
  pub word : PoolWord
  pub names : x.word ≡ Some index
  pub there : slice_get f.words index ≡ Some word
  pub section : word.section ≡ x.section
  pub place : literal_place x.offset b ≡ Some word.offset
  pub reloc : word.reloc ≡ reloc_at o x.section word.offset
  pub is_data : IsDataWord o x.section word.offset

same_literal : (l m : LiteralFields) → instr.Literal l ≡ instr.Literal m → l ≡ m
same_literal l m e = cc

pub loaded : (o : ObjectParts) (f : FlowParts) (flow : IsFlow o f) (n : ℕ) (x : FlowPoint) → slice_get f.points n ≡ Some x → (b : LiteralFields) → x.instr ≡ instr.Literal b → Loaded o f x b
loaded o f flow n x there b e =
    let m = element_at flow.nodes n (subst (λ (k : ℕ). n < k) flow.count (slice_get_within f.points n x there)) in
    let is = flow.points n m.0 x m.1 there in
    go is (record { reached = (flow.reached m.0).0 (contains_at flow.nodes n m.0 m.1); found = is.instr })
  where
    go : {n : _} → IsPoint o flow.nodes f.words n x → IsReachedInstr o n x.instr → Loaded o f x b
    go {n} is reached = by_word is.word
      where
        by_word : IsLoaded f.words n x.instr x.word → Loaded o f x b
        by_word (none never named) = absurd (never b e)
        by_word (literal l k w form at section place named) =
            let same : l ≡ b = same_literal l b (sym form ∙ e) in
            let home : w.section ≡ x.section = section ∙ sym is.section in
            let place_n : literal_place n.offset b ≡ Some w.offset = ap (λ (z : LiteralFields). literal_place n.offset z) (sym same) ∙ place in
            let known = (flow.words w).0 (contains_at f.words k w at) in
            record {
              index = k;
              word = w;
              names = named;
              there = at;
              section = home;
              place = ap (λ (a : ℕ). literal_place a b) is.offset ∙ place_n;
              reloc = known.reloc ∙ ap (λ (j : ℕ). reloc_at o j w.offset) home;
              is_data = data_at_last o f flow x.section w.offset (λ no.
                  flow.no_fault refusal.IntoMiddle n.section n.offset
                  (no_word n b (subst (λ (i : Instr). IsReachedInstr o n i) e reached)
                  (λ v here d. no (subst (λ (j : ℕ). IsDataWord o j w.offset) (sym is.section) (subst (λ (a : ℕ). IsDataWord o n.section a) (same_Some v w.offset (sym here ∙ place_n)) d))) refl refl refl));
            }

-- the link of a relocation at a place
no_reloc : Reloc
no_reloc = record { section = 0; offset = 0; kind = Abs32; symbol = 0 }

pub record LinkAt (objects : List ObjectParts) (at : Placement) (i : ℕ) (o : ObjectParts) (p : Placed) (j y k : ℕ) : Type 0 where
  pub link : Link
  pub is : IsLink objects at link
  pub file : link.file ≡ i
  pub number : link.number ≡ k
  pub object : link.object ≡ o
  pub section : link.reloc.section ≡ j
  pub offset : link.reloc.offset ≡ y
  pub place : place_of link ≡ p.start + y

pub link_at : (objects : List ObjectParts) (at : Placement) (image : Image) → AreObjects objects → IsImage objects at image → (i j : ℕ) (o : ObjectParts) (p : Placed) → Here objects at i o j p
    → (y k : ℕ) → reloc_at o j y ≡ Some k → LinkAt objects at i o p j y k
link_at objects at image sound is i j o p here y k e =
    let found = position-Some (λ (r : Reloc). (r.section == j) && (r.offset == y)) o.relocs k no_reloc e in
    let r : Reloc = get_or o.relocs k no_reloc in
    let there : slice_get o.relocs k ≡ Some r = slice_get-get_or o.relocs k no_reloc found.0 in
    let h = each_linked objects at image sound is i k o r (record { object = here.object; reloc = there }) in
    let l = h.link in
    let object : l.object ≡ o = same_Some l.object o (sym h.is_link.object ∙ (ap (λ (n : ℕ). slice_get objects n) h.file ∙ here.object)) in
    let reloc : l.reloc ≡ r = same_Some l.reloc r (sym h.is_link.reloc ∙ (ap (λ (n : ℕ). slice_get l.object.relocs n) h.number ∙ (ap (λ (z : ObjectParts). slice_get z.relocs k) object ∙ there))) in
    let both = reloc_at_is o j y k r e there in
    let section : l.reloc.section ≡ j = ap (λ (z : Reloc). z.section) reloc ∙ both.0 in
    let offset : l.reloc.offset ≡ y = ap (λ (z : Reloc). z.offset) reloc ∙ both.1 in
    let part : l.part ≡ p = same_Some l.part p (sym h.is_link.part ∙ (ap (λ (n : ℕ). part_of (all_placed objects at) n l.reloc.section) h.file ∙ (ap (λ (n : ℕ). part_of (all_placed objects at) i n) section ∙ here.part))) in
    record { link = l; is = h.is_link; file = h.file; number = h.number; object = object; section = section; offset = offset; place = ap (λ (z : Placed). z.start + l.reloc.offset) part ∙ ap (λ (n : ℕ). p.start + n) offset }
