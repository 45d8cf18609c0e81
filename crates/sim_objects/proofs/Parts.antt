-- The parts of both images that a point and its unit lie in.
use Rattle.std.specs.Prelude.{◌≡◌, ◌<◌, ◌≤◌, ℕ, ◌+◌, ◌%◌, ◌||◌, ◌&&◌, ◌==◌, Bool, true, cond, List, map, Option, Some, None, Ok, slice_get, refl}
use Rattle.std.proofs.Common.{arith, ap, sym, ◌∙◌, subst}
use Rattle.std.proofs.lemmas.Option.{same_Some, slice_get_within}
use Rattle.elf_model.specs.declared.objects.Section.{Section}
use Rattle.elf_model.specs.Constants.{progbits}
use Rattle.elf_model.specs.Objects.{ObjectParts, is_code, is_data, is_alloc, is_exec}
use Rattle.elf_model.specs.Ranges.{length_at}
use Rattle.elf_model.proofs.Lists.{get_map}
use Rattle.elf_model.proofs.Elements.{element_at}
use Rattle.thumb_instr.specs.Blocks.{block_condition}
use Rattle.thumb_table.specs.declared.placements.Placement.{Placement}
use Rattle.thumb_table.specs.Parts.{Image}
use Rattle.thumb_table.specs.Layouts.{Placed, start_of}
use Rattle.reloc_places.specs.Starts.{bytes_of, IsCodeStart, instr_at}
use Rattle.reloc_places.specs.Relocations.{reloc_at}
use Rattle.flow_recover.specs.declared.flows.Point.{Point as FlowPoint}
use Rattle.flow_recover.specs.Flows.{FlowParts}
use Rattle.flow_recover.specs.WholeFlows.{IsFlow, IsPoint}
use Rattle.flow_recover.proofs.PointFacts.{found_whole}
use Rattle.hardened_form.specs.Places.{UnitPlace}
use Rattle.hardened_form.specs.Sections.{IsNewSection}
use Rattle.hardened_form.specs.Symbols.{size_of}
use Rattle.sim_images.specs.ImageLaws.{Here}
use Rattle.sim_images.proofs.EachLinked.{has_part}
use Rattle.sim_images.proofs.ValuesAlike.{inside_room}
use Rattle.sim_images.proofs.LinksMeet.{room_of}
use Rattle.sim_relation.specs.Sequences.{Sequence}
use Rattle.sim_relation.specs.Doing.{IsDone}
use Rattle.sim_relation.specs.Accepted.{boundaries}
use Rattle.sim_objects.specs.Lists.{Pairing, plains, hards, HaveImages}
use Rattle.sim_objects.specs.Charts.{start_at, address_in, point_at, width_of}

-- a point's section is a part of code, and its instruction lies there
pub record PlainPart (objects : List ObjectParts) (at : Placement) (i : ℕ) (o : ObjectParts) (x : FlowPoint) (it : ℕ) : Type 0 where
  pub part : Placed
  pub here : Here objects at i o x.section part
  pub code : is_code part.section ≡ true
  pub end : ℕ
  pub start : IsCodeStart o x.section (bytes_of o x.section) x.offset end
  pub instr : instr_at (bytes_of o x.section) end x.offset it ≡ Ok x.instr
  pub reloc : x.reloc ≡ reloc_at o x.section x.offset
  pub length : width_of x ≡ length_at (bytes_of o x.section) x.offset
  pub inside : x.offset + width_of x ≤ part.section.size

sort_code : (s : Section) → is_code s ≡ true → (is_code s || is_data s) ≡ true
sort_code s e = ap (λ (b : Bool). b || is_data s) e

-- code stays code
pub same_sort : (o : ObjectParts) (j : ℕ) (s t : Section) → IsNewSection o j s t → is_code t ≡ is_code s
same_sort o j s t h = ap (λ (n : ℕ). (n == progbits) && is_alloc t.flags && is_exec t.flags) h.kind ∙ ap (λ (n : ℕ). (s.kind == progbits) && is_alloc n && is_exec n) h.flags

pub plain_part : (objects : List ObjectParts) (at : Placement) (i : ℕ) (o : ObjectParts) (f : FlowParts) (flow : IsFlow o f) → slice_get objects i ≡ Some o
    → (n it : ℕ) (x : FlowPoint) → slice_get f.points n ≡ Some x → slice_get (map (λ z. z.it) flow.nodes) n ≡ Some it → PlainPart objects at i o x it
plain_part objects at i o f flow there n it x point reached =
    let z = element_at flow.nodes n (subst (λ (k : ℕ). n < k) flow.count (slice_get_within f.points n x point)) in
    go (flow.points n z.0 x z.1 point) (same_Some z.0.it it (sym (get_map (λ z. z.it) flow.nodes n z.0 z.1) ∙ reached))
  where
    go : {node : _} → IsPoint o flow.nodes f.words node x → node.it ≡ it → PlainPart objects at i o x it
    go {node} is state =
        let range = is.instr.start.range in
        let part = has_part objects at i node.section o range.section there range.is_there (sort_code range.section range.in_code) in
        let same : range.section ≡ part.0.section = same_Some range.section part.0.section (sym range.is_there ∙ part.1.section) in
        let whole : node.offset + length_at (bytes_of o node.section) node.offset ≤ is.instr.end = found_whole o node x.instr is.instr in
        let size : range.section.size ≡ part.0.section.size = ap (λ (s : Section). s.size) same in
        let wide : width_of x ≡ length_at (bytes_of o node.section) node.offset = ap (λ (b : Bool). cond b 4 2) is.wide in
        let inside : is.instr.end ≤ range.section.size = range.inside in
        let from : x.offset ≡ node.offset = is.offset in
        let fits : x.offset + width_of x ≤ part.0.section.size = omega (arith, whole, size, wide, inside, from) in
        record {
          part = part.0;
          here = subst (λ (j : ℕ). Here objects at i o j part.0) (sym is.section) part.1;
          code = subst (λ (s : Section). is_code s ≡ true) same range.in_code;
          end = is.instr.end;
          start = subst (λ (j : ℕ). IsCodeStart o j (bytes_of o j) x.offset is.instr.end) (sym is.section) (subst (λ (a : ℕ). IsCodeStart o node.section (bytes_of o node.section) a is.instr.end) (sym is.offset) is.instr.start);
          instr = ap (λ (k : ℕ). instr_at (bytes_of o x.section) is.instr.end x.offset k) (sym state)
              ∙ (ap (λ (j : ℕ). instr_at (bytes_of o j) is.instr.end x.offset node.it) is.section ∙ (ap (λ (a : ℕ). instr_at (bytes_of o node.section) is.instr.end a node.it) is.offset ∙ is.instr.is));
          reloc = is.reloc ∙ (ap (λ (j : ℕ). reloc_at o j node.offset) (sym is.section) ∙ ap (λ (a : ℕ). reloc_at o x.section a) (sym is.offset));
          length = wide ∙ (ap (λ (j : ℕ). length_at (bytes_of o j) node.offset) (sym is.section) ∙ ap (λ (a : ℕ). length_at (bytes_of o x.section) a) (sym is.offset));
          inside = fits;
        }

-- a point's condition is that of its IT state
pub plain_cond : (o : ObjectParts) (f : FlowParts) (flow : IsFlow o f) (n it : ℕ) (x : FlowPoint) → slice_get f.points n ≡ Some x → slice_get (map (λ z. z.it) flow.nodes) n ≡ Some it → x.cond ≡ block_condition it
plain_cond o f flow n it x point reached =
    let z = element_at flow.nodes n (subst (λ (k : ℕ). n < k) flow.count (slice_get_within f.points n x point)) in
    (flow.points n z.0 x z.1 point).cond ∙ ap block_condition (same_Some z.0.it it (sym (get_map (λ z. z.it) flow.nodes n z.0 z.1) ∙ reached))

-- where a section of a list starts
pub start_is : (objects : List ObjectParts) (at : Placement) (i j : ℕ) (o : ObjectParts) (p : Placed) → Here objects at i o j p → start_at objects at i j ≡ p.start
start_is objects at i j o p here = ap start_of here.part

-- a point's unit lies in a part of code of the hardened image
pub record HardPart (objects : List ObjectParts) (at : Placement) (i : ℕ) (h : ObjectParts) (j : ℕ) : Type 0 where
  pub part : Placed
  pub here : Here objects at i h j part
  pub code : is_code part.section ≡ true
  pub size : size_of (slice_get h.sections j) ≡ part.section.size

module _ (F c K : ℕ) (pairs : List (Pairing F c K)) (at : Placement) (plain hard : Image) (images : HaveImages F c K pairs at plain hard) where
  module _ (i n : ℕ) (q : Pairing F c K) (x : FlowPoint) (is_pair : slice_get pairs i ≡ Some q) (is_point : slice_get q.pair.flow.points n ≡ Some x) where
    pub plain_there : slice_get (plains pairs) i ≡ Some q.plain
    plain_there = get_map (λ (z : Pairing F c K). z.plain) pairs i q is_pair

    pub hard_there : slice_get (hards pairs) i ≡ Some q.hard
    hard_there = get_map (λ (z : Pairing F c K). z.hard) pairs i q is_pair

    pub address_is : address_in (plains pairs) at i q.pair.flow n ≡ start_at (plains pairs) at i x.section + x.offset
    address_is = ap (point_at (start_at (plains pairs) at i)) is_point

    pub in_plain : (it : ℕ) → slice_get (map (λ z. z.it) q.pair.accepted.flow.nodes) n ≡ Some it → PlainPart (plains pairs) at i q.plain x it
    in_plain it reached = plain_part (plains pairs) at i q.plain q.pair.flow q.pair.accepted.flow plain_there n it x is_point reached

    pub done_is : (u : UnitPlace) (s : Sequence) → slice_get q.pair.certificate.places.units n ≡ Some u → slice_get q.pair.certificate.sequences n ≡ Some s
        → IsDone q.plain q.hard q.pair.flow q.pair.certificate.places (boundaries K) F c (q.may_skip x) x u s
    done_is u s unit sequence = q.pair.done n x u s is_point unit sequence

    -- of a section that has bytes
    has_section : (t : Option Section) (k : ℕ) → slice_get q.hard.sections x.section ≡ t → k < size_of t → (s : Section) × (slice_get q.hard.sections x.section ≡ Some s) × (size_of t ≡ s.size)
    has_section None k e less = absurd (omega arith)
    has_section (Some s) k e less = (s, e, refl)

    pub in_hard : (it k : ℕ) → slice_get (map (λ z. z.it) q.pair.accepted.flow.nodes) n ≡ Some it → k < size_of (slice_get q.hard.sections x.section)
        → HardPart (hards pairs) at i q.hard x.section
    in_hard it k reached less =
        let p = in_plain it reached in
        let t = has_section (slice_get q.hard.sections x.section) k refl less in
        let code : is_code t.0 ≡ true = same_sort q.plain x.section p.part.section t.0 (q.pair.form.tables.sections.each x.section p.part.section t.0 p.here.section t.1) ∙ p.code in
        let part = has_part (hards pairs) at i x.section q.hard t.0 hard_there t.1 (sort_code t.0 code) in
        let same : t.0 ≡ part.0.section = same_Some t.0 part.0.section (sym t.1 ∙ part.1.section) in
        record {
          part = part.0;
          here = part.1;
          code = subst (λ (s : Section). is_code s ≡ true) same code;
          size = t.2 ∙ ap (λ (s : Section). s.size) same;
        }

    -- where both lie
    pub plain_low : (it : ℕ) (reached : slice_get (map (λ z. z.it) q.pair.accepted.flow.nodes) n ≡ Some it)
        → ((in_plain it reached).part.start % 4 ≡ 0) × ((in_plain it reached).part.start + (in_plain it reached).part.section.size ≤ 0x7FFFF000)
    plain_low it reached =
        let p = in_plain it reached in
        inside_room (plains pairs) at images.objects images.image.placement (room_of (plains pairs) at images.image.can) i x.section q.plain p.part p.here p.code

    pub hard_low : (p : HardPart (hards pairs) at i q.hard x.section) → (p.part.start % 4 ≡ 0) × (p.part.start + p.part.section.size ≤ 0x7FFFF000)
    hard_low p = inside_room (hards pairs) at images.forms images.hard_image.placement (room_of (hards pairs) at images.hard_image.can) i x.section q.hard p.part p.here p.code
