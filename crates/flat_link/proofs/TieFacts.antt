-- What holds of links in a layout: their sections, their symbols, and where their places are.
use Rattle.std.proofs.Common.{◌≡◌, ◌≤◌, ◌<◌, ℕ, ◌+◌, Bool, true, false, cond, List, ◌++◌, length, get_or, sym, ap, ◌∙◌, subst, inl, inr, ◌⊎◌, arith, Option, Some}
use Rattle.std.specs.Prelude.{Contains, IsTrue, slice_get, ◌==◌, ◌&&◌, not, nat_le, nat_lt, max}
use Rattle.std.proofs.lemmas.Bool.{and_parts, leb-true, or_cases, ltb-true, eqb-true}
use Rattle.std.proofs.lemmas.Option.{same_Some}
use Rattle.std.proofs.lemmas.List.Elements.{Contains-append_cases}
use Rattle.elf_model.specs.declared.objects.Section.{Section}
use Rattle.elf_model.specs.declared.objects.Symbol.{Symbol}
use Rattle.elf_model.specs.declared.objects.Reloc.{Reloc}
use Rattle.elf_model.specs.Constants.{local, global, weak, nobits}
use Rattle.elf_model.specs.Fields.{same_name}
use Rattle.elf_model.specs.Objects.{ObjectParts, is_object, is_reloc, is_placed, is_kind, is_code, is_data, is_within, place_width}
use Rattle.elf_model.specs.declared.refusals.TheConstants.Limit.{ANY}
use Rattle.elf_model.proofs.Lists.{All_at}
use Rattle.elf_model.proofs.Elements.{all_at, found, contains_filter, map_contains}
use Rattle.code_ranges.proofs.ObjectFacts.{relocs_rise}
use Rattle.reloc_places.specs.Starts.{bytes_in, bytes_of}
use Rattle.reloc_places.specs.Relocations.{addend, is_word, IsPlace}
use Rattle.reloc_places.specs.Relocations.IsPlace.{in_data, in_code, on_instr}
use Rattle.reloc_places.proofs.RelocOrder.{rise_at}
use Rattle.thumb_table.specs.declared.placements.Placement.{Placement}
use Rattle.thumb_table.specs.Layouts.{Placed, code_parts, data_parts, all_placed, part_of, code_bytes_of, data_bytes_of}
use Rattle.thumb_table.specs.Names.{Defined, all_symbols, is_defined, globals, weaks, resolved, meant}
use Rattle.thumb_table.specs.Links.{Link, IsLink, place_of, addend_of}
use Rattle.flat_link.specs.declared.layout.Layout.{Layout}
use Rattle.flat_link.specs.Layout.{IsLayout, Stands}
use Rattle.flat_link.specs.declared.ties.Tie.{Tie}
use Rattle.flat_link.specs.Sites.{link_of}
use Rattle.flat_link.specs.Ties.{IsTied, IsTie, AreTies}
use Rattle.flat_link.proofs.ListFacts.{InOrder, order_cases, has_at}
use Rattle.flat_link.proofs.RawBytes.{begins, ends_inside}
use Rattle.flat_link.proofs.PartFacts.{part_is, reloc_sound, code_good, data_good}
use Rattle.flat_link.proofs.PartOrder.{StandsBehind, Earlier, code_order, data_order, no_data}
use Rattle.flat_link.proofs.SymbolFacts.{known_there, part_low}
use Rattle.flat_link.proofs.SiteFacts.{LinkBefore}

-- what a name stands for is one of the symbols
resolved_known : (objects : List ObjectParts) (name : List ℕ) (d : Defined) → resolved objects name ≡ Some d → Contains (all_symbols 0 objects) d
resolved_known objects name d e =
    let f = found (λ (q : Defined). same_name q.symbol.name name) (globals objects ++ weaks objects) d e in
    elim (Contains-append_cases (globals objects) (weaks objects) d f.0) [
      | inl a ↦ (contains_filter (λ (q : Defined). (q.symbol.bind == global) && is_defined q.symbol.home) (all_symbols 0 objects) d a).0
      | inr b ↦ (contains_filter (λ (q : Defined). (q.symbol.bind == weak) && is_defined q.symbol.home) (all_symbols 0 objects) d b).0
    ]

pub meant_known : (objects : List ObjectParts) (i k : ℕ) (o : ObjectParts) (s : Symbol) (d : Defined) → slice_get objects i ≡ Some o → slice_get o.symbols k ≡ Some s → meant objects i k s ≡ Some d → Contains (all_symbols 0 objects) d
meant_known objects i k o s d at symbol e = go ((s.bind == local) && is_defined s.home) e
  where
    go : (b : Bool) → cond b (Some (record { object = i; index = k; symbol = s })) (resolved objects s.name) ≡ Some d → Contains (all_symbols 0 objects) d
    go true e =
        let made : Defined = record { object = i; index = k; symbol = s } in
        subst (Contains (all_symbols 0 objects)) (same_Some made d e) (known_there objects i o k s at symbol)
    go false e = resolved_known objects s.name d e

pub own_section : (objects : List ObjectParts) (at : Placement) (k : Link) → IsLink objects at k → slice_get k.object.sections k.reloc.section ≡ Some k.part.section
own_section objects at k is =
    let h = part_is objects at k.file k.reloc.section k.part is.part in
    let same : h.object ≡ k.object = same_Some h.object k.object (sym h.there ∙ is.object) in
    subst (λ (o : ObjectParts). slice_get o.sections k.reloc.section ≡ Some k.part.section) same h.section

pub own_bytes : (objects : List ObjectParts) (at : Placement) (k : Link) → IsLink objects at k → bytes_of k.object k.reloc.section ≡ k.part.section.bytes
own_bytes objects at k is = ap bytes_in (own_section objects at k is)

-- a place lies within its section
pub place_inside : (s : Section) (r : Reloc) → is_placed r (Some s) ≡ true → r.offset + place_width r.kind ≤ s.size
place_inside s r h = leb-true (r.offset + place_width r.kind) s.size (and_parts (not (s.kind == nobits)) (nat_le (r.offset + place_width r.kind) s.size) h).1

-- the objects of a layout stand there
pub standing : (l : Layout) → IsLayout l → Stands l.objects.now l.at
standing l is = record { placement = is.placement; sound = is.sound; fits = is.fits }

pub link_within : (l : Layout) → IsLayout l → (k : Link) → IsLink l.objects.now l.at k → IsTrue (is_within k.object ANY)
link_within l is k link = All_at (λ (o : ObjectParts). IsTrue (is_within o ANY)) l.objects.now k.file k.object is.within link.object

module _ (objects : List ObjectParts) (at : Placement) (is : Stands objects at) (k : Link) (link : IsLink objects at k) where
  pub link_sound : is_object k.object ≡ true
  link_sound = all_at is_object objects k.file k.object is.sound link.object

  pub link_reloc : is_reloc k.object.sections k.object.symbols k.reloc ≡ true
  link_reloc = reloc_sound k.object k.number k.reloc link_sound link.reloc

  pub link_inside : k.reloc.offset + place_width k.reloc.kind ≤ k.part.section.size
  link_inside =
      let a = and_parts _ _ link_reloc in
      let b = and_parts (is_placed k.reloc (slice_get k.object.sections k.reloc.section)) (is_kind k.reloc.kind) a.0 in
      place_inside k.part.section k.reloc (subst (λ (s : Option Section). is_placed k.reloc s ≡ true) (own_section objects at k link) b.0)

  pub link_low : place_of k + place_width k.reloc.kind ≤ 0x7FFFF000
  link_low =
      let low = part_low objects at is.sound is.fits k.file k.reloc.section k.part link.part in
      let inside = link_inside in
      omega arith

  pub link_meant : Contains (all_symbols 0 objects) k.meant
  link_meant = meant_known objects k.file k.reloc.symbol k.object k.symbol k.meant link.object link.symbol link.meant

  pub link_addend : addend (bytes_of k.object k.reloc.section) k.reloc ≡ addend_of k
  link_addend = ap (λ (b : List ℕ). addend b k.reloc) (own_bytes objects at k link)

  -- where a place in code lies
  pub lies_in_code : is_code k.part.section ≡ true → Contains (code_parts objects at) k.part
  lies_in_code code =
      let h = part_is objects at k.file k.reloc.section k.part link.part in
      elim (h.sort) [
        | inl c ↦ c.0
        | inr d ↦ absurd (no_data k.part.section code d.1)
      ]

  pub lies_in_data : is_data k.part.section ≡ true → Contains (data_parts objects at) k.part
  lies_in_data datum =
      let h = part_is objects at k.file k.reloc.section k.part link.part in
      elim (h.sort) [
        | inl c ↦ absurd (no_data k.part.section c.1 datum)
        | inr d ↦ d.0
      ]

  pub code_place : is_code k.part.section ≡ true → (at.base ≤ k.part.start) × (place_of k + place_width k.reloc.kind ≤ at.base + length (code_bytes_of objects at))
  code_place code =
      let c = lies_in_code code in
      let a = begins (λ s. max 4 s.align) at.base _ (code_good objects is.sound) k.part c in
      let b = ends_inside (λ s. max 4 s.align) at.base _ (code_good objects is.sound) k.part c in
      let inside = link_inside in
      (a, omega arith)

  pub data_place : is_data k.part.section ≡ true → (at.base + at.room ≤ k.part.start) × (place_of k + place_width k.reloc.kind ≤ at.base + at.room + length (data_bytes_of objects at))
  data_place datum =
      let c = lies_in_data datum in
      let a = begins (λ s. s.align) (at.base + at.room) _ (data_good objects is.sound) k.part c in
      let b = ends_inside (λ s. s.align) (at.base + at.room) _ (data_good objects is.sound) k.part c in
      let inside = link_inside in
      (a, omega arith)

-- a link that the code has
pub tie_at : (l : Layout) (ties : List Tie) → AreTies l ties → (i : ℕ) (t : Tie) → i < length ties → t ≡ get_or ties i t → IsTie l (link_of t)
tie_at l ties are i t less e = are.each (link_of t) (map_contains link_of ties t (has_at ties i t less e))

-- a relocation in data is of a word
pub data_word : (objects : List ObjectParts) (at : Placement) (k : Link) → IsTied objects at k → is_data k.part.section ≡ true → is_word k.reloc.kind ≡ true
data_word objects at k tie datum = go tie.right.place
  where
    go : IsPlace k.object k.reloc → is_word k.reloc.kind ≡ true
    go (in_data s at is word) = word
    go (in_code word is) = word
    go (on_instr end i start given fits) =
        let same : start.range.section ≡ k.part.section = same_Some start.range.section k.part.section (sym start.range.is_there ∙ own_section objects at k tie.link) in
        absurd (no_data k.part.section (subst (λ (s : Section). is_code s ≡ true) same start.range.in_code) datum)

-- Of two links of one sort of section, the later one's place begins behind the earlier one's.
module _ (objects : List ObjectParts) (at : Placement) (is : Stands objects at) (j k : Link) (a : IsTied objects at j) (b : IsTied objects at k) (order : LinkBefore j k) where
  -- by the order of their parts
  by_parts : (ps : List Placed) → InOrder StandsBehind ps → Contains ps j.part → Contains ps k.part → place_of j + place_width j.reloc.kind ≤ place_of k
  by_parts ps ordered c d =
      elim order [
        | inl file ↦ apart (inl file)
        | inr same ↦ one_file same.0 same.1
      ]
    where
      inside : j.reloc.offset + place_width j.reloc.kind ≤ j.part.section.size
      inside = link_inside objects at is j a.link

      first : (j.part.object ≡ j.file) × (j.part.index ≡ j.reloc.section)
      first = let h = part_is objects at j.file j.reloc.section j.part a.link.part in (h.file, h.index)

      second : (k.part.object ≡ k.file) × (k.part.index ≡ k.reloc.section)
      second = let h = part_is objects at k.file k.reloc.section k.part b.link.part in (h.file, h.index)

      apart : (j.file < k.file) ⊎ ((j.file ≡ k.file) × (j.reloc.section < k.reloc.section)) → place_of j + place_width j.reloc.kind ≤ place_of k
      apart far =
          let f = first in
          let s = second in
          let i = inside in
          elim (order_cases StandsBehind ps j.part k.part ordered c d) [
            | inl same ↦
                let e : j.part.object ≡ k.part.object = ap (λ (p : Placed). p.object) same in
                let g : j.part.index ≡ k.part.index = ap (λ (p : Placed). p.index) same in
                elim far [ inl x ↦ absurd (omega arith) | inr x ↦ let y = x.1 in absurd (omega arith) ]
            | inr h ↦ elim h [
              | inl x ↦ let y = x.ends in omega arith
              | inr x ↦ absurd (back x.earlier far f s)
            ]
          ]
        where
          back : Earlier k.part j.part → (j.file < k.file) ⊎ ((j.file ≡ k.file) × (j.reloc.section < k.reloc.section)) → (j.part.object ≡ j.file) × (j.part.index ≡ j.reloc.section) → (k.part.object ≡ k.file) × (k.part.index ≡ k.reloc.section) → ⊥
          back (inl x) (inl y) f s = omega arith
          back (inl x) (inr y) f s = let z = y.0 in omega arith
          back (inr x) (inl y) f s = let z = x.0 in omega arith
          back (inr x) (inr y) f s = let z = x.1 in let w = y.1 in omega arith

      one_file : j.file ≡ k.file → j.number < k.number → place_of j + place_width j.reloc.kind ≤ place_of k
      one_file file less =
          let same : j.object ≡ k.object = same_Some j.object k.object (sym a.link.object ∙ ap (slice_get objects) file ∙ b.link.object) in
          let there : slice_get k.object.relocs j.number ≡ Some j.reloc = ap (λ (o : ObjectParts). slice_get o.relocs j.number) (sym same) ∙ a.link.reloc in
          let below = rise_at k.object.relocs (relocs_rise k.object (link_sound objects at is k b.link)) j.number k.number j.reloc k.reloc less there b.link.reloc in
          elim (or_cases (nat_lt j.reloc.section k.reloc.section) ((j.reloc.section == k.reloc.section) && nat_lt j.reloc.offset k.reloc.offset) below) [
            | inl x ↦ apart (inr (file, ltb-true j.reloc.section k.reloc.section x))
            | inr x ↦
                let section : j.reloc.section ≡ k.reloc.section = eqb-true j.reloc.section k.reloc.section (and_parts (j.reloc.section == k.reloc.section) (nat_lt j.reloc.offset k.reloc.offset) x).0 in
                let part : j.part ≡ k.part = same_Some j.part k.part (sym a.link.part ∙ ap (λ (i : ℕ). part_of (all_placed objects at) i j.reloc.section) file ∙ ap (part_of (all_placed objects at) k.file) section ∙ b.link.part) in
                let start : j.part.start ≡ k.part.start = ap (λ (p : Placed). p.start) part in
                let alone = b.right.alone j.number j.reloc less there section in
                omega arith
          ]

  pub code_behind : is_code j.part.section ≡ true → is_code k.part.section ≡ true → place_of j + place_width j.reloc.kind ≤ place_of k
  code_behind c d = by_parts (code_parts objects at) (code_order objects at is.sound) (lies_in_code objects at is j a.link c) (lies_in_code objects at is k b.link d)

  pub data_behind : is_data j.part.section ≡ true → is_data k.part.section ≡ true → place_of j + place_width j.reloc.kind ≤ place_of k
  data_behind c d = by_parts (data_parts objects at) (data_order objects at is.sound) (lies_in_data objects at is j a.link c) (lies_in_data objects at is k b.link d)
